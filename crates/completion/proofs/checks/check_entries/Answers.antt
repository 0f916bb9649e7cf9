use Rattle.std.proofs.Common.{◌∙◌, Some, sym, ap, rules}
use borrow.Author.Tests.{tests}
use Rattle.std.proofs.lemmas.Iterator.{serves_from_Range}
use Rattle.refusal.specs.declared.Refusal.{Refusal}
use Rattle.completion.proofs.Faults.{none_refused, first_refused}
use Rattle.completion.proofs.checks.check_entries.Goals as goal

pub position-requires-clause-callable : goal.position-requires-clause-callable
position-requires-clause-callable g c = serves_from_Range (λ x q r. search (rules, tests)) (λ x lo hi. search (rules, c.requires x hi))

pub returns-in-Some : goal.returns-in-Some
returns-in-Some g c = λ p q.
    ap (λ (e : Refusal). Some e) c.new.ensures
    ∙ sym (first_refused p c.args.reason c.args.count (λ a b h k. search (rules, tests)) (λ k b h m. q k b h (search (rules, tests))) c.in-Some.i c.in-Some.ensures.runs)

pub returns-in-None : goal.returns-in-None
returns-in-None g c = λ p q.
    sym (none_refused p c.args.reason c.args.count (λ a b h k. search (rules, tests)) (λ k b h m. q k b h (search (rules, tests))) c.in-None.ensures.runs)
