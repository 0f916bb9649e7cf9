use Rattle.std.proofs.Common.{◌≡◌, ℕ, false, List, [], set, Some, None, Option, Result, sym, ap, ◌∙◌, subst, arith}
use Rattle.std.specs.Option.{ok_or}
use Rattle.std.specs.Result.{result_ok}
use Rattle.sorted.specs.Held.{held}
use Rattle.sorted.specs.Keyed.{leading}
use Rattle.order.specs.declared.tallies.Tally.{Tally}
use Rattle.order.specs.declared.waiting.Waiting.{Waiting}
use Rattle.order.specs.Lines.{count_at, Lined, left, next_of, after_next}
use Rattle.order.proofs.Lining.{waits_wide}
use Rattle.order.proofs.Nexts.{lead_waits, popped, no_left, lead_told, took, left_then, tallied_then}
use Rattle.order.proofs.takes.Line.take_next.Goals as goal

-- a line without a first record holds no place
none_left : (n : ℕ) (R : List Tally) (W : List Waiting) → Lined R W → {E : Type 0} (e : E) (r : Result Waiting E) (q : Option Waiting)
    → r ≡ ok_or (leading W) e → q ≡ result_ok r → q ≡ None → left n R ≡ []
none_left n R W s e r q a b h = no_left n R W s (lead_told (leading W) e r q None a b h)

pub returns-in_err-first-clause-answer : goal.returns-in_err-first-clause-answer
returns-in_err-first-clause-answer g c =
    let m = g.T.PairTable.meaning c.args.table.now in
    let line = c.args.self.now in
    let no = none_left m.size line.tallies.records (held line.waiting) line.lined _ _ _ c.pop_first.ensures.answer c.ok.ensures.value c.in_err-first.was in
    c.from_residual.ensures ∙ sym (ap (next_of m.partners) no)

pub returns-in_err-first-clause-left : goal.returns-in_err-first-clause-left
returns-in_err-first-clause-left g c =
    let m = g.T.PairTable.meaning c.args.table.now in
    let line = c.args.self.now in
    let no = none_left m.size line.tallies.records (held line.waiting) line.lined _ _ _ c.pop_first.ensures.answer c.ok.ensures.value c.in_err-first.was in
    no ∙ sym (ap (after_next m.partners) no)

pub overflow_cast-first : goal.overflow_cast-first
overflow_cast-first g c =
    let R = c.args.self.now.tallies.records in
    let W = held c.args.self.now.waiting in
    let ld : leading W ≡ Some c.in_ok-first.first = lead_told (leading W) _ _ _ _ c.pop_first.ensures.answer c.ok.ensures.value c.in_ok-first.was in
    let h = waits_wide R c.in_ok-first.first.place (lead_waits R W c.requires.lined c.in_ok-first.first ld) in
    omega (arith, c.requires.lined.wide)

pub invariant_of-self-2 : goal.invariant_of-self-2
invariant_of-self-2 g c =
    let x = c.in_ok-first.first in
    let R = c.args.self.now.tallies.records in
    let W = held c.args.self.now.waiting in
    let ld : leading W ≡ Some x = lead_told (leading W) _ _ _ _ c.pop_first.ensures.answer c.ok.ensures.value c.in_ok-first.was in
    let p = popped R W c.requires.lined x ld in
    record {
      lined = subst (λ (z : List Tally). Lined z (held c.pop_first.new.self)) (sym c.stop.ensures)
          (subst (λ (l : List Waiting). Lined (set R x.place (record { partners = count_at R x.place; waits = false })) l) (sym c.pop_first.ensures.held) p);
    }

pub returns : goal.returns
returns g c =
    let m = g.T.PairTable.meaning c.args.table.now in
    let both = (g.T.PairTable.lawful c.args.table.now).both in
    let x = c.in_ok-first.first in
    let R = c.args.self.now.tallies.records in
    let W = held c.args.self.now.waiting in
    let ld : leading W ≡ Some x = lead_told (leading W) _ _ _ _ c.pop_first.ensures.answer c.ok.ensures.value c.in_ok-first.was in
    let t = took m.size m.partners both R W c.requires x ld in
    let R1 = c.stop.new.self.records in
    let R2 = c.lower_partners.new.self.tallies.records in
    record {
      tallied = tallied_then m.size m.partners both R W c.requires x ld R1 c.stop.ensures R2 c.lower_partners.ensures (held c.lower_partners.new.self.waiting) c.lower_partners.new.self.lined;
      answer = t.0;
      left = left_then m.size m.partners both R W c.requires x ld R1 c.stop.ensures R2 c.lower_partners.ensures ∙ sym t.1;
    }
