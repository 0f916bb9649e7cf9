use Rattle.std.proofs.Common.{eqb, refl, rules}
use Rattle.std.proofs.iter.runs.Made.{chains}
use Rattle.std.proofs.lemmas.List.Recursion.{or_is}
use Rattle.format.specs.declared.card.Card.{Card}
use Rattle.format.specs.Grammar.{on_card}
use Rattle.book.specs.Spaces.{no_card}
use Rattle.closed.proofs.cards.has_stamp.Goals as goal

pub returns : goal.returns
returns c = or_is (λ cs. on_card cs c.args.stamp) (λ (k : Card). eqb k.stamp c.args.stamp) refl (λ _ _. refl) c.args.cards.now no_card c.any.result (search (rules, chains)) (search (rules, chains))
