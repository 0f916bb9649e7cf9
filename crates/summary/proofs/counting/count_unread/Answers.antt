use Rattle.std.proofs.Common.{◌≡◌, cond, eqb, ◌∙◌, rules}
use Rattle.std.proofs.iter.runs.Made.{chains}
use Rattle.std.specs.List.{count_by}
use Rattle.format.specs.declared.card.Card.{Card}
use Rattle.book.specs.Spaces.{no_card}
use Rattle.summary.proofs.Counts.{list_sum}
use Rattle.summary.proofs.counting.count_unread.Goals as goal

pub returns : goal.returns
returns c =
    let counted : c.count.result ≡ count_by (λ (card : Card). eqb card.diameter 0) c.args.cards.now = search (rules, chains) in
    counted ∙ list_sum (λ (card : Card). cond (eqb card.diameter 0) 1 0) c.args.cards.now no_card
