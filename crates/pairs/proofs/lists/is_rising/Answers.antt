use Rattle.std.proofs.Common.{ltb, rules, of_calls, arith}
use Rattle.std.proofs.iter.runs.Made.{chains}
use Rattle.std.proofs.lemmas.List.Sorted.{answers_always}
use Rattle.pairs.proofs.lists.is_rising.Goals as goal
use Rattle.pairs.proofs.Rising.{sorted, unsorted, crowded}

pub returns-then-is_sorted_by : goal.returns-then-is_sorted_by
returns-then-is_sorted_by c =
    let next = rw c.if-is_sorted_by.true at c.is_sorted_by.ensures.cases ltb (answers_always _ _ _ (λ f a r g k. search (rules, of_calls))) in
    sorted c.args.size c.args.list.now c.all.result next (search (rules, chains)) (search (rules, chains))

pub returns-else-is_sorted_by : goal.returns-else-is_sorted_by
returns-else-is_sorted_by c =
    let next = rw c.if-is_sorted_by.false at c.is_sorted_by.ensures.cases ltb (answers_always _ _ _ (λ f a r g k. search (rules, of_calls))) in
    rw c.if-is_sorted_by.false (unsorted c.args.size c.args.list.now next.0 next.1 next.2)

pub returns-then-list-size : goal.returns-then-list-size
returns-then-list-size c = crowded c.args.size c.args.list.now (omega arith)
