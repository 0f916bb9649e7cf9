use Rattle.std.proofs.Common.{◌≡◌, ℕ, cond, ltb, length, get_or}
use Rattle.cliques.specs.Shortcuts.{barrier, largest_barrier}
use Rattle.completion.proofs.barriers.Barriers.of.Given as goal

abbrev pub invariant-loop-x : goal.invariant-loop-x
invariant-loop-x g l =
    (l.largest ≡ largest_barrier (g.T.PairTable.meaning l.table) l.x l.set)
    × (length l.slot-items ≡ (g.T.PairTable.meaning l.table).size)
    × ((y : ℕ) → get_or l.slot-items y 0 ≡ cond (ltb y l.x) (barrier (g.T.PairTable.meaning l.table) l.set y) 0)
