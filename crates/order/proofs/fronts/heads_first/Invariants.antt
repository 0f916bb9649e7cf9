use Rattle.std.proofs.Common.{◌≡◌, ◌≤◌, length}
use Rattle.order.proofs.Moves.{Moved}
use Rattle.order.proofs.fronts.heads_first.Given as goal

abbrev pub invariant-loop-i : goal.invariant-loop-i
invariant-loop-i g l =
    (length l.order ≡ length l.initial.order)
    × (l.count ≤ l.i)
    × Moved (g.T.PairTable.meaning l.table).partners l.i l.count l.initial.order l.order
