use Rattle.std.proofs.Common.{◌≡◌, ◌+◌, max, ◌++◌, length, take}
use Rattle.sorted.specs.Held.{held}
use Rattle.cliques.specs.Sets.{places}
use Rattle.order.specs.Orders.{taken, most}
use Rattle.order.specs.Lines.{Tallied, left}
use Rattle.order.proofs.takes.take_all.Given as goal

abbrev pub invariant-loop-slot : goal.invariant-loop-slot
invariant-loop-slot g l =
    let m = g.T.PairTable.meaning l.table in
    let e = m.partners in
    let S = left m.size l.line.tallies.records in
    record {
      tallied : Tallied m.size e l.line.tallies.records (held l.line.waiting);
      order : taken e m.size (places m.size) ≡ take l.slot-index l.order ++ taken e (length S) S;
      whole : l.slot-index + length S ≡ m.size;
      most : most e (taken e m.size (places m.size)) ≡ max l.largest (most e (taken e (length S) S));
    }
