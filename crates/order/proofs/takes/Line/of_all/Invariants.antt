use Rattle.std.proofs.Common.{◌≡◌, ℕ, ◌<◌, ◌≤◌, true, false, length}
use Rattle.sorted.specs.Held.{held, room}
use Rattle.cliques.specs.Sets.{places}
use Rattle.order.specs.Orders.{how_many}
use Rattle.order.specs.Lines.{waits_at, count_at}
use Rattle.order.proofs.takes.Line.of_all.Given as goal

abbrev pub invariant-loop-place : goal.invariant-loop-place
invariant-loop-place g l = record {
  begun : (v : ℕ) → v < l.place → (waits_at l.line.tallies.records v ≡ true) × (count_at l.line.tallies.records v ≡ how_many ((g.T.PairTable.meaning l.table).partners v) (places (g.T.PairTable.meaning l.table).size));
  idle : (v : ℕ) → l.place ≤ v → waits_at l.line.tallies.records v ≡ false;
  long : length (held l.line.waiting) ≡ l.place;
  free : (g.T.PairTable.meaning l.table).size ≤ room l.line.waiting;
}
