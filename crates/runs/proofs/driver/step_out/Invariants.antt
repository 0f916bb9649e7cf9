use Rattle.std.proofs.Common.{◌≡◌}
use Rattle.completion.specs.Standings.{members_of}
use Rattle.model.proofs.Rooms.{SteppedOut}
use Rattle.runs.proofs.driver.step_out.Given as goal

abbrev pub invariant-loop-count : goal.invariant-loop-count
invariant-loop-count g l = record {
  table : l.walk.table ≡ l.initial.walk.table;
  gives : SteppedOut (g.T.PairTable.meaning l.initial.walk.table) (members_of l.initial.walk.standing) (members_of l.walk.standing) l.initial.room l.room l.count;
}
