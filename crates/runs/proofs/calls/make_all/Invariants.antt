use Rattle.std.proofs.Common.{◌≡◌, map}
use Rattle.completion.specs.Standings.{members_of}
use Rattle.model.specs.Runs.{asked}
use Rattle.model.proofs.Exchanges.{Midway}
use Rattle.runs.proofs.calls.make_all.Given as goal

abbrev pub invariant-loop-exchange : goal.invariant-loop-exchange
invariant-loop-exchange g l = record {
  table : l.walk.table ≡ l.initial.walk.table;
  obeys : Midway (g.T.PairTable.meaning l.initial.walk.table) (members_of l.initial.walk.standing) (map asked l.initial.exchanges) l.exchange-index l.exchanges (members_of l.walk.standing);
}
