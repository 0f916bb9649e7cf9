use Rattle.std.proofs.Common.{◌≡◌}
use Rattle.cliques.specs.Sets.{MaximalClique}
use Rattle.completion.specs.Standings.{members_of}
use Rattle.walk.proofs.Climbs.{Climbed}
use Rattle.walk.proofs.climb.next_after.Given as goal

abbrev pub invariant-loop-climbed : goal.invariant-loop-climbed
invariant-loop-climbed g l =
    (l.here.table.now ≡ l.table)
    × (MaximalClique (g.T.PairTable.meaning l.table) (members_of l.set) → Climbed (g.T.PairTable.meaning l.table) (g.T.PairTable.lawful l.table) (members_of l.set) (members_of l.here.set) l.from l._climbed)
