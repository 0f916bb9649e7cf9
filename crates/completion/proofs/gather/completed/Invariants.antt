use Rattle.std.proofs.Common.{◌≡◌}
use Rattle.cliques.specs.Shortcuts.{append_pass}
use Rattle.completion.specs.Standings.{standing_of}
use Rattle.completion.proofs.gather.completed.Given as goal

abbrev pub invariant-loop-k : goal.invariant-loop-k
invariant-loop-k g l = l.got ≡ standing_of (append_pass (g.T.PairTable.meaning l.table) l.k l.set)
