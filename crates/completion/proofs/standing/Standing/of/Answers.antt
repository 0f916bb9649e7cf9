use Rattle.std.proofs.Common.{rules}
use Rattle.completion.proofs.Standings.{of_list}
use Rattle.completion.proofs.standing.Standing.of.Goals as goal

pub returns : goal.returns
returns c = of_list c.args.list.now c.copy_from_slice.new.self c.min-count.result c.min-count.ensures (search rules)
