use Rattle.std.proofs.Common.{take, get_or, ◌∙◌}
use Rattle.pairs.proofs.Standing.{any_stands}
use Rattle.pairs.proofs.selection.is_repeated.Goals as goal

pub returns : goal.returns
returns c = c.contains.ensures.value ∙ any_stands (get_or c.args.chosen.now c.args.i 0) (take c.args.i c.args.chosen.now)
