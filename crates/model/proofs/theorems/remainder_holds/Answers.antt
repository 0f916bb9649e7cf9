use Rattle.model.proofs.theorems.remainder_holds.Goals as goal
use Rattle.model.proofs.Remainders.{remains}

pub returns : goal.returns
returns c = remains
