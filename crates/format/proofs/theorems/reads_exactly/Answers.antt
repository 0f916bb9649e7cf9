use Rattle.format.proofs.Exactly.{reads_exactly}
use Rattle.format.proofs.theorems.reads_exactly.Goals as goal

pub returns : goal.returns
returns c = reads_exactly
