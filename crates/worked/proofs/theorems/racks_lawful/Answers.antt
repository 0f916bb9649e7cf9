use Rattle.worked.proofs.theorems.racks_lawful.Goals as goal
use Rattle.worked.proofs.Pairs.{graph_lawful}

pub returns : goal.returns
returns c = graph_lawful
