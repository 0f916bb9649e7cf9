use Rattle.cliques.proofs.theorems.next_is_one.Goals as goal
use Rattle.cliques.proofs.Listings.{next_one}

pub returns : goal.returns
returns c = next_one
