use Rattle.cliques.proofs.theorems.completions_hold.Goals as goal
use Rattle.cliques.proofs.Completions.{completion_is, completion_maximal, completion_itself}
use Rattle.cliques.proofs.Least.{completion_least}

pub returns : goal.returns
returns c = λ g law. record {
  holds = λ X f. (completion_is g law X f).sub;
  maximal = completion_maximal g law;
  itself = completion_itself g law;
  least = completion_least g law;
}
