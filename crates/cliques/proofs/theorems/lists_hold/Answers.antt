use Rattle.cliques.proofs.theorems.lists_hold.Goals as goal
use Rattle.cliques.proofs.Listings.{all_listed, lists_one, start, along}

pub returns : goal.returns
returns c = λ g law. record {
  exists = all_listed g law;
  one = lists_one g law;
  start = start g law;
  along = along g law;
}
