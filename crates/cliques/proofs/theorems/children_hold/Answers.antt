use Rattle.cliques.proofs.theorems.children_hold.Goals as goal
use Rattle.std.proofs.Common.{◌<◌}
use Rattle.cliques.specs.Sets.{MaximalClique}
use Rattle.cliques.specs.Completion.{parent_index, ChildAt}
use Rattle.cliques.proofs.Parents.{parent_maximal, parent_lower, parent_child, parent_of_none, parent_of_some, of_parent}
use Rattle.cliques.proofs.Children.{child_maximal, child_index, child_parent_of, child_of_one}

pub returns : goal.returns
returns c = λ g law. record {
  root_none = parent_of_none g law;
  other_some = parent_of_some g law;
  parent_maximal = λ K F k q. of_parent g law (MaximalClique g) K F k q (parent_maximal g law K k);
  parent_child = λ K F k q. of_parent g law (λ z. ChildAt g z (parent_index g K) K) K F k q (parent_child g law K k);
  parent_lower = λ K F k q. of_parent g law (λ z. parent_index g z < parent_index g K) K F k q (parent_lower g law K k);
  child_maximal = child_maximal g law;
  child_index = child_index g law;
  child_parent = child_parent_of g law;
  one = child_of_one g law;
}
