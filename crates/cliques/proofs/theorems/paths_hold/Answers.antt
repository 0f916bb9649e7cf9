use Rattle.cliques.proofs.theorems.paths_hold.Goals as goal
use Rattle.std.proofs.Common.{◌≡◌, [], ◌∷◌, ◌++◌}
use Rattle.cliques.specs.Completion.{parent_index}
use Rattle.cliques.specs.Paths.{path}
use Rattle.cliques.proofs.Parents.{none_root, of_parent}
use Rattle.cliques.proofs.Paths.{path_root, path_parent, path_one, path_rises, path_total}

pub returns : goal.returns
returns c = λ g law. record {
  rises = path_rises g law;
  at_root = λ K k q. path_root g law K k (none_root g law K q);
  at_child = λ K F k q. of_parent g law (λ z. path g K ≡ path g z ++ (parent_index g K ∷ [])) K F k q (path_parent g law K k);
  one = λ K K' k k'. path_one g law K k K' k';
  total = path_total g law;
}
