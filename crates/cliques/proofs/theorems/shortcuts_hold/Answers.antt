use Rattle.cliques.proofs.theorems.shortcuts_hold.Goals as goal
use Rattle.cliques.proofs.Passes.{pass_is}
use Rattle.cliques.proofs.Barriers.{largest_is_index, completes_same}
use Rattle.cliques.proofs.Shortcuts.{adds_same, barriers_are_child, first_child}

pub returns : goal.returns
returns c = λ g law. record {
  pass = pass_is g law;
  index = largest_is_index g law;
  part = λ K X k f s. completes_same g law K k X f s;
  adds = λ v P f r. adds_same g law v P r f;
  child = barriers_are_child g law;
  first_child = first_child g law;
}
