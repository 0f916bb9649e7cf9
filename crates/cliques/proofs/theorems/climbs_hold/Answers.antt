use Rattle.cliques.proofs.theorems.climbs_hold.Goals as goal
use Rattle.std.proofs.Common.{suc, [], ◌∷◌, ◌++◌}
use Rattle.cliques.specs.Completion.{parent_index}
use Rattle.cliques.specs.Paths.{path, LeastFrom}
use Rattle.cliques.proofs.Parents.{none_root, of_parent}
use Rattle.cliques.proofs.Nexts.{heads_least, heads_none, climb_root, climb_parent, child_least, least_next, from_index}

pub returns : goal.returns
returns c = λ g law. record {
  to_child = child_least g law;
  to_parent = λ K F w r k s q.
      of_parent g law (λ z. LeastFrom g (path g z ++ (suc (parent_index g K) ∷ [])) r → LeastFrom g (path g K ++ (w ∷ [])) r)
      K F k q (climb_parent g law K w r k s);
  from_root = λ K w r k s q l. climb_root g law K w r k s (none_root g law K q) l;
  to_head = heads_least g law;
  no_head = heads_none g law;
  first = least_next g law [];
  next = λ K r k l. least_next g law (path g K) r (from_index g law K r k l);
}
