-- A run on a table that is put in degeneracy order first.
use Rattle.std.specs.Prelude.{ℕ, List}
use Rattle.cliques.specs.Graph.{Graph}
use Rattle.completion.specs.declared.standing.Standing.{Standing}
use Rattle.model.specs.Runs.{Asked, Told, Follows}
use Rattle.order.specs.Orders.{Ordered, degeneracy_order}
use Rattle.pairs.specs.Selections.{selected}
use Rattle.runs.specs.declared.rest.Rest.{Rest}

-- The places stand in degeneracy order at the front of the caller's space, with the count of the places and the degeneracy;
-- and the calls, and the steps alone after them, were those of a new walk on the table in that order.
pub record RunsInOrder (g : Graph) (order-entry order-exit : List ℕ) (calls : List Asked) (answers : List Told) (room exit : List Standing) (placed degeneracy : ℕ) (rest : Rest) : Type 0 where
  pub ordered : Ordered g placed degeneracy order-entry order-exit
  pub follows : (L : List (List ℕ)) × (R : List (List ℕ))
      × Follows (selected g (degeneracy_order g)) L R calls answers rest.kept room exit rest.count rest.all
