-- What the functions for a child compute, put together.
use Rattle.std.proofs.Common.{◌≡◌, ℕ, ◌<◌, ◌≤◌, Bool, List, Some, None, Option, rules, arith}
use Rattle.std.specs.Option.{MatchOption}
use Rattle.std.specs.Bool.{Decides}
use Rattle.std.proofs.lemmas.Slice.Eq.{compares_Decides}
use Rattle.std.proofs.lemmas.Bool.Decides.{same_from_decides}
use Rattle.cliques.specs.Graph.{Graph}
use Rattle.cliques.specs.Sets.{same}
use Rattle.completion.specs.declared.standing.Standing.{Standing}
use Rattle.walk.specs.Search.{FirstChild, child_at}

-- an answer to whether two lists are equal
pub same_is : (r : Bool) (a b : List ℕ) → Decides r (a ≡ b) → r ≡ same a b
same_is r a b d = same_from_decides r (same a b) d (compares_Decides same (search rules) a b)

-- the first child at the places below n
pub child_found : (g : Graph) (at K : List ℕ) (w n : ℕ) (r : Option Standing) → n ≡ g.size
    → MatchOption r ((k : ℕ) → w ≤ k → k < n → child_at g at K k ≡ None)
    (λ D. (v : ℕ) × (w ≤ v) × (v < n) × (child_at g at K v ≡ Some D) × ((k : ℕ) → w ≤ k → k < v → child_at g at K k ≡ None)) → FirstChild g at K w r
child_found g at K w n None q f = λ u a b. f u a (omega arith)
child_found g at K w n (Some D) q f = (f.0, f.1, (let z = f.2 in omega arith), f.3, f.4)
