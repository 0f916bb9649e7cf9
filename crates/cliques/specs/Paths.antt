-- The path of a maximal clique, the order of paths, and what comes next by path.
use Rattle.std.specs.Prelude.{◌≡◌, ℕ, zero, suc, ◌<◌, Bool, true, false, ◌&&◌, ◌||◌, ◌⊎◌, List, [], ◌∷◌, ◌++◌, Some, None, Option, ◌==◌, nat_lt}
use Rattle.cliques.specs.Graph.{Graph}
use Rattle.cliques.specs.Sets.{MaximalClique}
use Rattle.cliques.specs.Completion.{parent_index, root, parent}

-- The last entries of the path of K, at most as many as the count.
abbrev pub path_end : Graph → ℕ → List ℕ → List ℕ
path_end g zero K = []
path_end g (suc count) K =
    elim (root g K) [
      | true ↦ parent_index g K ∷ []
      | false ↦ path_end g count (parent g K) ++ (parent_index g K ∷ [])
    ]

-- The path of K: the parent indices from its root down to K. No path is longer than there are places, since it rises.
abbrev pub path : Graph → List ℕ → List ℕ
path g K = path_end g g.size K

-- s comes before t: it is smaller at the first difference, or t goes on where s ends.
abbrev pub Before : List ℕ → List ℕ → Type 0
Before [] [] = ⊥
Before [] (y ∷ t) = Unit {0}
Before (x ∷ s) [] = ⊥
Before (x ∷ s) (y ∷ t) = (x < y) ⊎ ((x ≡ y) × Before s t)

-- The same as a test.
abbrev pub is_before : List ℕ → List ℕ → Bool
is_before [] [] = false
is_before [] (y ∷ t) = true
is_before (x ∷ s) [] = false
is_before (x ∷ s) (y ∷ t) = nat_lt x y || (x == y && is_before s t)

-- s comes before t, or is t.
abbrev pub AtOrBefore : List ℕ → List ℕ → Type 0
AtOrBefore [] t = Unit {0}
AtOrBefore (x ∷ s) [] = ⊥
AtOrBefore (x ∷ s) (y ∷ t) = (x < y) ⊎ ((x ≡ y) × AtOrBefore s t)

-- What comes next after the path a: the maximal clique whose path comes after a and before every other that does; none
-- where no path comes after a. Every path comes after the empty list.
abbrev pub NextAfter : Graph → List ℕ → Option (List ℕ) → Type 0
NextAfter g a None = (D : List ℕ) → MaximalClique g D → Before a (path g D) → ⊥
NextAfter g a (Some D) =
    MaximalClique g D × Before a (path g D)
    × ((D' : List ℕ) → MaximalClique g D' → Before a (path g D') → Before (path g D') (path g D) → ⊥)

-- The maximal clique with the least path at or after a; none where no path is.
abbrev pub LeastFrom : Graph → List ℕ → Option (List ℕ) → Type 0
LeastFrom g a None = (D : List ℕ) → MaximalClique g D → AtOrBefore a (path g D) → ⊥
LeastFrom g a (Some D) =
    MaximalClique g D × AtOrBefore a (path g D)
    × ((D' : List ℕ) → MaximalClique g D' → AtOrBefore a (path g D') → AtOrBefore (path g D) (path g D'))

-- What a walk may stand at: no set, told by the empty list, or a maximal clique.
abbrev pub MayStand : Graph → List ℕ → Type 0
MayStand g [] = Unit {0}
MayStand g (x ∷ xs) = MaximalClique g (x ∷ xs)

-- The path of what a walk stands at: empty where it stands at no set.
abbrev pub standing_path : Graph → List ℕ → List ℕ
standing_path g [] = []
standing_path g (x ∷ xs) = path g (x ∷ xs)
