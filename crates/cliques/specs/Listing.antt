-- The list of all maximal cliques by rising path: what it is, and how it can be computed.
use Rattle.std.specs.Prelude.{◌≡◌, ℕ, zero, suc, true, false, ◌⊎◌, List, [], ◌∷◌, ◌++◌, map, Some, None, Option}
use Rattle.cliques.specs.Graph.{Graph}
use Rattle.cliques.specs.Sets.{MaximalClique, is_maximal_clique}
use Rattle.cliques.specs.Paths.{path, Before, is_before}

-- The set K is one of the list.
abbrev pub Among : List ℕ → List (List ℕ) → Type 0
Among K [] = ⊥
Among K (D ∷ L) = (K ≡ D) ⊎ Among K L

-- The first set of the list.
abbrev pub first_set : List (List ℕ) → Option (List ℕ)
first_set [] = None
first_set (D ∷ L) = Some D

-- The path of each set comes before those of the sets that follow it.
abbrev pub ByPath : Graph → List (List ℕ) → Type 0
ByPath g [] = Unit {0}
ByPath g (D ∷ L) = ((K : List ℕ) → Among K L → Before (path g D) (path g K)) × ByPath g L

-- L lists the maximal cliques and nothing else, by rising path.
pub record ListsAll (g : Graph) (L : List (List ℕ)) : Type 0 where
  pub only : (K : List ℕ) → Among K L → MaximalClique g K
  pub every_one : (K : List ℕ) → MaximalClique g K → Among K L
  pub order : ByPath g L

-- Every rising list of places below k.
abbrev pub subsets : ℕ → List (List ℕ)
subsets zero = [] ∷ []
subsets (suc k) = let S = subsets k in S ++ map (λ X. X ++ (k ∷ [])) S

-- A list that is by path, with K put in at its place; a set that is there already is not put in again.
abbrev pub put_by_path : Graph → List ℕ → List (List ℕ) → List (List ℕ)
put_by_path g K [] = K ∷ []
put_by_path g K (D ∷ L) =
    elim (is_before (path g K) (path g D)) [
      | true ↦ K ∷ D ∷ L
      | false ↦ elim (is_before (path g D) (path g K)) [ true ↦ D ∷ put_by_path g K L | false ↦ D ∷ L ]
    ]

-- The maximal cliques among the sets of the list, by path.
abbrev pub sort_by_path : Graph → List (List ℕ) → List (List ℕ)
sort_by_path g [] = []
sort_by_path g (K ∷ L) =
    let S = sort_by_path g L in
    elim (is_maximal_clique g K) [ true ↦ put_by_path g K S | false ↦ S ]

-- All maximal cliques, by path: the list that ListsAll describes, computed.
abbrev pub maximal_cliques : Graph → List (List ℕ)
maximal_cliques g = sort_by_path g (subsets g.size)
