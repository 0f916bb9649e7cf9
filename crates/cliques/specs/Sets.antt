-- Sets of places as rising lists, and the cliques of a graph.
use Rattle.std.specs.Prelude.{◌≡◌, ℕ, zero, suc, ◌<◌, ◌≤◌, Bool, true, false, cond, not, ◌&&◌, ◌||◌, T, ltb, ◌⊎◌, List, [], ◌∷◌, ◌++◌, Some, None, Option, ◌==◌, ◌≢◌, nat_le, nat_lt}
use Rattle.cliques.specs.Graph.{Graph}

-- w is a member of the list.
abbrev pub has : ℕ → List ℕ → Bool
has w [] = false
has w (x ∷ xs) = w == x || has w xs

abbrev pub In : ℕ → List ℕ → Type 0
In w L = T (has w L)

-- Every member of A is a member of B.
abbrev pub Sub : List ℕ → List ℕ → Type 0
Sub A B = (w : ℕ) → In w A → In w B

-- The test passes at every member.
abbrev pub every : (ℕ → Bool) → List ℕ → Bool
every p [] = true
every p (x ∷ xs) = p x && every p xs

-- The members that pass the test, in their order.
abbrev pub filter : (ℕ → Bool) → List ℕ → List ℕ
filter p [] = []
filter p (x ∷ xs) = cond (p x) (x ∷ filter p xs) (filter p xs)

-- The members below v.
abbrev pub below : ℕ → List ℕ → List ℕ
below v = filter (λ x. ltb x v)

-- The members up to and including v.
abbrev pub up_to : ℕ → List ℕ → List ℕ
up_to v = filter (λ x. nat_le x v)

-- The two lists are equal.
abbrev pub same : List ℕ → List ℕ → Bool
same [] [] = true
same [] (y ∷ ys) = false
same (x ∷ xs) [] = false
same (x ∷ xs) (y ∷ ys) = x == y && same xs ys

-- Each entry is above those before it.
abbrev pub rising : List ℕ → Bool
rising [] = true
rising (x ∷ xs) = every (λ y. ltb x y) xs && rising xs

abbrev pub Rising : List ℕ → Type 0
Rising L = T (rising L)

-- A rising list with k put in at its place.
abbrev pub insert : ℕ → List ℕ → List ℕ
insert k [] = k ∷ []
insert k (x ∷ xs) = cond (nat_lt k x) (k ∷ x ∷ xs) (x ∷ insert k xs)

-- The first member that passes the test (0 where none does).
abbrev pub first_of : (ℕ → Bool) → List ℕ → ℕ
first_of p [] = 0
first_of p (x ∷ xs) = cond (p x) x (first_of p xs)

-- The first entry, which is the smallest member of a rising list (0 for the empty list).
abbrev pub smallest : List ℕ → ℕ
smallest [] = 0
smallest (x ∷ xs) = x

-- The places 0 .. k - 1.
abbrev pub places : ℕ → List ℕ
places zero = []
places (suc k) = places k ++ (k ∷ [])

-- The first place at or above w and below n that passes the test; none where none of these passes.
abbrev pub FirstFrom : (ℕ → Bool) → ℕ → ℕ → Option ℕ → Type 0
FirstFrom p n w None = (u : ℕ) → w ≤ u → u < n → p u ≡ false
FirstFrom p n w (Some v) = (w ≤ v) × (v < n) × (p v ≡ true) × ((u : ℕ) → w ≤ u → u < v → p u ≡ false)

-- The lexicographic order: the lists differ at some entry, and at the first difference A has the smaller one.
abbrev pub Precedes : List ℕ → List ℕ → Type 0
Precedes [] B = ⊥
Precedes (x ∷ A) [] = ⊥
Precedes (x ∷ A) (y ∷ B) = (x < y) ⊎ ((x ≡ y) × Precedes A B)

-- w is a partner of every member of the list.
abbrev pub partner_of_all : Graph → ℕ → List ℕ → Bool
partner_of_all g w L = every (λ u. g.partners w u) L

-- Every two members are partners.
abbrev pub Pairwise : Graph → List ℕ → Type 0
Pairwise g X = (u v : ℕ) → In u X → In v X → (u ≢ v) → T (g.partners u v)

-- A clique: a rising list of one or more places, every two of them partners.
pub record Clique (g : Graph) (X : List ℕ) : Type 0 where
  pub sorted : Rising X
  pub nonempty : In (smallest X) X
  pub within : (w : ℕ) → In w X → w < g.size
  pub pairwise : Pairwise g X

-- A maximal clique: no place outside is a partner of all its members.
pub record MaximalClique (g : Graph) (K : List ℕ) : Type 0 where
  pub clique : Clique g K
  pub maximal : (w : ℕ) → (In w K → ⊥) → ((u : ℕ) → In u K → T (g.partners w u)) → ⊥

-- The same as a test.
abbrev pub is_maximal_clique : Graph → List ℕ → Bool
is_maximal_clique g K =
    rising K && has (smallest K) K && every (λ w. ltb w g.size) K
    && every (λ u. every (λ v. (u == v) || g.partners u v) K) K
    && every (λ w. has w K || not (partner_of_all g w K)) (places g.size)
