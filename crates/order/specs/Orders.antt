-- Orders of the places of a table: e tells which places are partners.
use Rattle.std.specs.Prelude.{◌≡◌, ℕ, zero, suc, ◌+◌, ◌<◌, ◌≤◌, max, Bool, cond, ◌&&◌, ◌||◌, List, [], ◌∷◌, ◌++◌, length, take, drop, ◌==◌, nat_eq, nat_le, nat_lt}
use Rattle.cliques.specs.Graph.{Graph}
use Rattle.cliques.specs.Sets.{places}

-- 1 for true, 0 for false
abbrev pub bit : Bool → ℕ
bit b = cond b 1 0

-- how many entries pass the test
abbrev pub how_many : (ℕ → Bool) → List ℕ → ℕ
how_many p [] = 0
how_many p (x ∷ xs) = bit (p x) + how_many p xs

-- how often w stands in the list
abbrev pub times : ℕ → List ℕ → ℕ
times w L = how_many (λ x. nat_eq w x) L

-- each place below n stands in the list once, and nothing else does
abbrev pub Permutation : ℕ → List ℕ → Type 0
Permutation n L = (w : ℕ) → times w L ≡ bit (nat_lt w n)

-- the entries after the first v
abbrev pub after : ℕ → List ℕ → List ℕ
after v [] = []
after v (x ∷ xs) = cond (v == x) xs (after v xs)

-- the number of later partners of v
abbrev pub later : (ℕ → ℕ → Bool) → List ℕ → ℕ → ℕ
later e L v = how_many (e v) (after v L)

-- the largest number of later partners of an entry, or 0
abbrev pub most : (ℕ → ℕ → Bool) → List ℕ → ℕ
most e [] = 0
most e (v ∷ L) = max (how_many (e v) L) (most e L)

-- the list without its first v
abbrev pub minus : ℕ → List ℕ → List ℕ
minus v [] = []
minus v (x ∷ xs) = cond (v == x) xs (x ∷ minus v xs)

-- u with the number a comes before v with b, or is v: the smaller number, among equals the smaller place
abbrev pub precedes : ℕ → ℕ → ℕ → ℕ → Bool
precedes a u b v = nat_lt a b || (a == b && nat_le u v)

-- the entry of x ∷ ys with the smallest number f, among equals the smaller place
abbrev pub pick : (ℕ → ℕ) → ℕ → List ℕ → ℕ
pick f x [] = x
pick f x (y ∷ ys) = cond (precedes (f x) x (f y) y) (pick f x ys) (pick f y ys)

module _ (e : ℕ → ℕ → Bool) where
  -- again and again the place of S with the fewest partners in S, k times at most
  abbrev pub taken : ℕ → List ℕ → List ℕ
  taken zero S = []
  taken (suc k) [] = []
  taken (suc k) (x ∷ xs) =
      let v = pick (λ u. how_many (e u) (x ∷ xs)) x xs in
      v ∷ taken k (minus v (x ∷ xs))

  -- a head has no partner before it; B stands before the list
  abbrev pub head : List ℕ → ℕ → Bool
  head B v = how_many (e v) B == 0

  -- the heads of the list, where B stands before it
  abbrev pub heads : List ℕ → List ℕ → List ℕ
  heads B [] = []
  heads B (x ∷ xs) = cond (head B x) (x ∷ heads (B ++ (x ∷ [])) xs) (heads (B ++ (x ∷ [])) xs)

  -- the entries that are no heads
  abbrev pub others : List ℕ → List ℕ → List ℕ
  others B [] = []
  others B (x ∷ xs) = cond (head B x) (others (B ++ (x ∷ [])) xs) (x ∷ others (B ++ (x ∷ [])) xs)

  -- the heads of the order moved to its front
  abbrev pub heads_first : List ℕ → List ℕ
  heads_first L = heads [] L ++ others [] L

-- the order of a table's places
abbrev pub degeneracy_order : Graph → List ℕ
degeneracy_order g = heads_first g.partners (taken g.partners g.size (places g.size))

-- L has each place once, d is the largest number of later partners in it (0 where there are no places), and in every
-- order of the places some place has at least d later partners
pub record Degeneracy (g : Graph) (L : List ℕ) (d : ℕ) : Type 0 where
  pub permutation : Permutation g.size L
  pub bound : (v : ℕ) → v < g.size → later g.partners L v ≤ d
  pub reached : 0 < g.size → (v : ℕ) × (v < g.size) × (later g.partners L v ≡ d)
  pub none : g.size ≡ 0 → d ≡ 0
  pub least : 0 < g.size → (P : List ℕ) → Permutation g.size P → (v : ℕ) × (v < g.size) × (d ≤ later g.partners P v)

-- whether both spaces hold as many records as there are places
abbrev pub holds_all : {X : Type 0} → Graph → List ℕ → List X → Bool
holds_all g order space = nat_le g.size (length order) && nat_le g.size (length space)

-- what the call leaves: the order at the front, the rest as it was; it tells the number of places and the degeneracy
pub record Ordered (g : Graph) (placed d : ℕ) (entry exit : List ℕ) : Type 0 where
  pub count : placed ≡ g.size
  pub defined : take g.size exit ≡ degeneracy_order g
  pub degeneracy : Degeneracy g (take g.size exit) d
  pub rest : drop g.size exit ≡ drop g.size entry
