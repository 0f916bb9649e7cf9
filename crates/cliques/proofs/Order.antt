-- The order of paths, as an order of lists.
use Rattle.std.proofs.Common.{◌≡◌, ℕ, suc, ◌≤◌, T, ◌⊎◌, List, [], ◌∷◌, ◌++◌, refl, ap, inl, inr, arith}
use Rattle.cliques.specs.Sets.{Precedes}
use Rattle.cliques.specs.Paths.{Before, is_before, AtOrBefore}
use Rattle.cliques.proofs.Tests.{lt_or}

-- lists that are not empty, or end in one entry
pub nil_mid : (s : List ℕ) (y : ℕ) (r : List ℕ) → [] ≡ s ++ (y ∷ r) → ⊥
nil_mid [] y r q = let z : ◌≡◌ {A = ℕ} 0 1 = cc in omega arith
nil_mid (x ∷ s) y r q = let z : ◌≡◌ {A = ℕ} 0 1 = cc in omega arith

pub snoc_inj : (a b : List ℕ) (v w : ℕ) → a ++ (v ∷ []) ≡ b ++ (w ∷ []) → (a ≡ b) × (v ≡ w)
snoc_inj [] [] v w q = (refl, cc)
snoc_inj [] (y ∷ b) v w q = let z : [] ≡ b ++ (w ∷ []) = cc in absurd (nil_mid b w [] z)
snoc_inj (x ∷ a) [] v w q = let z : [] ≡ a ++ (v ∷ []) = cc in absurd (nil_mid a v [] z)
snoc_inj (x ∷ a) (y ∷ b) v w q =
    let z : a ++ (v ∷ []) ≡ b ++ (w ∷ []) = cc in
    let h : x ≡ y = cc in
    let r = snoc_inj a b v w z in
    (cc, r.1)

pub snoc_split : (a s : List ℕ) (v y : ℕ) (r : List ℕ) → a ++ (v ∷ []) ≡ s ++ (y ∷ r)
    → ((a ≡ s) × (v ≡ y)) ⊎ ((r' : List ℕ) × (a ≡ s ++ (y ∷ r')))
snoc_split [] [] v y r q = inl (refl, cc)
snoc_split [] (x ∷ s) v y r q = let z : [] ≡ s ++ (y ∷ r) = cc in absurd (nil_mid s y r z)
snoc_split (x ∷ a) [] v y r q = let p : x ≡ y = cc in inr (a, ap (λ z. z ∷ a) p)
snoc_split (x ∷ a) (z ∷ s) v y r q = grind (arith, snoc_split a s)

-- before, at or before
pub before_from : (s t : List ℕ) → Before s t → AtOrBefore (s ++ (0 ∷ [])) t
before_from [] [] b = absurd b
before_from [] (y ∷ t) b = elim (lt_or 0 y) [ inl h ↦ inl h | inr h ↦ inr (omega arith, tt) ]
before_from (x ∷ s) [] b = b
before_from (x ∷ s) (y ∷ t) h = grind (arith, before_from s t)

pub from_before : (s : List ℕ) (w : ℕ) (t : List ℕ) → AtOrBefore (s ++ (w ∷ [])) t → Before s t
from_before [] w [] l = l
from_before [] w (y ∷ t) l = tt
from_before (x ∷ s) w [] l = l
from_before (x ∷ s) w (y ∷ t) h = grind (arith, from_before s w t)

pub le_not : (s t : List ℕ) → AtOrBefore s t → Before t s → ⊥
le_not [] [] l b = b
le_not [] (y ∷ t) l b = b
le_not (x ∷ s) [] l b = l
le_not (x ∷ s) (y ∷ t) l b = grind (arith, le_not s t)

pub before_or : (s t : List ℕ) → Before s t ⊎ AtOrBefore t s
before_or [] [] = inr tt
before_or [] (y ∷ t) = inl tt
before_or (x ∷ s) [] = inr tt
before_or (x ∷ s) (y ∷ t) = grind (arith, before_or s t)

pub le_anti : (s t : List ℕ) → AtOrBefore s t → AtOrBefore t s → s ≡ t
le_anti [] [] l m = refl
le_anti [] (y ∷ t) l m = absurd m
le_anti (x ∷ s) [] l m = absurd l
le_anti (x ∷ s) (y ∷ t) l m = grind (arith, le_anti s t)

pub before_trans : (s t u : List ℕ) → Before s t → Before t u → Before s u
before_trans [] [] u a b = absurd a
before_trans [] (y ∷ t) [] a b = b
before_trans [] (y ∷ t) (z ∷ u) a b = tt
before_trans (x ∷ s) [] u a b = absurd a
before_trans (x ∷ s) (y ∷ t) [] a b = b
before_trans (x ∷ s) (y ∷ t) (z ∷ u) a b = grind (arith, before_trans s t u)

pub not_self : (s : List ℕ) → Before s s → ⊥
not_self [] b = b
not_self (x ∷ s) b = grind (arith, not_self s)

-- t goes on from s with an entry at or above w
abbrev pub Runs : List ℕ → ℕ → List ℕ → Type 0
Runs s w t = (y : ℕ) × (r : List ℕ) × (t ≡ s ++ (y ∷ r)) × (w ≤ y)

pub split : (s : List ℕ) (w : ℕ) (t : List ℕ) → AtOrBefore (s ++ (w ∷ [])) t → Runs s w t ⊎ Precedes s t
split [] w [] l = absurd l
split [] w (y ∷ t) l = grind arith
split (x ∷ s) w [] l = absurd l
split (x ∷ s) w (y ∷ t) l = grind (arith, split s w t)

pub le_min : (s : List ℕ) (w y : ℕ) (r : List ℕ) → w ≤ y → AtOrBefore (s ++ (w ∷ [])) (s ++ (y ∷ r))
le_min [] w y r h = elim (lt_or w y) [ inl j ↦ inl j | inr j ↦ inr (omega arith, tt) ]
le_min (x ∷ s) w y r h = inr (refl, le_min s w y r h)

pub precedes_le : (s : List ℕ) (w : ℕ) (t : List ℕ) → Precedes s t → AtOrBefore (s ++ (w ∷ [])) t
precedes_le [] w t o = absurd o
precedes_le (x ∷ s) w [] o = o
precedes_le (x ∷ s) w (y ∷ t) o = grind (arith, precedes_le s w t)

pub precedes_snoc : (s : List ℕ) (v : ℕ) (t : List ℕ) → Precedes (s ++ (v ∷ [])) t → AtOrBefore (s ++ (suc v ∷ [])) t
precedes_snoc [] v [] o = o
precedes_snoc [] v (y ∷ t) o = grind arith
precedes_snoc (x ∷ s) v [] o = o
precedes_snoc (x ∷ s) v (y ∷ t) o = grind (arith, precedes_snoc s v t)

pub snoc_precedes : (s : List ℕ) (v : ℕ) (t : List ℕ) → AtOrBefore (s ++ (suc v ∷ [])) t → Precedes (s ++ (v ∷ [])) t
snoc_precedes [] v [] l = l
snoc_precedes [] v (y ∷ t) l = grind arith
snoc_precedes (x ∷ s) v [] l = l
snoc_precedes (x ∷ s) v (y ∷ t) l = grind (arith, snoc_precedes s v t)

-- the order as a test
pub before_test : (s t : List ℕ) → Before s t → T (is_before s t)
before_test [] [] b = b
before_test [] (y ∷ t) b = tt
before_test (x ∷ s) [] b = b
before_test (x ∷ s) (y ∷ t) h = grind (arith, before_test s t)

pub test_before : (s t : List ℕ) → T (is_before s t) → Before s t
test_before [] [] b = b
test_before [] (y ∷ t) b = tt
test_before (x ∷ s) [] b = b
test_before (x ∷ s) (y ∷ t) b = grind (arith, test_before s t)

-- neither before the other: equal
pub neither : (s t : List ℕ) → (Before s t → ⊥) → (Before t s → ⊥) → s ≡ t
neither s t f j = grind (arith, before_or, le_anti)
