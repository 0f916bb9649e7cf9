-- A list rises where each entry is below the next, and all are below the size.
use Rattle.std.proofs.Common.{◌≡◌, ℕ, zero, suc, ◌+◌, ◌-◌, ◌≤◌, ◌<◌, Bool, true, false, ltb, List, [], ◌∷◌, length, get_or, refl, sym, subst, inl, inr, arith}
use Rattle.std.proofs.lemmas.Bool.{ltb-true, cases_Bool}
use Rattle.std.specs.List.{AllAdjacentBelow}
use Rattle.pairs.specs.Lists.{rising}

-- each entry is below the next; its place is a variable, so that a list's first entry can be dropped
abbrev Rises : List ℕ → Type 0
Rises xs = (k j : ℕ) → j ≡ k + 1 → j < length xs → get_or xs k 0 < get_or xs j 0

abbrev Below : ℕ → List ℕ → Type 0
Below size xs = (k : ℕ) → k < length xs → get_or xs k 0 < size

is_rising : (size least : ℕ) (xs : List ℕ) → Rises xs → Below size xs → (0 < length xs → least ≤ get_or xs 0 0) → rising size least xs ≡ true
is_rising size least [] next low first = refl
is_rising size least (x ∷ xs) next low first =
    let rest : rising size (x + 1) xs ≡ true = is_rising size (x + 1) xs (λ k j e l. next (suc k) (suc j) (omega arith) (omega arith)) (λ k l. low (suc k) (omega arith)) (λ l. let h : x < get_or xs 0 0 = next 0 1 refl (omega arith) in omega arith) in
    let at : x < size = low 0 (omega arith) in
    let above : least ≤ x = first (omega arith) in
    grind (arith, rest, at, above)

rises_first : (size least : ℕ) (xs : List ℕ) → rising size least xs ≡ true → 0 < length xs → least ≤ get_or xs 0 0
rises_first size least [] e l = absurd (omega arith)
rises_first size least (x ∷ xs) e l = grind arith

rises_rest : (size least x : ℕ) (xs : List ℕ) → rising size least (x ∷ xs) ≡ true → rising size (x + 1) xs ≡ true
rises_rest size least x xs e = grind arith

rises : (size least : ℕ) (xs : List ℕ) → rising size least xs ≡ true → Rises xs
rises size least [] e k j s l = absurd (omega arith)
rises size least (x ∷ xs) e k zero s l = absurd (omega arith)
rises size least (x ∷ xs) e zero (suc j) s l = grind (arith, rises_first size (x + 1) xs)
rises size least (x ∷ xs) e (suc k) (suc j) s l = rises size (x + 1) xs (rises_rest size least x xs e) k j (omega arith) (omega arith)

rises_below : (size least : ℕ) (xs : List ℕ) → rising size least xs ≡ true → Below size xs
rises_below size least [] e k l = absurd (omega arith)
rises_below size least (x ∷ xs) e zero l = grind arith
rises_below size least (x ∷ xs) e (suc k) l = grind (arith, rises_below size (x + 1) xs)

module _ (size : ℕ) (xs : List ℕ) where
  -- of a list that rises, `all` tells the rest; any other is not rising
  pub sorted : (r : Bool) → AllAdjacentBelow (λ x y. true ≡ ltb x y) xs (length xs) → (r ≡ true → (i : ℕ) → i < length xs → ltb (get_or xs i 0) size ≡ true)
      → (r ≡ false → (i : ℕ) × (i < length xs) × (ltb (get_or xs i 0) size ≡ false)) → r ≡ rising size 0 xs
  sorted true next all some =
      let rise : Rises xs = λ k j e l. ltb-true _ _ (subst (λ m. ltb (get_or xs k 0) (get_or xs m 0) ≡ true) (sym e) (sym (next k 0 (omega arith)))) in
      sym (is_rising size 0 xs rise (λ k l. ltb-true _ _ (all refl k l)) (λ l. omega arith))
  sorted false next all some =
      let high = some refl in
      let low = rises_below size 0 xs in
      grind (arith, low)

  pub unsorted : (k : ℕ) → k + 1 < length xs → ((d : ℕ) → false ≡ ltb (get_or xs k d) (get_or xs (k + 1) d)) → false ≡ rising size 0 xs
  unsorted k l h = let n = rises size 0 xs in grind (arith, n, h 0)

-- a list that rises has no more entries than there are places for them
rising_few : (size least : ℕ) (xs : List ℕ) → rising size least xs ≡ true → length xs ≤ size - least
rising_few size least [] h = omega arith
rising_few size least (x ∷ xs) h =
    let low = rises_first size least (x ∷ xs) h (omega arith) in
    let high = rises_below size least (x ∷ xs) h 0 (omega arith) in
    let rest = rising_few size (x + 1) xs (rises_rest size least x xs h) in
    omega arith

pub crowded : (size : ℕ) (xs : List ℕ) → size < length xs → false ≡ rising size 0 xs
crowded size xs l = elim (cases_Bool (rising size 0 xs)) [
  | inl h ↦ (let few = rising_few size 0 xs h in absurd (omega arith))
  | inr h ↦ sym h
]
