-- Whether a place stands in a list.
use Rattle.std.proofs.Common.{◌≡◌, ℕ, ◌<◌, true, false, ◌||◌, eqb, List, [], ◌∷◌, length, get_or, refl, ap, arith}
use Rattle.std.proofs.lemmas.List.Recursion.{or_at}
use Rattle.std.proofs.lemmas.Bool.{both_ways, eq-eqb}
use Rattle.std.specs.List.{list_any}
use Rattle.pairs.specs.Checks.{stands}

-- what does not stand in the list is none of its entries
pub stands_none : (xs : List ℕ) (place j : ℕ) → stands xs place ≡ false → j < length xs → get_or xs j 0 ≡ place → ⊥
stands_none xs place j none lt e = both_ways _ none (or_at (λ ys. stands ys place) (λ x. eqb x place) refl (λ _ _. refl) xs j 0 lt (eq-eqb _ _ e))

-- what each entry of the list is, a place that stands in it is
pub at_standing : (Entry : ℕ → Type 0) (Whole : List ℕ → Type 0) → ((x : ℕ) (xs : List ℕ) → Whole (x ∷ xs) → Entry x × Whole xs) → (xs : List ℕ) (v : ℕ) → Whole xs → stands xs v ≡ true → Entry v
at_standing Entry Whole split [] v whole has = let z : ◌≡◌ {A = ℕ} 0 1 = cc in absurd (omega arith)
at_standing Entry Whole split (x ∷ xs) v whole has = grind (arith, at_standing Entry Whole split xs)

-- what the library's search through a list tells
pub any_stands : (w : ℕ) (L : List ℕ) → list_any (λ x. eqb x w) L ≡ stands L w
any_stands w [] = refl
any_stands w (x ∷ xs) = ap (λ b. eqb x w || b) (any_stands w xs)
