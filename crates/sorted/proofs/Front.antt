-- Where a search from the front stops.
use Rattle.std.proofs.Common.{◌≡◌, ℕ, suc, ◌+◌, ◌≤◌, Bool, true, false, cond, List, [], ◌∷◌, length, sym, refl, ap, ◌∙◌, arith}
use Rattle.std.specs.List.{insert as opened, prefix_len}
use Rattle.std.proofs.lemmas.List.Sums.{prefix_len-le-length}
use Rattle.sorted.specs.Keyed.{front, up_to_key, inserted}

module _ {X : Type 0} (p : X → Bool) where
  pub front_is : (xs : List X) → front p xs ≡ prefix_len p xs
  front_is [] = refl
  front_is (x ∷ xs) =
      let h : suc (front p xs) ≡ 1 + prefix_len p xs = omega (arith, front_is xs) in
      ap (λ k. cond (p x) k 0) h

  pub front_le : (xs : List X) → front p xs ≤ length xs
  front_le xs = omega (arith, front_is xs, prefix_len-le-length p xs)

module _ {X K : Type 0} (upto : K → K → Bool) (key : X → K) (x : X) where
  -- the defined place is where the search stops
  inserted_is : (xs : List X) → inserted upto key x xs ≡ opened xs (front (up_to_key upto key (key x)) xs) x
  inserted_is [] = refl
  inserted_is (y ∷ ys) =
      elim (upto (key y) (key x)) as (λ b. cond b (y ∷ inserted upto key x ys) (x ∷ (y ∷ ys)) ≡ opened (y ∷ ys) (cond b (suc (front (up_to_key upto key (key x)) ys)) 0) x)
      [ true ↦ ap (λ (l : List X). y ∷ l) (inserted_is ys) | false ↦ refl ]

  -- the same, at what the calls give
  pub inserted_at : (xs part : List X) → part ≡ xs → (k : K) → k ≡ key x → (i : ℕ) → i ≡ front (up_to_key upto key k) part → (zs : List X) → zs ≡ opened xs i x → zs ≡ inserted upto key x xs
  inserted_at xs part ep k ek i ei zs ez =
      let e : i ≡ front (up_to_key upto key (key x)) xs = ei ∙ ap (λ (l : List X). front (up_to_key upto key k) l) ep ∙ ap (λ (h : K). front (up_to_key upto key h) xs) ek in
      ez ∙ ap (λ (j : ℕ). opened xs j x) e ∙ sym (inserted_is xs)
