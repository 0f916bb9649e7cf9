-- Finding and taking, by the place that a search gives.
use Rattle.std.proofs.Common.{◌≡◌, ℕ, suc, ◌+◌, ◌<◌, Bool, true, false, cond, not, ltb, List, [], ◌∷◌, length, Some, None, Option, sym, refl, ap, ◌∙◌, arith}
use Rattle.std.specs.List.{find, position, position_or_len, remove, slice_get}
use Rattle.std.proofs.lemmas.Bool.{ltb-true, ltb-false}
use Rattle.std.proofs.lemmas.List.{take_all, drop_all, append-nil}
use Rattle.std.proofs.lemmas.List.Folds.{find_at}
use Rattle.std.proofs.lemmas.Option.{slice_get_past}
use Rattle.sorted.specs.Keyed.{first_of, without}

module _ {X : Type 0} (p : X → Bool) where
  pub first_is : (xs : List X) → find p xs ≡ first_of p xs
  first_is [] = refl
  first_is (x ∷ xs) = ap (λ o. cond (p x) (Some x) o) (first_is xs)

  without_is : (xs : List X) → remove xs (position_or_len p xs) ≡ without p xs
  without_is [] = refl
  without_is (x ∷ xs) =
      let e : 1 + position_or_len p xs ≡ suc (position_or_len p xs) = omega arith in
      elim (p x) as (λ b. remove (x ∷ xs) (cond (not b) (1 + position_or_len p xs) 0) ≡ cond b xs (x ∷ without p xs))
      [ true ↦ refl | false ↦ ap (remove (x ∷ xs)) e ∙ ap (λ (l : List X). x ∷ l) (without_is xs) ]

  -- the record at the place that a search gives, and the others
  pub placed : (xs : List X) (i : ℕ) → position p xs ≡ Some i → (i < length xs) × (slice_get xs i ≡ first_of p xs) × (remove xs i ≡ without p xs)
  placed xs i e = go (ltb (position_or_len p xs) (length xs)) refl e
    where
      go : (b : Bool) → ltb (position_or_len p xs) (length xs) ≡ b → cond b (Some (position_or_len p xs)) None ≡ Some i → (i < length xs) × (slice_get xs i ≡ first_of p xs) × (remove xs i ≡ without p xs)
      go true t e =
          let q : i ≡ position_or_len p xs = cc in
          let l = ltb-true _ _ t in
          (omega arith, ap (slice_get xs) q ∙ sym (find_at p xs) ∙ first_is xs, ap (remove xs) q ∙ without_is xs)
      go false t e = cc

  -- a search that gives no place has passed all
  pub absent : (xs : List X) → position p xs ≡ None → (first_of p xs ≡ None) × (without p xs ≡ xs)
  absent xs e = go (ltb (position_or_len p xs) (length xs)) refl e
    where
      go : (b : Bool) → ltb (position_or_len p xs) (length xs) ≡ b → ◌≡◌ {A = Option ℕ} (cond b (Some (position_or_len p xs)) None) None → (first_of p xs ≡ None) × (without p xs ≡ xs)
      go true t e = cc
      go false t e =
          let i = position_or_len p xs in
          let l = ltb-false _ _ t in (
            sym (first_is xs) ∙ find_at p xs ∙ slice_get_past xs i l,
            sym (without_is xs) ∙ rw (take_all i xs l, drop_all (suc i) xs (omega arith)) (append-nil xs),
          )
