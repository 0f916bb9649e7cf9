-- What the chains of iterators over places give, in this crate's words.
use Rattle.std.proofs.Common.{◌≡◌, ℕ, zero, suc, ◌+◌, Bool, true, false, cond, not, ◌&&◌, eqb, List, [], ◌∷◌, ◌++◌, length, sym, refl, ap, ◌∙◌, arith}
use Rattle.std.specs.List.{count_by, filter, list_all, range_with_len}
use Rattle.std.proofs.lemmas.List.Recursion.{is_count_by}
use Rattle.std.proofs.lemmas.List.Sums.{length-filter}
use Rattle.std.proofs.lemmas.Bool.{ne_eqb}
use Rattle.cliques.specs.Sets.{places}
use Rattle.order.specs.Orders.{bit, how_many}

range_more : (a n : ℕ) → range_with_len a (suc n) ≡ range_with_len a n ++ ((a + n) ∷ [])
range_more a zero = ap (λ k. k ∷ []) (omega arith)
range_more a (suc n) =
    let e : a + 1 + n ≡ a + suc n = omega arith in
    ap (λ (l : List ℕ). a ∷ l) (range_more (a + 1) n ∙ ap (λ k. range_with_len (a + 1) n ++ (k ∷ [])) e)

places_are : (n : ℕ) → range_with_len 0 n ≡ places n
places_are zero = refl
places_are (suc n) =
    let e : 0 + n ≡ n = omega arith in
    range_more 0 n ∙ ap (λ k. range_with_len 0 n ++ (k ∷ [])) e ∙ ap (λ (l : List ℕ). l ++ (n ∷ [])) (places_are n)

module _ (p : ℕ → Bool) where
  many_step : (b : Bool) (n : ℕ) → bit b + n ≡ cond b (1 + n) n
  many_step true n = refl
  many_step false n = omega arith

  -- the places that a filter keeps
  pub many_filtered : (n : ℕ) → length (filter p (range_with_len 0 n)) ≡ how_many p (places n)
  many_filtered n =
      length-filter p (range_with_len 0 n) ∙ ap (count_by p) (places_are n)
      ∙ sym (is_count_by (how_many p) p refl (λ x xs. many_step (p x) (how_many p xs)) (places n))

  -- whether all fail
  pub none_pass : (L : List ℕ) → list_all (λ x. not (p x)) L ≡ eqb (how_many p L) 0
  none_pass [] = refl
  none_pass (x ∷ xs) = go (p x) (none_pass xs)
    where
      go : (b : Bool) → list_all (λ y. not (p y)) xs ≡ eqb (how_many p xs) 0 → (not b && list_all (λ y. not (p y)) xs) ≡ eqb (bit b + how_many p xs) 0
      go true h = sym (ne_eqb (1 + how_many p xs) 0 (λ e. omega arith))
      go false h = let e : how_many p xs ≡ 0 + how_many p xs = omega arith in h ∙ ap (λ k. eqb k 0) e
