-- Sums and counts over the numbers below a bound.
use Rattle.std.proofs.Common.{◌≡◌, ℕ, zero, suc, ◌+◌, ◌<◌, ◌≤◌, Bool, true, false, cond, List, length, Option, get_or, take, sym, refl, ap, ◌∙◌, inl, inr, add-one, zero-add, arith}
use Rattle.std.proofs.lemmas.Bool.{cases_eq}
use Rattle.std.proofs.lemmas.List.{take_all}
use Rattle.std.proofs.lemmas.List.FromFn.{get_or-range_with_len, length-range_with_len}
use Rattle.std.proofs.lemmas.Iterator.{YieldsList}
use Rattle.std.proofs.lemmas.Iterator.Consumers.{count_from_yields_List}
use Rattle.std.proofs.lemmas.List.Sums.{length-filter, sum_by_more}
use Rattle.std.specs.Iterator.{Drains}
use Rattle.std.specs.List.{filter, range_with_len, sum_by}
use Rattle.summary.specs.Summing.{count_to, sum_to}

-- equal terms have equal sums
pub sum_same : (f g : ℕ → ℕ) (n : ℕ) → ((k : ℕ) → k < n → f k ≡ g k) → sum_to f n ≡ sum_to g n
sum_same f g zero h = refl
sum_same f g (suc n) h = λ i. sum_same f g n (λ k l. h k (omega arith)) i + h n (omega arith) i

pub count_same : (p q : ℕ → Bool) (n : ℕ) → ((k : ℕ) → k < n → p k ≡ q k) → count_to p n ≡ count_to q n
count_same p q n h = sum_same _ _ n (λ k l. ap (λ b. cond b 1 0) (h k l))

-- one term that is one more
pub sum_one : (f g : ℕ → ℕ) (n u : ℕ) → u < n → g u ≡ f u + 1 → ((k : ℕ) → k < n → (k ≡ u → ⊥) → g k ≡ f k) → sum_to g n ≡ sum_to f n + 1
sum_one f g zero u l e h = absurd (omega arith)
sum_one f g (suc n) u l e h = elim (cases_eq n u) [
  | inl i ↦ (let a : sum_to g n ≡ sum_to f n = sum_same g f n (λ k m. h k (omega arith) (λ j. omega arith)) in
      let b : g n ≡ f n + 1 = ap g i ∙ e ∙ ap (λ j. f j + 1) (sym i) in omega arith)
  | inr ne ↦ (let a : sum_to g n ≡ sum_to f n + 1 = sum_one f g n u (omega arith) e (λ k m d. h k (omega arith) d) in
      let b : g n ≡ f n = h n (omega arith) ne in omega arith)
]

pub count_one : (p q : ℕ → Bool) (n u : ℕ) → u < n → p u ≡ false → q u ≡ true → ((k : ℕ) → k < n → (k ≡ u → ⊥) → q k ≡ p k) → count_to q n ≡ count_to p n + 1
count_one p q n u l a b h = sum_one (λ k. cond (p k) 1 0) (λ k. cond (q k) 1 0) n u l one (λ k m d. ap (λ t. cond t 1 0) (h k m d))
  where
    one : cond (q u) 1 0 ≡ cond (p u) 1 0 + 1
    one = ap (λ t. cond t 1 0) b ∙ ap (λ t. cond t 1 0 + 1) (sym a)

pub count_none : (p : ℕ → Bool) (n : ℕ) → ((k : ℕ) → k < n → p k ≡ false) → count_to p n ≡ 0
count_none p zero h = refl
count_none p (suc n) h =
    let a : count_to p n ≡ 0 = count_none p n (λ k l. h k (omega arith)) in
    (λ i. a i + cond (h n (omega arith) i) 1 0)

-- what is counted of a list, and of the numbers below a bound
module _ {X : Type 0} (f : X → ℕ) (xs : List X) (d : X) where
  front_sum : (k : ℕ) → k ≤ length xs → sum_by f (take k xs) ≡ sum_to (λ u. f (get_or xs u d)) k
  front_sum zero h = refl
  front_sum (suc k) h = (rw add-one at (sum_by_more f xs k d (omega arith))) ∙ ap (λ n. n + f (get_or xs k d)) (front_sum k (omega arith))

  pub list_sum : sum_by f xs ≡ sum_to (λ u. f (get_or xs u d)) (length xs)
  list_sum = ap (sum_by f) (sym (take_all (length xs) xs (omega arith))) ∙ front_sum (length xs) (omega arith)

pub range_sum : (f : ℕ → ℕ) (n : ℕ) → sum_by f (range_with_len 0 n) ≡ sum_to f n
range_sum f n =
    let xs = range_with_len 0 n in
    list_sum f xs 0 ∙ ap (sum_to (λ u. f (get_or xs u 0))) (length-range_with_len 0 n) ∙ sum_same (λ u. f (get_or xs u 0)) f n (λ k l. ap f (get_or-range_with_len 0 n k 0 l ∙ zero-add k))

-- what `filter` and `count` give over the numbers below n
pub range_count : {S : Type 0} {steps : S → Option ℕ → S → Type 0} {s : S} {r : ℕ} (p : ℕ → Bool) (n : ℕ)
    → (xs : List ℕ) × Drains steps s xs × (r ≡ length xs) → YieldsList steps (λ x. x) s (filter p (range_with_len 0 n)) → r ≡ count_to p n
range_count {s = s} p n ran chain = count_from_yields_List s _ ran chain ∙ length-filter p (range_with_len 0 n) ∙ range_sum (λ u. cond (p u) 1 0) n
