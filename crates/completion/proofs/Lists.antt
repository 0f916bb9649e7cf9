-- A member at an index, tests at each place, and the entries at a list's front.
use Rattle.std.proofs.Common.{◌≡◌, ℕ, zero, suc, ◌+◌, ◌-◌, ◌<◌, ◌≤◌, min, Bool, true, false, cond, eqb, ltb, ◌≢◌, List, [], ◌∷◌, ◌++◌, length, get_or, take, drop, set, replicate, sym, refl, ap, ◌∙◌, inl, inr, le_of_suc-le-suc, not-suc-le-zero, arith}
use Rattle.std.proofs.lemmas.List.{get_or_append_left, get_or-append_right, take-replicate, drop-replicate, get_or_past, get_or-replicate, get_or-set_same, get_or-set_other, length-replicate, take_all}
use Rattle.std.proofs.lemmas.Bool.{or_left, or_right, eq-eqb, lt-ltb, le-ltb, cond-true, cond-false, cases_lt, cases_order}
use Rattle.cliques.specs.Sets.{has, every, places}
use Rattle.cliques.proofs.Tests.{is_true, is_false, of_true, of_false}
use Rattle.cliques.proofs.Members.{every_at, every_of, places_in, places_out}

pub has_yes : (w : ℕ) (L : List ℕ) (i : ℕ) → i < length L → w ≡ get_or L i 0 → has w L ≡ true
has_yes w [] i h q = absurd (not-suc-le-zero h)
has_yes w (x ∷ xs) zero h q = or_left (eqb w x) (has w xs) (eq-eqb w x q)
has_yes w (x ∷ xs) (suc i) h q = or_right (eqb w x) (has w xs) (has_yes w xs i (le_of_suc-le-suc h) q)

-- a test at every place below k
pub places_yes : (p : ℕ → Bool) (k : ℕ) → ((j : ℕ) → j < k → p j ≡ true) → every p (places k) ≡ true
places_yes p k f = is_true (every p (places k)) (every_of p (places k) (λ w m. of_true (p w) (f w (places_out k w m))))

pub places_no : (p : ℕ → Bool) (k j : ℕ) → j < k → p j ≡ false → every p (places k) ≡ false
places_no p k j h q = is_false (every p (places k)) (λ t. of_false (p j) q (every_at p (places k) j t (places_in k j h)))

-- x written after xs, which stands at the front of d
pub push_at : (xs d : List ℕ) (x : ℕ) → length xs < length d
    → set (xs ++ drop (length xs) d) (length xs) x ≡ (xs ++ x ∷ []) ++ drop (suc (length xs)) d
push_at [] [] x h = absurd (omega arith)
push_at [] (y ∷ d) x h = refl
push_at (z ∷ xs) [] x h = absurd (omega arith)
push_at (z ∷ xs) (y ∷ d) x h = ap (λ (t : List ℕ). z ∷ t) (push_at xs d x (omega arith))

-- two numbers of entries that come to the same in a list
pub take_same : (j k : ℕ) (L : List ℕ) → min j (length L) ≡ min k (length L) → take j L ≡ take k L
take_same j k L q =
    elim (cases_order j k) [
      | inl e ↦ ap (λ (i : ℕ). take i L) e
      | inr y ↦ elim y [
        | inl h ↦ let a : length L ≤ j = omega arith in let b : length L ≤ k = omega arith in take_all j L a ∙ sym (take_all k L b)
        | inr h ↦ let a : length L ≤ j = omega arith in let b : length L ≤ k = omega arith in take_all j L a ∙ sym (take_all k L b)
      ]
    ]

-- a table of f, written entry by entry over zeros
zeros_at : (n y : ℕ) → get_or {A = ℕ} (replicate n 0) y 0 ≡ 0
zeros_at n y =
    let l = length-replicate {A = ℕ} n 0 in
    elim (cases_order y n) [
      | inl e ↦ get_or_past {X = ℕ} (replicate n 0) y 0 (omega arith)
      | inr z ↦ elim z [ inl h ↦ get_or-replicate {A = ℕ} n y 0 0 h | inr h ↦ get_or_past {X = ℕ} (replicate n 0) y 0 (omega arith) ]
    ]

pub table_none : (f : ℕ → ℕ) (k n y : ℕ) → k ≤ n → get_or {A = ℕ} (take k (replicate n 0)) y 0 ≡ cond (ltb y 0) (f y) 0
table_none f k n y h =
    ap (λ (L : List ℕ). get_or L y 0) (take-replicate k n 0 h) ∙ (zeros_at k y ∙ sym (cond-false (ltb y 0) (f y) 0 (le-ltb y 0 (omega arith))))

-- a table of the places below k, with zeros after it
pub table_whole : (f : ℕ → ℕ) (L : List ℕ) (k n y : ℕ) → length L ≡ k → get_or L y 0 ≡ cond (ltb y k) (f y) 0
    → get_or (L ++ drop k (replicate n 0)) y 0 ≡ cond (ltb y k) (f y) 0
table_whole f L k n y l q =
    elim (cases_lt y k) [
      | inl h ↦ get_or_append_left L (drop k (replicate n 0)) 0 y (omega arith) ∙ q
      | inr h ↦
          get_or-append_right L (drop k (replicate n 0)) k y 0 l h
          ∙ (ap (λ (Z : List ℕ). get_or Z (y - k) 0) (drop-replicate k n 0) ∙ (zeros_at (n - k) (y - k) ∙ sym (cond-false (ltb y k) (f y) 0 (le-ltb y k h))))
    ]

pub table_more : (f : ℕ → ℕ) (L : List ℕ) (x b : ℕ) → x < length L → b ≡ f x → ((y : ℕ) → get_or L y 0 ≡ cond (ltb y x) (f y) 0)
    → (y : ℕ) → get_or (set L x b) y 0 ≡ cond (ltb y (x + 1)) (f y) 0
table_more f L x b h q inv y =
    elim (cases_order y x) [
      | inl e ↦ ap (λ (z : ℕ). get_or (set L x b) z 0) e ∙ (get_or-set_same L x b 0 h ∙ (q ∙ (ap f (sym e) ∙ sym (cond-true (ltb y (x + 1)) (f y) 0 (lt-ltb y (x + 1) (omega arith))))))
      | inr z ↦ elim z [
        | inl l ↦ let ne : y ≢ x = omega arith in get_or-set_other L x y b 0 ne
            ∙ (inv y ∙ (cond-true (ltb y x) (f y) 0 (lt-ltb y x l) ∙ sym (cond-true (ltb y (x + 1)) (f y) 0 (lt-ltb y (x + 1) (omega arith)))))
        | inr l ↦ let ne : y ≢ x = omega arith in get_or-set_other L x y b 0 ne
            ∙ (inv y ∙ (cond-false (ltb y x) (f y) 0 (le-ltb y x (omega arith)) ∙ sym (cond-false (ltb y (x + 1)) (f y) 0 (le-ltb y (x + 1) (omega arith)))))
      ]
    ]
