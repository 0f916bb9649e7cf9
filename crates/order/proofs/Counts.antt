-- Counting the entries of a list that pass a test.
use Rattle.std.proofs.Common.{◌≡◌, ℕ, zero, suc, ◌+◌, ◌<◌, ◌≤◌, Bool, true, false, cond, eqb, ltb, ◌⊎◌, List, [], ◌∷◌, ◌++◌, length, sym, refl, ap, ◌∙◌, subst, inl, inr, arith}
use Rattle.std.proofs.lemmas.Bool.{eqb-true, eq-eqb, ne_eqb, lt-ltb, le-ltb, cases_lt, cases_eq}
use Rattle.cliques.specs.Sets.{places}
use Rattle.order.specs.Orders.{bit, how_many, times, after, minus}

pub many_append : (p : ℕ → Bool) (A B : List ℕ) → how_many p (A ++ B) ≡ how_many p A + how_many p B
many_append p [] B = omega arith
many_append p (x ∷ A) B = let h = many_append p A B in omega arith

pub many_push : (p : ℕ → Bool) (A : List ℕ) (x : ℕ) → how_many p (A ++ (x ∷ [])) ≡ how_many p A + bit (p x)
many_push p A x = let h = many_append p A (x ∷ []) in omega arith

pub in_cons : (w x : ℕ) (xs : List ℕ) → 0 < times w (x ∷ xs) → (w ≡ x) ⊎ (0 < times w xs)
in_cons w x xs h = go (eqb w x) refl h
  where
    go : (b : Bool) → eqb w x ≡ b → 0 < bit b + times w xs → (w ≡ x) ⊎ (0 < times w xs)
    go true q h = inl (eqb-true w x q)
    go false q h = inr (omega arith)

pub in_here : (w x : ℕ) (xs : List ℕ) → w ≡ x → 0 < times w (x ∷ xs)
in_here w x xs q = let h : bit (eqb w x) ≡ 1 = ap bit (eq-eqb w x q) in omega arith

pub in_there : (w x : ℕ) (xs : List ℕ) → 0 < times w xs → 0 < times w (x ∷ xs)
in_there w x xs h = omega arith

pub many_minus : (p : ℕ → Bool) (v : ℕ) (S : List ℕ) → 0 < times v S → how_many p S ≡ bit (p v) + how_many p (minus v S)
many_minus p v [] h = absurd (omega arith)
many_minus p v (x ∷ xs) h = go (eqb v x) refl h (many_minus p v xs)
  where
    go : (b : Bool) → eqb v x ≡ b → 0 < bit b + times v xs → (0 < times v xs → how_many p xs ≡ bit (p v) + how_many p (minus v xs)) → bit (p x) + how_many p xs ≡ bit (p v) + how_many p (cond b xs (x ∷ minus v xs))
    go true q h i = ap (λ y. bit (p y) + how_many p xs) (sym (eqb-true v x q))
    go false q h i = let j = i (omega arith) in omega arith

pub length_minus : (v : ℕ) (S : List ℕ) → 0 < times v S → length S ≡ suc (length (minus v S))
length_minus v [] h = absurd (omega arith)
length_minus v (x ∷ xs) h = go (eqb v x) h (length_minus v xs)
  where
    go : (b : Bool) → 0 < bit b + times v xs → (0 < times v xs → length xs ≡ suc (length (minus v xs))) → suc (length xs) ≡ suc (length (cond b xs (x ∷ minus v xs)))
    go true h i = refl
    go false h i = ap suc (i (omega arith))

pub times_minus : (v : ℕ) (S : List ℕ) (w : ℕ) → times w (minus v S) ≤ times w S
times_minus v [] w = omega arith
times_minus v (x ∷ xs) w = go (eqb v x) (times_minus v xs w)
  where
    go : (b : Bool) → times w (minus v xs) ≤ times w xs → times w (cond b xs (x ∷ minus v xs)) ≤ times w (x ∷ xs)
    go true i = omega arith
    go false i = omega arith

-- a list with no more of each entry has no more that pass
pub many_sub : (p : ℕ → Bool) (A B : List ℕ) → ((w : ℕ) → times w A ≤ times w B) → how_many p A ≤ how_many p B
many_sub p [] B h = omega arith
many_sub p (x ∷ A) B h =
    let k = in_here x x A refl in
    let m : 0 < times x B = omega (arith, h x) in
    let i = many_minus p x B m in
    let j = many_sub p A (minus x B) (λ w. let g = many_minus (λ y. eqb w y) x B m in omega (arith, h w)) in
    omega arith

pub many_none : (p : ℕ → Bool) (L : List ℕ) → ((w : ℕ) → 0 < times w L → p w ≡ false) → how_many p L ≡ 0
many_none p [] h = refl
many_none p (x ∷ xs) h =
    let a : bit (p x) ≡ 0 = ap bit (h x (in_here x x xs refl)) in
    let b = many_none p xs (λ w m. h w (in_there w x xs m)) in
    omega arith

pub many_all : (p : ℕ → Bool) (L : List ℕ) (w : ℕ) → how_many p L ≡ 0 → 0 < times w L → p w ≡ false
many_all p [] w z m = absurd (omega arith)
many_all p (x ∷ xs) w z m =
    elim (in_cons w x xs m) [
      | inl q ↦ subst (λ y. p y ≡ false) (sym q) (zero_bit (p x) (omega arith))
      | inr r ↦ many_all p xs w (omega arith) r
    ]
  where
    zero_bit : (b : Bool) → bit b ≡ 0 → b ≡ false
    zero_bit true h = absurd (omega arith)
    zero_bit false h = refl

-- the entries after one
pub after_here : (v x : ℕ) (xs : List ℕ) → v ≡ x → after v (x ∷ xs) ≡ xs
after_here v x xs q = ap (λ b. cond b xs (after v xs)) (eq-eqb v x q)

pub after_there : (v x : ℕ) (xs : List ℕ) → (v ≡ x → ⊥) → after v (x ∷ xs) ≡ after v xs
after_there v x xs q = ap (λ b. cond b xs (after v xs)) (ne_eqb v x q)

pub after_left : (v : ℕ) (A B : List ℕ) → 0 < times v A → after v (A ++ B) ≡ after v A ++ B
after_left v [] B m = absurd (omega arith)
after_left v (x ∷ A) B m = go (eqb v x) m (after_left v A B)
  where
    go : (b : Bool) → 0 < bit b + times v A → (0 < times v A → after v (A ++ B) ≡ after v A ++ B) → cond b (A ++ B) (after v (A ++ B)) ≡ cond b A (after v A) ++ B
    go true m i = refl
    go false m i = i (omega arith)

pub after_right : (v : ℕ) (A B : List ℕ) → times v A ≡ 0 → after v (A ++ B) ≡ after v B
after_right v [] B m = refl
after_right v (x ∷ A) B m = go (eqb v x) m (after_right v A B)
  where
    go : (b : Bool) → bit b + times v A ≡ 0 → (times v A ≡ 0 → after v (A ++ B) ≡ after v B) → cond b (A ++ B) (after v (A ++ B)) ≡ after v B
    go true m i = absurd (omega arith)
    go false m i = i (omega arith)

-- the places
pub times_places : (n w : ℕ) → times w (places n) ≡ bit (ltb w n)
times_places zero w = sym (ap bit (le-ltb w 0 (omega arith)))
times_places (suc k) w =
    let p = many_push (λ x. eqb w x) (places k) k in
    let i = times_places k w in
    elim (cases_lt w k) [
      | inl l ↦ (let a : bit (ltb w k) ≡ 1 = ap bit (lt-ltb w k l) in
          let b : bit (ltb w (suc k)) ≡ 1 = ap bit (lt-ltb w (suc k) (omega arith)) in
          let c : bit (eqb w k) ≡ 0 = ap bit (ne_eqb w k (λ q. omega arith)) in omega arith)
      | inr l ↦ elim (cases_eq w k) [
        | inl q ↦ (let a : bit (ltb w k) ≡ 0 = ap bit (le-ltb w k l) in
            let b : bit (ltb w (suc k)) ≡ 1 = ap bit (lt-ltb w (suc k) (omega arith)) in
            let c : bit (eqb w k) ≡ 1 = ap bit (eq-eqb w k q) in omega arith)
        | inr q ↦ (let a : bit (ltb w k) ≡ 0 = ap bit (le-ltb w k l) in
            let b : bit (ltb w (suc k)) ≡ 0 = ap bit (le-ltb w (suc k) (omega arith)) in
            let c : bit (eqb w k) ≡ 0 = ap bit (ne_eqb w k q) in omega arith)
      ]
    ]

pub length_places : (n : ℕ) → length (places n) ≡ n
length_places zero = refl
length_places (suc k) = len (places k) ∙ ap suc (length_places k)
  where
    len : (A : List ℕ) → length (A ++ (k ∷ [])) ≡ suc (length A)
    len [] = refl
    len (x ∷ A) = ap suc (len A)

pub in_places : (n w : ℕ) → w < n → 0 < times w (places n)
in_places n w h = let t = times_places n w in let b : bit (ltb w n) ≡ 1 = ap bit (lt-ltb w n h) in omega arith

pub places_in : (n w m : ℕ) → m ≡ bit (ltb w n) → 0 < m → w < n
places_in n w m t h =
    elim (cases_lt w n) [
      | inl l ↦ l
      | inr l ↦ let b : bit (ltb w n) ≡ 0 = ap bit (le-ltb w n l) in absurd (omega arith)
    ]
