-- The order by fewest partners left: what it holds, and why no order does better.
use Rattle.std.proofs.Common.{◌≡◌, ℕ, zero, suc, ◌<◌, ◌≤◌, Bool, true, false, cond, eqb, ltb, ◌⊎◌, List, [], ◌∷◌, length, sym, refl, ap, ◌∙◌, subst, inl, inr, arith}
use Rattle.std.proofs.lemmas.Bool.{ne_eqb, cases_eq}
use Rattle.std.proofs.lemmas.Bool.Decides.{nat_tests}
use Rattle.order.specs.Orders.{bit, how_many, times, after, later, minus, precedes, pick, taken, Permutation}
use Rattle.order.proofs.Counts.{in_cons, in_here, in_there, many_minus, length_minus, times_minus, many_sub, after_here, after_there, places_in}

-- the order of numbers and places
pub pre_refl : (a u : ℕ) → precedes a u a u ≡ true
pre_refl a u = grind (arith, nat_tests)

pub pre_total : (a u b v : ℕ) → precedes a u b v ≡ false → precedes b v a u ≡ true
pre_total a u b v h = grind (arith, nat_tests)

pub pre_trans : (a u b v c w : ℕ) → precedes a u b v ≡ true → precedes b v c w ≡ true → precedes a u c w ≡ true
pre_trans a u b v c w h k = grind (arith, nat_tests)

pub pre_anti : (a u b v : ℕ) → precedes a u b v ≡ true → precedes b v a u ≡ true → u ≡ v
pre_anti a u b v h k = grind (arith, nat_tests)

pub pre_le : (a u b v : ℕ) → precedes a u b v ≡ true → a ≤ b
pre_le a u b v h = grind (arith, nat_tests)

module _ (f : ℕ → ℕ) where
  pub pick_in : (x : ℕ) (ys : List ℕ) → 0 < times (pick f x ys) (x ∷ ys)
  pick_in x [] = in_here x x [] refl
  pick_in x (y ∷ ys) = go (precedes (f x) x (f y) y) (pick_in x ys) (pick_in y ys)
    where
      go : (b : Bool) → 0 < times (pick f x ys) (x ∷ ys) → 0 < times (pick f y ys) (y ∷ ys) → 0 < times (cond b (pick f x ys) (pick f y ys)) (x ∷ y ∷ ys)
      go true i j = omega arith
      go false i j = omega arith

  pub pick_first : (x : ℕ) (ys : List ℕ) (w : ℕ) → 0 < times w (x ∷ ys) → precedes (f (pick f x ys)) (pick f x ys) (f w) w ≡ true
  pick_first x [] w m =
      elim (in_cons w x [] m) [
        | inl q ↦ subst (λ z. precedes (f x) x (f z) z ≡ true) (sym q) (pre_refl (f x) x)
        | inr r ↦ absurd (omega arith)
      ]
  pick_first x (y ∷ ys) w m = go (precedes (f x) x (f y) y) refl (pick_first x ys) (pick_first y ys)
    where
      go : (b : Bool) → precedes (f x) x (f y) y ≡ b
          → ((w : ℕ) → 0 < times w (x ∷ ys) → precedes (f (pick f x ys)) (pick f x ys) (f w) w ≡ true)
          → ((w : ℕ) → 0 < times w (y ∷ ys) → precedes (f (pick f y ys)) (pick f y ys) (f w) w ≡ true)
          → precedes (f (cond b (pick f x ys) (pick f y ys))) (cond b (pick f x ys) (pick f y ys)) (f w) w ≡ true
      go true q i j =
          let v = pick f x ys in
          let vx = i x (in_here x x ys refl) in
          elim (in_cons w x (y ∷ ys) m) [
            | inl r ↦ subst (λ z. precedes (f v) v (f z) z ≡ true) (sym r) vx
            | inr r ↦ elim (in_cons w y ys r) [
              | inl s ↦ subst (λ z. precedes (f v) v (f z) z ≡ true) (sym s) (pre_trans (f v) v (f x) x (f y) y vx q)
              | inr s ↦ i w (in_there w x ys s)
            ]
          ]
      go false q i j =
          let v = pick f y ys in
          let vy = j y (in_here y y ys refl) in
          elim (in_cons w x (y ∷ ys) m) [
            | inl r ↦ subst (λ z. precedes (f v) v (f z) z ≡ true) (sym r) (pre_trans (f v) v (f y) y (f x) x vy (pre_total (f x) x (f y) y q))
            | inr r ↦ j w r
          ]

  -- the pick is the only entry that precedes every entry
  pub pick_only : (x : ℕ) (ys : List ℕ) (v : ℕ) → 0 < times v (x ∷ ys) → ((w : ℕ) → 0 < times w (x ∷ ys) → precedes (f v) v (f w) w ≡ true) → pick f x ys ≡ v
  pick_only x ys v m h =
      let c = pick f x ys in
      pre_anti (f c) c (f v) v (pick_first x ys v m) (h c (pick_in x ys))

module _ (e : ℕ → ℕ → Bool) where
  pub many_taken : (p : ℕ → Bool) (k : ℕ) (S : List ℕ) → length S ≡ k → how_many p (taken e k S) ≡ how_many p S
  many_taken p zero [] q = refl
  many_taken p zero (x ∷ xs) q = absurd (omega arith)
  many_taken p (suc k) [] q = refl
  many_taken p (suc k) (x ∷ xs) q =
      let v = pick (λ u. how_many (e u) (x ∷ xs)) x xs in
      let m : 0 < times v (x ∷ xs) = pick_in (λ u. how_many (e u) (x ∷ xs)) x xs in
      let l = length_minus v (x ∷ xs) m in
      let i = many_taken p k (minus v (x ∷ xs)) (omega arith) in
      let j = many_minus p v (x ∷ xs) m in
      omega arith

  -- the places left when v was taken
  pub record Stage (S L : List ℕ) (v : ℕ) : Type 0 where
    pub left : List ℕ
    pub holds : 0 < times v left
    pub within : (w : ℕ) → times w left ≤ times w S
    pub counts : later e L v ≡ how_many (e v) left
    pub fewest : (u : ℕ) → 0 < times u left → how_many (e v) left ≤ how_many (e u) left

  module _ (apart : (u : ℕ) → e u u ≡ false) where
    pub stage : (k : ℕ) (S : List ℕ) → length S ≡ k → (v : ℕ) → 0 < times v S → Stage S (taken e k S) v
    stage zero [] q v m = absurd (omega arith)
    stage zero (x ∷ xs) q v m = absurd (omega arith)
    stage (suc k) [] q v m = absurd (omega arith)
    stage (suc k) (x ∷ xs) q v m = elim (cases_eq v c) [ inl r ↦ now r | inr r ↦ earlier r (λ h. stage k (minus c (x ∷ xs)) ln v h) ]
      where
        c : ℕ
        c = pick (λ u. how_many (e u) (x ∷ xs)) x xs

        cm : 0 < times (pick (λ u. how_many (e u) (x ∷ xs)) x xs) (x ∷ xs)
        cm = pick_in (λ u. how_many (e u) (x ∷ xs)) x xs

        ln : length (minus (pick (λ u. how_many (e u) (x ∷ xs)) x xs) (x ∷ xs)) ≡ k
        ln = let l = length_minus (pick (λ u. how_many (e u) (x ∷ xs)) x xs) (x ∷ xs) cm in omega arith

        now : v ≡ pick (λ u. how_many (e u) (x ∷ xs)) x xs → Stage (x ∷ xs) (taken e (suc k) (x ∷ xs)) v
        now r =
            let d = pick (λ u. how_many (e u) (x ∷ xs)) x xs in
            let a = ap (how_many (e v)) (after_here v d (taken e k (minus d (x ∷ xs))) r) in
            let b = many_taken (e v) k (minus d (x ∷ xs)) ln in
            let g = many_minus (e v) d (x ∷ xs) cm in
            let z : bit (e v d) ≡ 0 = ap bit (ap (e v) (sym r) ∙ apart v) in
            record {
              left = x ∷ xs;
              holds = m;
              within = λ w. omega arith;
              counts = omega arith;
              fewest = λ u mu. subst (λ y. how_many (e y) (x ∷ xs) ≤ how_many (e u) (x ∷ xs)) (sym r) (pre_le _ _ _ _ (pick_first (λ u. how_many (e u) (x ∷ xs)) x xs u mu));
            }

        earlier : (v ≡ pick (λ u. how_many (e u) (x ∷ xs)) x xs → ⊥)
            → (0 < times v (minus (pick (λ u. how_many (e u) (x ∷ xs)) x xs) (x ∷ xs)) → Stage (minus (pick (λ u. how_many (e u) (x ∷ xs)) x xs) (x ∷ xs)) (taken e k (minus (pick (λ u. how_many (e u) (x ∷ xs)) x xs) (x ∷ xs))) v)
            → Stage (x ∷ xs) (taken e (suc k) (x ∷ xs)) v
        earlier r i =
            let d = pick (λ u. how_many (e u) (x ∷ xs)) x xs in
            let g = many_minus (λ y. eqb v y) d (x ∷ xs) cm in
            let z : bit (eqb v d) ≡ 0 = ap bit (ne_eqb v d r) in
            let s = i (omega arith) in
            record {
              left = s.left;
              holds = s.holds;
              within = λ w. omega (arith, s.within w, times_minus d (x ∷ xs) w);
              counts = ap (how_many (e v)) (after_there v d (taken e k (minus d (x ∷ xs))) r) ∙ s.counts;
              fewest = s.fewest;
            }

-- the first entry of P that stands in T; the rest of T comes after it
pub first_in : (T P : List ℕ) (v : ℕ) → 0 < times v T → 0 < times v P
    → (x : ℕ) × (0 < times x T) × (0 < times x P) × ((w : ℕ) → 0 < times w T → 0 < times w P → (w ≡ x) ⊎ (0 < times w (after x P)))
first_in T [] v mt mp = absurd (omega arith)
first_in T (y ∷ P) v mt mp = elim (cases_eq (times y T) 0) [ inl z ↦ further z (first_in T P v mt (rest z v mt mp)) | inr z ↦ here (omega arith) ]
  where
    here : 0 < times y T → (x : ℕ) × (0 < times x T) × (0 < times x (y ∷ P)) × ((w : ℕ) → 0 < times w T → 0 < times w (y ∷ P) → (w ≡ x) ⊎ (0 < times w (after x (y ∷ P))))
    here m = (
      y,
      m,
      in_here y y P refl,
      λ w a b. elim (in_cons w y P b) [
        | inl q ↦ inl q
        | inr r ↦ inr (subst (λ (l : List ℕ). 0 < times w l) (sym (after_here y y P refl)) r)
      ],
    )

    other : times y T ≡ 0 → (w : ℕ) → 0 < times w T → (w ≡ y → ⊥)
    other z w m q = let h : times w T ≡ times y T = ap (λ s. times s T) q in omega arith

    rest : times y T ≡ 0 → (w : ℕ) → 0 < times w T → 0 < times w (y ∷ P) → 0 < times w P
    rest z w a b = elim (in_cons w y P b) [ inl q ↦ absurd (other z w a q) | inr r ↦ r ]

    further : times y T ≡ 0
        → (x : ℕ) × (0 < times x T) × (0 < times x P) × ((w : ℕ) → 0 < times w T → 0 < times w P → (w ≡ x) ⊎ (0 < times w (after x P)))
        → (x : ℕ) × (0 < times x T) × (0 < times x (y ∷ P)) × ((w : ℕ) → 0 < times w T → 0 < times w (y ∷ P) → (w ≡ x) ⊎ (0 < times w (after x (y ∷ P))))
    further z i = (
      i.0,
      i.1,
      in_there i.0 y P i.2,
      λ w a b. elim (i.3 w a (rest z w a b)) [
        | inl q ↦ inl q
        | inr r ↦ inr (subst (λ (l : List ℕ). 0 < times w l) (sym (after_there i.0 y P (other z i.0 i.1))) r)
      ],
    )

once : (w x : ℕ) (T A : List ℕ) → times w T ≤ 1 → (0 < times w T → (w ≡ x) ⊎ (0 < times w A)) → times w T ≤ times w (x ∷ A)
once w x T A l g =
    elim (cases_eq (times w T) 0) [
      | inl z ↦ omega arith
      | inr z ↦ elim (g (omega arith)) [
        | inl q ↦ (let h = in_here w x A q in omega arith)
        | inr r ↦ omega arith
      ]
    ]

pub bit_small : (b : Bool) → bit b ≤ 1
bit_small true = omega arith
bit_small false = omega arith

-- in every order some place has as many later partners as v had when it was taken
pub no_better : (e : ℕ → ℕ → Bool) → ((u : ℕ) → e u u ≡ false) → (n : ℕ) (S L : List ℕ) → Permutation n S → (v : ℕ) → Stage e S L v
    → (P : List ℕ) → Permutation n P → (x : ℕ) × (x < n) × (later e L v ≤ later e P x)
no_better e apart n S L hs v s P hp =
    let T = s.left in
    let sub : (w : ℕ) → times w T ≤ times w P = λ w. omega (arith, s.within w, hs w, hp w) in
    let mp : 0 < times v P = omega (arith, s.holds, sub v) in
    let i = first_in T P v s.holds mp in
    let x = i.0 in
    let le : (w : ℕ) → times w T ≤ times w (x ∷ after x P) =
    λ w. once w x T (after x P) (omega (arith, s.within w, hs w, bit_small (ltb w n))) (λ m. i.3 w m (omega (arith, sub w))) in
    let a = many_sub (e x) T (x ∷ after x P) le in
    let z : bit (e x x) ≡ 0 = ap bit (apart x) in
    (x, places_in n x (times x P) (hp x) i.2, omega (arith, s.counts, s.fewest x i.1))
