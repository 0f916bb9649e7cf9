-- Rising lists.
use Rattle.std.proofs.Common.{◌≡◌, ℕ, suc, ◌-◌, ◌<◌, ◌≤◌, Bool, true, false, cond, T, eqb, ltb, ◌⊎◌, List, [], ◌∷◌, ◌++◌, length, sym, refl, ap, subst, inl, inr, arith, ltb→lt, lt→ltb}
use lib.Dec.{eqb_refl}
use Rattle.cliques.specs.Sets.{In, Sub, every, filter, below, up_to, same, rising, Rising, insert, first_of, smallest}
use Rattle.cliques.proofs.Tests.{and_l, and_r, and_mk, lt_or, of_true}
use Rattle.cliques.proofs.Members.{
  in_cons,
  in_here,
  in_there,
  append_l,
  snoc_out,
  snoc_new,
  every_at,
  every_of,
  filter_out,
  below_in,
  below_out,
  up_to_in,
  up_to_out,
  insert_out,
  insert_new,
  insert_old,
}

pub rising_head : (x : ℕ) (xs : List ℕ) → Rising (x ∷ xs) → (w : ℕ) → In w xs → x < w
rising_head x xs r w m = ltb→lt x w (every_at (λ y. ltb x y) xs w (and_l (every (λ y. ltb x y) xs) (rising xs) r) m)

pub rising_tail : (x : ℕ) (xs : List ℕ) → Rising (x ∷ xs) → Rising xs
rising_tail x xs r = and_r (every (λ y. ltb x y) xs) (rising xs) r

pub rising_cons : (x : ℕ) (xs : List ℕ) → ((w : ℕ) → In w xs → x < w) → Rising xs → Rising (x ∷ xs)
rising_cons x xs f r = and_mk (every (λ y. ltb x y) xs) (rising xs) (every_of (λ y. ltb x y) xs (λ w m. lt→ltb x w (f w m))) r

tails : (x : ℕ) (xs ys : List ℕ) → Rising (x ∷ xs) → Sub (x ∷ xs) (x ∷ ys) → Sub xs ys
tails x xs ys r s w m = grind (arith, rising_head)

-- two rising lists with the same members are equal
pub ext : (A B : List ℕ) → Rising A → Rising B → Sub A B → Sub B A → A ≡ B
ext [] [] r s f j = refl
ext [] (y ∷ ys) r s f j = absurd (j y (in_here y ys))
ext (x ∷ xs) [] r s f j = absurd (f x (in_here x xs))
ext (x ∷ xs) (y ∷ ys) r s f j =
    let q : x ≡ y = heads (in_cons x y ys (f x (in_here x xs))) (in_cons y x xs (j y (in_here y ys))) in
    let s' : Rising (x ∷ ys) = subst (λ z. Rising (z ∷ ys)) (sym q) s in
    let f' : Sub (x ∷ xs) (x ∷ ys) = subst (λ z. Sub (x ∷ xs) (z ∷ ys)) (sym q) f in
    let g' : Sub (x ∷ ys) (x ∷ xs) = subst (λ z. Sub (z ∷ ys) (x ∷ xs)) (sym q) j in
    let t : xs ≡ ys = ext xs ys (rising_tail x xs r) (rising_tail y ys s) (tails x xs ys r f') (tails x ys xs s' g') in
    cc
  where
    heads : (x ≡ y) ⊎ In x ys → (y ≡ x) ⊎ In y xs → x ≡ y
    heads (inl a) b = a
    heads (inr a) (inl b) = sym b
    heads (inr a) (inr b) = let h = rising_head y ys s x a in let k = rising_head x xs r y b in absurd (omega arith)

kept_rising : (b : Bool) (x : ℕ) (r : List ℕ) → Rising r → ((w : ℕ) → In w r → x < w) → Rising (cond b (x ∷ r) r)
kept_rising true x r s f = rising_cons x r f s
kept_rising false x r s f = s

pub filter_rising : (p : ℕ → Bool) (L : List ℕ) → Rising L → Rising (filter p L)
filter_rising p [] r = tt
filter_rising p (x ∷ xs) r = grind (arith, kept_rising, rising_head, filter_out, filter_rising p xs)

pub insert_rising : (k : ℕ) (L : List ℕ) → Rising L → (In k L → ⊥) → Rising (insert k L)
insert_rising k [] r h = tt
insert_rising k (x ∷ xs) r h = grind (arith, rising_head, rising_cons, insert_out, insert_rising k xs)

pub below_rising : (v : ℕ) (L : List ℕ) → Rising L → Rising (below v L)
below_rising v L r = filter_rising _ L r

pub up_to_rising : (v : ℕ) (L : List ℕ) → Rising L → Rising (up_to v L)
up_to_rising v L r = filter_rising _ L r

pub snoc_rising : (A : List ℕ) (k : ℕ) → Rising A → ((w : ℕ) → In w A → w < k) → Rising (A ++ (k ∷ []))
snoc_rising [] k r f = tt
snoc_rising (x ∷ A) k r f =
    rising_cons x (A ++ (k ∷ []))
    (λ w m. elim (snoc_out A k w m) [
      | inl a ↦ rising_head x A r w a
      | inr q ↦ let h = f x (in_here x A) in omega arith
    ])
    (snoc_rising A k (rising_tail x A r) (λ w m. f w (in_there w x A m)))

-- the members below one place more
pub below_more : (k : ℕ) (L : List ℕ) → Rising L → In k L → below (suc k) L ≡ below k L ++ (k ∷ [])
below_more k L r m =
    ext (below (suc k) L) (below k L ++ (k ∷ []))
    (below_rising (suc k) L r) (snoc_rising (below k L) k (below_rising k L r) (λ w h. (below_out k L w h).1))
    (λ w h. let a = below_out (suc k) L w h in grind (arith, lt_or, append_l, below_in, snoc_new))
    (λ w h. grind (arith, snoc_out, below_out, below_in))

pub below_same : (k : ℕ) (L : List ℕ) → Rising L → (In k L → ⊥) → below (suc k) L ≡ below k L
below_same k L r out = grind (arith, ext, below_rising, below_out, below_in)

pub below_none : (L : List ℕ) → Rising L → below 0 L ≡ []
below_none L r = grind (arith, ext, below_rising, below_out)

pub below_all : (k : ℕ) (L : List ℕ) → Rising L → ((w : ℕ) → In w L → w < k) → below k L ≡ L
below_all k L r f = ext (below k L) L (below_rising k L r) r (λ w h. (below_out k L w h).0) (λ w h. below_in k L w h (f w h))

-- a place above all members goes in at the end
pub insert_end : (v : ℕ) (P : List ℕ) → ((w : ℕ) → In w P → w < v) → insert v P ≡ P ++ (v ∷ [])
insert_end v [] f = refl
insert_end v (x ∷ xs) f = go (ltb v x) refl (insert_end v xs (λ w m. f w (in_there w x xs m)))
  where
    go : (b : Bool) → ltb v x ≡ b → insert v xs ≡ xs ++ (v ∷ [])
        → cond b (v ∷ x ∷ xs) (x ∷ insert v xs) ≡ x ∷ (xs ++ (v ∷ []))
    go true q i = let h = ltb→lt v x (subst T (sym q) tt) in let l = f x (in_here x xs) in absurd (omega arith)
    go false q i = ap (λ z. x ∷ z) i

-- a rising list of places from a up to n has at most n - a entries
pub rising_room : (L : List ℕ) (a n : ℕ) → Rising L → ((w : ℕ) → In w L → a ≤ w) → ((w : ℕ) → In w L → w < n)
    → length L ≤ n - a
rising_room [] a n r f j = omega arith
rising_room (x ∷ xs) a n r f j =
    let h = rising_room xs (suc x) n (rising_tail x xs r) (rising_head x xs r) (λ w m. j w (in_there w x xs m)) in
    let l = f x (in_here x xs) in
    let k = j x (in_here x xs) in
    omega arith

-- equality as a test
pub same_eq : (A B : List ℕ) → T (same A B) → A ≡ B
same_eq [] [] t = refl
same_eq [] (y ∷ ys) t = absurd t
same_eq (x ∷ xs) [] t = absurd t
same_eq (x ∷ xs) (y ∷ ys) t = grind (arith, same_eq xs ys)

pub same_refl : (A : List ℕ) → T (same A A)
same_refl [] = tt
same_refl (x ∷ xs) = and_mk (eqb x x) (same xs xs) (eqb_refl x) (same_refl xs)

pub eq_same : (A B : List ℕ) → A ≡ B → T (same A B)
eq_same A B q = subst (λ z. T (same A z)) q (same_refl A)

-- the smallest member
pub smallest_in : (K : List ℕ) → (u : ℕ) → In u K → In (smallest K) K
smallest_in a u m = grind arith

pub smallest_le : (K : List ℕ) → Rising K → (u : ℕ) → In u K → smallest K ≤ u
smallest_le a r u m = grind (arith, rising_head)

-- the first member that passes, the last member
abbrev pub First : (ℕ → Bool) → List ℕ → ℕ → Type 0
First p K v = In v K × T (p v) × ((u : ℕ) → In u K → T (p u) → v ≤ u)

first_step : (b : Bool) (p : ℕ → Bool) (x : ℕ) (xs : List ℕ) → p x ≡ b → Rising (x ∷ xs) → (T b ⊎ First p xs (first_of p xs))
    → First p (x ∷ xs) (cond b x (first_of p xs))
first_step true p x xs q r d =
    (in_here x xs, of_true (p x) q, λ u m t. smallest_le (x ∷ xs) r u m)
first_step false p x xs q r (inl a) = absurd a
first_step false p x xs q r (inr a) = (
  in_there (first_of p xs) x xs a.0,
  a.1,
  λ u m t. grind (arith, in_cons),
)

pub first : (p : ℕ → Bool) (K : List ℕ) → Rising K → (u : ℕ) → In u K → T (p u) → First p K (first_of p K)
first p [] r u m t = absurd m
first p (x ∷ xs) r u m t =
    first_step (p x) p x xs refl r (elim (in_cons u x xs m) [
      | inl z ↦ inl (subst (λ y. T (p y)) z t)
      | inr z ↦ inr (first p xs (rising_tail x xs r) u z t)
    ])

abbrev pub Last : List ℕ → ℕ → Type 0
Last K m = In m K × ((u : ℕ) → In u K → u ≤ m)

pub last : (x : ℕ) (xs : List ℕ) → Rising (x ∷ xs) → (m : ℕ) × Last (x ∷ xs) m
last x [] r = (x, (in_here x [], λ u m. elim (in_cons u x [] m) [ inl q ↦ omega arith | inr q ↦ absurd q ]))
last x (y ∷ ys) r = grind (arith, rising_head, last y ys)

pub last_of : (K : List ℕ) → Rising K → (u : ℕ) → In u K → (m : ℕ) × Last K m
last_of [] r u m = absurd m
last_of (x ∷ xs) r u m = last x xs r

-- the members up to the last
pub up_to_last : (K : List ℕ) (m : ℕ) → Rising K → Last K m → up_to m K ≡ K
up_to_last K m r l = grind (arith, ext, up_to_rising, up_to_out, up_to_in)

-- the members up to a member are those below it, with it
pub up_to_insert : (K : List ℕ) (v : ℕ) → Rising K → In v K → insert v (below v K) ≡ up_to v K
up_to_insert K v r m = grind (arith, ext, insert_rising, below_rising, below_out, up_to_rising, insert_out, up_to_in, up_to_out, insert_old, below_in, insert_new)
