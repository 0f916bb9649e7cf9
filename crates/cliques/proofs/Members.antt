-- Members of lists.
use Rattle.std.proofs.Common.{◌≡◌, ℕ, zero, suc, ◌<◌, ◌≤◌, Bool, true, false, cond, not, T, eqb, ltb, leb, ◌⊎◌, List, [], ◌∷◌, ◌++◌, sym, subst, inl, inr, arith, le→leb, eqb→eq, ltb→lt, lt→ltb, leb→le}
use lib.Dec.{eqb_refl, not_T}
use Rattle.cliques.specs.Graph.{Graph}
use Rattle.cliques.specs.Sets.{has, In, every, filter, below, up_to, insert, places, partner_of_all}
use Rattle.cliques.proofs.Tests.{or_split, or_l, or_r, and_mk, dec}

pub in_cons : (w x : ℕ) (xs : List ℕ) → In w (x ∷ xs) → (w ≡ x) ⊎ In w xs
in_cons w x xs t = elim (or_split (eqb w x) (has w xs) t) [ inl a ↦ inl (eqb→eq w x a) | inr b ↦ inr b ]

pub in_here : (x : ℕ) (xs : List ℕ) → In x (x ∷ xs)
in_here x xs = or_l (eqb x x) (has x xs) (eqb_refl x)

pub in_there : (w x : ℕ) (xs : List ℕ) → In w xs → In w (x ∷ xs)
in_there w x xs t = or_r (eqb w x) (has w xs) t

pub in_single : (w x : ℕ) → In w (x ∷ []) → w ≡ x
in_single w x m = elim (in_cons w x [] m) [ inl q ↦ q | inr q ↦ absurd q ]

pub in_append : (A B : List ℕ) (w : ℕ) → In w (A ++ B) → In w A ⊎ In w B
in_append [] B w m = inr m
in_append (x ∷ A) B w m = grind (arith, in_append A)

pub append_l : (A B : List ℕ) (w : ℕ) → In w A → In w (A ++ B)
append_l [] B w m = absurd m
append_l (x ∷ A) B w m = grind (arith, append_l A)

pub append_r : (A B : List ℕ) (w : ℕ) → In w B → In w (A ++ B)
append_r [] B w m = m
append_r (x ∷ A) B w m = in_there w x (A ++ B) (append_r A B w m)

-- one entry more at the end
pub snoc_out : (A : List ℕ) (k w : ℕ) → In w (A ++ (k ∷ [])) → In w A ⊎ (w ≡ k)
snoc_out A k w m = elim (in_append A (k ∷ []) w m) [ inl a ↦ inl a | inr a ↦ inr (in_single w k a) ]

pub snoc_new : (A : List ℕ) (k w : ℕ) → w ≡ k → In w (A ++ (k ∷ []))
snoc_new A k w q = subst (λ z. In z (A ++ (k ∷ []))) (sym q) (append_r A (k ∷ []) k (in_here k []))

pub places_in : (k w : ℕ) → w < k → In w (places k)
places_in zero w h = absurd (omega arith)
places_in (suc k) w h = grind (arith, append_l, snoc_new, places_in k)

pub places_out : (k w : ℕ) → In w (places k) → w < k
places_out zero w m = absurd m
places_out (suc k) w m = grind (arith, snoc_out, places_out k)

pub every_at : (p : ℕ → Bool) (L : List ℕ) (w : ℕ) → T (every p L) → In w L → T (p w)
every_at p [] w t m = absurd m
every_at p (x ∷ xs) w t m = grind (arith, every_at p xs)

pub every_of : (p : ℕ → Bool) (L : List ℕ) → ((w : ℕ) → In w L → T (p w)) → T (every p L)
every_of p [] f = tt
every_of p (x ∷ xs) f = and_mk (p x) (every p xs) (f x (in_here x xs)) (every_of p xs (λ w m. f w (in_there w x xs m)))

-- a partner of all members
pub partner_at : (g : Graph) (w : ℕ) (L : List ℕ) (u : ℕ) → T (partner_of_all g w L) → In u L → T (g.partners w u)
partner_at g w L u t m = every_at (λ x. g.partners w x) L u t m

pub partner_all : (g : Graph) (w : ℕ) (L : List ℕ) → ((u : ℕ) → In u L → T (g.partners w u)) → T (partner_of_all g w L)
partner_all g w L f = every_of (λ x. g.partners w x) L f

-- a test that does not pass everywhere fails at a member
pub some_fails : (p : ℕ → Bool) (L : List ℕ) → (T (every p L) → ⊥) → (u : ℕ) × In u L × T (not (p u))
some_fails p [] f = absurd (f tt)
some_fails p (x ∷ xs) f =
    elim (dec (p x)) [
      | inl t ↦ let r = some_fails p xs (λ m. f (and_mk (p x) (every p xs) t m)) in (r.0, in_there r.0 x xs r.1, r.2)
      | inr t ↦ (x, in_here x xs, not_T (p x) t)
    ]

pub filter_in : (p : ℕ → Bool) (L : List ℕ) (w : ℕ) → In w L → T (p w) → In w (filter p L)
filter_in p [] w m t = m
filter_in p (x ∷ xs) w m t = grind (arith, filter_in p xs)

pub filter_out : (p : ℕ → Bool) (L : List ℕ) (w : ℕ) → In w (filter p L) → In w L × T (p w)
filter_out p [] w m = absurd m
filter_out p (x ∷ xs) w m = grind (arith, filter_out p xs)

pub below_in : (v : ℕ) (L : List ℕ) (w : ℕ) → In w L → w < v → In w (below v L)
below_in v L w m h = filter_in (λ x. ltb x v) L w m (lt→ltb w v h)

pub below_out : (v : ℕ) (L : List ℕ) (w : ℕ) → In w (below v L) → In w L × (w < v)
below_out v L w m = let k = filter_out (λ x. ltb x v) L w m in (k.0, ltb→lt w v k.1)

pub up_to_in : (v : ℕ) (L : List ℕ) (w : ℕ) → In w L → w ≤ v → In w (up_to v L)
up_to_in v L w m h = filter_in (λ x. leb x v) L w m (le→leb w v h)

pub up_to_out : (v : ℕ) (L : List ℕ) (w : ℕ) → In w (up_to v L) → In w L × (w ≤ v)
up_to_out v L w m = let k = filter_out (λ x. leb x v) L w m in (k.0, leb→le w v k.1)

-- insert
put_out : (b : Bool) (k x : ℕ) (xs r : List ℕ) (w : ℕ) → In w (cond b (k ∷ x ∷ xs) (x ∷ r)) → (In w r → (w ≡ k) ⊎ In w xs)
    → (w ≡ k) ⊎ In w (x ∷ xs)
put_out true k x xs r w m f = in_cons w k (x ∷ xs) m
put_out false k x xs r w m f =
    grind (arith, in_cons, in_here, in_there)

pub insert_out : (k : ℕ) (L : List ℕ) (w : ℕ) → In w (insert k L) → (w ≡ k) ⊎ In w L
insert_out k [] w m = in_cons w k [] m
insert_out k (x ∷ xs) w m = put_out (ltb k x) k x xs (insert k xs) w m (insert_out k xs w)

put_new : (b : Bool) (k x : ℕ) (xs r : List ℕ) → In k r → In k (cond b (k ∷ x ∷ xs) (x ∷ r))
put_new true k x xs r m = in_here k (x ∷ xs)
put_new false k x xs r m = in_there k x r m

pub insert_new : (k : ℕ) (L : List ℕ) → In k (insert k L)
insert_new k [] = in_here k []
insert_new k (x ∷ xs) = put_new (ltb k x) k x xs (insert k xs) (insert_new k xs)

put_old : (b : Bool) (k x : ℕ) (xs r : List ℕ) (w : ℕ) → In w (x ∷ xs) → (In w xs → In w r)
    → In w (cond b (k ∷ x ∷ xs) (x ∷ r))
put_old true k x xs r w m f = in_there w k (x ∷ xs) m
put_old false k x xs r w m f =
    grind (arith, in_cons, in_here, in_there)

pub insert_old : (k : ℕ) (L : List ℕ) (w : ℕ) → In w L → In w (insert k L)
insert_old k [] w m = absurd m
insert_old k (x ∷ xs) w m = put_old (ltb k x) k x xs (insert k xs) w m (insert_old k xs w)
