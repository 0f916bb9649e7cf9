-- Each change keeps the keys rising: this is where the laws of the order are used.
use Rattle.std.proofs.Common.{◌≡◌, ℕ, Bool, true, false, cond, ◌&&◌, List, [], ◌∷◌, is_some, Some, None, Option, refl, inl, inr, arith}
use Rattle.std.proofs.lemmas.Bool.{both_ways, cases_Bool}
use Rattle.sorted.specs.Keyed.{inserted, without, first_of, of_key, Rising, Before}

module _ {X K : Type 0} (upto : K → K → Bool) (key : X → K) where
  before_without : (p : X → Bool) (k : K) (xs : List X) → Before upto key k xs → Before upto key k (without p xs)
  before_without p k [] h = tt
  before_without p k (y ∷ ys) h =
      elim (p y) as (λ b. Before upto key k (cond b ys (y ∷ without p ys))) [ true ↦ h.2 | false ↦ (h.0, h.1, before_without p k ys h.2) ]

  pub rising_without : (p : X → Bool) (xs : List X) → Rising upto key xs → Rising upto key (without p xs)
  rising_without p [] h = tt
  rising_without p (y ∷ ys) h =
      elim (p y) as (λ b. Rising upto key (cond b ys (y ∷ without p ys))) [ true ↦ h.1 | false ↦ (before_without p (key y) ys h.0, rising_without p ys h.1) ]

-- a search that finds nothing passed each record
first_none : {X : Type 0} (p : X → Bool) (y : X) (ys : List X) → first_of p (y ∷ ys) ≡ None → (p y ≡ false) × (first_of p ys ≡ None)
first_none p y ys = elim (p y) as (λ b. cond b (Some y) (first_of p ys) ≡ None → (b ≡ false) × (first_of p ys ≡ None))
    [ true ↦ (λ e. let z : ◌≡◌ {A = ℕ} 0 1 = cc in absurd (omega arith)) | false ↦ (λ e. (refl, e)) ]

other_way : (a b : Bool) → (a && b) ≡ false → a ≡ true → b ≡ false
other_way true b h q = h
other_way false b h q = absurd (both_ways false refl q)

module _ {X K : Type 0} (upto : K → K → Bool) (key : X → K)
    (total : (x y : K) → upto x y ≡ false → upto y x ≡ true)
    (trans : (x y z : K) → upto x y ≡ true → upto y z ≡ true → upto x z ≡ true) where
  -- a key before k comes before all that k comes before
  before_below : (a k : K) → upto a k ≡ true → (xs : List X) → Before upto key k xs → Before upto key a xs
  before_below a k ak [] h = tt
  before_below a k ak (y ∷ ys) h = (
    trans a k (key y) ak h.0,
    elim (cases_Bool (upto (key y) a)) [ inl q ↦ absurd (both_ways _ h.1 (trans (key y) a k q ak)) | inr q ↦ q ],
    before_below a k ak ys h.2,
  )

  before_inserted : (k : K) (x : X) → upto k (key x) ≡ true → upto (key x) k ≡ false → (xs : List X) → Before upto key k xs → Before upto key k (inserted upto key x xs)
  before_inserted k x kx xk [] h = (kx, xk, tt)
  before_inserted k x kx xk (y ∷ ys) h =
      elim (upto (key y) (key x)) as (λ b. Before upto key k (cond b (y ∷ inserted upto key x ys) (x ∷ (y ∷ ys))))
      [ true ↦ (h.0, h.1, before_inserted k x kx xk ys h.2) | false ↦ (kx, xk, h) ]

  pub rising_inserted : (x : X) (xs : List X) → first_of (of_key upto key (key x)) xs ≡ None → Rising upto key xs → Rising upto key (inserted upto key x xs)
  rising_inserted x [] f h = (tt, tt)
  rising_inserted x (y ∷ ys) f h =
      let n = first_none (of_key upto key (key x)) y ys f in
      let i = rising_inserted x ys n.1 h.1 in
      let Q : Bool → Type 0 = λ b. upto (key y) (key x) ≡ b → Rising upto key (cond b (y ∷ inserted upto key x ys) (x ∷ (y ∷ ys))) in
      (elim (upto (key y) (key x)) as Q [
        | true ↦ (λ e. (before_inserted (key y) x e (other_way _ _ n.0 e) ys h.0, i))
        | false ↦ (λ e. let l : upto (key x) (key y) ≡ true = total (key y) (key x) e in ((l, e, before_below (key x) (key y) l ys h.0), h))
      ]) refl

pub none_of : {X : Type 0} (o : Option X) → is_some o ≡ false → o ≡ None
none_of None h = refl
none_of (Some x) h = let z : ◌≡◌ {A = ℕ} 0 1 = cc in absurd (omega arith)
