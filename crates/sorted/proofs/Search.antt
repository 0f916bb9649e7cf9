-- Where a search by halves ends among records that rise.
use Rattle.std.proofs.Common.{◌≡◌, ℕ, zero, suc, ◌<◌, ◌≤◌, Bool, true, false, ◌&&◌, List, [], ◌∷◌, length, get_or, Result, Ok, Err, Some, None, refl, sym, ap, ◌∙◌, inl, inr, arith, cond, ltb, le-ltb, lt-ltb, ltb-true, ltb-false}
use Rattle.std.proofs.lemmas.Bool.{both_ways, cases_Bool, cases_eq, and_parts}
use Rattle.std.proofs.lemmas.List.Sums.{prefix_len_is, position_or_len_is}
use Rattle.std.specs.declared.cmp.Ordering.{Ordering}
use Rattle.std.specs.declared.cmp.Ordering.TheVariants.{Less, Equal, Greater}
use Rattle.std.specs.List.{position}
use Rattle.std.specs.List.Sorted.{IsPartitionPoint, IsPartitionedBy, IsBinarySearchResult, IsSearchInRange, IsNonDecreasingBy}
use Rattle.std.specs.Ordering.{is_eq, ordering_index}
use Rattle.std.specs.Result.{result_ok}
use Rattle.sorted.specs.Keyed.{front, comparison, tie, of_key, up_to_key, Rising, Before}
use Rattle.sorted.proofs.Front.{front_is}

module _ {X K : Type 0} (upto : K → K → Bool) (key : X → K) where
  before_at : (k : K) (xs : List X) (j : ℕ) (d : X) → j < length xs → Before upto key k xs → (upto k (key (get_or xs j d)) ≡ true) × (upto (key (get_or xs j d)) k ≡ false)
  before_at k [] j d l b = absurd (omega arith)
  before_at k (x ∷ xs) zero d l b = (b.0, b.1)
  before_at k (x ∷ xs) (suc j) d l b = before_at k xs j d (omega arith) b.2

  rising_at : (xs : List X) (i j : ℕ) (d : X) → i < j → j < length xs → Rising upto key xs → (upto (key (get_or xs i d)) (key (get_or xs j d)) ≡ true) × (upto (key (get_or xs j d)) (key (get_or xs i d)) ≡ false)
  rising_at [] i j d l m h = absurd (omega arith)
  rising_at (x ∷ xs) i zero d l m h = absurd (omega arith)
  rising_at (x ∷ xs) zero (suc j) d l m h = before_at (key x) xs j d (omega arith) h.0
  rising_at (x ∷ xs) (suc i) (suc j) d l m h = rising_at xs i j d (omega arith) (omega arith) h.1

-- the place that the partition point tells
pub front_at : {X : Type 0} (p : X → Bool) (xs : List X) (i : ℕ) → i ≤ length xs → IsPartitionPoint (λ y. p y ≡ true) (λ y. p y ≡ false) xs i → i ≡ front p xs
front_at p [] i l h = omega arith
front_at p (x ∷ xs) i l h = sym (front_is p (x ∷ xs) ∙ prefix_len_is p (x ∷ xs) i x l (λ k m. h.0 k x (omega arith) m) (λ m. h.1 i x (omega arith) m))

-- a comparison, by whether each of the two comes before the other or ties with it
abbrev answer : Bool → Bool → Ordering
answer p q = cond p (cond q Equal Less) Greater

-- the answers rise where both tests say that they do
answers_rise : (p q s t : Bool) → (s ≡ true → p ≡ true) → (q ≡ true → t ≡ true) → ordering_index (answer p q) ≤ ordering_index (answer s t)
answers_rise true true true true f g = omega arith
answers_rise true true true false f g = absurd (both_ways _ refl (g refl))
answers_rise true true false t f g = omega arith
answers_rise true false true true f g = omega arith
answers_rise true false true false f g = omega arith
answers_rise true false false t f g = omega arith
answers_rise false q true t f g = absurd (both_ways _ refl (f refl))
answers_rise false q false t f g = omega arith

both_equal : (p q : Bool) → (p && q) ≡ is_eq (answer p q)
both_equal true true = refl
both_equal true false = refl
both_equal false q = refl

module _ {X K : Type 0} (upto : K → K → Bool) (trans : (x y z : K) → upto x y ≡ true → upto y z ≡ true → upto x z ≡ true) (key : X → K) (k : K) where
  -- the records up to the key stand before the others
  pub parted : (xs : List X) → Rising upto key xs → IsPartitionedBy (up_to_key upto key k) xs
  parted xs h i j d l m e = elim (cases_eq i j) [
    | inl same ↦ ap (λ n. upto (key (get_or xs n d)) k) same ∙ e
    | inr apart ↦ trans _ _ _ (rising_at upto key xs i j d (omega arith) m h).0 e
  ]

  rises : (xs : List X) → Rising upto key xs → IsNonDecreasingBy (λ y. ordering_index (comparison upto (key y) k)) xs
  rises xs h i j d l m = elim (cases_eq i j) [
    | inl same ↦ omega (arith, ap (λ n. ordering_index (comparison upto (key (get_or xs n d)) k)) same)
    | inr apart ↦
        let a = key (get_or xs i d) in
        let b = key (get_or xs j d) in
        let up = (rising_at upto key xs i j d (omega arith) m h).0 in
        answers_rise (upto a k) (upto k a) (upto b k) (upto k b) (λ e. trans a b k up e) (λ e. trans k a b e up)
  ]

  -- whether a key ties with k, by the answer of the comparison
  tie_by : (a : K) (r : Ordering) → comparison upto a k ≡ r → tie upto a k ≡ is_eq r
  tie_by a r e = both_equal (upto a k) (upto k a) ∙ ap is_eq e

  abbrev test : X → Bool
  test = of_key upto key k

  earlier : (xs : List X) (i : ℕ) (d : X) → i < length xs → Rising upto key xs → comparison upto (key (get_or xs i d)) k ≡ Equal → (j : ℕ) → j < i → test (get_or xs j d) ≡ false
  earlier xs i d l h e j m = elim (cases_Bool (test (get_or xs j d))) [
    | inl q ↦
        let b = key (get_or xs j d) in
        let a = key (get_or xs i d) in
        let tied = and_parts (upto a k) (upto k a) (tie_by a Equal e) in
        let below = trans a k b tied.0 (and_parts (upto b k) (upto k b) q).1 in
        absurd (both_ways _ (rising_at upto key xs j i d m l h).1 below)
    | inr q ↦ q
  ]

  -- the search by halves finds the place that a search from the front would
  pub found : (xs : List X) (r : Result ℕ ℕ) → Rising upto key xs → IsSearchInRange r (length xs) → IsBinarySearchResult (λ y. comparison upto (key y) k) xs r → result_ok r ≡ position test xs
  found [] (Ok i) h l s = absurd (omega arith)
  found [] (Err i) h l s = refl
  found (x ∷ xs) (Ok i) h l s =
      let zs = x ∷ xs in
      let n = position_or_len_is test zs i x (omega arith) (earlier zs i x l h (s x)) (λ _. tie_by _ _ (s x)) in
      sym (ap (λ m. cond (ltb m (length zs)) (Some m) None) n ∙ ap (λ c. cond c (Some i) None) (lt-ltb i (length zs) l))
  found (x ∷ xs) (Err i) h l s =
      let zs = x ∷ xs in
      let point = s (rises zs h) in
      let fails : (j : ℕ) → j < length zs → test (get_or zs j x) ≡ false = λ j m. elim (cases_Bool (ltb j i)) [
        | inl q ↦ tie_by _ _ (point.0 j x (omega arith) (ltb-true j i q))
        | inr q ↦ tie_by _ _ (point.1 j x (ltb-false j i q) m)
      ] in
      let n = position_or_len_is test zs (length zs) x (omega arith) fails (λ m. absurd (omega arith)) in
      sym (ap (λ m. cond (ltb m (length zs)) (Some m) None) n ∙ ap (λ c. cond c (Some (length zs)) None) (le-ltb (length zs) (length zs) (omega arith)))
