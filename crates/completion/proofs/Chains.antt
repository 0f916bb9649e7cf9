-- What chains of iterators give, in the words of the theory.
use Rattle.std.proofs.Common.{◌≡◌, ℕ, zero, suc, ◌+◌, ◌-◌, Bool, true, false, cond, not, ◌&&◌, ◌||◌, ltb, List, [], ◌∷◌, ◌++◌, refl, sym, ap, ◌∙◌, subst, Some, None, Option, ◌<◌, ◌≤◌, arith}
use Rattle.std.specs.Iterator.{ChecksAny}
use Rattle.std.proofs.lemmas.Iterator.{YieldsList-from_range}
use Rattle.std.proofs.lemmas.Iterator.Search.{any_from_yields_List}
use Rattle.std.specs.Iterator.Runs.{Run, SomeRun, CallKeepsClosure, AllItemsGive, IsFirstToGive}
use Rattle.std.specs.declared.ops.Range.{Range}
use Rattle.std.proofs.iter.Yields.{nat_range_steps}
use Rattle.std.proofs.iter.runs.Sources.{range_runs}
use Rattle.std.proofs.lemmas.Iterator.Adapters.{option_map_id}
use denote.Param.Members.{Mut, Called}
use Rattle.std.specs.Bool.{then_some, IsTrue}
use Rattle.std.specs.Option.{unwrap_or, MatchOption, option_map, IfSome, IsSomeAnd}
use Rattle.cliques.specs.Graph.{Graph}
use Rattle.cliques.specs.Shortcuts.{barrier}
use Rattle.std.specs.List.{list_any, list_all, find, range_with_len}
use Rattle.cliques.specs.Sets.{every, first_of, places}

pub all_every : (p : ℕ → Bool) (L : List ℕ) → list_all p L ≡ every p L
all_every p [] = refl
all_every p (x ∷ xs) = ap (λ b. p x && b) (all_every p xs)

not_or : (b c : Bool) → not (b || c) ≡ (not b && not c)
not_or true c = refl
not_or false c = refl

none_every : (p : ℕ → Bool) (L : List ℕ) → not (list_any p L) ≡ every (λ x. not (p x)) L
none_every p [] = refl
none_every p (x ∷ xs) = not_or (p x) (list_any p xs) ∙ ap (λ b. not (p x) && b) (none_every p xs)

range_end : (a n : ℕ) → range_with_len a (suc n) ≡ range_with_len a n ++ ((a + n) ∷ [])
range_end a zero = let e : a ≡ a + 0 = omega arith in ap (λ (x : ℕ). x ∷ []) e
range_end a (suc n) =
    let e : a + 1 + n ≡ a + suc n = omega arith in
    ap (λ (t : List ℕ). a ∷ t) (range_end (a + 1) n ∙ ap (λ (x : ℕ). range_with_len (a + 1) n ++ (x ∷ [])) e)

-- a range from 0 goes through the places
range_places : (n : ℕ) → range_with_len 0 n ≡ places n
range_places zero = refl
range_places (suc n) =
    let e : 0 + n ≡ n = omega arith in
    range_end 0 n ∙ (ap (λ (x : ℕ). range_with_len 0 n ++ (x ∷ [])) e ∙ ap (λ (t : List ℕ). t ++ (n ∷ [])) (range_places n))

none_places : (p : ℕ → Bool) (n : ℕ) → not (list_any p (range_with_len 0 n)) ≡ every (λ x. not (p x)) (places n)
none_places p n = none_every p (range_with_len 0 n) ∙ ap (every (λ x. not (p x))) (range_places n)

twice_not : (b : Bool) → not (not b) ≡ b
twice_not true = refl
twice_not false = refl

-- `any` over the places below n
module _ {F : Type 0} {g : Mut F (ℕ × Unit {0}) Bool} {f : F} (p : ℕ → Bool) {k n : ℕ} {r : Bool} {u : Range ℕ} (size : k ≡ n)
    (ran : ChecksAny nat_range_steps g (record { start = 0; end = k }) f r u) (gives : (x : ℕ) (b : Bool) (q : F) → Called g f (x, tt) b q → (q ≡ f) × (b ≡ p x)) where
  pub none_below : not r ≡ every (λ x. not (p x)) (places n)
  none_below =
      ap not (any_from_yields_List p u f r ran (YieldsList-from_range 0 k n refl (omega (arith, size))) gives)
      ∙ none_places p n

  pub any_below : r ≡ not (every (λ x. not (p x)) (places n))
  any_below = sym (twice_not r) ∙ ap not none_below

first_find : (p : ℕ → Bool) (L : List ℕ) → unwrap_or (find p L) 0 ≡ first_of p L
first_find p [] = refl
first_find p (x ∷ xs) = by (p x) (first_find p xs)
  where
    by : (b : Bool) → unwrap_or (find p xs) 0 ≡ first_of p xs → unwrap_or (cond b (Some x) (find p xs)) 0 ≡ cond b x (first_of p xs)
    by true h = refl
    by false h = h

-- the first member that is no partner, where it lies above x; else 0
module _ (g : Graph) (K : List ℕ) (x : ℕ) where
  abbrev kept : ℕ → ℕ
  kept u = cond (ltb x u) u 0

  some_above : (y : ℕ) (b : Bool) → b ≡ ltb x y → unwrap_or (then_some b y) 0 ≡ kept y
  some_above y b e = ap (λ (t : Bool). unwrap_or (then_some t y) 0) e ∙ by (ltb x y)
    where
      by : (t : Bool) → unwrap_or (then_some t y) 0 ≡ cond t y 0
      by true = refl
      by false = refl

  same_either : (t : Bool) (z : ℕ) → z ≡ cond t z z
  same_either true z = refl
  same_either false z = refl

  passed : (Q : ℕ → Bool → Type 0) → ((y : ℕ) (b : Bool) → Q y b → b ≡ ltb x y) → (r f : Option ℕ)
      → MatchOption r (f ≡ None) (λ y. (b : Bool) × Q y b × (f ≡ then_some b y)) → unwrap_or f 0 ≡ kept (unwrap_or r 0)
  passed Q above None f q = ap (λ (o : Option ℕ). unwrap_or o 0) q ∙ same_either (ltb x 0) 0
  passed Q above (Some y) f q = ap (λ (o : Option ℕ). unwrap_or o 0) q.2 ∙ some_above y q.0 (above y q.0 q.1)

  pub barrier_found : (Q : ℕ → Bool → Type 0) (r f : Option ℕ) (u : ℕ) → r ≡ find (λ y. not (g.partners x y)) K
      → MatchOption r (f ≡ None) (λ y. (b : Bool) × Q y b × (f ≡ then_some b y)) → u ≡ unwrap_or f 0
      → ((y : ℕ) (b : Bool) → Q y b → b ≡ ltb x y) → u ≡ barrier g K x
  barrier_found Q r f u e q h above =
      let p = λ (y : ℕ). not (g.partners x y) in
      h ∙ (passed Q above r f q ∙ ap kept (ap (λ (o : Option ℕ). unwrap_or o 0) e ∙ first_find p K))

at_from : {A : Type 0} (o : Option A) (x : A) → option_map (λ y. y) o ≡ Some x → o ≡ Some x
at_from o x e = sym (option_map_id o) ∙ e

-- `find_map` over a range, said of the numbers in it
module _ {F B : Type 0} (g : Mut F (ℕ × Unit {0}) (Option B)) (f : F) (h : ℕ → Option B) (same : (x : ℕ) (y : Option B) (q : F) → Called g f (x, tt) y q → (q ≡ f) × (y ≡ h x)) where
  keeps : CallKeepsClosure g f
  keeps a r q k = (same a.0 r q k).0

  module _ (p : Run nat_range_steps) where
    item : (k : ℕ) → p.from.start ≤ k → k - p.from.start < p.len → p.at (k - p.from.start) ≡ Some k
    item k lo l =
        let e : p.from.start + (k - p.from.start) ≡ k = omega arith in
        at_from (p.at (k - p.from.start)) k ((range_runs p p.seen).3 (k - p.from.start) l ∙ ap Some e)

    none_in : p.whole ≡ true → AllItemsGive p g f None → (k : ℕ) → p.from.start ≤ k → k < p.from.end → h k ≡ None
    none_in w all k lo hi =
        let n : p.len ≡ p.from.end - p.from.start = (range_runs p p.seen).1 w in
        let e = item k lo (omega arith) in
        sym (same k None f (subst (λ (o : Option ℕ). IfSome o (λ x. Called g f (x, tt) None f)) e (all keeps (k - p.from.start)))).1

    some_in : (y : B) (i : ℕ) → i < p.len → IsFirstToGive p g f (Some y) None i
        → (v : ℕ) × (p.from.start ≤ v) × (v < p.from.end) × (h v ≡ Some y) × ((k : ℕ) → p.from.start ≤ k → k < v → h k ≡ None)
    some_in y i l first =
        let v : ℕ = p.from.start + i in
        let n = (range_runs p p.seen).0 in
        let a : v - p.from.start ≡ i = omega arith in
        let e : p.at i ≡ Some v = ap p.at (sym a) ∙ item v (omega arith) (omega arith) in
        let both = first keeps in (
          v,
          omega arith,
          omega arith,
          sym (same v (Some y) f (subst (λ (o : Option ℕ). IsSomeAnd o (λ x. Called g f (x, tt) (Some y) f)) e both.0)).1,
          λ k lo hi. let q = item k lo (omega arith) in
              sym (same k None f (subst (λ (o : Option ℕ). IsSomeAnd o (λ x. Called g f (x, tt) None f)) q (both.1 (k - p.from.start) (omega arith)))).1,
        )

  pub first_mapped : (s : Range ℕ) (r : Option B)
      → SomeRun nat_range_steps s (λ p. MatchOption r (IsTrue p.whole × AllItemsGive p g f None) (λ y. (i : ℕ) × (i < p.len) × (p.len ≡ i + 1) × IsFirstToGive p g f (Some y) None i))
      → MatchOption r ((k : ℕ) → s.start ≤ k → k < s.end → h k ≡ None)
      (λ y. (v : ℕ) × (s.start ≤ v) × (v < s.end) × (h v ≡ Some y) × ((k : ℕ) → s.start ≤ k → k < v → h k ≡ None))
  first_mapped s None m = subst (λ (t : Range ℕ). (k : ℕ) → t.start ≤ k → k < t.end → h k ≡ None) m.1 (none_in m.0 m.2.0 m.2.1)
  first_mapped s (Some y) m =
      subst (λ (t : Range ℕ). (v : ℕ) × (t.start ≤ v) × (v < t.end) × (h v ≡ Some y) × ((k : ℕ) → t.start ≤ k → k < v → h k ≡ None)) m.1
      (some_in m.0 y m.2.0 m.2.1 m.2.3)
