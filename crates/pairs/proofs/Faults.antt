-- The first fault of a check that goes place by place.
use Rattle.std.specs.Prelude.{MatchOption, IsTrue, IfSome, IsSomeAnd}
use Rattle.std.specs.Fn.{Called}
use Rattle.std.specs.Iterator.Runs.{Run, SomeRun, AllItemsGive, IsFirstToGive}
use Rattle.std.proofs.iter.Yields.{nat_range_steps}
use Rattle.std.proofs.iter.runs.Sources.{range_runs}
use Rattle.std.specs.declared.ops.Range.{Range}
use denote.Param.Members.{Mut}
use Rattle.std.proofs.Common.{sym, ◌≡◌, ℕ, zero, suc, ◌+◌, ◌-◌, ◌≤◌, ◌<◌, Bool, false, Some, None, Option, refl, ap, ◌∙◌, subst, arith}
use Rattle.std.specs.Option.{option_or}
use Rattle.refusal.specs.declared.Reason.{Reason}
use Rattle.refusal.specs.declared.Refusal.{Refusal}
use Rattle.pairs.specs.Checks.{first_fault, refuse_if}

-- neither gives a refusal
pub none_both : (a b : Option Refusal) → option_or a b ≡ None → (a ≡ None) × (b ≡ None)
none_both a b h = grind arith

pub let_pass : (test : Bool) (why : Reason) (place : ℕ) → refuse_if test why place ≡ None → test ≡ false
let_pass test why place h = grind arith

pub both_pass : (a b : Bool) (why other : Reason) (i : ℕ) → option_or (refuse_if a why i) (refuse_if b other i) ≡ None → (a ≡ false) × (b ≡ false)
both_pass a b why other i h = grind arith

-- a run over the numbers below n has at each place the number of the place
pub at_number : (p : Run nat_range_steps) (n k : ℕ) → p.from ≡ record { start = 0; end = n } → k < p.len → p.at k ≡ Some k
at_number p n k from lt = grind (arith, range_runs)

module _ (fault : ℕ → Option Refusal) where
  -- none up to i and one at i: that is the first
  pub first_here : (i n : ℕ) (e : Refusal) → first_fault fault i ≡ None → fault i ≡ Some e → i < n → first_fault fault n ≡ Some e
  first_here i zero e before here lt = absurd (omega arith)
  first_here i (suc n) e before here lt = grind (arith, first_here i n)

  pub all_none : (n : ℕ) → ((k : ℕ) → k < n → fault k ≡ None) → first_fault fault n ≡ None
  all_none zero none = refl
  all_none (suc n) none = grind (arith, all_none n)

  -- `find_map` over the numbers below n gives the first fault, where its closure gives the fault at each number
  module _ {F : Type 0} {g : Mut F (ℕ × Unit {0}) (Option Refusal)} {f : F} (gives : (k : ℕ) (o : Option Refusal) (h : F) → Called g f (k, tt) o h → (h ≡ f) × (o ≡ fault k)) where
    pub first_found : {n : ℕ} {r : Option Refusal} → SomeRun nat_range_steps (record { start = 0; end = n }) (λ p. MatchOption r (IsTrue p.whole × AllItemsGive p g f None) (λ y. (i : ℕ) × (i < p.len) × (p.len ≡ i + 1) × IsFirstToGive p g f (Some y) None i)) → r ≡ first_fault fault n
    first_found {n = n} {r = None} (p, from, (whole, all)) =
        let long : p.len ≡ n - 0 = (range_runs p p.seen).1 whole ∙ ap (λ (s : Range ℕ). s.end - s.start) from in
        sym (all_none n (λ k lt. sym (gives k None f (subst (λ o. IfSome o (λ x. Called g f (x, tt) None f)) (at_number p n k from (omega arith)) (all (λ a o h c. (gives a.0 o h c).0) k))).1))
    first_found {n = n} {r = Some e} (p, from, (i, lt, last, first)) =
        let short : p.len ≤ n - 0 = subst (λ m. p.len ≤ m) (ap (λ (s : Range ℕ). s.end - s.start) from) (range_runs p p.seen).0 in
        let given = first (λ a o h c. (gives a.0 o h c).0) in
        let here : Called g f (i, tt) (Some e) f = subst (λ o. IsSomeAnd o (λ x. Called g f (x, tt) (Some e) f)) (at_number p n i from lt) given.0 in
        let before : (k : ℕ) → k < i → fault k ≡ None = λ k less. sym (gives k None f (subst (λ o. IsSomeAnd o (λ x. Called g f (x, tt) None f)) (at_number p n k from (omega arith)) (given.1 k less))).1 in
        sym (first_here i n e (all_none i before) (sym (gives i (Some e) f here).1) (omega arith))

  -- where there is none up to n, there is none at any place below
  pub none_at : (n i : ℕ) → first_fault fault n ≡ None → i < n → fault i ≡ None
  none_at zero i none lt = absurd (omega arith)
  none_at (suc n) i none lt = grind (arith, none_at n)
