-- The first number at which a test holds, and the refusal there.
use Rattle.std.proofs.Common.{◌≡◌, ℕ, ◌+◌, ◌-◌, ◌<◌, ◌≤◌, Bool, true, false, None, Option, sym, ap, ◌∙◌, subst, arith}
use Rattle.std.specs.Prelude.{IsTrue, IfSome, IsSomeAnd}
use Rattle.std.specs.Iterator.Runs.{SomeRun, CallKeepsClosure, AllItemsGive, IsFirstToGive}
use Rattle.std.specs.declared.ops.Range.{Range}
use Rattle.std.proofs.iter.Yields.{nat_range_steps}
use Rattle.std.proofs.iter.runs.Sources.{range_runs}
use denote.Param.Members.{Mut, Called}
use Rattle.refusal.specs.declared.Refusal.{Refusal}
use Rattle.refusal.specs.declared.Reason.{Reason}
use Rattle.pairs.specs.Checks.{first_fault}
use Rattle.pairs.proofs.Faults.{all_none, at_number, first_here}
use Rattle.completion.specs.Checks.{refuse_if}

module _ (test : ℕ → Bool) (why : Reason) (n : ℕ) {F : Type 0} {g : Mut F (ℕ × Unit {0}) Bool} {f : F} (keeps : CallKeepsClosure g f)
    (gives : (k : ℕ) (b : Bool) → k < n → Called g f (k, tt) b f → b ≡ test k) where
  abbrev fault : ℕ → Option Refusal
  fault i = refuse_if (test i) why i

  abbrev Start : Range ℕ
  Start = record { start = 0; end = n }

  at : (b : Bool) (k : ℕ) → k < n → Called g f (k, tt) b f → fault k ≡ refuse_if b why k
  at b k h c = ap (λ (t : Bool). refuse_if t why k) (sym (gives k b h c))

  pub none_refused : SomeRun nat_range_steps Start (λ p. IsTrue p.whole × AllItemsGive p g f false) → first_fault fault n ≡ None
  none_refused (p, from, (whole, all)) =
      let long : p.len ≡ n - 0 = (range_runs p p.seen).1 whole ∙ ap (λ (s : Range ℕ). s.end - s.start) from in
      all_none fault n (λ k h. at false k h (subst (λ o. IfSome o (λ x. Called g f (x, tt) false f)) (at_number p n k from (omega arith)) (all keeps k)))

  pub first_refused : (i : ℕ) → SomeRun nat_range_steps Start (λ p. (p.len ≡ i + 1) × IsFirstToGive p g f true false i) → first_fault fault n ≡ refuse_if true why i
  first_refused i (p, from, (last, first)) =
      let short : p.len ≤ n - 0 = subst (λ m. p.len ≤ m) (ap (λ (s : Range ℕ). s.end - s.start) from) (range_runs p p.seen).0 in
      let given = first keeps in
      first_here fault i n _
      (all_none fault i (λ k h. at false k (omega arith) (subst (λ o. IsSomeAnd o (λ x. Called g f (x, tt) false f)) (at_number p n k from (omega arith)) (given.1 k h))))
      (at true i (omega arith) (subst (λ o. IsSomeAnd o (λ x. Called g f (x, tt) true f)) (at_number p n i from (omega arith)) given.0))
      (omega arith)
