-- That a line holds the places that wait is one fact: it has one proof at most.
use Rattle.std.specs.Prelude.{◌≡◌, true, false, List, [], ◌∷◌, length}
use Rattle.std.proofs.Common.{sym, ap, ◌∙◌, subst, inl, inr}
use mathlib.Core.Bool.{Bool-set, true≢false}
use Rattle.sorted.specs.Keyed.{Rising, Before}
use Rattle.sorted.specs.Single.{rising_single}
use Rattle.order.specs.declared.tallies.Tally.{Tally}
use Rattle.order.specs.declared.waiting.Waiting.{Waiting}
use Rattle.order.specs.Lines.{upto, Among, Lined, key_of}
use native.Mathlib.Nat.{ℕ_set}

waiting_single : (w x : Waiting) → IsProp (w ≡ x)
waiting_single w x p q j i = record { tally = ℕ_set w.tally x.tally (λ k. (p k).tally) (λ k. (q k).tally) j i; place = ℕ_set w.place x.place (λ k. (p k).place) (λ k. (q k).place) j i }

-- the first of a rising list does not stand in the rest
apart : (x w : Waiting) (xs : List Waiting) → Before upto (λ z. z) x xs → w ≡ x → Among w xs → ⊥
apart x w [] b q m = m
apart x w (y ∷ ys) b q (inl r) = true≢false (sym (subst (λ z. upto x z ≡ true) (sym r ∙ q) b.0) ∙ subst (λ z. upto z x ≡ false) (sym r ∙ q) b.1)
apart x w (y ∷ ys) b q (inr m) = apart x w ys b.2 q m

among_single : (w : Waiting) (W : List Waiting) → Rising upto (λ z. z) W → IsProp (Among w W)
among_single w [] r a b = absurd a
among_single w (x ∷ xs) r (inl p) (inl q) = ap inl (waiting_single w x p q)
among_single w (x ∷ xs) r (inl p) (inr n) = absurd (apart x w xs r.0 p n)
among_single w (x ∷ xs) r (inr m) (inl q) = absurd (apart x w xs r.0 q m)
among_single w (x ∷ xs) r (inr m) (inr n) = ap inr (among_single w xs r.1 m n)

pub lined_single : (R : List Tally) (W : List Waiting) → IsProp (Lined R W)
lined_single R W s t i = record {
  wide = ℕ_set (length R) 256 s.wide t.wide i;
  rising = rising_single upto (λ w. w) W s.rising t.rising i;
  only = λ w m. (Bool-set _ _ (s.only w m).0 (t.only w m).0 i, ℕ_set _ _ (s.only w m).1 (t.only w m).1 i);
  all = λ v h. among_single (key_of R v) W s.rising (s.all v h) (t.all v h) i;
}
