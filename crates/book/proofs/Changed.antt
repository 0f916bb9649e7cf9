-- One pair is changed, and no other.
use Rattle.std.proofs.Common.{◌≡◌, ℕ, ◌<◌, ◌≤◌, Bool, true, false, cond, not, List, length, sym, refl, ap, ◌∙◌, rules}
use mathlib.Core.Bool.{beq}
use Rattle.std.proofs.Math.Bool.{not-not}
use Rattle.std.proofs.lemmas.List.{drop-set-lt}
use Rattle.format.specs.Grammar.{same_pair}
use Rattle.format.proofs.Logic.{clash}
use Rattle.book.specs.Changes.{OnePair}
use Rattle.book.specs.Marks.{flipped, marked, toggled}
use Rattle.book.proofs.Agrees.{same_had, same_own}
use Rattle.book.proofs.Pairs.{bit_below, toggled_other, toggled_own, toggled_whole}

pub other : (t add : Bool) → beq t add ≡ false → t ≡ not add
other t add e = search rules

pub one_pair : (ms : List ℕ) (u v : ℕ) (add : Bool) → 4080 ≤ length ms → u < 256 → v < 256 → (u ≡ v → ⊥) → marked ms u v ≡ not add → OnePair u v add ms (toggled ms u v)
unfolding flipped
one_pair ms u v add l p q ne t = record { size = toggled_whole ms u v; pairs = λ x y k m. at x y k (same_pair x y (u, v)) refl; beyond = drop-set-lt 4080 ms _ _ (bit_below u v p q ne) }
  where
    at : (x y : ℕ) → x < y → (b : Bool) → same_pair x y (u, v) ≡ b → marked (toggled ms u v) x y ≡ cond b add (marked ms x y)
    at x y k true e = toggled_own ms u v l p q ne x y k (same_had u v x y e) ∙ ap not t ∙ not-not add
    at x y k false e = toggled_other ms u v l p q ne x y k (λ s. clash (sym (same_own u v x y s) ∙ e))
