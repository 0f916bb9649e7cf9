-- That the keys rise is one fact: it has one proof at most.
use Rattle.std.proofs.Common.{Bool, List, [], ◌∷◌}
use mathlib.Core.Bool.{Bool-set}
use mathlib.Core.HLevel.{×_prop, Unit-prop}
use Rattle.sorted.specs.Keyed.{Rising, Before}

module _ {X K : Type 0} (upto : K → K → Bool) (key : X → K) where
  before_single : (k : K) (xs : List X) → IsProp (Before upto key k xs)
  before_single k [] = Unit-prop
  before_single k (y ∷ ys) = λ a b i. (Bool-set _ _ a.0 b.0 i, Bool-set _ _ a.1 b.1 i, before_single k ys a.2 b.2 i)

  pub rising_single : (xs : List X) → IsProp (Rising upto key xs)
  rising_single [] = Unit-prop
  rising_single (y ∷ ys) = ×_prop (before_single (key y) ys) (rising_single ys)
