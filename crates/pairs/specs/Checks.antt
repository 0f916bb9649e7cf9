-- What the checks of lent lists of places tell.
use Rattle.std.specs.Prelude.{ℕ, zero, suc, Bool, false, cond, ◌||◌, List, [], ◌∷◌, Some, None, Option, ◌==◌}
use Rattle.std.specs.Option.{option_or}
use Rattle.refusal.specs.Refusals.{refused}
use Rattle.refusal.specs.declared.Layer.TheVariants.{Table}
use Rattle.refusal.specs.declared.Reason.{Reason}
use Rattle.refusal.specs.declared.Refusal.{Refusal}

-- whether the place stands in the list
abbrev pub stands : List ℕ → ℕ → Bool
stands [] place = false
stands (x ∷ xs) place = x == place || stands xs place

-- the table's refusal for the reason, at the place, where the test holds
abbrev pub refuse_if : Bool → Reason → ℕ → Option Refusal
refuse_if test why place = cond test (Some (refused why Table place)) None

-- the first refusal of a check that goes through the numbers below n from 0 up, or none
abbrev pub first_fault : (ℕ → Option Refusal) → ℕ → Option Refusal
first_fault fault zero = None
first_fault fault (suc n) = option_or (first_fault fault n) (fault n)
