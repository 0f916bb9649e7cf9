-- What is wrong with a list of places that is given as a set, in the order in which it is told.
use Rattle.std.specs.Prelude.{ℕ, ◌-◌, Bool, cond, not, ◌&&◌, ◌||◌, List, length, take, Some, None, Option, ◌==◌, nat_le, nat_lt, slice_index}
use Rattle.std.specs.Option.{option_or}
use Rattle.refusal.specs.Refusals.{refused}
use Rattle.refusal.specs.declared.Layer.TheVariants.{Walk}
use Rattle.refusal.specs.declared.Reason.{Reason}
use Rattle.refusal.specs.declared.Reason.TheVariants.{BadList, NotPartners, NotMaximal}
use Rattle.refusal.specs.declared.Refusal.{Refusal}
use Rattle.cliques.specs.Graph.{Graph}
use Rattle.cliques.specs.Sets.{every, places, partner_of_all}
use Rattle.pairs.specs.Checks.{first_fault}

-- the walk's refusal for the reason, at the index, where the test holds
abbrev pub refuse_if : Bool → Reason → ℕ → Option Refusal
refuse_if test why i = cond test (Some (refused why Walk i)) None

-- the entry at i is at or beyond the size, or is not above the one before it
abbrev pub misplaced : ℕ → List ℕ → ℕ → Bool
misplaced size X i = nat_le size (slice_index X i) || (nat_lt 0 i && nat_le (slice_index X i) (slice_index X (i - 1)))

abbrev pub place_fault : ℕ → List ℕ → ℕ → Option Refusal
place_fault size X i = refuse_if (misplaced size X i) BadList i

-- the entry at i is no partner of some earlier one
abbrev pub stranger : Graph → List ℕ → ℕ → Bool
stranger g X i = not (partner_of_all g (slice_index X i) (take i X))

abbrev pub stranger_fault : Graph → List ℕ → ℕ → Option Refusal
stranger_fault g X i = refuse_if (stranger g X i) NotPartners i

-- some place is a partner of every entry
abbrev pub can_grow : Graph → List ℕ → Bool
can_grow g X = not (every (λ w. not (partner_of_all g w X)) (places g.size))

-- why the list is refused as a clique, or none: it is empty, an entry is misplaced, two members are no partners
abbrev pub set_fault : Graph → List ℕ → Option Refusal
set_fault g X =
    option_or (refuse_if (length X == 0) BadList 0)
    (option_or (first_fault (place_fault g.size X) (length X))
    (first_fault (stranger_fault g X) (length X)))

-- why it is refused as a maximal clique, or none: the same, and then that a place can join
abbrev pub maximal_fault : Graph → List ℕ → Option Refusal
maximal_fault g X = option_or (set_fault g X) (refuse_if (can_grow g X) NotMaximal 0)
