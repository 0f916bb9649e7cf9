-- What is fixed for each reason, the refusals made of it, and how one is printed.
use Rattle.std.specs.Prelude.{ℕ, Bool, true, false, cond, List, ◌++◌, Some, None, codes, decimal, Option}
use Rattle.refusal.specs.declared.Layer.{Layer}
use Rattle.refusal.specs.declared.Layer.TheVariants.{Book, Table, Shelf, Walk}
use Rattle.refusal.specs.declared.Reason.{Reason}
use Rattle.refusal.specs.declared.Reason.TheVariants.{Truncated, UnknownKind, OutOfSection, OutOfRange, DuplicateStamp, UnknownStamp, SelfPair, Repeated, TooMany, BadList, NotPartners, NotMaximal, Exhausted, NothingStanding, ShortSpace, Full, TooLong, Missing, OneSided}
use Rattle.refusal.specs.declared.Refusal.{Refusal}

-- what a reason fixes: its number, and whether a refusal for it points at a place
pub record Fixed : Type 0 where
  pub number : ℕ
  pub points : Bool

-- a reason that points at a place, and one that always tells 0
abbrev pub pointing : ℕ → Fixed
pointing n = record { number = n; points = true }

abbrev pub placeless : ℕ → Fixed
placeless n = record { number = n; points = false }

abbrev pub fixed : Reason → Fixed
fixed Truncated = pointing 1
fixed UnknownKind = pointing 2
fixed OutOfSection = pointing 3
fixed OutOfRange = pointing 4
fixed DuplicateStamp = pointing 5
fixed UnknownStamp = pointing 6
fixed SelfPair = pointing 7
fixed Repeated = pointing 8
fixed TooMany = pointing 9
fixed BadList = pointing 10
fixed NotPartners = pointing 11
fixed NotMaximal = placeless 12
fixed Exhausted = placeless 13
fixed NothingStanding = placeless 14
fixed ShortSpace = pointing 15
fixed Full = placeless 16
fixed TooLong = placeless 17
fixed Missing = placeless 18
fixed OneSided = pointing 19

abbrev pub number_of : Reason → ℕ
number_of why = (fixed why).number

-- a refusal at a place, over what the layer below told
abbrev pub refused_over : Reason → Layer → ℕ → Option Reason → Refusal
refused_over why layer place below = record { reason = why; layer = layer; place = cond (fixed why).points place 0; below = below }

-- a refusal that rests on nothing from below
abbrev pub refused : Reason → Layer → ℕ → Refusal
refused why layer place = refused_over why layer place None

-- the number from the layer below, or 0
abbrev pub below_number : Refusal → ℕ
below_number r = elim r.below [ Some why ↦ number_of why | None ↦ 0 ]

abbrev pub layer_name : Layer → List ℕ
layer_name Book = codes "book"
layer_name Table = codes "table"
layer_name Shelf = codes "shelf"
layer_name Walk = codes "walk"

-- the line that is printed of a refusal
abbrev pub line : Refusal → List ℕ
line r = codes "refused " ++ (decimal (number_of r.reason) ++ (codes " in " ++ (layer_name r.layer ++ (codes " at " ++ decimal r.place))))
