-- Changes of an open book: the checks in their order, and what is then held.
use Rattle.std.specs.Prelude.{◌≡◌, ℕ, ◌<◌, Bool, true, false, cond, not, ◌&&◌, ◌||◌, List, [], ◌∷◌, length, drop, is_some, Some, None, Ok, Err, Option, Result, ◌==◌, nat_le, nat_lt, slice_index_or, slice_set}
use Rattle.refusal.specs.Refusals.{refused}
use Rattle.refusal.specs.declared.Layer.TheVariants.{Book as BookLayer}
use Rattle.refusal.specs.declared.Reason.{Reason}
use Rattle.refusal.specs.declared.Reason.TheVariants.{OutOfSection, SelfPair, Repeated, BadList, ShortSpace, Missing}
use Rattle.refusal.specs.declared.Refusal.{Refusal}
use Rattle.format.specs.Grammar.{same_pair}
use Rattle.format.specs.Rules.{first_broken}
use Rattle.book.specs.declared.open.OpenBook.{OpenBook}
use Rattle.book.specs.Marks.{marked, tells}

-- fewer than 256 cards or 4,080 mark bytes
abbrev pub short_spaces : ℕ → ℕ → Bool
short_spaces cards marks = nat_lt cards 256 || nat_lt marks 4080

-- there is no card at the place
abbrev pub beyond : OpenBook → ℕ → Bool
beyond o u = nat_le o.count u || nat_le 256 u

-- the first rule that a change breaks is its refusal, with place 0
abbrev pub answering : Option Reason → Result (Unit {0}) Refusal
answering (Some why) = Err (refused why BookLayer 0)
answering None = Ok tt

-- a pair set (add) or struck: spaces long enough, no rule, two places of cards, two different ones, not marked yet, marked
abbrev pub pair_fault : OpenBook → ℕ → List ℕ → ℕ → ℕ → Bool → Option Reason
pair_fault o cards ms u v add = first_broken (
    (ShortSpace, short_spaces cards (length ms))
    ∷ (OutOfSection, is_some o.notes.rule)
    ∷ (BadList, beyond o u || beyond o v)
    ∷ (SelfPair, (u == v))
    ∷ (Repeated, add && tells ms u v)
    ∷ (Missing, not add && not (tells ms u v)) ∷ [])

-- a roll withdrawn (gone) or taken back: spaces long enough, the place of a card, not withdrawn yet, withdrawn
abbrev pub roll_fault : OpenBook → ℕ → ℕ → ℕ → Bool → Option Reason
roll_fault o cards marks u gone = first_broken (
    (ShortSpace, short_spaces cards marks)
    ∷ (BadList, beyond o u)
    ∷ (Repeated, gone && slice_index_or o.notes.withdrawn u false)
    ∷ (Missing, not gone && not (slice_index_or o.notes.withdrawn u false)) ∷ [])

-- the book with the roll at a place withdrawn or taken back
abbrev pub with_roll : OpenBook → ℕ → Bool → OpenBook
with_roll o u gone = record { count = o.count; notes = record { rule = o.notes.rule; withdrawn = slice_set o.notes.withdrawn u gone } }

-- the marks after a change of one pair: that pair is told or not, every other as before, and what lies past the marks stays
pub record OnePair (u v : ℕ) (add : Bool) (ms ms' : List ℕ) : Type 0 where
  pub size : length ms' ≡ length ms
  pub pairs : (x y : ℕ) → x < y → y < 256 → marked ms' x y ≡ cond (same_pair x y (u, v)) add (marked ms x y)
  pub beyond : drop 4080 ms' ≡ drop 4080 ms

-- a change that is made, or refused
abbrev pub PairChanged : Bool → ℕ → ℕ → Bool → List ℕ → List ℕ → Type 0
PairChanged true u v add ms ms' = OnePair u v add ms ms'
PairChanged false u v add ms ms' = ms' ≡ ms
