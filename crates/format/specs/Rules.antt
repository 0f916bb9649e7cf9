-- The rules that a record has to keep, in the order in which they are checked, and the reading of a book by them.
use Rattle.std.specs.Prelude.{ℕ, zero, suc, ◌+◌, ◌-◌, Bool, cond, not, ◌&&◌, List, [], ◌∷◌, ◌++◌, length, is_some, Some, None, Ok, Err, Option, Result, ◌==◌, nat_le}
use Rattle.std.specs.Option.{unwrap_or}
use Rattle.refusal.specs.Refusals.{number_of, refused_over}
use Rattle.refusal.specs.declared.Layer.TheVariants.{Book as BookLayer}
use Rattle.refusal.specs.declared.Reason.{Reason}
use Rattle.refusal.specs.declared.Reason.TheVariants.{Truncated, UnknownKind, OutOfSection, OutOfRange, DuplicateStamp, UnknownStamp, SelfPair, Repeated, TooMany}
use Rattle.refusal.specs.declared.Refusal.{Refusal}
use Rattle.format.specs.declared.card.Card.{Card}
use Rattle.format.specs.declared.card.Rule.{Rule}
use Rattle.format.specs.declared.records.Record.{Record}
use Rattle.format.specs.declared.records.Record.TheVariants.{Card as CardRecord, Rule as RuleRecord, Pair as PairRecord, Withdrawn as WithdrawnRecord, End as EndRecord}
use Rattle.format.specs.declared.records.Section.{Section}
use Rattle.format.specs.declared.records.Section.TheVariants.{Cards}
use Rattle.format.specs.Records.{record_of, length_of_kind, unknown_kind, cut_short, fields_ok}
use Rattle.format.specs.Sections.{next, is_done}
use Rattle.format.specs.Grammar.{on_card, said_pair, said}

-- a book as far as it has been read: the section reached, and what was said
pub record Draft : Type 0 where
  pub section : Section
  pub cards : List Card
  pub rule : Option Rule
  pub pairs : List (ℕ × ℕ)
  pub withdrawn : List ℕ

abbrev pub blank : Draft
blank = record { section = Cards; cards = []; rule = None; pairs = []; withdrawn = [] }

abbrev pub moved : Draft → Record → Section
moved d r = unwrap_or (next d.section r) d.section

-- the draft with one record more
abbrev pub taken : Draft → Record → Draft
taken d (CardRecord c) = record { section = moved d (CardRecord c); cards = d.cards ++ c ∷ []; rule = d.rule; pairs = d.pairs; withdrawn = d.withdrawn }
taken d (RuleRecord r) = record { section = moved d (RuleRecord r); cards = d.cards; rule = Some r; pairs = d.pairs; withdrawn = d.withdrawn }
taken d (PairRecord a b) = record { section = moved d (PairRecord a b); cards = d.cards; rule = d.rule; pairs = d.pairs ++ (a, b) ∷ []; withdrawn = d.withdrawn }
taken d (WithdrawnRecord s) = record { section = moved d (WithdrawnRecord s); cards = d.cards; rule = d.rule; pairs = d.pairs; withdrawn = d.withdrawn ++ s ∷ [] }
taken d EndRecord = record { section = moved d EndRecord; cards = d.cards; rule = d.rule; pairs = d.pairs; withdrawn = d.withdrawn }

-- A rule, as a record meets it: the reason that is told where it is broken, and whether it is.
abbrev pub Test : Type 0
Test = Reason × Bool

-- the rules of a record of its kind
abbrev pub own_rules : Draft → Record → List Test
own_rules d (CardRecord c) = (TooMany, nat_le 256 (length d.cards)) ∷ (DuplicateStamp, on_card d.cards c.stamp) ∷ []
own_rules d (RuleRecord r) = []
own_rules d (PairRecord a b) = (UnknownStamp, not (on_card d.cards a && on_card d.cards b)) ∷ (SelfPair, (a == b)) ∷ (Repeated, said_pair d.pairs a b) ∷ []
own_rules d (WithdrawnRecord s) = (UnknownStamp, not (on_card d.cards s)) ∷ (Repeated, said d.withdrawn s) ∷ []
own_rules d EndRecord = []

-- the rules of every record: it may stand in this section, and its fields are in range
abbrev pub record_rules : Draft → Record → List Test
record_rules d r = (OutOfSection, not (is_some (next d.section r))) ∷ (OutOfRange, not (fields_ok r)) ∷ own_rules d r

-- the rules of the bytes that a record begins: none stand after the end, they begin with a kind, and the record is whole
abbrev pub byte_rules : Draft → List ℕ → List Test
byte_rules d xs = (OutOfSection, is_done d.section) ∷ (UnknownKind, unknown_kind xs) ∷ (Truncated, cut_short xs) ∷ record_rules d (record_of xs)

-- the first rule that is broken
abbrev pub first_broken : List Test → Option Reason
first_broken [] = None
first_broken (t ∷ ts) = cond t.1 (Some t.0) (first_broken ts)

-- what a refusal rests on: a stamp is found to be taken by the index below, which says that it is there already
abbrev pub below_of : Reason → Option Reason
below_of why = cond (number_of why == 5) (Some Repeated) None

-- the refusal at an offset of the book
abbrev pub refused_at : Reason → ℕ → Refusal
refused_at why at = refused_over why BookLayer at (below_of why)

-- Reads on at an offset, after the draft; the first k bytes belong to the record before.
unfoldable pub run : ℕ → List ℕ → ℕ → Draft → Result Draft Refusal
run k [] at d = cond (is_done d.section) (Ok d) (Err (refused_at Truncated at))
run zero (b ∷ bs) at d = elim (first_broken (byte_rules d (b ∷ bs))) [
  | Some why ↦ Err (refused_at why at)
  | None ↦ run (length_of_kind b - 1) bs (at + length_of_kind b) (taken d (record_of (b ∷ bs)))
]
run (suc k) (b ∷ bs) at d = run k bs at d

-- what the bytes say, or the refusal of the first record that breaks a rule
unfoldable pub read_book : List ℕ → Result Draft Refusal
read_book bs = run 0 bs 0 blank
