-- One step of the reader, on what it keeps: the index in place of a search among the cards, marks in place of lists.
use Rattle.std.specs.Prelude.{◌≡◌, ℕ, ◌≤◌, Bool, true, false, cond, List, [], ◌∷◌, ◌++◌, length, take, drop, replicate, is_some, Some, None, Ok, Err, Option, Result, ◌==◌, nat_le, nat_lt, slice_index_or, slice_set}
use Rattle.std.specs.Option.{unwrap_or}
use Rattle.refusal.specs.declared.Reason.{Reason}
use Rattle.refusal.specs.declared.Reason.TheVariants.{OutOfSection, OutOfRange, DuplicateStamp, UnknownStamp, SelfPair, Repeated, TooMany}
use Rattle.sorted.specs.Held.{held}
use Rattle.sorted.specs.Keyed.{first_of, inserted, of_key}
use Rattle.format.specs.declared.card.Card.{Card}
use Rattle.format.specs.declared.card.Rule.{Rule}
use Rattle.format.specs.declared.records.Record.{Record}
use Rattle.format.specs.declared.records.Record.TheVariants.{Card as CardRecord, Rule as RuleRecord, Pair as PairRecord, Withdrawn as WithdrawnRecord, End as EndRecord}
use Rattle.format.specs.declared.records.Section.{Section}
use Rattle.format.specs.declared.records.Section.TheVariants.{Cards}
use Rattle.format.specs.Records.{fields_ok, record_in}
use Rattle.format.specs.Sections.{is_done, next}
use Rattle.book.specs.declared.index.IndexRecord.{IndexRecord}
use Rattle.book.specs.declared.open.Notes.{Notes}
use Rattle.book.specs.declared.fault.Fault.{Fault}
use Rattle.book.specs.declared.reader.Reader.{Reader}
use Rattle.book.specs.Marks.{marked, toggled}

abbrev pub fault_of : Reason → Option Reason → Fault
fault_of why below = record { why = why; below = below }

abbrev pub no_notes : Notes
no_notes = record { rule = None; withdrawn = replicate 256 false }

-- what the reader and the spaces hold
pub record Stand : Type 0 where
  pub section : Section
  pub rule : Option Rule
  pub cards : List Card
  pub index : List IndexRecord
  pub marks : List ℕ
  pub withdrawn : List Bool

abbrev pub stand_of : Reader → Stand
stand_of r = record { section = r.section; rule = r.notes.rule; cards = take r.index.now.records.count r.cards.now; index = held r.index.now.records; marks = r.marks.now; withdrawn = r.notes.withdrawn }

-- a reader that has read nothing, over spaces that are clear
abbrev pub fresh : Stand
fresh = record { section = Cards; rule = no_notes.rule; cards = []; index = []; marks = replicate 4080 0; withdrawn = no_notes.withdrawn }

-- the second reader has the spaces of the first, holds no fewer cards, and leaves the space behind these as it was
pub record GoesOn (r r' : Reader) : Type 0 where
  pub cards : r'.cards.ghost_name ≡ r.cards.ghost_name
  pub marks : r'.marks.ghost_name ≡ r.marks.ghost_name
  pub whole : length r'.cards.now ≡ length r.cards.now
  pub more : r.index.now.records.count ≤ r'.index.now.records.count
  pub behind : drop r'.index.now.records.count r'.cards.now ≡ drop r'.index.now.records.count r.cards.now

-- an answer with what is then held
abbrev pub told : {X : Type 0} → Result (Unit {0}) Fault → X → Result X Fault
told (Ok n) x = Ok x
told (Err f) x = Err f

abbrev pub told_stand : Result ℕ Fault → Stand → Result (Stand × ℕ) Fault
told_stand (Ok n) s = Ok (s, n)
told_stand (Err f) s = Err f

abbrev pub stamp_in : IndexRecord → ℕ
stamp_in e = e.stamp

-- the index record of a stamp
abbrev pub indexed : List IndexRecord → ℕ → Option IndexRecord
indexed es s = first_of (of_key nat_le stamp_in s) es

-- the place of a stamp's card
abbrev pub located : List IndexRecord → ℕ → Result ℕ Fault
located es s = elim (indexed es s) [ None ↦ Err (fault_of UnknownStamp None) | Some e ↦ Ok e.place ]

-- the index with one card more
abbrev pub filed : List IndexRecord → ℕ → ℕ → List IndexRecord
filed es s u = inserted nat_le stamp_in (record { stamp = s; place = u }) es

-- a card
abbrev pub carded : List Card → List IndexRecord → Card → Result (List Card × List IndexRecord) Fault
carded cs es c =
    cond (nat_lt (length cs) 256)
    (elim (indexed es c.stamp) [ Some e ↦ Err (fault_of DuplicateStamp (Some Repeated)) | None ↦ Ok (cs ++ c ∷ [], filed es c.stamp (length cs)) ])
    (Err (fault_of TooMany None))

-- a pair of places
abbrev pub marking : List ℕ → ℕ → ℕ → Result (List ℕ) Fault
marking ms u v = cond (u == v) (Err (fault_of SelfPair None)) (cond (marked ms u v) (Err (fault_of Repeated None)) (Ok (toggled ms u v)))

-- a pair of stamps
abbrev pub pair_marked : List IndexRecord → List ℕ → ℕ → ℕ → Result (List ℕ) Fault
pair_marked es ms a b = elim (located es a) [ Err f ↦ Err f | Ok u ↦ elim (located es b) [ Err f ↦ Err f | Ok v ↦ marking ms u v ] ]

-- a withdrawn roll
abbrev pub withdrawing : List IndexRecord → List Bool → ℕ → Result (List Bool) Fault
withdrawing es ws s = elim (located es s) [ Err f ↦ Err f | Ok u ↦ cond (slice_index_or ws u false) (Err (fault_of Repeated None)) (Ok (slice_set ws u true)) ]

-- whether a section may be entered, and the reader in it
abbrev pub entering : Option Section → Result (Unit {0}) Fault
entering (Some s) = Ok tt
entering None = Err (fault_of OutOfSection None)

abbrev pub entered : Reader → Record → Reader
entered r i = record r { section = unwrap_or (next r.section i) r.section }

-- the stand with a record taken in
abbrev pub kept : Stand → Record → Option Rule → List Card → List IndexRecord → List ℕ → List Bool → Stand
kept s r o cs es ms ws = record { section = unwrap_or (next s.section r) s.section; rule = o; cards = cs; index = es; marks = ms; withdrawn = ws }

abbrev pub placed_in : Stand → Record → Result Stand Fault
placed_in s (CardRecord c) = elim (carded s.cards s.index c) [ Err f ↦ Err f | Ok p ↦ Ok (kept s (CardRecord c) s.rule p.0 p.1 s.marks s.withdrawn) ]
placed_in s (RuleRecord r) = Ok (kept s (RuleRecord r) (Some r) s.cards s.index s.marks s.withdrawn)
placed_in s (PairRecord a b) = elim (pair_marked s.index s.marks a b) [ Err f ↦ Err f | Ok ms ↦ Ok (kept s (PairRecord a b) s.rule s.cards s.index ms s.withdrawn) ]
placed_in s (WithdrawnRecord a) = elim (withdrawing s.index s.withdrawn a) [ Err f ↦ Err f | Ok ws ↦ Ok (kept s (WithdrawnRecord a) s.rule s.cards s.index s.marks ws) ]
placed_in s EndRecord = Ok (kept s EndRecord s.rule s.cards s.index s.marks s.withdrawn)

abbrev pub placed : Stand → Record → Result Stand Fault
placed s r = cond (is_some (next s.section r)) (cond (fields_ok r) (placed_in s r) (Err (fault_of OutOfRange None))) (Err (fault_of OutOfSection None))

-- the record that begins the bytes, with how many follow it
abbrev pub step_of : List ℕ → Stand → Result (Stand × ℕ) Fault
step_of xs s = cond (is_done s.section) (Err (fault_of OutOfSection None))
    (elim (record_in xs) [ Err e ↦ Err (fault_of e None) | Ok p ↦ elim (placed s p.0) [ Err f ↦ Err f | Ok t ↦ Ok (t, p.1) ] ])
