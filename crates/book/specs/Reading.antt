-- What a reading answers, what the spaces hold after it, and what that means.
use Rattle.std.specs.Prelude.{◌≡◌, ℕ, ◌-◌, ◌<◌, ◌≤◌, Bool, false, cond, List, ◌++◌, map, length, take, drop, replicate, Ok, Err, Result, ◌≢◌, nat_lt, slice_index_or}
use Rattle.std.specs.List.{range_with_len}
use Rattle.refusal.specs.Refusals.{refused}
use Rattle.refusal.specs.declared.Layer.TheVariants.{Book as BookLayer}
use Rattle.refusal.specs.declared.Reason.TheVariants.{ShortSpace, TooLong}
use Rattle.refusal.specs.declared.Refusal.{Refusal}
use Rattle.format.specs.declared.card.Card.{Card}
use Rattle.format.specs.Grammar.{Contents, Says, said, said_pair}
use Rattle.format.specs.Rules.{Draft, read_book}
use Rattle.format.specs.Theorems.{FirstFault, pairs_in, rule_in}
use Rattle.book.specs.declared.index.IndexRecord.{IndexRecord}
use Rattle.book.specs.declared.open.OpenBook.{OpenBook}
use Rattle.book.specs.Marks.{marked}
use Rattle.book.specs.Spaces.{no_card, no_index, stamp_at}

-- which of the 256 places are withdrawn: those whose stamp is said so
abbrev pub withdrawn_marks : Draft → List Bool
withdrawn_marks d = map (λ u. said d.withdrawn (stamp_at d.cards u)) (range_with_len 0 256)

-- the open book of what was read
abbrev pub book_of : Draft → OpenBook
book_of d = record { count = length d.cards; notes = record { rule = d.rule; withdrawn = withdrawn_marks d } }

-- the marks tell a pair of places exactly where the pair of their stamps is said
pub record TellsPairs (cs : List Card) (ps : List (ℕ × ℕ)) (ms : List ℕ) : Type 0 where
  pub whole : length ms ≡ 4080
  pub pairs : (u v : ℕ) → u < v → v < 256 → marked ms u v ≡ said_pair ps (stamp_at cs u) (stamp_at cs v)

-- how a reading ends: refused before the spaces are touched, refused at a record, or read
pub data Outcome : Type 0 where
  untouched : Refusal → Outcome
  cleared : Refusal → Outcome
  filled : Draft → Outcome

abbrev pub at_records : Result Draft Refusal → Outcome
at_records (Ok d) = filled d
at_records (Err e) = cleared e

-- a book of too many bytes comes first, then spaces that are too short, then the records
abbrev pub outcome : List ℕ → Bool → Outcome
outcome bs short =
    cond (nat_lt 65536 (length bs)) (untouched (refused TooLong BookLayer 0))
    (cond short (untouched (refused ShortSpace BookLayer 0)) (at_records (read_book bs)))

abbrev pub answer_of : Outcome → Result OpenBook Refusal
answer_of (untouched e) = Err e
answer_of (cleared e) = Err e
answer_of (filled d) = Ok (book_of d)

-- Card space: the cards read, and then none; what lies past 256 cards stays.
abbrev pub cards_after : Outcome → List Card → List Card
cards_after (untouched e) cs = cs
cards_after (cleared e) cs = replicate 256 no_card ++ drop 256 cs
cards_after (filled d) cs = (d.cards ++ replicate (256 - length d.cards) no_card) ++ drop 256 cs

-- Mark space: the pairs read and no other; what lies past 4,080 bytes stays.
abbrev pub MarksAfter : Outcome → List ℕ → List ℕ → Type 0
MarksAfter (untouched e) ms ms' = ms' ≡ ms
MarksAfter (cleared e) ms ms' = ms' ≡ replicate 4080 0 ++ drop 4080 ms
MarksAfter (filled d) ms ms' = TellsPairs d.cards d.pairs (take 4080 ms') × (drop 4080 ms' ≡ drop 4080 ms)

-- Index space is free after a reading; what lies past 256 records stays.
abbrev pub IndexAfter : Outcome → List IndexRecord → List IndexRecord → Type 0
IndexAfter (untouched e) es es' = es' ≡ es
IndexAfter (cleared e) es es' = es' ≡ replicate 256 no_index ++ drop 256 es
IndexAfter (filled d) es es' = (length es' ≡ length es) × (drop 256 es' ≡ drop 256 es)

-- What a reading of the records answers, and what spaces of exactly the lengths asked for hold after it.
abbrev pub Finds : Result Draft Refusal → Result OpenBook Refusal → List Card → List ℕ → Type 0
Finds (Ok d) r cs ms = (r ≡ Ok (book_of d)) × (cs ≡ d.cards ++ replicate (256 - length d.cards) no_card) × TellsPairs d.cards d.pairs ms
Finds (Err e) r cs ms = r ≡ Err e

-- An open book and its spaces hold what the contents say.
pub record Holds (b : Contents) (o : OpenBook) (cs : List Card) (ms : List ℕ) : Type 0 where
  pub count : o.count ≡ length b.cards
  pub cards : take o.count cs ≡ b.cards
  pub rule : o.notes.rule ≡ rule_in b.terms
  -- two rolls are partners exactly where their stamps are said as a pair, in either order
  pub partners : (u v : ℕ) → u < o.count → v < o.count → (u ≢ v) → marked ms u v ≡ said_pair (pairs_in b.terms) (stamp_at b.cards u) (stamp_at b.cards v)
  -- a roll is withdrawn exactly where its stamp is said so
  pub withdrawn : (u : ℕ) → u < o.count → slice_index_or o.notes.withdrawn u false ≡ said b.withdrawn (stamp_at b.cards u)

-- An answer in terms of the grammar: a book is accepted exactly where the bytes are the encodings of well-formed contents,
-- and then it holds these; any other bytes are refused at the first record that breaks a rule, with the first rule it breaks.
abbrev pub Means : List ℕ → Bool → Result OpenBook Refusal → List Card → List ℕ → Type 0
Means bs short (Ok o) cs ms = (length bs ≤ 65536) × (short ≡ false) × ((b : Contents) × Says bs b × Holds b o cs ms)
Means bs short (Err e) cs ms = length bs ≤ 65536 → short ≡ false → FirstFault bs e × ((b : Contents) → Says bs b → ⊥)
