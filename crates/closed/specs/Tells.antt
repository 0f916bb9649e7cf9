-- What a book that was read and closed tells, in terms of what its bytes say.
use Rattle.std.specs.Prelude.{◌≡◌, ℕ, ◌<◌, ◌≤◌, Bool, false, not, ◌&&◌, List, length, Ok, Err, Result, ◌==◌, slice_index_or}
use Rattle.refusal.specs.declared.Refusal.{Refusal}
use Rattle.format.specs.declared.card.Card.{Card}
use Rattle.format.specs.Grammar.{Terms, by_pairs, by_rule, Contents, Says, said, said_pair}
use Rattle.format.specs.Theorems.{FirstFault, rule_in}
use Rattle.book.specs.declared.open.OpenBook.{OpenBook}
use Rattle.book.specs.Reading.{answer_of, outcome}
use Rattle.book.specs.Spaces.{no_card, stamp_at}
use Rattle.closed.specs.declared.books.ClosedBook.{ClosedBook}
use Rattle.closed.specs.Closes.{Plain, book_in, cards_in, graph_of, plain, rule_of}
use Rattle.closed.specs.Tables.{agree, below, stamp_told}

-- two rolls are said to be partners: their stamps as a pair, in either order; or they agree under the rule
abbrev pub by_terms : Terms → List Card → ℕ → ℕ → Bool
by_terms (by_pairs ps) cs u v = said_pair ps (stamp_at cs u) (stamp_at cs v)
by_terms (by_rule r) cs u v = agree r (slice_index_or cs u no_card) (slice_index_or cs v no_card)

-- the partners of a book: two different rolls of it that are said to be
abbrev pub partners_in : Contents → ℕ → ℕ → Bool
partners_in b u v = below (length b.cards) u v && (not (u == v) && by_terms b.terms b.cards u v)

-- A closed book tells what the contents say: its places are the cards in order, with their stamps; partners are exactly
-- those said, for every two places; it has the rule said, if any; and the withdrawn rolls are those said.
pub record Tells (b : Contents) (p : Plain) : Type 0 where
  pub cards : cards_in p ≡ b.cards
  pub size : (graph_of p).size ≡ length b.cards
  pub partners : (u v : ℕ) → (graph_of p).partners u v ≡ partners_in b u v
  pub stamps : (u : ℕ) → stamp_told (cards_in p) u ≡ stamp_at b.cards u
  pub rule : rule_of p ≡ rule_in b.terms
  pub withdrawn : (u : ℕ) → u < length b.cards → slice_index_or (book_in p).notes.withdrawn u false ≡ said b.withdrawn (stamp_at b.cards u)

-- Reading and closing: a table exactly where the bytes are the encodings of well-formed contents, and then it tells these;
-- else the refusal of the reading, which names the first record that breaks a rule.
abbrev pub ReadsClosed : List ℕ → Bool → Result ClosedBook Refusal → Type 0
ReadsClosed bs short (Ok t) = (length bs ≤ 65536) × (short ≡ false) × ((b : Contents) × Says bs b × Tells b (plain t))
ReadsClosed bs short (Err e) = (◌≡◌ {A = Result OpenBook Refusal} (Err e) (answer_of (outcome bs short))) × (length bs ≤ 65536 → short ≡ false → FirstFault bs e × ((b : Contents) → Says bs b → ⊥))
