-- Closing a book: the spaces, then card by card the fields and the stamp.
use Rattle.std.specs.Prelude.{◌≡◌, ℕ, ◌<◌, cond, List, length, take, Some, None, Ok, Err, Option, Result, slice_index_or}
use Rattle.refusal.specs.Refusals.{refused}
use Rattle.refusal.specs.declared.Layer.TheVariants.{Book as BookLayer}
use Rattle.refusal.specs.declared.Reason.TheVariants.{OutOfRange, DuplicateStamp, ShortSpace}
use Rattle.refusal.specs.declared.Refusal.{Refusal}
use Rattle.cliques.specs.Graph.{Graph}
use Rattle.format.specs.declared.card.Card.{Card}
use Rattle.format.specs.declared.card.Rule.{Rule}
use Rattle.format.specs.Grammar.{on_card}
use Rattle.format.specs.Records.{card_ok}
use Rattle.pairs.specs.Checks.{first_fault}
use Rattle.book.specs.declared.open.OpenBook.{OpenBook}
use Rattle.book.specs.Changes.{short_spaces}
use Rattle.book.specs.Spaces.{no_card, stamp_at}
use Rattle.closed.specs.declared.books.ClosedBook.{ClosedBook}
use Rattle.closed.specs.declared.books.ClosedBook.TheVariants.{Pairs, Ruled}
use Rattle.closed.specs.Tables.{pair_graph, rule_graph, size_of, stamp_told}

-- what is wrong with the card at a place: a field out of range, or the stamp of an earlier card
abbrev pub card_fault : List Card → ℕ → Option Refusal
card_fault cs p =
    cond (card_ok (slice_index_or cs p no_card))
    (cond (on_card (take p cs) (stamp_at cs p)) (Some (refused DuplicateStamp BookLayer p)) None)
    (Some (refused OutOfRange BookLayer p))

abbrev pub close_fault : List Card → Option Refusal
close_fault cs = first_fault (card_fault cs) (length cs)

-- a closed book as plain values: the open book's numbers, its cards, and its marks or its rule
pub data Plain : Type 0 where
  by_marks : OpenBook → List Card → List ℕ → Plain
  by_rule : OpenBook → Rule → List Card → Plain

abbrev pub plain : ClosedBook → Plain
plain (Pairs b) = by_marks b.book b.cards.now b.terms.bytes.now
plain (Ruled b) = by_rule b.book b.terms b.cards.now

abbrev pub plain_of : Result ClosedBook (Refusal × OpenBook) → Result Plain (Refusal × OpenBook)
plain_of (Ok b) = Ok (plain b)
plain_of (Err e) = Err e

-- the open book in a closed one
abbrev pub book_in : Plain → OpenBook
book_in (by_marks o cs ms) = o
book_in (by_rule o r cs) = o

abbrev pub cards_in : Plain → List Card
cards_in (by_marks o cs ms) = cs
cards_in (by_rule o r cs) = cs

abbrev pub rule_of : Plain → Option Rule
rule_of (by_marks o cs ms) = None
rule_of (by_rule o r cs) = Some r

-- which places of a closed book are partners
abbrev pub graph_of : Plain → Graph
graph_of (by_marks o cs ms) = pair_graph cs ms
graph_of (by_rule o r cs) = rule_graph cs r

-- every place tells the stamp of its card
abbrev pub StampsTold : Plain → Type 0
StampsTold p = (u : ℕ) → u < size_of (cards_in p) → stamp_told (cards_in p) u ≡ stamp_at (cards_in p) u

-- the kind of closed book that an open one makes
abbrev pub kind_of : Option Rule → OpenBook → List Card → List ℕ → Plain
kind_of None o cs ms = by_marks o cs ms
kind_of (Some r) o cs ms = by_rule o r cs

abbrev pub closed_unless : OpenBook → List Card → List ℕ → Option Refusal → Result Plain (Refusal × OpenBook)
closed_unless o cs ms (Some e) = Err (e, o)
closed_unless o cs ms None = Ok (kind_of o.notes.rule o cs ms)

-- short spaces are refused first, then the first card at fault; a refusal gives the open book back
abbrev pub closing : OpenBook → List Card → List ℕ → Result Plain (Refusal × OpenBook)
closing o cs ms = cond (short_spaces (length cs) (length ms)) (Err (refused ShortSpace BookLayer 0, o)) (closed_unless o (take o.count cs) ms (close_fault (take o.count cs)))
