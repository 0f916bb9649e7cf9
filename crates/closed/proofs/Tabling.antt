-- A book that was read closes, and tells what its bytes say.
use Rattle.std.proofs.Common.{◌≡◌, ℕ, zero, suc, ◌<◌, ◌≤◌, Bool, true, false, not, ◌&&◌, eqb, List, [], ◌∷◌, ◌++◌, length, get_or, take, None, Ok, Err, Option, Result, sym, refl, ap, ◌∙◌, append_assoc, inl, inr, arith}
use Rattle.std.proofs.lemmas.List.{append-nil, get_or_past}
use Rattle.std.proofs.lemmas.Bool.{cases_lt, le-ltb}
use Rattle.std.proofs.lemmas.Bool.Decides.{nat_tests}
use Rattle.std.specs.Option.{option_or}
use Rattle.refusal.specs.declared.Refusal.{Refusal}
use Rattle.format.specs.declared.card.Card.{Card}
use Rattle.format.specs.Grammar.{Terms, by_pairs, by_rule, Contents, EachAfter, GoodCard, WellFormed, on_card, said_pair}
use Rattle.format.specs.Records.{card_ok}
use Rattle.format.specs.Theorems.{pairs_in, rule_in}
use Rattle.format.proofs.Logic.{err_ok}
use Rattle.pairs.specs.Checks.{first_fault}
use Rattle.book.specs.declared.open.OpenBook.{OpenBook}
use Rattle.book.specs.Changes.{short_spaces}
use Rattle.book.specs.Marks.{tells}
use Rattle.book.specs.Reading.{Holds}
use Rattle.book.specs.Spaces.{no_card, stamp_at, too_short}
use Rattle.book.proofs.Pairs.{tells_marked}
use Rattle.closed.specs.declared.books.ClosedBook.{ClosedBook}
use Rattle.closed.specs.Closes.{Plain, card_fault, close_fault, closing, kind_of, plain, plain_of}
use Rattle.closed.specs.Tables.{agree, below, size_of, stamp_told, tells_apart}
use Rattle.closed.specs.Tells.{Tells, by_terms}
use Rattle.closed.proofs.Stamps.{fine, told}

-- each card of a well-formed book is in range and has a stamp of its own
good_at : (ds before : List Card) (k : ℕ) → EachAfter GoodCard before ds → k < length ds → (card_ok (get_or ds k no_card) ≡ true) × (on_card (before ++ take k ds) (stamp_at ds k) ≡ false)
good_at [] before k h l = absurd (omega arith)
good_at (c ∷ ds) before zero h l = (h.0.in_range, ap (λ v. on_card v c.stamp) (append-nil before) ∙ h.0.new)
good_at (c ∷ ds) before (suc k) h l =
    let r = good_at ds (before ++ c ∷ []) k h.1 (omega arith) in
    (r.0, ap (λ v. on_card v (stamp_at ds k)) (sym (append_assoc before (c ∷ []) (take k ds))) ∙ r.1)

none_below : (fault : ℕ → Option Refusal) (n : ℕ) → ((i : ℕ) → i < n → fault i ≡ None) → first_fault fault n ≡ None
none_below fault zero h = refl
none_below fault (suc n) h = ap (λ o. option_or o (fault n)) (none_below fault n (λ i l. h i (omega arith))) ∙ h n (omega arith)

pub no_fault : (cs : List Card) → EachAfter GoodCard [] cs → close_fault cs ≡ None
no_fault cs h = none_below (card_fault cs) (length cs) (λ p l. let g = good_at cs [] p h l in fine cs p g.0 g.1)

-- what is marked among the cards of a book is what is said
marks_tell : (n : ℕ) (t : ℕ → ℕ → Bool) (s : ℕ → ℕ → Bool) → ((u : ℕ) → t u u ≡ false) → ((u v : ℕ) → u < n → v < n → (u ≡ v → ⊥) → t u v ≡ s u v)
    → (u v : ℕ) → below n u v && t u v ≡ below n u v && (not (eqb u v) && s u v)
marks_tell n t s apart same u v = grind (arith, nat_tests, apart, same)

stamps_told : (cs : List Card) → length cs ≤ 256 → close_fault cs ≡ None → (u : ℕ) → stamp_told cs u ≡ stamp_at cs u
stamps_told cs few e u = elim (cases_lt u (length cs)) [
  | inl l ↦ told cs e u (omega arith)
  | inr l ↦ rw (le-ltb u (size_of cs) (omega arith)) (sym (ap (λ c. c.stamp) (get_or_past cs u no_card l)))
]

module _ (b : Contents) (w : WellFormed b) (o : OpenBook) (cs : List Card) (ms : List ℕ) (h : Holds b o cs ms) where
  size_is : size_of b.cards ≡ length b.cards
  size_is = let f = w.few in omega arith

  clean : close_fault b.cards ≡ None
  clean = no_fault b.cards w.cards

  -- the closed book, by the terms of the contents
  tells_by : (t : Terms) → b.terms ≡ t → Tells b (kind_of (rule_in t) o b.cards ms)
  tells_by (by_rule r) e = record {
    cards = refl;
    size = size_is;
    partners = λ u v. ap (λ n. below n u v && (not (eqb u v) && agree r (get_or b.cards u no_card) (get_or b.cards v no_card))) size_is ∙ ap (λ t. below (length b.cards) u v && (not (eqb u v) && by_terms t b.cards u v)) (sym e);
    stamps = stamps_told b.cards w.few clean;
    rule = sym (ap rule_in e);
    withdrawn = λ u l. h.withdrawn u (omega (arith, h.count));
  }
  tells_by (by_pairs ps) e = record {
    cards = refl;
    size = size_is;
    partners = λ u v. ap (λ n. below n u v && tells ms u v) size_is
        ∙ marks_tell (length b.cards) (tells ms) (by_terms (by_pairs ps) b.cards) (tells_apart ms)
        (λ x y p q ne. let f = w.few in tells_marked ms x y (omega arith) (omega arith) ne ∙ h.partners x y (omega (arith, h.count)) (omega (arith, h.count)) ne
        ∙ ap (λ t. said_pair (pairs_in t) (stamp_at b.cards x) (stamp_at b.cards y)) e) u v
        ∙ ap (λ t. below (length b.cards) u v && (not (eqb u v) && by_terms t b.cards u v)) (sym e);
    stamps = stamps_told b.cards w.few clean;
    rule = sym (ap rule_in e);
    withdrawn = λ u l. h.withdrawn u (omega (arith, h.count));
  }

  pub closes : short_spaces (length cs) (length ms) ≡ false → (p : Plain) × (closing o cs ms ≡ Ok p) × Tells b p
  closes s = (kind_of (rule_in b.terms) o b.cards ms, rw (s, h.cards, clean, h.rule), tells_by b.terms refl)

-- spaces long enough for a reading are long enough to close
pub long_enough : (cards marks index : ℕ) → too_short cards marks index ≡ false → short_spaces cards marks ≡ false
long_enough cards marks index e = grind (arith, nat_tests)

-- a book that closes, and what it is then
pub closed_as : (r : Result ClosedBook (Refusal × OpenBook)) (p : Plain) → plain_of r ≡ Ok p → (t : ClosedBook) × (r ≡ Ok t) × (plain t ≡ p)
closed_as (Ok t) p e = (t, refl, cc)
closed_as (Err x) p e = err_ok e
