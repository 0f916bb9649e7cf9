-- Counts over places, and the summary of a book.
use Rattle.std.specs.Prelude.{◌≡◌, ℕ, zero, suc, ◌+◌, ◌<◌, ◌≤◌, Bool, false, cond, ◌⊎◌, List, length, Some, None, Ok, Err, Option, Result, nat_eq, nat_lt, slice_index_or}
use Rattle.refusal.specs.Refusals.{refused}
use Rattle.refusal.specs.declared.Layer.TheVariants.{Book as BookLayer}
use Rattle.refusal.specs.declared.Reason.TheVariants.{TooLong}
use Rattle.refusal.specs.declared.Refusal.{Refusal}
use Rattle.format.specs.declared.card.Card.{Card}
use Rattle.format.specs.declared.card.Rule.{Rule}
use Rattle.format.specs.Grammar.{Contents, Says}
use Rattle.format.specs.Rules.{Draft, read_book}
use Rattle.format.specs.Theorems.{FirstFault, draft_of}
use Rattle.book.specs.Spaces.{no_card}
use Rattle.closed.specs.Closes.{Plain, book_in, by_marks, by_rule, cards_in, graph_of}
use Rattle.summary.specs.declared.facts.Summary.{Summary}
use Rattle.summary.specs.declared.facts.Terms.{Terms}
use Rattle.summary.specs.declared.facts.Terms.TheVariants.{Pairs, Rule as ByRule}

-- the sum of f over the numbers below n
abbrev pub sum_to : (ℕ → ℕ) → ℕ → ℕ
sum_to f zero = 0
sum_to f (suc n) = sum_to f n + f n

-- how many numbers below n pass the test
abbrev pub count_to : (ℕ → Bool) → ℕ → ℕ
count_to p n = sum_to (λ k. cond (p k) 1 0) n

-- how many pairs u below v below n pass the test
abbrev pub pairs_to : (ℕ → ℕ → Bool) → ℕ → ℕ
pairs_to p n = sum_to (λ v. count_to (λ u. p u v) v) n

-- how many cards have no fresh reading
abbrev pub unread_in : List Card → ℕ
unread_in cs = count_to (λ u. nat_eq (slice_index_or cs u no_card).diameter 0) (length cs)

-- what is counted of a closed book
abbrev pub terms_of : Plain → Terms
terms_of (by_marks o cs ms) = Pairs (pairs_to (graph_of (by_marks o cs ms)).partners (graph_of (by_marks o cs ms)).size)
terms_of (by_rule o r cs) = ByRule r

abbrev pub counted_of : Plain → Summary
counted_of p = record {
  rolls = length (cards_in p);
  unread = unread_in (cards_in p);
  terms = terms_of p;
  withdrawn = count_to (λ u. slice_index_or (book_in p).notes.withdrawn u false) (length (cards_in p));
}

abbrev pub terms_said : Option Rule → List (ℕ × ℕ) → Terms
terms_said (Some r) ps = ByRule r
terms_said None ps = Pairs (length ps)

-- the summary of what was read: cards, cards without a reading, pairs or the rule, withdrawn rolls
abbrev pub summary_of : Draft → Summary
summary_of d = record { rolls = length d.cards; unread = unread_in d.cards; terms = terms_said d.rule d.pairs; withdrawn = length d.withdrawn }

abbrev pub summing : Result Draft Refusal → Result Summary Refusal
summing (Ok d) = Ok (summary_of d)
summing (Err e) = Err e

abbrev pub summary_answer : List ℕ → Result Summary Refusal
summary_answer bs = cond (nat_lt 65536 (length bs)) (Err (refused TooLong BookLayer 0)) (summing (read_book bs))

-- A summary in terms of the grammar: it is that of the contents that the bytes say; a refusal is for too many bytes,
-- or names the first record that breaks a rule, and then the bytes are no book.
abbrev pub Sums : List ℕ → Result Summary Refusal → Type 0
Sums bs (Ok s) = (length bs ≤ 65536) × ((b : Contents) × Says bs b × (s ≡ summary_of (draft_of b)))
Sums bs (Err e) = ((65536 < length bs) × (e ≡ refused TooLong BookLayer 0)) ⊎ ((length bs ≤ 65536) × FirstFault bs e × ((b : Contents) → Says bs b → ⊥))
