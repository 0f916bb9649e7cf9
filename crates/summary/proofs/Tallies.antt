-- What is counted after a reading is what the book says: each pair and each withdrawn roll is one.
use Rattle.std.proofs.Common.{◌≡◌, ℕ, zero, suc, ◌+◌, ◌<◌, Bool, true, false, cond, eqb, List, [], ◌∷◌, ◌++◌, length, get_or, Some, None, Ok, Err, Option, sym, refl, ap, ◌∙◌, subst, inl, inr, append_assoc, arith}
use Rattle.std.proofs.lemmas.List.{append-nil, length_push}
use Rattle.std.proofs.lemmas.Bool.{eq-eqb, eqb-false, le-ltb, lt-ltb, ne_eqb}
use Rattle.refusal.specs.Refusals.{refused}
use Rattle.refusal.specs.declared.Layer.TheVariants.{Book as BookLayer}
use Rattle.refusal.specs.declared.Reason.TheVariants.{TooLong}
use Rattle.format.specs.declared.card.Card.{Card}
use Rattle.format.specs.Grammar.{Terms, by_rule, by_pairs, Contents, EachAfter, GoodCard, GoodPair, GoodTerms, GoodWithdrawn, WellFormed, on_card, same_pair, said, said_pair}
use Rattle.format.specs.Rules.{read_book}
use Rattle.format.specs.Theorems.{draft_of, pairs_in, rule_in}
use Rattle.format.proofs.Exactly.{reads}
use Rattle.format.proofs.Logic.{clash, some_none}
use Rattle.book.specs.Spaces.{stamp_at}
use Rattle.summary.specs.Summing.{Sums, count_to, counted_of, pairs_to, sum_to, summary_answer, summary_of, summing, terms_of, terms_said, unread_in}
use Rattle.closed.specs.declared.books.ClosedBook.{ClosedBook}
use Rattle.closed.specs.Closes.{Plain, book_in, by_marks, cards_in, graph_of, plain}
use Rattle.closed.specs.Closes.{by_rule as ruled_book}
use Rattle.closed.specs.Tells.{ReadsClosed, Tells, by_terms, partners_in}
use Rattle.summary.specs.declared.facts.Terms.TheVariants.{Pairs}
use Rattle.book.proofs.Agrees.{places_apart, places_pair, push_false, push_true, said_swap, stamp_pos}
use Rattle.summary.proofs.Counts.{count_none, count_one, count_same, sum_one, sum_same}
use Rattle.book.proofs.Pairs.{SamePlaces, sides}
use Rattle.book.proofs.Places.{Named, named_push, none_from, on_card_lem, only, place_found, place_of}

-- the cards of a book have places of their own
named : (ds cs : List Card) → Named cs → EachAfter GoodCard cs ds → Named (cs ++ ds)
named [] cs n h = subst Named (sym (append-nil cs)) n
named (c ∷ ds) cs n h = subst Named (append_assoc cs (c ∷ []) ds)
    (named ds (cs ++ c ∷ []) (named_push cs c n (none_from _ (sym (on_card_lem cs c.stamp (place_of cs c.stamp) refl) ∙ h.0.new))) h.1)

-- a stamp on a card has a place
placed : (cs : List Card) (s : ℕ) → on_card cs s ≡ true → (u : ℕ) × (place_of cs s ≡ Some u)
placed cs s h = go (place_of cs s) refl
  where
    go : (o : Option ℕ) → place_of cs s ≡ o → (u : ℕ) × (place_of cs s ≡ Some u)
    go None e = clash (sym h ∙ on_card_lem cs s None e)
    go (Some u) e = (u, e)

module _ (cs : List Card) (n : Named cs) where
  -- one more roll is withdrawn, and one more place tells so
  one_gone : (ws : List ℕ) (s : ℕ) → GoodWithdrawn cs ws s → count_to (λ u. said (ws ++ s ∷ []) (stamp_at cs u)) (length cs) ≡ count_to (λ u. said ws (stamp_at cs u)) (length cs) + 1
  one_gone ws s g =
      let f = placed cs s g.known in
      let u = f.0 in
      let p = place_found cs s u f.1 in
      count_one (λ k. said ws (stamp_at cs k)) (λ k. said (ws ++ s ∷ []) (stamp_at cs k)) (length cs) u p.0 (ap (said ws) p.1 ∙ g.new)
      (push_true (λ x. eqb x (stamp_at cs u)) ws s (eq-eqb _ _ (sym p.1)))
      (λ k l ne. push_false (λ x. eqb x (stamp_at cs k)) ws s (ne_eqb _ _ (λ e. ne (only cs s u k n f.1 (stamp_pos s g.in_range) (sym e)))))

  all_gone : (xs ws : List ℕ) → EachAfter (GoodWithdrawn cs) ws xs → count_to (λ u. said ws (stamp_at cs u)) (length cs) ≡ length ws → count_to (λ u. said (ws ++ xs) (stamp_at cs u)) (length cs) ≡ length (ws ++ xs)
  all_gone [] ws h e = subst (λ v. count_to (λ u. said v (stamp_at cs u)) (length cs) ≡ length v) (sym (append-nil ws)) e
  all_gone (x ∷ xs) ws h e = subst (λ v. count_to (λ u. said v (stamp_at cs u)) (length cs) ≡ length v) (append_assoc ws (x ∷ []) xs)
      (all_gone xs (ws ++ x ∷ []) h.1 (one_gone ws x h.0 ∙ ap (λ k. k + 1) e ∙ sym (length_push ws x)))

  -- one more pair is said, and one more pair of places is marked
  one_pair : (ps : List (ℕ × ℕ)) (a b : ℕ) → GoodPair cs ps (a, b)
      → sum_to (λ v. count_to (λ u. said_pair (ps ++ (a, b) ∷ []) (stamp_at cs u) (stamp_at cs v)) v) (length cs) ≡ sum_to (λ v. count_to (λ u. said_pair ps (stamp_at cs u) (stamp_at cs v)) v) (length cs) + 1
  one_pair ps a b g = elim (sides u v ne) [
    | inl l ↦ at u v l q.0 (inl (refl, refl)) (ap (λ s. said_pair ps s (stamp_at cs v)) p.1 ∙ ap (said_pair ps a) q.1 ∙ g.new)
    | inr l ↦ at v u l p.0 (inr (refl, refl)) (ap (λ s. said_pair ps s (stamp_at cs u)) q.1 ∙ ap (said_pair ps b) p.1 ∙ said_swap ps b a ∙ g.new)
  ]
    where
      f : (u : ℕ) × (place_of cs a ≡ Some u)
      f = placed cs a g.known.0

      h : (v : ℕ) × (place_of cs b ≡ Some v)
      h = placed cs b g.known.1

      u : ℕ
      u = f.0

      v : ℕ
      v = h.0

      p : (u < length cs) × (stamp_at cs u ≡ a)
      p = place_found cs a u f.1

      q : (v < length cs) × (stamp_at cs v ≡ b)
      q = place_found cs b v h.1

      ne : u ≡ v → ⊥
      ne e = eqb-false a b g.apart (sym p.1 ∙ ap (stamp_at cs) e ∙ q.1)

      other : (x y : ℕ) → (SamePlaces u v x y → ⊥) → said_pair (ps ++ (a, b) ∷ []) (stamp_at cs x) (stamp_at cs y) ≡ said_pair ps (stamp_at cs x) (stamp_at cs y)
      other x y d = push_false (same_pair (stamp_at cs x) (stamp_at cs y)) ps (a, b) (places_apart cs n a b u v (stamp_pos a g.in_range.0) (stamp_pos b g.in_range.1) f.1 h.1 x y d)

      at : (x y : ℕ) → x < y → y < length cs → SamePlaces u v x y → said_pair ps (stamp_at cs x) (stamp_at cs y) ≡ false
          → sum_to (λ w. count_to (λ k. said_pair (ps ++ (a, b) ∷ []) (stamp_at cs k) (stamp_at cs w)) w) (length cs) ≡ sum_to (λ w. count_to (λ k. said_pair ps (stamp_at cs k) (stamp_at cs w)) w) (length cs) + 1
      at x y l m s z = sum_one (λ w. count_to (λ k. said_pair ps (stamp_at cs k) (stamp_at cs w)) w) (λ w. count_to (λ k. said_pair (ps ++ (a, b) ∷ []) (stamp_at cs k) (stamp_at cs w)) w) (length cs) y m
          (count_one (λ k. said_pair ps (stamp_at cs k) (stamp_at cs y)) (λ k. said_pair (ps ++ (a, b) ∷ []) (stamp_at cs k) (stamp_at cs y)) y x l z
          (push_true (same_pair (stamp_at cs x) (stamp_at cs y)) ps (a, b) (places_pair cs n a b u v (stamp_pos a g.in_range.0) (stamp_pos b g.in_range.1) f.1 h.1 x y s))
          (λ k i d. other k y (λ t. d (same_first s t))))
          (λ w i d. count_same (λ k. said_pair (ps ++ (a, b) ∷ []) (stamp_at cs k) (stamp_at cs w)) (λ k. said_pair ps (stamp_at cs k) (stamp_at cs w)) w (λ k j. other k w (λ t. d (same_second s t l j))))
        where
          same_first : {k : ℕ} → SamePlaces u v x y → SamePlaces u v k y → k ≡ x
          same_first (inl i) (inl j) = sym j.0 ∙ i.0
          same_first (inl i) (inr j) = absurd (ne (j.0 ∙ sym i.1))
          same_first (inr i) (inl j) = absurd (ne (i.0 ∙ sym j.1))
          same_first (inr i) (inr j) = sym j.1 ∙ i.1

          same_second : {k w : ℕ} → SamePlaces u v x y → SamePlaces u v k w → x < y → k < w → w ≡ y
          same_second (inl i) (inl j) c d = sym j.1 ∙ i.1
          same_second (inl i) (inr j) c d = absurd (let e1 = i.0 in let e2 = i.1 in let e3 = j.0 in let e4 = j.1 in omega arith)
          same_second (inr i) (inl j) c d = absurd (let e1 = i.0 in let e2 = i.1 in let e3 = j.0 in let e4 = j.1 in omega arith)
          same_second (inr i) (inr j) c d = sym j.0 ∙ i.0

  all_pairs : (qs ps : List (ℕ × ℕ)) → EachAfter (GoodPair cs) ps qs → sum_to (λ v. count_to (λ u. said_pair ps (stamp_at cs u) (stamp_at cs v)) v) (length cs) ≡ length ps
      → sum_to (λ v. count_to (λ u. said_pair (ps ++ qs) (stamp_at cs u) (stamp_at cs v)) v) (length cs) ≡ length (ps ++ qs)
  all_pairs [] ps h e = subst (λ r. sum_to (λ v. count_to (λ u. said_pair r (stamp_at cs u) (stamp_at cs v)) v) (length cs) ≡ length r) (sym (append-nil ps)) e
  all_pairs (q ∷ qs) ps h e = subst (λ r. sum_to (λ v. count_to (λ u. said_pair r (stamp_at cs u) (stamp_at cs v)) v) (length cs) ≡ length r) (append_assoc ps (q ∷ []) qs)
      (all_pairs qs (ps ++ q ∷ []) h.1 (one_pair ps q.0 q.1 h.0 ∙ ap (λ k. k + 1) e ∙ sym (length_push ps q)))

no_pairs : (n : ℕ) → sum_to (λ v. count_to (λ u. false) v) n ≡ 0
no_pairs zero = refl
no_pairs (suc n) = λ i. no_pairs n i + count_none (λ u. false) n (λ j l. refl) i

-- the counts of a closed book, where it tells what a book says
pub counts : (b : Contents) → WellFormed b → (p : Plain) → Tells b p → counted_of p ≡ summary_of (draft_of b)
counts b w p h = λ i. record { rolls = length (h.cards i); unread = unread_in (h.cards i); terms = terms p h i; withdrawn = gone_is i }
  where
    n : Named b.cards
    n = named b.cards [] (λ u k. absurd (omega arith)) w.cards

    -- the partners of a table are as many as the pairs said
    pairs_are : (q : Plain) → Tells b q → (ps : List (ℕ × ℕ)) → b.terms ≡ by_pairs ps → pairs_to (graph_of q).partners (graph_of q).size ≡ length ps
    pairs_are q t ps e =
        ap (pairs_to (graph_of q).partners) t.size
        ∙ sum_same _ (λ v. count_to (λ u. said_pair ps (stamp_at b.cards u) (stamp_at b.cards v)) v) (length b.cards) (λ v k. count_same _ _ v (λ u j. t.partners u v ∙ said_below u v j k ∙ ap (λ x. by_terms x b.cards u v) e))
        ∙ all_pairs b.cards n ps [] (subst (GoodTerms b.cards) e w.terms) (no_pairs (length b.cards))
      where
        said_below : (u v : ℕ) → u < v → v < length b.cards → partners_in b u v ≡ by_terms b.terms b.cards u v
        said_below u v j k =
            let x : u < length b.cards = omega arith in
            let ne : u ≡ v → ⊥ = λ i. omega arith in
            rw (lt-ltb u (length b.cards) x, lt-ltb v (length b.cards) k, ne_eqb u v ne)

    terms : (q : Plain) → Tells b q → terms_of q ≡ terms_said (rule_in b.terms) (pairs_in b.terms)
    terms q t = by q t b.terms refl
      where
        by : (q : Plain) → Tells b q → (s : Terms) → b.terms ≡ s → terms_of q ≡ terms_said (rule_in b.terms) (pairs_in b.terms)
        by (by_marks o cs ms) t (by_pairs ps) e = ap (λ k. Pairs k) (pairs_are (by_marks o cs ms) t ps e) ∙ sym (ap (λ s. terms_said (rule_in s) (pairs_in s)) e)
        by (by_marks o cs ms) t (by_rule r) e = some_none (sym (t.rule ∙ ap rule_in e))
        by (ruled_book o x cs) t (by_pairs ps) e = some_none (t.rule ∙ ap rule_in e)
        by (ruled_book o x cs) t (by_rule r) e = ap (λ o. terms_said o []) (t.rule ∙ ap rule_in e) ∙ sym (ap (λ s. terms_said (rule_in s) (pairs_in s)) e)

    gone_is : count_to (λ u. get_or (book_in p).notes.withdrawn u false) (length (cards_in p)) ≡ length b.withdrawn
    gone_is = ap (λ v. count_to (λ u. get_or (book_in p).notes.withdrawn u false) (length v)) h.cards
        ∙ count_same _ (λ u. said b.withdrawn (stamp_at b.cards u)) (length b.cards) (λ u k. h.withdrawn u k)
        ∙ all_gone b.cards n b.withdrawn [] w.withdrawn (count_none (λ u. false) (length b.cards) (λ j k. refl))

-- an accepted one has that of what its bytes say
pub all_counted : (bs : List ℕ) (short : Bool) (t : ClosedBook) → ReadsClosed bs short (Ok t) → (Ok (counted_of (plain t)) ≡ summary_answer bs) × Sums bs (Ok (counted_of (plain t)))
all_counted bs short t m =
    let says = m.2.1 in
    let c = counts m.2.0 says.well (plain t) m.2.2 in (
      ap (λ s. Ok s) c ∙ sym (ap summing (reads bs m.2.0 says)) ∙ sym (ap (λ b. cond b (Err (refused TooLong BookLayer 0)) (summing (read_book bs))) (le-ltb 65536 (length bs) m.0)),
      (m.0, (m.2.0, says, c)),
    )
