-- What a reading answers, from what was found.
use Rattle.std.proofs.Common.{◌≡◌, ℕ, ◌-◌, ◌≤◌, Bool, true, false, cond, List, ◌++◌, length, get_or, take, drop, replicate, is_ok, Ok, Err, Result, sym, refl, ap, ◌∙◌, subst, append_assoc, take-append-drop, zero-add, arith, rules}
use Rattle.std.specs.Array.{IsFirstChunk}
use Rattle.std.proofs.lemmas.List.FromFn.{get_or-map-range_with_len}
use Rattle.std.proofs.lemmas.List.{drop_at, length-append, length-drop, take_at}
use Rattle.std.proofs.lemmas.Bool.{le-ltb}
use Rattle.refusal.specs.Refusals.{refused}
use Rattle.refusal.specs.declared.Layer.TheVariants.{Book as BookLayer}
use Rattle.refusal.specs.declared.Reason.TheVariants.{ShortSpace, TooLong}
use Rattle.refusal.specs.declared.Refusal.{Refusal}
use Rattle.format.specs.declared.card.Card.{Card}
use Rattle.format.specs.Grammar.{Contents, said, said_pair}
use Rattle.format.specs.Rules.{Draft, read_book}
use Rattle.format.specs.Theorems.{Bytes, Verdict, draft_of}
use Rattle.format.proofs.Exactly.{reads_exactly}
use Rattle.format.proofs.Logic.{clash, err_ok}
use Rattle.book.specs.declared.index.IndexRecord.{IndexRecord}
use Rattle.book.specs.declared.open.OpenBook.{OpenBook}
use Rattle.book.specs.Reading.{Finds, Holds, IndexAfter, MarksAfter, Means, Outcome, TellsPairs, answer_of, at_records, book_of, cards_after, outcome, untouched}
use Rattle.book.specs.Spaces.{no_card, no_index, stamp_at}
use Rattle.book.proofs.Agrees.{tells_both}
use Rattle.book.proofs.Pairs.{marked_front}

pub record Answered (bs : List ℕ) (short : Bool) (o : Outcome) (cs cs' : List Card) (ms ms' : List ℕ) (es es' : List IndexRecord) (r : Result OpenBook Refusal) : Type 0 where
  pub answer : r ≡ answer_of o
  pub cards : cs' ≡ cards_after o cs
  pub marks : MarksAfter o ms ms'
  pub index : IndexAfter o es es'
  pub means : Means bs short r cs' ms'

pub same_err : {X Y : Type 0} {a b : Y} → ◌≡◌ {A = Result X Y} (Err a) (Err b) → a ≡ b
same_err p = cc

same_ok : {X Y : Type 0} {a b : X} → ◌≡◌ {A = Result X Y} (Ok a) (Ok b) → a ≡ b
same_ok p = cc

-- the front that is lent, and what lies behind it
pub front_back : {X : Type 0} {xs ys : List X} {n : ℕ} → IsFirstChunk xs ys n → ys ++ drop n xs ≡ xs
front_back {X} {xs} {ys} {n} k = search (rules, take-append-drop)

-- a space is too short
pub unread : (bs : List ℕ) (short : Bool) (cs cs' : List Card) (ms ms' : List ℕ) (es : List IndexRecord) → length bs ≤ 65536 → short ≡ true → cs' ≡ cs → ms' ≡ ms
    → Answered bs short (outcome bs short) cs cs' ms ms' es es (Err (refused ShortSpace BookLayer 0))
unread bs short cs cs' ms ms' es few s c m = subst (λ q. Answered bs short q cs cs' ms ms' es es (Err (refused ShortSpace BookLayer 0))) (sym reached)
    (record { answer = refl; cards = c; marks = m; index = refl; means = λ p l. clash (sym s ∙ l) })
  where
    reached : outcome bs short ≡ untouched (refused ShortSpace BookLayer 0)
    reached = ap (λ b. cond b (untouched (refused TooLong BookLayer 0)) (cond short (untouched (refused ShortSpace BookLayer 0)) (at_records (read_book bs)))) (le-ltb 65536 (length bs) few)
        ∙ ap (λ b. cond b (untouched (refused ShortSpace BookLayer 0)) (at_records (read_book bs))) s

module _ (bs : List ℕ) (short : Bool) (cs front : List Card) (ms told : List ℕ) (es used : List IndexRecord)
    (typed : Bytes bs) (few : length bs ≤ 65536) (long : short ≡ false) (enough : 256 ≤ length es) (in-front : length front ≡ 256) (in-used : length used ≡ 256) where
  -- the outcome is that of the records
  reached : outcome bs short ≡ at_records (read_book bs)
  reached = ap (λ b. cond b (untouched (refused TooLong BookLayer 0)) (cond short (untouched (refused ShortSpace BookLayer 0)) (at_records (read_book bs)))) (le-ltb 65536 (length bs) few)
      ∙ ap (λ b. cond b (untouched (refused ShortSpace BookLayer 0)) (at_records (read_book bs))) long

  holds : (o : OpenBook) (d : Draft) (b : Contents) → d ≡ draft_of b → Finds (Ok d) (Ok o) front told → Holds b o (front ++ drop 256 cs) (told ++ drop 4080 ms)
  holds o d b e f =
      let s : o ≡ book_of d = same_ok f.0 in
      let c : o.count ≡ length d.cards = ap (λ v. v.count) s in
      let k : o.count ≤ 256 = omega (arith, c, ap length f.1, length-append d.cards (replicate (256 - length d.cards) no_card), in-front) in
      let split : front ++ drop 256 cs ≡ d.cards ++ (replicate (256 - length d.cards) no_card ++ drop 256 cs) = ap (λ v. v ++ drop 256 cs) f.1 ∙ append_assoc d.cards (replicate (256 - length d.cards) no_card) (drop 256 cs) in
      record {
        count = c ∙ ap (λ v. length v.cards) e;
        cards = ap (take o.count) split ∙ take_at d.cards _ o.count (sym c) ∙ ap (λ v. v.cards) e;
        rule = ap (λ v. v.notes.rule) s ∙ ap (λ v. v.rule) e;
        partners = λ u v p q ne. marked_front told (drop 4080 ms) u v f.2.whole (omega arith) (omega arith) ne ∙ tells_both d.cards d.pairs told u v f.2 (omega arith) (omega arith) ne
            ∙ ap (λ w. said_pair w.pairs (stamp_at w.cards u) (stamp_at w.cards v)) e;
        withdrawn = λ u p. ap (λ v. get_or v.notes.withdrawn u false) s ∙ get_or-map-range_with_len (λ k. said d.withdrawn (stamp_at d.cards k)) 0 256 u u false (omega arith) (zero-add u)
            ∙ ap (λ w. said w.withdrawn (stamp_at w.cards u)) e;
      }

  accepted_at : (o : OpenBook) (q : Result Draft Refusal) → read_book bs ≡ q → Finds q (Ok o) front told
      → Answered bs short (at_records q) cs (front ++ drop 256 cs) ms (told ++ drop 4080 ms) es (used ++ drop 256 es) (Ok o)
  accepted_at o (Err w) e f = err_ok (sym f)
  accepted_at o (Ok d) e f =
      let v = subst (Verdict bs) e (reads_exactly bs typed) in
      record {
        answer = f.0;
        cards = ap (λ v. v ++ drop 256 cs) f.1;
        marks = (subst (TellsPairs d.cards d.pairs) (sym (take_at told (drop 4080 ms) 4080 f.2.whole)) f.2, drop_at told (drop 4080 ms) 4080 f.2.whole);
        index = (omega (arith, length-append used (drop 256 es), length-drop 256 es), drop_at used (drop 256 es) 256 in-used);
        means = (few, long, (v.0, v.1, holds o d v.0 v.2 f));
      }

  rejected_at : (q : Result Draft Refusal) (w : Refusal) → read_book bs ≡ q → Finds q (Err w) front told → front ≡ replicate 256 no_card → told ≡ replicate 4080 0 → used ≡ replicate 256 no_index
      → Answered bs short (at_records q) cs (front ++ drop 256 cs) ms (told ++ drop 4080 ms) es (used ++ drop 256 es) (Err w)
  rejected_at (Ok d) w e f c m i = err_ok f.0
  rejected_at (Err x) w e f c m i =
      let same : w ≡ x = same_err f in
      record {
        answer = ap (λ y. Err y) same;
        cards = ap (λ v. v ++ drop 256 cs) c;
        marks = ap (λ v. v ++ drop 4080 ms) m;
        index = ap (λ v. v ++ drop 256 es) i;
        means = λ p s. subst (λ y. Verdict bs (Err y)) (sym same) (subst (Verdict bs) e (reads_exactly bs typed));
      }

  -- what was read, or refused with spaces that are zero
  pub answered : (r : Result OpenBook Refusal) → Finds (read_book bs) r front told
      → (is_ok r ≡ false → (front ≡ replicate 256 no_card) × (told ≡ replicate 4080 0) × (used ≡ replicate 256 no_index))
      → Answered bs short (outcome bs short) cs (front ++ drop 256 cs) ms (told ++ drop 4080 ms) es (used ++ drop 256 es) r
  answered r f z = subst (λ q. Answered bs short q cs (front ++ drop 256 cs) ms (told ++ drop 4080 ms) es (used ++ drop 256 es) r) (sym reached) (go r f z)
    where
      go : (r : Result OpenBook Refusal) → Finds (read_book bs) r front told
          → (is_ok r ≡ false → (front ≡ replicate 256 no_card) × (told ≡ replicate 4080 0) × (used ≡ replicate 256 no_index))
          → Answered bs short (at_records (read_book bs)) cs (front ++ drop 256 cs) ms (told ++ drop 4080 ms) es (used ++ drop 256 es) r
      go (Ok o) f z = accepted_at o (read_book bs) refl f
      go (Err w) f z = let k = z refl in rejected_at (read_book bs) w refl f k.0 k.1 k.2
