-- The turns of the reader's loop, and what is held at its end.
use Rattle.std.proofs.Common.{◌≡◌, ℕ, ◌+◌, ◌-◌, ◌<◌, ◌≤◌, cond, List, ◌++◌, length, take, drop, replicate, Some, None, Ok, Err, Option, Result, sym, refl, ap, ◌∙◌, subst, arith}
use Rattle.std.proofs.lemmas.List.{drop_all, drop-drop, drop-replicate, length-drop, length-take-le, take-append-drop}
use Rattle.refusal.specs.Refusals.{refused_over}
use Rattle.refusal.specs.declared.Layer.TheVariants.{Book as BookLayer}
use Rattle.refusal.specs.declared.Reason.{Reason}
use Rattle.refusal.specs.declared.Reason.TheVariants.{Truncated}
use Rattle.refusal.specs.declared.Refusal.{Refusal}
use Rattle.format.specs.Records.{kind_of, length_of_kind, record_of}
use Rattle.format.specs.Sections.{is_done}
use Rattle.format.specs.Rules.{Draft, below_of, byte_rules, first_broken, refused_at, run, taken}
use Rattle.format.proofs.Runs.{run_end, run_halt, run_step, takes}
use Rattle.book.specs.declared.fault.Fault.{Fault}
use Rattle.book.specs.declared.reader.Reader.{Reader}
use Rattle.book.specs.Reading.{Finds, TellsPairs}
use Rattle.book.specs.Spaces.{no_card}
use Rattle.book.specs.Stands.{GoesOn, Stand, fault_of, stand_of, step_of}
use Rattle.book.proofs.Agrees.{Agrees}
use Rattle.book.proofs.Follows.{Represents, Stepped, gone_is, step_agrees}

agrees_ok : {X : Type 0} (P : X → Type 0) (x : X) (o : Option Reason) → Agrees P (Ok x) o → (o ≡ None) × P x
agrees_ok P x None a = (refl, a)
agrees_ok P x (Some why) a = absurd a

agrees_err : {X : Type 0} (P : X → Type 0) (f : Fault) (o : Option Reason) → Agrees P (Err f) o → (why : Reason) × (o ≡ Some why) × (f ≡ fault_of why (below_of why))
agrees_err P f None a = absurd a
agrees_err P f (Some why) a = (why, refl, a)

module _ (bs part : List ℕ) (at : ℕ) (d : Draft) (s : Stand) (q : Result Draft Refusal) (in_bytes : at < length bs) (part-is : part ≡ drop at bs) (v : Represents d s) (i : run 0 (drop at bs) at d ≡ q) where
  some_left : 0 < length (drop at bs)
  some_left = rw length-drop (omega arith)

  agreed : {r : Result (Stand × ℕ) Fault} → step_of part s ≡ r → Agrees (Stepped d (drop at bs)) r (first_broken (byte_rules d (drop at bs)))
  agreed e = subst (λ r. Agrees (Stepped d (drop at bs)) r (first_broken (byte_rules d (drop at bs)))) (ap (λ xs. step_of xs s) (sym part-is) ∙ e) (step_agrees d s (drop at bs) v)

  -- a record is taken: the reading goes on behind it
  pub turn : (t : Stand) (left : ℕ) → step_of part s ≡ Ok (t, left)
      → (left ≤ length bs) × (at < length bs - left) × ((e : Draft) × Represents e t × (run 0 (drop (length bs - left) bs) (length bs - left) e ≡ q))
  turn t left e =
      let a = agrees_ok (Stepped d (drop at bs)) (t, left) _ (agreed e) in
      let w = takes d (drop at bs) some_left a.0 in
      let n = length_of_kind (kind_of (drop at bs)) in
      let l : left ≡ (length bs - at) - n = a.1.left ∙ ap (λ m. m - n) (length-drop at bs) in
      let k : n ≤ length bs - at = omega (arith, w.whole, length-drop at bs) in
      let z : length bs - left ≡ at + n = omega arith in (
        omega arith,
        omega (arith, w.some),
        (
          taken d (record_of (drop at bs)),
          a.1.represents,
          (λ j. run 0 (drop (z j) bs) (z j) (taken d (record_of (drop at bs))))
              ∙ ap (λ xs. run 0 xs (at + n) (taken d (record_of (drop at bs)))) (sym (drop-drop n at bs))
              ∙ sym (run_step (drop at bs) at d some_left w.some a.0) ∙ i,
        ),
      )

  -- a record is refused
  pub halt : (f : Fault) → step_of part s ≡ Err f → q ≡ Err (refused_over f.why BookLayer at f.below)
  halt f e =
      let a = agrees_err (Stepped d (drop at bs)) f _ (agreed e) in
      sym i ∙ run_halt (drop at bs) at d a.0 some_left a.1 ∙ ap (λ g. Err (refused_over g.why BookLayer at g.below)) (sym a.2)

-- no bytes are left
pub ended : (bs : List ℕ) (at : ℕ) (d : Draft) (q : Result Draft Refusal) → length bs ≤ at → run 0 (drop at bs) at d ≡ q → q ≡ cond (is_done d.section) (Ok d) (Err (refused_at Truncated at))
ended bs at d q l i = sym i ∙ ap (λ xs. run 0 xs at d) (drop_all at bs l) ∙ run_end at d

pub section_is : (d : Draft) (s : Stand) → Represents d s → d.section ≡ s.section
section_is d s v = sym (ap (λ t. t.section) v.is)

-- at the end of the book the spaces hold the draft
pub finds : (d : Draft) (r : Reader) → Represents d (stand_of r) → length r.cards.now ≡ 256 → r.index.now.records.count ≤ 256
    → drop r.index.now.records.count r.cards.now ≡ drop r.index.now.records.count (replicate 256 no_card)
    → Finds (Ok d) (Ok (record { count = r.index.now.records.count; notes = r.notes })) r.cards.now r.marks.now
finds d r v l c e =
    let k = r.index.now.records.count in
    let cs = r.cards.now in
    let cards : take k cs ≡ d.cards = ap (λ t. t.cards) v.is in
    let n : k ≡ length d.cards = sym (length-take-le k cs (omega arith)) ∙ ap length cards in (
      (λ i. Ok (record { count = n i; notes = record { rule = (v.is i).rule; withdrawn = (ap (λ t. t.withdrawn) v.is ∙ gone_is d v.withdrawn v.serves.gone) i } })),
      sym (take-append-drop k cs) ∙ (λ i. cards i ++ (e ∙ drop-replicate k 256 no_card) i) ∙ ap (λ m. d.cards ++ replicate (256 - m) no_card) n,
      subst (TellsPairs d.cards d.pairs) (sym (ap (λ t. t.marks) v.is)) v.serves.tells,
    )

-- what stays from a place on stays from each later one on
pub drop_further : {X : Type 0} (m n : ℕ) (xs ys : List X) → m ≤ n → drop m xs ≡ drop m ys → drop n xs ≡ drop n ys
drop_further m n xs ys l e =
    let k : m + (n - m) ≡ n = omega arith in
    ap (λ j. drop j xs) (sym k) ∙ sym (drop-drop (n - m) m xs) ∙ ap (drop (n - m)) e ∙ drop-drop (n - m) m ys ∙ ap (λ j. drop j ys) k

-- a reader that has taken in nothing, and one that goes on twice
pub goes_same : (r : Reader) → GoesOn r r
goes_same r = record { cards = refl; marks = refl; whole = refl; more = omega arith; behind = refl }

pub goes_further : (r s t : Reader) → GoesOn r s → GoesOn s t → GoesOn r t
goes_further r s t a b = record {
  cards = b.cards ∙ a.cards;
  marks = b.marks ∙ a.marks;
  whole = b.whole ∙ a.whole;
  more = omega arith;
  behind = b.behind ∙ drop_further _ _ _ _ b.more a.behind;
}
