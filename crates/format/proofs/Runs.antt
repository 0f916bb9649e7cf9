-- How reading by the rules goes from record to record.
use Rattle.std.proofs.Common.{◌≡◌, ℕ, zero, suc, ◌+◌, ◌-◌, ◌<◌, ◌≤◌, Bool, true, false, cond, not, ◌&&◌, eqb, List, [], ◌∷◌, ◌++◌, length, drop, is_some, Some, None, Ok, Err, Option, Result, sym, refl, ap, ◌∙◌, subst, append_assoc, add-zero, arith, rules}
use Rattle.std.proofs.lemmas.List.{get_or-drop, length-append, length-drop}
use Rattle.std.proofs.lemmas.Bool.{and_right, eqb-false, ltb-false, lt-ltb, ne_eqb, not-false, or_parts}
use Rattle.std.specs.List.{AllByRecursion as All}
use Rattle.refusal.specs.declared.Reason.{Reason}
use Rattle.refusal.specs.declared.Reason.TheVariants.{Truncated, UnknownKind, OutOfSection}
use Rattle.refusal.specs.declared.Refusal.{Refusal}
use Rattle.format.specs.declared.records.Record.{Record}
use Rattle.format.specs.declared.records.Record.TheVariants.{Card as CardRecord, Rule as RuleRecord, Pair as PairRecord, Withdrawn as WithdrawnRecord, End as EndRecord}
use Rattle.format.specs.declared.records.Section.{Section}
use Rattle.format.specs.Records.{bytes_of, cut_short, kind_of, length_of_kind, record_of, unknown_kind}
use Rattle.format.specs.Sections.{is_done, next}
use Rattle.format.specs.Grammar.{encoded}
use Rattle.format.specs.Rules.{Draft, taken, record_rules, byte_rules, first_broken, refused_at, run}
use Rattle.format.specs.Theorems.{after, Kept, Bytes}
use Rattle.format.proofs.Lexed.{Fit, begins, spelt}
use Rattle.format.proofs.Logic.{keep, kept}

-- the length of the record that begins the bytes
abbrev pub size_in : List ℕ → ℕ
size_in xs = length_of_kind (kind_of xs)

run_skip : (k : ℕ) (xs : List ℕ) (at : ℕ) (d : Draft) → run k xs at d ≡ run 0 (drop k xs) at d
unfolding run
run_skip zero xs at d = refl
run_skip (suc k) [] at d = refl
run_skip (suc k) (x ∷ xs) at d = run_skip k xs at d

drop_past : (n x : ℕ) (xs : List ℕ) → 0 < n → drop n (x ∷ xs) ≡ drop (n - 1) xs
drop_past zero x xs h = absurd (omega arith)
drop_past (suc n) x xs h = let e : n ≡ suc n - 1 = omega arith in ap (λ k. drop k xs) e

-- a record that keeps every rule is taken
pub run_step : (xs : List ℕ) (at : ℕ) (d : Draft) → 0 < length xs → 0 < size_in xs → first_broken (byte_rules d xs) ≡ None
    → run 0 xs at d ≡ run 0 (drop (size_in xs) xs) (at + size_in xs) (taken d (record_of xs))
unfolding run
run_step [] at d l p e = absurd (omega arith)
run_step (x ∷ xs) at d l p e = rw (e, run) (run_skip (length_of_kind x - 1) xs (at + length_of_kind x) (taken d (record_of (x ∷ xs)))
    ∙ ap (λ ys. run 0 ys (at + length_of_kind x) (taken d (record_of (x ∷ xs)))) (sym (drop_past (length_of_kind x) x xs p)))

-- one that breaks a rule is refused
pub run_halt : (xs : List ℕ) (at : ℕ) (d : Draft) (why : Reason) → 0 < length xs → first_broken (byte_rules d xs) ≡ Some why → run 0 xs at d ≡ Err (refused_at why at)
unfolding run
run_halt [] at d why l e = absurd (omega arith)
run_halt (x ∷ xs) at d why l e = rw (e, run)

pub run_end : (at : ℕ) (d : Draft) → run 0 [] at d ≡ cond (is_done d.section) (Ok d) (Err (refused_at Truncated at))
unfolding run
run_end at d = refl

-- what kept rules say of the bytes
pub record Taken (d : Draft) (xs : List ℕ) : Type 0 where
  pub going : is_done d.section ≡ false
  pub some : 0 < size_in xs
  pub whole : size_in xs ≤ length xs
  pub keeps : first_broken (record_rules d (record_of xs)) ≡ None

pub takes : (d : Draft) (xs : List ℕ) → 0 < length xs → first_broken (byte_rules d xs) ≡ None → Taken d xs
takes d xs l e =
    let a = keep (is_done d.section) OutOfSection e in
    let b = keep (unknown_kind xs) UnknownKind a.1 in
    let c = keep (cut_short xs) Truncated b.1 in
    let k : eqb (size_in xs) 0 ≡ false = known (eqb (size_in xs) 0) (sym (ap (λ t. t && eqb (size_in xs) 0) (lt-ltb 0 (length xs) l)) ∙ b.0) in
    record { going = a.0; some = omega (arith, eqb-false _ _ k); whole = ltb-false _ _ (or_parts _ _ c.0).1; keeps = c.1 }
  where
    known : (t : Bool) → true && t ≡ false → t ≡ false
    known t e = e

-- after the end nothing may follow
going : (s : Section) (r : Record) → is_some (next s r) ≡ true → is_done s ≡ false
going s r a = search rules

-- records that keep every rule are read, one after the other
pub reads_on : (rs : List Record) (at : ℕ) (d : Draft) → All Fit rs → Kept d rs → is_done (after d rs).section ≡ true → run 0 (encoded rs) at d ≡ Ok (after d rs)
reads_on [] at d f k e = run_end at d ∙ ap (λ b. cond b (Ok d) (Err (refused_at Truncated at))) e
reads_on (r ∷ rs) at d f k e =
    let b = begins r (encoded rs) f.0 in
    let xs = bytes_of r ++ encoded rs in
    let g : is_done d.section ≡ false = going d.section r (not-false _ (keep (not (is_some (next d.section r))) OutOfSection k.0).0) in
    let h : first_broken (record_rules d (record_of xs)) ≡ None = ap (λ v. first_broken (record_rules d v)) b.is ∙ k.0 in
    let n : first_broken (byte_rules d xs) ≡ None = kept (is_done d.section) OutOfSection g (kept (unknown_kind xs) UnknownKind b.known (kept (cut_short xs) Truncated b.whole h)) in
    let z : 0 < length (bytes_of r) = some_bytes r in
    run_step xs at d (omega (arith, length-append (bytes_of r) (encoded rs))) (omega (arith, b.size)) n
    ∙ (λ i. run 0 (b.left i) (at + size_in xs) (taken d (b.is i)))
    ∙ reads_on rs (at + size_in xs) (taken d r) f.1 k.1 e
  where
    some_bytes : (r : Record) → 0 < length (bytes_of r)
    some_bytes (CardRecord c) = omega arith
    some_bytes (RuleRecord c) = omega arith
    some_bytes (PairRecord a b) = omega arith
    some_bytes (WithdrawnRecord a) = omega arith
    some_bytes EndRecord = omega arith

-- how a reading ends, after a draft and with bytes left
abbrev pub Ends : Draft → List ℕ → ℕ → Result Draft Refusal → Type 0
Ends d rest at (Ok t) = (rest ≡ []) × (is_done d.section ≡ true) × (t ≡ d)
Ends d rest at (Err e) = (is_done d.section && eqb (length rest) 0 ≡ false) × ((why : Reason) × (first_broken (byte_rules d rest) ≡ Some why) × (e ≡ refused_at why at))

pub record Halts (xs : List ℕ) (at : ℕ) (d : Draft) (q : Result Draft Refusal) : Type 0 where
  pub records : List Record
  pub rest : List ℕ
  pub spells : xs ≡ encoded records ++ rest
  pub fit : All Fit records
  pub keeps : Kept d records
  pub ends : Ends (after d records) rest (at + length (encoded records)) q

at_once : (xs : List ℕ) (at : ℕ) (d : Draft) (q : Result Draft Refusal) → Ends d xs at q → Halts xs at d q
at_once xs at d q e = record { records = []; rest = xs; spells = refl; fit = tt; keeps = tt; ends = subst (λ m. Ends d xs m q) (sym (add-zero at)) e }

-- Every reading ends: after records that keep every rule, at the end of the book or at a record that breaks a rule.
pub halts : (n : ℕ) (xs : List ℕ) (at : ℕ) (d : Draft) → length xs ≤ n → Bytes xs → Halts xs at d (run 0 xs at d)
halts n [] at d l t = at_once [] at d _ (subst (Ends d [] at) (sym (run_end at d)) (end (is_done d.section) refl))
  where
    end : (b : Bool) → is_done d.section ≡ b → Ends d [] at (cond b (Ok d) (Err (refused_at Truncated at)))
    end true e = (refl, e, refl)
    end false e = (ap (λ b. b && true) e, (Truncated, ap (λ b. cond b (Some OutOfSection) (Some Truncated)) e, refl))
halts zero (x ∷ xs) at d l t = absurd (omega arith)
halts (suc n) (x ∷ xs) at d l t = go (first_broken (byte_rules d (x ∷ xs))) refl (λ ys m u. halts n ys m u)
  where
    r : Record
    r = record_of (x ∷ xs)

    m : ℕ
    m = length_of_kind x

    go : (o : Option Reason) → first_broken (byte_rules d (x ∷ xs)) ≡ o
        → ((ys : List ℕ) (k : ℕ) (u : Draft) → length ys ≤ n → Bytes ys → Halts ys k u (run 0 ys k u)) → Halts (x ∷ xs) at d (run 0 (x ∷ xs) at d)
    go (Some why) e more =
        let z : eqb (length (x ∷ xs)) 0 ≡ false = ne_eqb _ _ (omega arith) in
        at_once (x ∷ xs) at d _ (subst (Ends d (x ∷ xs) at) (sym (run_halt (x ∷ xs) at d why (omega arith) e)) (and_right _ _ z, (why, e, refl)))
    go None e more =
        let w = takes d (x ∷ xs) (omega arith) e in
        let s = spelt (x ∷ xs) t w.some w.whole in
        let l' : length (drop m (x ∷ xs)) ≤ n = omega (arith, length-drop m (x ∷ xs), w.some) in
        let t' : Bytes (drop m (x ∷ xs)) = λ i. subst (λ v. v < 256) (sym (get_or-drop m (x ∷ xs) i 0)) (t (m + i)) in
        let h = more (drop m (x ∷ xs)) (at + m) (taken d r) l' t' in
        let c : (at + m) + length (encoded h.records) ≡ at + length (encoded (r ∷ h.records)) = omega (arith, length-append (bytes_of r) (encoded h.records), s.2) in
        record {
          records = r ∷ h.records;
          rest = h.rest;
          spells = s.0 ∙ ap (λ v. bytes_of r ++ v) h.spells ∙ sym (append_assoc (bytes_of r) (encoded h.records) h.rest);
          fit = (s.1, h.fit);
          keeps = (w.keeps, h.keeps);
          ends = subst (Ends (after (taken d r) h.records) h.rest (at + length (encoded (r ∷ h.records)))) (sym (run_step (x ∷ xs) at d (omega arith) w.some e))
              (subst (λ j. Ends (after (taken d r) h.records) h.rest j (run 0 (drop m (x ∷ xs)) (at + m) (taken d r))) c h.ends);
        }
