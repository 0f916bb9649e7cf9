-- Stamps and places: the index finds the place of a stamp's card.
use Rattle.std.proofs.Common.{◌≡◌, ℕ, suc, ◌+◌, ◌-◌, ◌<◌, ◌≤◌, Bool, true, false, cond, ◌||◌, eqb, leb, List, [], ◌∷◌, ◌++◌, length, is_some, Some, None, Ok, Err, Option, Result, sym, refl, ap, ◌∙◌, arith}
use Rattle.std.proofs.lemmas.List.{get_or_append_left, get_or_past, get_or_push, length_push}
use Rattle.std.proofs.lemmas.Bool.Decides.{nat_tests}
use Rattle.std.proofs.lemmas.Bool.{eq-eqb, ne_eqb, eqb-true, eqb-false, leb-true, leb-false}
use Rattle.refusal.specs.declared.Reason.TheVariants.{UnknownStamp}
use Rattle.sorted.specs.Keyed.{first_of, inserted, of_key, tie}
use Rattle.format.specs.declared.card.Card.{Card}
use Rattle.format.specs.Grammar.{on_card}
use Rattle.format.proofs.Logic.{err_ok, some_none}
use Rattle.book.specs.declared.index.IndexRecord.{IndexRecord}
use Rattle.book.specs.declared.fault.Fault.{Fault}
use Rattle.book.specs.Spaces.{no_card, stamp_at}
use Rattle.book.specs.Stands.{fault_of, filed, indexed, located, stamp_in}

same_some : {X : Type 0} {a b : X} → Some a ≡ Some b → a ≡ b
same_some p = cc

-- the place of the first card with the stamp, in cards of which the first has place k
abbrev place_from : ℕ → List Card → ℕ → Option ℕ
place_from k [] s = None
place_from k (c ∷ cs) s = cond (eqb c.stamp s) (Some k) (place_from (k + 1) cs s)

abbrev pub place_of : List Card → ℕ → Option ℕ
place_of cs s = place_from 0 cs s

some_from : (k : ℕ) (cs : List Card) (s : ℕ) → is_some (place_from k cs s) ≡ on_card cs s
some_from k [] s = refl
some_from k (c ∷ cs) s = elim (eqb c.stamp s) as (λ b. is_some (cond b (Some k) (place_from (k + 1) cs s)) ≡ b || on_card cs s) [ true ↦ refl | false ↦ some_from (k + 1) cs s ]

-- a stamp has a place exactly where it is on a card
pub on_card_lem : (cs : List Card) (s : ℕ) (o : Option ℕ) → place_of cs s ≡ o → on_card cs s ≡ is_some o
on_card_lem cs s o e = sym (some_from 0 cs s) ∙ ap is_some e

found_from : (k : ℕ) (cs : List Card) (s u : ℕ) → place_from k cs s ≡ Some u → (k ≤ u) × (u < k + length cs) × (stamp_at cs (u - k) ≡ s)
found_from k [] s u e = some_none (sym e)
found_from k (c ∷ cs) s u e = go (eqb c.stamp s) refl e (found_from (k + 1) cs s u)
  where
    go : (b : Bool) → eqb c.stamp s ≡ b → cond b (Some k) (place_from (k + 1) cs s) ≡ Some u
        → (place_from (k + 1) cs s ≡ Some u → (k + 1 ≤ u) × (u < k + 1 + length cs) × (stamp_at cs (u - (k + 1)) ≡ s))
        → (k ≤ u) × (u < k + suc (length cs)) × (stamp_at (c ∷ cs) (u - k) ≡ s)
    go true t e more =
        let i : k ≡ u = same_some e in
        let z : u - k ≡ 0 = omega arith in
        (omega arith, omega arith, ap (stamp_at (c ∷ cs)) z ∙ eqb-true _ _ t)
    go false t e more =
        let h = more e in
        let z : u - k ≡ suc (u - (k + 1)) = omega (arith, h.0) in
        (omega (arith, h.0), omega (arith, h.1), ap (stamp_at (c ∷ cs)) z ∙ h.2)

-- the place found has the stamp
pub place_found : (cs : List Card) (s u : ℕ) → place_of cs s ≡ Some u → (u < length cs) × (stamp_at cs u ≡ s)
place_found cs s u e =
    let h = found_from 0 cs s u e in
    let z : u - 0 ≡ u = omega arith in
    (omega (arith, h.1), ap (stamp_at cs) (sym z) ∙ h.2)

-- one card more
push_from : (k : ℕ) (cs : List Card) (c : Card) (s : ℕ) → place_from k (cs ++ c ∷ []) s ≡ elim (place_from k cs s) [ Some u ↦ Some u | None ↦ cond (eqb c.stamp s) (Some (k + length cs)) None ]
push_from k [] c s = ap (λ j. cond (eqb c.stamp s) (Some j) None) (omega arith)
push_from k (d ∷ cs) c s =
    let e : k + 1 + length cs ≡ k + suc (length cs) = omega arith in
    elim (eqb d.stamp s) as (λ b. cond b (Some k) (place_from (k + 1) (cs ++ c ∷ []) s) ≡ elim (cond b (Some k) (place_from (k + 1) cs s)) [ Some u ↦ Some u | None ↦ cond (eqb c.stamp s) (Some (k + suc (length cs))) None ])
    [ true ↦ refl | false ↦ push_from (k + 1) cs c s ∙ ap (λ j. elim (place_from (k + 1) cs s) [ Some u ↦ Some u | None ↦ cond (eqb c.stamp s) (Some j) None ]) e ]

push_old : (cs : List Card) (c : Card) (s u : ℕ) → place_of cs s ≡ Some u → place_of (cs ++ c ∷ []) s ≡ Some u
push_old cs c s u e = push_from 0 cs c s ∙ rw e

push_new : (cs : List Card) (c : Card) → place_of cs c.stamp ≡ None → place_of (cs ++ c ∷ []) c.stamp ≡ Some (length cs)
push_new cs c e =
    let z : 0 + length cs ≡ length cs = omega arith in
    push_from 0 cs c c.stamp ∙ rw (e, eq-eqb c.stamp c.stamp refl) (ap (λ k. Some k) z)

push_other : (cs : List Card) (c : Card) (s : ℕ) → (c.stamp ≡ s → ⊥) → place_of (cs ++ c ∷ []) s ≡ place_of cs s
push_other cs c s ne = push_from 0 cs c s ∙ go (place_of cs s)
  where
    go : (o : Option ℕ) → elim o [ Some u ↦ Some u | None ↦ cond (eqb c.stamp s) (Some (0 + length cs)) None ] ≡ o
    go None = rw (ne_eqb _ _ ne)
    go (Some u) = refl

-- no two cards have one stamp: each is found at its own place
abbrev pub Named : List Card → Type 0
Named cs = (u : ℕ) → u < length cs → place_of cs (stamp_at cs u) ≡ Some u

pub named_push : (cs : List Card) (c : Card) → Named cs → place_of cs c.stamp ≡ None → Named (cs ++ c ∷ [])
named_push cs c n e u h = go (eqb u (length cs)) refl
  where
    go : (b : Bool) → eqb u (length cs) ≡ b → place_of (cs ++ c ∷ []) (stamp_at (cs ++ c ∷ []) u) ≡ Some u
    go true t =
        let z = eqb-true _ _ t in
        let a : stamp_at (cs ++ c ∷ []) u ≡ c.stamp = ap (λ d. d.stamp) (get_or_push cs c no_card u (sym z)) in
        ap (place_of (cs ++ c ∷ [])) a ∙ push_new cs c e ∙ ap (λ k. Some k) (sym z)
    go false t =
        let w : u < length cs = omega (arith, eqb-false _ _ t, length_push cs c) in
        let a : stamp_at (cs ++ c ∷ []) u ≡ stamp_at cs u = ap (λ d. d.stamp) (get_or_append_left cs (c ∷ []) no_card u w) in
        ap (place_of (cs ++ c ∷ [])) a ∙ push_old cs c (stamp_at cs u) u (n u w)

-- a stamp other than 0 has one place
pub only : (cs : List Card) (s p u : ℕ) → Named cs → place_of cs s ≡ Some p → 0 < s → stamp_at cs u ≡ s → u ≡ p
only cs s p u n e z h = go (leb (length cs) u) refl
  where
    go : (b : Bool) → leb (length cs) u ≡ b → u ≡ p
    go true t = absurd (omega (arith, ap (λ d. d.stamp) (get_or_past cs u no_card (leb-true _ _ t)), h))
    go false t =
        let w : u < length cs = leb-false _ _ t in
        same_some (sym (n u w) ∙ ap (place_of cs) h ∙ e)

-- what the index says of a place
abbrev pub place_res : Option ℕ → Result ℕ Fault
place_res None = Err (fault_of UnknownStamp None)
place_res (Some u) = Ok u

abbrev by_record : Option IndexRecord → Result ℕ Fault
by_record o = elim o [ None ↦ Err (fault_of UnknownStamp None) | Some e ↦ Ok e.place ]

-- the index tells what the cards tell
abbrev pub Knows : List Card → List IndexRecord → Type 0
Knows cs es = (s : ℕ) → located es s ≡ place_res (place_of cs s)

pub knows_some : (cs : List Card) (es : List IndexRecord) (s : ℕ) → Knows cs es → is_some (indexed es s) ≡ is_some (place_of cs s)
knows_some cs es s k = go (indexed es s) (place_of cs s) (k s)
  where
    go : (o : Option IndexRecord) (p : Option ℕ) → by_record o ≡ place_res p → is_some o ≡ is_some p
    go None None e = refl
    go None (Some u) e = err_ok e
    go (Some x) None e = err_ok (sym e)
    go (Some x) (Some u) e = refl

pub none_from : {X : Type 0} (o : Option X) → is_some o ≡ false → o ≡ None
none_from None e = refl
none_from (Some x) e = cc

-- a record that is inserted is found, and the others as before
module _ {X K : Type 0} (p : X → Bool) (upto : K → K → Bool) (key : X → K) (x : X) where
  inserted_other : (xs : List X) → p x ≡ false → first_of p (inserted upto key x xs) ≡ first_of p xs
  inserted_other [] h = rw h
  inserted_other (y ∷ ys) h = elim (upto (key y) (key x)) as (λ b. first_of p (cond b (y ∷ inserted upto key x ys) (x ∷ (y ∷ ys))) ≡ first_of p (y ∷ ys))
      [ true ↦ ap (λ o. cond (p y) (Some y) o) (inserted_other ys h) | false ↦ rw h ]

  inserted_own : (xs : List X) → p x ≡ true → first_of p xs ≡ None → first_of p (inserted upto key x xs) ≡ Some x
  inserted_own [] h e = rw h
  inserted_own (y ∷ ys) h e = go (p y) refl e (inserted_own ys h)
    where
      go : (b : Bool) → p y ≡ b → cond b (Some y) (first_of p ys) ≡ None → (first_of p ys ≡ None → first_of p (inserted upto key x ys) ≡ Some x) → first_of p (inserted upto key x (y ∷ ys)) ≡ Some x
      go true t e more = some_none e
      go false t e more = elim (upto (key y) (key x)) as (λ b. first_of p (cond b (y ∷ inserted upto key x ys) (x ∷ (y ∷ ys))) ≡ Some x)
          [ true ↦ ap (λ b. cond b (Some y) (first_of p (inserted upto key x ys))) t ∙ more e | false ↦ rw h ]

tie_same : (a b : ℕ) → a ≡ b → tie leb a b ≡ true
tie_same a b e = grind (arith, nat_tests)

tie_apart : (a b : ℕ) → (a ≡ b → ⊥) → tie leb a b ≡ false
tie_apart a b ne = grind (arith, nat_tests)

pub knows_push : (cs : List Card) (es : List IndexRecord) (c : Card) → Knows cs es → place_of cs c.stamp ≡ None → Knows (cs ++ c ∷ []) (filed es c.stamp (length cs))
knows_push cs es c k e s = go (eqb c.stamp s) refl
  where
    x : IndexRecord
    x = record { stamp = c.stamp; place = length cs }

    go : (b : Bool) → eqb c.stamp s ≡ b → located (filed es c.stamp (length cs)) s ≡ place_res (place_of (cs ++ c ∷ []) s)
    go true t =
        let z = eqb-true _ _ t in
        let n : indexed es s ≡ None = none_from _ (knows_some cs es s k ∙ ap (λ v. is_some (place_of cs v)) (sym z) ∙ ap is_some e) in
        let a : indexed (filed es c.stamp (length cs)) s ≡ Some (record { stamp = c.stamp; place = length cs }) = inserted_own (of_key leb stamp_in s) leb stamp_in (record { stamp = c.stamp; place = length cs }) es (tie_same _ _ z) n in
        let m : place_of (cs ++ c ∷ []) s ≡ Some (length cs) = ap (place_of (cs ++ c ∷ [])) (sym z) ∙ push_new cs c e in
        ap by_record a ∙ ap place_res (sym m)
    go false t =
        let z = eqb-false _ _ t in
        let a : indexed (filed es c.stamp (length cs)) s ≡ indexed es s = inserted_other (of_key leb stamp_in s) leb stamp_in (record { stamp = c.stamp; place = length cs }) es (tie_apart _ _ z) in
        ap by_record a ∙ k s ∙ ap place_res (sym (push_other cs c s z))
