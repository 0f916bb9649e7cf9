-- The reader's checks on index and marks are the rules on what was said.
use Rattle.std.proofs.Common.{◌≡◌, ℕ, ◌<◌, ◌≤◌, Bool, true, false, cond, not, ◌&&◌, ◌||◌, eqb, ltb, leb, ◌⊎◌, List, [], ◌∷◌, ◌++◌, length, get_or, set, is_some, Some, None, Ok, Err, Option, Result, sym, refl, ap, ◌∙◌, subst, inl, inr, arith}
use Rattle.std.proofs.Math.Bool.{or-false, or_comm}
use Rattle.std.proofs.lemmas.List.{get_or-set_same, get_or-set_other, length_push, length-set}
use Rattle.std.proofs.lemmas.Bool.{and_from, and_parts, eq-eqb, ne_eqb, eqb-true, eqb-false, leb-true, lt-leb, le-leb, ltb-true, ltb-false, or_cases, or_left, or_right}
use Rattle.refusal.specs.declared.Reason.{Reason}
use Rattle.refusal.specs.declared.Reason.TheVariants.{DuplicateStamp, UnknownStamp, SelfPair, Repeated, TooMany}
use Rattle.format.specs.declared.card.Card.{Card}
use Rattle.format.specs.Records.{stamp_ok}
use Rattle.format.specs.Grammar.{any_of, on_card, same_pair, said_pair, said}
use Rattle.format.specs.Rules.{below_of}
use Rattle.format.proofs.Logic.{clash}
use Rattle.book.specs.declared.index.IndexRecord.{IndexRecord}
use Rattle.book.specs.declared.fault.Fault.{Fault}
use Rattle.book.specs.Marks.{marked, toggled}
use Rattle.book.specs.Reading.{TellsPairs}
use Rattle.book.specs.Spaces.{stamp_at}
use Rattle.book.specs.Stands.{carded, fault_of, filed, indexed, marking, pair_marked, withdrawing}
use Rattle.book.proofs.Pairs.{SamePlaces, marked_swap, sides, toggled_own, toggled_other, toggled_whole}
use Rattle.book.proofs.Places.{Knows, Named, knows_push, knows_some, named_push, on_card_lem, only, place_found, place_of, place_res}

-- An answer agrees with the first broken rule: the fault is that rule's, and without one what is held is as it should be.
abbrev pub Agrees : {X : Type 0} → (X → Type 0) → Result X Fault → Option Reason → Type 0
Agrees P (Ok x) None = P x
Agrees P (Ok x) (Some why) = ⊥
Agrees P (Err f) None = ⊥
Agrees P (Err f) (Some why) = f ≡ fault_of why (below_of why)

pub agrees_by : {X : Type 0} (P : X → Type 0) {q q' : Result X Fault} {o o' : Option Reason} → q ≡ q' → o ≡ o' → Agrees P q' o' → Agrees P q o
agrees_by P {q} {q'} {o} {o'} e i a = subst (λ v. Agrees P v o) (sym e) (subst (Agrees P q') (sym i) a)

pub agrees_map : {X Y : Type 0} {P : X → Type 0} (Q : Y → Type 0) (g : X → Y) (q : Result X Fault) (o : Option Reason) → ((x : X) → P x → Q (g x)) → Agrees P q o
    → Agrees Q (elim q [ Err f ↦ Err f | Ok x ↦ Ok (g x) ]) o
agrees_map Q g (Ok x) None h a = h x a
agrees_map Q g (Ok x) (Some why) h a = a
agrees_map Q g (Err f) None h a = a
agrees_map Q g (Err f) (Some why) h a = a

any_push : {X : Type 0} (p : X → Bool) (xs : List X) (x : X) → any_of p (xs ++ x ∷ []) ≡ (any_of p xs || p x)
any_push p [] x = elim (p x) as (λ b. b || false ≡ b) [ true ↦ refl | false ↦ refl ]
any_push p (y ∷ xs) x = elim (p y) as (λ b. b || any_of p (xs ++ x ∷ []) ≡ ((b || any_of p xs) || p x)) [ true ↦ refl | false ↦ any_push p xs x ]

-- a member that passes, or fails, decides the longer list
pub push_true : {X : Type 0} (p : X → Bool) (xs : List X) (x : X) → p x ≡ true → any_of p (xs ++ x ∷ []) ≡ true
push_true p xs x h = any_push p xs x ∙ or_right (any_of p xs) (p x) h

pub push_false : {X : Type 0} (p : X → Bool) (xs : List X) (x : X) → p x ≡ false → any_of p (xs ++ x ∷ []) ≡ any_of p xs
push_false p xs x h = any_push p xs x ∙ ap (λ b. any_of p xs || b) h ∙ or-false (any_of p xs)

pub stamp_pos : (s : ℕ) → stamp_ok s ≡ true → 0 < s
stamp_pos s h = leb-true 1 s (and_parts _ _ h).0

-- ---- cards

-- the index knows the cards with one more
pub record Carded (cs : List Card) (c : Card) (p : List Card × List IndexRecord) : Type 0 where
  pub is : p.0 ≡ cs ++ c ∷ []
  pub few : length (cs ++ c ∷ []) ≤ 256
  pub knows : Knows (cs ++ c ∷ []) p.1
  pub named : Named (cs ++ c ∷ [])

pub card_agrees : (cs : List Card) (es : List IndexRecord) (c : Card) → Knows cs es → Named cs
    → Agrees (Carded cs c) (carded cs es c) (cond (leb 256 (length cs)) (Some TooMany) (cond (on_card cs c.stamp) (Some DuplicateStamp) None))
card_agrees cs es c k n = room (ltb (length cs) 256) refl
  where
    taken : (o : Option ℕ) → place_of cs c.stamp ≡ o → (i : Option IndexRecord) → is_some i ≡ is_some o → length cs < 256
        → Agrees (Carded cs c) (elim i [ Some e ↦ Err (fault_of DuplicateStamp (Some Repeated)) | None ↦ Ok (cs ++ c ∷ [], filed es c.stamp (length cs)) ]) (cond (is_some o) (Some DuplicateStamp) None)
    taken (Some u) e (Some x) s l = refl
    taken (Some u) e None s l = clash (sym s)
    taken None e (Some x) s l = clash s
    taken None e None s l = record { is = refl; few = omega (arith, length_push cs c); knows = knows_push cs es c k e; named = named_push cs c n e }

    room : (b : Bool) → ltb (length cs) 256 ≡ b → Agrees (Carded cs c) (carded cs es c) (cond (leb 256 (length cs)) (Some TooMany) (cond (on_card cs c.stamp) (Some DuplicateStamp) None))
    room false t = agrees_by (Carded cs c) {q' = Err (fault_of TooMany None)} {o' = Some TooMany}
        (ap (λ b. cond b (elim (indexed es c.stamp) [ Some e ↦ Err (fault_of DuplicateStamp (Some Repeated)) | None ↦ Ok (cs ++ c ∷ [], filed es c.stamp (length cs)) ]) (Err (fault_of TooMany None))) t)
        (ap (λ b. cond b (Some TooMany) (cond (on_card cs c.stamp) (Some DuplicateStamp) None)) (le-leb _ _ (ltb-false _ _ t))) refl
    room true t = agrees_by (Carded cs c)
        (ap (λ b. cond b (elim (indexed es c.stamp) [ Some e ↦ Err (fault_of DuplicateStamp (Some Repeated)) | None ↦ Ok (cs ++ c ∷ [], filed es c.stamp (length cs)) ]) (Err (fault_of TooMany None))) t)
        (ap (λ b. cond b (Some TooMany) (cond (on_card cs c.stamp) (Some DuplicateStamp) None)) (lt-leb _ _ (ltb-true _ _ t)) ∙ ap (λ b. cond b (Some DuplicateStamp) None) (on_card_lem cs c.stamp (place_of cs c.stamp) refl))
        (taken (place_of cs c.stamp) refl (indexed es c.stamp) (knows_some cs es c.stamp k) (ltb-true _ _ t))

-- ---- withdrawn rolls

-- each place tells whether its stamp is said
pub record Gone (cs : List Card) (xs : List ℕ) (ws : List Bool) : Type 0 where
  pub whole : length ws ≡ 256
  pub places : (u : ℕ) → u < 256 → get_or ws u false ≡ said xs (stamp_at cs u)

module _ (cs : List Card) (es : List IndexRecord) (few : length cs ≤ 256) (k : Knows cs es) (n : Named cs) where
  gone_push : (xs : List ℕ) (ws : List Bool) (s u : ℕ) → Gone cs xs ws → 0 < s → place_of cs s ≡ Some u → Gone cs (xs ++ s ∷ []) (set ws u true)
  gone_push xs ws s u g z e = record { whole = length-set ws u true ∙ g.whole; places = λ v l. at v l (eqb v u) refl }
    where
      p : (u < length cs) × (stamp_at cs u ≡ s)
      p = place_found cs s u e

      at : (v : ℕ) → v < 256 → (b : Bool) → eqb v u ≡ b → get_or (set ws u true) v false ≡ said (xs ++ s ∷ []) (stamp_at cs v)
      at v l true t =
          let i : v ≡ u = eqb-true _ _ t in
          let h : u < length ws = omega (arith, g.whole) in
          let a : eqb s (stamp_at cs v) ≡ true = eq-eqb _ _ (sym (ap (stamp_at cs) i ∙ (place_found cs s u e).1)) in
          ap (λ j. get_or (set ws u true) j false) i ∙ get_or-set_same ws u true false h ∙ sym (push_true (λ x. eqb x (stamp_at cs v)) xs s a)
      at v l false t =
          let i : v ≡ u → ⊥ = eqb-false _ _ t in
          let a : eqb s (stamp_at cs v) ≡ false = ne_eqb _ _ (λ j. i (only cs s u v n e z (sym j))) in
          get_or-set_other ws u v true false i ∙ g.places v l ∙ sym (push_false (λ x. eqb x (stamp_at cs v)) xs s a)

  pub withdrawn_agrees : (xs : List ℕ) (ws : List Bool) (s : ℕ) → Gone cs xs ws → stamp_ok s ≡ true
      → Agrees (Gone cs (xs ++ s ∷ [])) (withdrawing es ws s) (cond (not (on_card cs s)) (Some UnknownStamp) (cond (said xs s) (Some Repeated) None))
  withdrawn_agrees xs ws s g h = agrees_by (Gone cs (xs ++ s ∷ []))
      (ap (λ (r : Result ℕ Fault). elim r [ Err f ↦ Err f | Ok u ↦ cond (get_or ws u false) (Err (fault_of Repeated None)) (Ok (set ws u true)) ]) (k s))
      (ap (λ b. cond (not b) (Some UnknownStamp) (cond (said xs s) (Some Repeated) None)) (on_card_lem cs s (place_of cs s) refl))
      (go (place_of cs s) refl)
    where
      once : (b : Bool) (u : ℕ) → place_of cs s ≡ Some u → Agrees (Gone cs (xs ++ s ∷ [])) (cond b (Err (fault_of Repeated None)) (Ok (set ws u true))) (cond b (Some Repeated) None)
      once true u e = refl
      once false u e = gone_push xs ws s u g (stamp_pos s h) e

      go : (o : Option ℕ) → place_of cs s ≡ o → Agrees (Gone cs (xs ++ s ∷ []))
          (elim (place_res o) [ Err f ↦ Err f | Ok u ↦ cond (get_or ws u false) (Err (fault_of Repeated None)) (Ok (set ws u true)) ]) (cond (not (is_some o)) (Some UnknownStamp) (cond (said xs s) (Some Repeated) None))
      go None e = refl
      go (Some u) e =
          let p = place_found cs s u e in
          let a : get_or ws u false ≡ said xs s = g.places u (omega (arith, p.0)) ∙ ap (said xs) p.1 in
          agrees_by (Gone cs (xs ++ s ∷ [])) (ap (λ b. cond b (Err (fault_of Repeated None)) (Ok (set ws u true))) a) refl (once (said xs s) u e)

-- ---- pairs

pub said_swap : (ps : List (ℕ × ℕ)) (a b : ℕ) → said_pair ps a b ≡ said_pair ps b a
said_swap ps a b = λ i. any_of (λ p. or_comm (eqb p.0 a && eqb p.1 b) (eqb p.0 b && eqb p.1 a) i) ps

pub same_own : (a b c d : ℕ) → ((a ≡ c) × (b ≡ d)) ⊎ ((a ≡ d) × (b ≡ c)) → same_pair c d (a, b) ≡ true
same_own a b c d (inl h) = or_left (eqb a c && eqb b d) (eqb a d && eqb b c) (and_from _ _ (eq-eqb a c h.0) (eq-eqb b d h.1))
same_own a b c d (inr h) = or_right (eqb a c && eqb b d) (eqb a d && eqb b c) (and_from _ _ (eq-eqb a d h.0) (eq-eqb b c h.1))

pub same_had : (a b c d : ℕ) → same_pair c d (a, b) ≡ true → ((a ≡ c) × (b ≡ d)) ⊎ ((a ≡ d) × (b ≡ c))
same_had a b c d e = elim (or_cases _ _ e) [
  | inl h ↦ (let p = and_parts _ _ h in inl (eqb-true a c p.0, eqb-true b d p.1))
  | inr h ↦ (let p = and_parts _ _ h in inr (eqb-true a d p.0, eqb-true b c p.1))
]

-- the marks of any two places, in either order
pub tells_both : (cs : List Card) (ps : List (ℕ × ℕ)) (ms : List ℕ) (u v : ℕ) → TellsPairs cs ps ms → u < 256 → v < 256 → (u ≡ v → ⊥) → marked ms u v ≡ said_pair ps (stamp_at cs u) (stamp_at cs v)
tells_both cs ps ms u v m p q ne = elim (sides u v ne) [
  | inl l ↦ m.pairs u v l q
  | inr l ↦ marked_swap ms u v l ∙ m.pairs v u l p ∙ said_swap ps (stamp_at cs v) (stamp_at cs u)
]

-- the stamps of two places are a pair exactly where these are the places of its stamps
module _ (cs : List Card) (n : Named cs) (a b u v : ℕ) (za : 0 < a) (zb : 0 < b) (ea : place_of cs a ≡ Some u) (eb : place_of cs b ≡ Some v) where
  pub places_pair : (x y : ℕ) → SamePlaces u v x y → same_pair (stamp_at cs x) (stamp_at cs y) (a, b) ≡ true
  places_pair x y s = same_own a b (stamp_at cs x) (stamp_at cs y) (elim s [
    | inl h ↦ inl (sym (place_found cs a u ea).1 ∙ ap (stamp_at cs) h.0, sym (place_found cs b v eb).1 ∙ ap (stamp_at cs) h.1)
    | inr h ↦ inr (sym (place_found cs a u ea).1 ∙ ap (stamp_at cs) h.0, sym (place_found cs b v eb).1 ∙ ap (stamp_at cs) h.1)
  ])

  pub pair_places : (x y : ℕ) → same_pair (stamp_at cs x) (stamp_at cs y) (a, b) ≡ true → SamePlaces u v x y
  pair_places x y t = elim (same_had a b (stamp_at cs x) (stamp_at cs y) t) [
    | inl h ↦ inl (sym (only cs a u x n ea za (sym h.0)), sym (only cs b v y n eb zb (sym h.1)))
    | inr h ↦ inr (sym (only cs a u y n ea za (sym h.0)), sym (only cs b v x n eb zb (sym h.1)))
  ]

  pub places_apart : (x y : ℕ) → (SamePlaces u v x y → ⊥) → same_pair (stamp_at cs x) (stamp_at cs y) (a, b) ≡ false
  places_apart x y ne = go (same_pair (stamp_at cs x) (stamp_at cs y) (a, b)) refl
    where
      go : (t : Bool) → same_pair (stamp_at cs x) (stamp_at cs y) (a, b) ≡ t → same_pair (stamp_at cs x) (stamp_at cs y) (a, b) ≡ false
      go true t = absurd (ne (pair_places x y t))
      go false t = t

module _ (cs : List Card) (es : List IndexRecord) (few : length cs ≤ 256) (k : Knows cs es) (n : Named cs) where
  tells_push : (ps : List (ℕ × ℕ)) (ms : List ℕ) (a b u v : ℕ) → TellsPairs cs ps ms → 0 < a → 0 < b → place_of cs a ≡ Some u → place_of cs b ≡ Some v → (u ≡ v → ⊥)
      → marked ms u v ≡ false → TellsPairs cs (ps ++ (a, b) ∷ []) (toggled ms u v)
  tells_push ps ms a b u v m za zb ea eb ne unset = record { whole = toggled_whole ms u v ∙ m.whole; pairs = λ x y l ly. at x y l ly (same_pair (stamp_at cs x) (stamp_at cs y) (a, b)) refl }
    where
      lu : u < 256
      lu = let p = place_found cs a u ea in omega (arith, p.0)

      lv : v < 256
      lv = let p = place_found cs b v eb in omega (arith, p.0)

      enough : 4080 ≤ length ms
      enough = omega (arith, m.whole)

      at : (x y : ℕ) → x < y → y < 256 → (t : Bool) → same_pair (stamp_at cs x) (stamp_at cs y) (a, b) ≡ t → marked (toggled ms u v) x y ≡ said_pair (ps ++ (a, b) ∷ []) (stamp_at cs x) (stamp_at cs y)
      at x y l ly true t =
          toggled_own ms u v enough lu lv ne x y l (pair_places cs n a b u v za zb ea eb x y t) ∙ ap not unset
          ∙ sym (push_true (same_pair (stamp_at cs x) (stamp_at cs y)) ps (a, b) t)
      at x y l ly false t =
          toggled_other ms u v enough lu lv ne x y l (λ s. clash (sym (places_pair cs n a b u v za zb ea eb x y s) ∙ t)) ∙ m.pairs x y l ly
          ∙ sym (push_false (same_pair (stamp_at cs x) (stamp_at cs y)) ps (a, b) t)

  -- the places are one exactly where the stamps are
  same_place : (a b u v : ℕ) → 0 < b → place_of cs a ≡ Some u → place_of cs b ≡ Some v → eqb u v ≡ eqb a b
  same_place a b u v zb ea eb = go (eqb a b) refl
    where
      go : (t : Bool) → eqb a b ≡ t → eqb u v ≡ t
      go true t = eq-eqb u v (only cs b v u n eb zb ((place_found cs a u ea).1 ∙ eqb-true a b t))
      go false t = ne_eqb u v (λ e. eqb-false a b t (sym (place_found cs a u ea).1 ∙ ap (stamp_at cs) e ∙ (place_found cs b v eb).1))

  pub pair_agrees : (ps : List (ℕ × ℕ)) (ms : List ℕ) (a b : ℕ) → TellsPairs cs ps ms → stamp_ok a ≡ true → stamp_ok b ≡ true
      → Agrees (TellsPairs cs (ps ++ (a, b) ∷ [])) (pair_marked es ms a b)
      (cond (not (on_card cs a && on_card cs b)) (Some UnknownStamp) (cond (eqb a b) (Some SelfPair) (cond (said_pair ps a b) (Some Repeated) None)))
  pair_agrees ps ms a b m ha hb = agrees_by P
      (λ i. elim (k a i) [ Err f ↦ Err f | Ok u ↦ elim (k b i) [ Err f ↦ Err f | Ok v ↦ marking ms u v ] ])
      (λ i. cond (not (on_card_lem cs a (place_of cs a) refl i && on_card_lem cs b (place_of cs b) refl i)) (Some UnknownStamp) (cond (eqb a b) (Some SelfPair) (cond (said_pair ps a b) (Some Repeated) None)))
      (go (place_of cs a) refl (place_of cs b) refl)
    where
      P : List ℕ → Type 0
      P = TellsPairs cs (ps ++ (a, b) ∷ [])

      once : (s t : Bool) (u v : ℕ) → (s ≡ false → t ≡ false → TellsPairs cs (ps ++ (a, b) ∷ []) (toggled ms u v))
          → Agrees (TellsPairs cs (ps ++ (a, b) ∷ [])) (cond s (Err (fault_of SelfPair None)) (cond t (Err (fault_of Repeated None)) (Ok (toggled ms u v)))) (cond s (Some SelfPair) (cond t (Some Repeated) None))
      once true t u v h = refl
      once false true u v h = refl
      once false false u v h = h refl refl

      go : (o : Option ℕ) → place_of cs a ≡ o → (p : Option ℕ) → place_of cs b ≡ p → Agrees (TellsPairs cs (ps ++ (a, b) ∷ []))
          (elim (place_res o) [ Err f ↦ Err f | Ok u ↦ elim (place_res p) [ Err f ↦ Err f | Ok v ↦ marking ms u v ] ])
          (cond (not (is_some o && is_some p)) (Some UnknownStamp) (cond (eqb a b) (Some SelfPair) (cond (said_pair ps a b) (Some Repeated) None)))
      go None ea p eb = refl
      go (Some u) ea None eb = refl
      go (Some u) ea (Some v) eb = pair (eqb u v) refl
        where
          lu : u < 256
          lu = let q = place_found cs a u ea in omega (arith, q.0)

          lv : v < 256
          lv = let q = place_found cs b v eb in omega (arith, q.0)

          pair : (t : Bool) → eqb u v ≡ t → Agrees (TellsPairs cs (ps ++ (a, b) ∷ [])) (marking ms u v) (cond (eqb a b) (Some SelfPair) (cond (said_pair ps a b) (Some Repeated) None))
          pair true t = agrees_by (TellsPairs cs (ps ++ (a, b) ∷ []))
              (ap (λ s. cond s (Err (fault_of SelfPair None)) (cond (marked ms u v) (Err (fault_of Repeated None)) (Ok (toggled ms u v)))) t)
              (ap (λ s. cond s (Some SelfPair) (cond (said_pair ps a b) (Some Repeated) None)) (sym (same_place a b u v (stamp_pos b hb) ea eb) ∙ t)) refl
          pair false t =
              let ne : u ≡ v → ⊥ = eqb-false u v t in
              let e : marked ms u v ≡ said_pair ps a b = tells_both cs ps ms u v m lu lv ne ∙ (λ i. said_pair ps ((place_found cs a u ea).1 i) ((place_found cs b v eb).1 i)) in
              agrees_by (TellsPairs cs (ps ++ (a, b) ∷ [])) (λ i. cond (eqb u v) (Err (fault_of SelfPair None)) (cond (e i) (Err (fault_of Repeated None)) (Ok (toggled ms u v))))
              (ap (λ s. cond s (Some SelfPair) (cond (said_pair ps a b) (Some Repeated) None)) (sym (same_place a b u v (stamp_pos b hb) ea eb)))
              (once (eqb u v) (said_pair ps a b) u v (λ s z. tells_push ps ms a b u v m (stamp_pos a ha) (stamp_pos b hb) ea eb ne (e ∙ z)))
