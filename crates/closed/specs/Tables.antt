-- What closed books tell: partners by pair marks or under a rule, and stamps; with the laws of pair tables.
use Rattle.std.specs.Prelude.{◌≡◌, ℕ, ◌+◌, ◌<◌, ◌≤◌, min, Bool, true, false, cond, not, ◌&&◌, List, length, take, ℤ, pos, ◌+ℤ◌, ◌==◌, ◌≢◌, int_le, nat_le, nat_lt, slice_index_or, refl}
use Rattle.std.proofs.Common.{sym, ◌∙◌, ap, arith, eq-eqb, eqb-true, ltb-true, ne_eqb}
use Rattle.std.proofs.Math.Bool.{and-false, and_comm}
use Rattle.std.proofs.lemmas.Bool.{eqb-false, le-ltb, true≢false}
use Rattle.std.proofs.lemmas.List.{get_or-take, length-take}
use Rattle.std.proofs.lemmas.List.Recursion.{or_at}
use Rattle.cliques.specs.Graph.{Graph, Lawful}
use Rattle.format.specs.declared.card.Card.{Card}
use Rattle.format.specs.declared.card.Rule.{Rule}
use Rattle.format.specs.Grammar.{on_card}
use Rattle.format.specs.Records.{stamp_ok}
use Rattle.pairs.specs.Tables.{Distinct}
use Rattle.book.specs.Marks.{marked, tells}
use Rattle.book.specs.Spaces.{no_card, stamp_at}
use Rattle.book.proofs.Pairs.{tells_swap}

-- how many places: one for each card, and never more than 256
abbrev pub size_of : List Card → ℕ
size_of cs = min (length cs) 256

abbrev pub below : ℕ → ℕ → ℕ → Bool
below n u v = nat_lt u n && nat_lt v n

-- the table of the places that have cards, in which the test tells partners
abbrev pub table_of : List Card → (ℕ → ℕ → Bool) → Graph
table_of cs told = record { size = size_of cs; partners = λ u v. below (size_of cs) u v && told u v }

-- partners by pair marks
abbrev pub pair_graph : List Card → List ℕ → Graph
pair_graph cs ms = table_of cs (tells ms)

-- two numbers at most t apart
abbrev pub near : ℕ → ℕ → ℕ → Bool
near t a b = nat_le a (b + t) && nat_le b (a + t)

abbrev pub near_crowns : ℕ → ℤ → ℤ → Bool
near_crowns t a b = int_le a (b +ℤ pos t) && int_le b (a +ℤ pos t)

-- The partner rule: both have a reading, the families are equal, diameters and crowns differ by at most the tolerances.
abbrev pub agree : Rule → Card → Card → Bool
agree r c d = (not (c.diameter == 0) && not (d.diameter == 0))
    && (c.family == d.family && (near r.diameter c.diameter d.diameter && near_crowns r.crown c.crown d.crown))

-- two different places whose cards agree under the rule
abbrev pub apart_agreeing : Rule → List Card → ℕ → ℕ → Bool
apart_agreeing r cs u v = not (u == v) && agree r (slice_index_or cs u no_card) (slice_index_or cs v no_card)

-- partners under a rule: never a roll with itself
abbrev pub rule_graph : List Card → Rule → Graph
rule_graph cs r = table_of cs (apart_agreeing r cs)

-- the stamp that a place tells: that of its card, where it is in range and on no earlier card
abbrev pub stamp_told : List Card → ℕ → ℕ
stamp_told cs u = cond (nat_lt u (size_of cs)) (cond (stamp_ok (stamp_at cs u) && not (on_card (take u cs) (stamp_at cs u))) (stamp_at cs u) 0) 0

-- ---- the laws

eqb_swap : (u v : ℕ) → (u == v) ≡ (v == u)
eqb_swap u v = go (u == v) refl
  where
    go : (b : Bool) → (u == v) ≡ b → (u == v) ≡ (v == u)
    go true t = t ∙ sym (eq-eqb v u (sym (eqb-true u v t)))
    go false t = t ∙ sym (ne_eqb v u (λ e. eqb-false u v t (sym e)))

-- a test that goes both ways and is false of a place with itself, asked of places below the size
lawful_below : (n : ℕ) (p : ℕ → ℕ → Bool) → n ≤ 256 → ((u v : ℕ) → p u v ≡ p v u) → ((u : ℕ) → p u u ≡ false) → Lawful (record { size = n; partners = λ u v. below n u v && p u v })
lawful_below n p h s a = record {
  few = h;
  both = λ u v i. and_comm (nat_lt u n) (nat_lt v n) i && s u v i;
  apart = λ u. ap (λ b. below n u u && b) (a u) ∙ and-false (below n u u);
  within = λ u v l. ap (λ b. (b && nat_lt v n) && p u v) (le-ltb u n l);
}

size_few : (cs : List Card) → size_of cs ≤ 256
size_few cs = omega arith

pub tells_apart : (ms : List ℕ) (u : ℕ) → tells ms u u ≡ false
tells_apart ms u = ap (λ b. cond (nat_lt u 256) (cond (nat_lt u 256) (cond b false (marked ms u u)) false) false) (eq-eqb u u refl) ∙ go (nat_lt u 256)
  where
    go : (a : Bool) → cond a (cond a false false) false ≡ false
    go true = refl
    go false = refl

pub pairs_lawful : (cs : List Card) (ms : List ℕ) → Lawful (pair_graph cs ms)
pairs_lawful cs ms = lawful_below (size_of cs) (tells ms) (size_few cs) (tells_swap ms) (tells_apart ms)

agree_swap : (r : Rule) (c d : Card) → agree r c d ≡ agree r d c
agree_swap r c d = λ i. and_comm (not (c.diameter == 0)) (not (d.diameter == 0)) i && (eqb_swap c.family d.family i
    && (and_comm (nat_le c.diameter (d.diameter + r.diameter)) (nat_le d.diameter (c.diameter + r.diameter)) i
    && and_comm (int_le c.crown (d.crown +ℤ pos r.crown)) (int_le d.crown (c.crown +ℤ pos r.crown)) i))

pub rule_lawful : (cs : List Card) (r : Rule) → Lawful (rule_graph cs r)
rule_lawful cs r = lawful_below (size_of cs) (apart_agreeing r cs) (size_few cs)
    (λ u v i. not (eqb_swap u v i) && agree_swap r (slice_index_or cs u no_card) (slice_index_or cs v no_card) i)
    (λ u. ap (λ b. not b && agree r (slice_index_or cs u no_card) (slice_index_or cs u no_card)) (eq-eqb u u refl))

-- a card's stamp is among those of any longer front
on_front : (cs : List Card) (u v : ℕ) → u < v → u < length cs → on_card (take v cs) (stamp_at cs u) ≡ true
on_front cs u v l k =
    let s = stamp_at cs u in
    let short : u < length (take v cs) = omega (arith, length-take v cs) in
    or_at (λ ds. on_card ds s) (λ (c : Card). c.stamp == s) refl (λ _ _. refl) (take v cs) u no_card short (eq-eqb _ _ (ap (λ c. c.stamp) (get_or-take v cs u no_card l)))

tells_own : (a b c : Bool) (s : ℕ) → (cond a (cond (b && not c) s 0) 0 ≢ 0) → (a ≡ true) × (c ≡ false) × (cond a (cond (b && not c) s 0) 0 ≡ s)
tells_own true true true s h = absurd (h refl)
tells_own true true false s h = (refl, refl, refl)
tells_own true false c s h = absurd (h refl)
tells_own false b c s h = absurd (h refl)

-- the same stamp at an earlier place would have been told there
earlier : (cs : List Card) (u v : ℕ) → u < v → stamp_told cs u ≡ stamp_told cs v → (stamp_told cs u ≢ 0) → ⊥
earlier cs u v l e nz =
    let p = tells_own (nat_lt u (size_of cs)) (stamp_ok (stamp_at cs u)) (on_card (take u cs) (stamp_at cs u)) (stamp_at cs u) nz in
    let q = tells_own (nat_lt v (size_of cs)) (stamp_ok (stamp_at cs v)) (on_card (take v cs) (stamp_at cs v)) (stamp_at cs v) (λ z. nz (e ∙ z)) in
    let s : stamp_at cs u ≡ stamp_at cs v = sym p.2 ∙ e ∙ q.2 in
    let k : u < length cs = omega (arith, ltb-true u (size_of cs) p.0) in
    true≢false (sym (on_front cs u v l k) ∙ ap (on_card (take v cs)) s ∙ q.1)

pub stamps_distinct : (cs : List Card) → Distinct (stamp_told cs)
stamps_distinct cs u v e nz =
    let not-below : u < v → ⊥ = λ l. earlier cs u v l e nz in
    let not-above : v < u → ⊥ = λ l. earlier cs v u l (sym e) (λ z. nz (e ∙ z)) in
    omega (arith, not-below, not-above)
