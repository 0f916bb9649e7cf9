-- Marks by pairs of places: turning the mark of one pair leaves every other.
use Rattle.std.proofs.Common.{◌≡◌, ℕ, ◌/◌, ◌%◌, ◌^◌, ◌<◌, ◌≤◌, Bool, true, false, cond, not, eqb, ltb, ◌⊎◌, List, ◌++◌, length, replicate, sym, refl, ap, ◌∙◌, subst, inl, inr, arith}
use Rattle.std.proofs.lemmas.List.{get_or_append_left}
use Rattle.std.proofs.lemmas.Bool.{cases_lt, eqb-false, eqb-true, lt-ltb, le-ltb, ne_eqb}
use Rattle.book.specs.Marks.{bit_at, bit_of, marked, pair_number, tells, toggled}
use Rattle.book.proofs.Flips.{flip_own, flip_other, number_inj, number_below, length_flipped, none_set}

pub bit_lt : (u v : ℕ) → u < v → bit_of u v ≡ pair_number u v
unfolding bit_of
bit_lt u v h = rw (lt-ltb u v h)

pub bit_gt : (u v : ℕ) → v < u → bit_of u v ≡ pair_number v u
unfolding bit_of
bit_gt u v h = let l : v ≤ u = omega arith in rw (le-ltb u v l)

pub sides : (u v : ℕ) → (u ≡ v → ⊥) → (u < v) ⊎ (v < u)
sides u v ne = elim (cases_lt u v) [ inl l ↦ inl l | inr l ↦ inr (omega arith) ]

-- a pair has no order
pub marked_swap : (ms : List ℕ) (u v : ℕ) → v < u → marked ms u v ≡ marked ms v u
marked_swap ms u v h = ap (bit_at ms) (bit_gt u v h ∙ sym (bit_lt v u h))

pub bit_below : (u v : ℕ) → u < 256 → v < 256 → (u ≡ v → ⊥) → bit_of u v / 8 < 4080
bit_below u v p q ne = elim (sides u v ne) [
  | inl l ↦ subst (λ i. i / 8 < 4080) (sym (bit_lt u v l)) (number_below u v l q)
  | inr l ↦ subst (λ i. i / 8 < 4080) (sym (bit_gt u v l)) (number_below v u l p)
]

-- the same two places, in either order
abbrev pub SamePlaces : ℕ → ℕ → ℕ → ℕ → Type 0
SamePlaces u v x y = ((u ≡ x) × (v ≡ y)) ⊎ ((u ≡ y) × (v ≡ x))

bit_is : (u v x y : ℕ) → (u ≡ v → ⊥) → x < y → bit_of u v ≡ bit_of x y → SamePlaces u v x y
bit_is u v x y ne l e = elim (sides u v ne) [
  | inl h ↦ inl (number_inj u v x y h l (sym (bit_lt u v h) ∙ e ∙ bit_lt x y l))
  | inr h ↦ (let r = number_inj v u x y h l (sym (bit_gt u v h) ∙ e ∙ bit_lt x y l) in inr (r.1, r.0))
]

module _ (ms : List ℕ) (u v : ℕ) (whole : 4080 ≤ length ms) (p : u < 256) (q : v < 256) (ne : u ≡ v → ⊥) where
  within : bit_of u v / 8 < length ms
  within = omega (arith, bit_below u v p q ne, whole)

  pub toggled_own : (x y : ℕ) → x < y → SamePlaces u v x y → marked (toggled ms u v) x y ≡ not (marked ms u v)
  toggled_own x y l s =
      let e : bit_of x y ≡ bit_of u v = elim s [
        | inl h ↦ (λ i. bit_of (sym h.0 i) (sym h.1 i))
        | inr h ↦ (let g : v < u = omega arith in bit_lt x y l ∙ (λ i. pair_number (sym h.1 i) (sym h.0 i)) ∙ sym (bit_gt u v g))
      ] in
      ap (bit_at (toggled ms u v)) e ∙ flip_own ms (bit_of u v) within

  pub toggled_other : (x y : ℕ) → x < y → (SamePlaces u v x y → ⊥) → marked (toggled ms u v) x y ≡ marked ms x y
  toggled_other x y l s = flip_other ms (bit_of u v) (bit_of x y) within (λ e. s (bit_is u v x y ne l e))

pub toggled_whole : (ms : List ℕ) (u v : ℕ) → length (toggled ms u v) ≡ length ms
toggled_whole ms u v = length_flipped ms (bit_of u v)

pub none_marked : (u v : ℕ) → marked (replicate 4080 0) u v ≡ false
none_marked u v = none_set (bit_of u v)

-- marks at the front of a longer space
pub marked_front : (ms rest : List ℕ) (u v : ℕ) → length ms ≡ 4080 → u < 256 → v < 256 → (u ≡ v → ⊥) → marked (ms ++ rest) u v ≡ marked ms u v
unfolding bit_at
marked_front ms rest u v whole p q ne =
    let l : bit_of u v / 8 < length ms = omega (arith, bit_below u v p q ne) in
    ap (λ x. eqb (x / 2 ^ (bit_of u v % 8) % 2) 1) (get_or_append_left ms rest 0 (bit_of u v / 8) l)

-- two different places below 256 are told by their mark
pub tells_marked : (ms : List ℕ) (u v : ℕ) → u < 256 → v < 256 → (u ≡ v → ⊥) → tells ms u v ≡ marked ms u v
tells_marked ms u v p q ne = rw (lt-ltb u 256 p, lt-ltb v 256 q, ne_eqb u v ne)

pub tells_swap : (ms : List ℕ) (u v : ℕ) → tells ms u v ≡ tells ms v u
tells_swap ms u v = go (eqb u v) refl
  where
    turned : (a b : Bool) (x : Bool) → cond a (cond b x false) false ≡ cond b (cond a x false) false
    turned true true x = refl
    turned true false x = refl
    turned false true x = refl
    turned false false x = refl

    go : (e : Bool) → eqb u v ≡ e → tells ms u v ≡ tells ms v u
    go true e = let i = eqb-true u v e in (λ t. tells ms (i t) (sym i t))
    go false e =
        let ne : u ≡ v → ⊥ = eqb-false u v e in
        let f : eqb v u ≡ false = ne_eqb v u (λ i. ne (sym i)) in
        let m : marked ms u v ≡ marked ms v u = elim (sides u v ne) [ inl l ↦ sym (marked_swap ms v u l) | inr l ↦ marked_swap ms u v l ] in
        (λ t. cond (ltb u 256) (cond (ltb v 256) (cond (e t) false (m t)) false) false) ∙ turned (ltb u 256) (ltb v 256) (marked ms v u) ∙ (λ t. cond (ltb v 256) (cond (ltb u 256) (cond (sym f t) false (marked ms v u)) false) false)
