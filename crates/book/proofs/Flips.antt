-- One bit is changed, and no other.
use Rattle.std.proofs.Common.{◌≡◌, ℕ, zero, suc, ◌+◌, ◌-◌, ◌*◌, ◌/◌, ◌%◌, ◌^◌, ◌<◌, ◌≤◌, Bool, true, false, not, eqb, List, length, get_or, set, replicate, sym, refl, ap, ◌∙◌, add-zero, add-suc, suc-mul, mul-le-mul, mul-suc, arith, get_or-set_other, get_or-set_same}
use Rattle.std.proofs.lemmas.List.{get_or_past, length-set}
use lib.Bits.{bit_xor}
use Rattle.std.proofs.lemmas.Nat.Bits.{bit_at-lt, bit_at-pow_other, bit_at-pow_same, bit_at-zero, bit_at_xor}
use Rattle.std.proofs.lemmas.Bool.{eqb-true, eqb-false}
use Rattle.book.specs.Marks.{bit_at, flipped, pair_number}

-- turning a bit of a byte, and leaving the others
turned : (b : ℕ) → b < 2 → eqb ((b + 1) % 2) 1 ≡ not (eqb b 1)
turned zero h = refl
turned (suc zero) h = refl
turned (suc (suc b)) h = absurd (omega arith)

own_bit : (x m : ℕ) → eqb (bit_xor x (2 ^ m) / 2 ^ m % 2) 1 ≡ not (eqb (x / 2 ^ m % 2) 1)
own_bit x m = ap (λ z. eqb z 1) (bit_at_xor x (2 ^ m) m ∙ ap (λ z. (x / 2 ^ m % 2 + z) % 2) (bit_at-pow_same m)) ∙ turned (x / 2 ^ m % 2) (bit_at-lt x m)

other_bit : (x k m : ℕ) → (k ≡ m → ⊥) → bit_xor x (2 ^ k) / 2 ^ m % 2 ≡ x / 2 ^ m % 2
other_bit x k m ne =
    let l = bit_at-lt x m in
    bit_at_xor x (2 ^ k) m ∙ ap (λ z. (x / 2 ^ m % 2 + z) % 2) (bit_at-pow_other k m (λ e. ne (sym e))) ∙ omega (arith, l)

pub flip_own : (ms : List ℕ) (i : ℕ) → i / 8 < length ms → bit_at (flipped ms i) i ≡ not (bit_at ms i)
unfolding bit_at flipped
flip_own ms i h =
    let g : get_or (set ms (i / 8) (bit_xor (get_or ms (i / 8) 0) (2 ^ (i % 8)))) (i / 8) 0 ≡ bit_xor (get_or ms (i / 8) 0) (2 ^ (i % 8)) = rw get_or-set_same in
    ap (λ x. eqb (x / 2 ^ (i % 8) % 2) 1) g ∙ own_bit (get_or ms (i / 8) 0) (i % 8)

pub flip_other : (ms : List ℕ) (i j : ℕ) → i / 8 < length ms → (i ≡ j → ⊥) → bit_at (flipped ms i) j ≡ bit_at ms j
unfolding bit_at flipped
flip_other ms i j h ne =
    let y = bit_xor (get_or ms (i / 8) 0) (2 ^ (i % 8)) in
    let Q : Bool → Type 0 = λ b. eqb (j / 8) (i / 8) ≡ b → eqb (get_or (set ms (i / 8) y) (j / 8) 0 / 2 ^ (j % 8) % 2) 1 ≡ eqb (get_or ms (j / 8) 0 / 2 ^ (j % 8) % 2) 1 in
    (elim (eqb (j / 8) (i / 8)) as Q [
      | true ↦ (λ t. let e : j / 8 ≡ i / 8 = eqb-true _ _ t in
          let d : i % 8 ≡ j % 8 → ⊥ = λ z. ne (omega arith) in
          let g : get_or (set ms (i / 8) y) (i / 8) 0 ≡ y = rw get_or-set_same in
          ap (λ k. eqb (get_or (set ms (i / 8) y) k 0 / 2 ^ (j % 8) % 2) 1) e
          ∙ ap (λ x. eqb (x / 2 ^ (j % 8) % 2) 1) g
          ∙ ap (λ x. eqb x 1) (other_bit (get_or ms (i / 8) 0) (i % 8) (j % 8) d)
          ∙ ap (λ k. eqb (get_or ms k 0 / 2 ^ (j % 8) % 2) 1) (sym e))
      | false ↦ (λ t. let e : j / 8 ≡ i / 8 → ⊥ = eqb-false _ _ t in
          let g : get_or (set ms (i / 8) y) (j / 8) 0 ≡ get_or ms (j / 8) 0 = rw get_or-set_other in
          ap (λ x. eqb (x / 2 ^ (j % 8) % 2) 1) g)
    ]) refl

-- the triangular numbers
tri : ℕ → ℕ
tri zero = 0
tri (suc v) = tri v + v

tri_is : (v : ℕ) → tri (suc v) + tri (suc v) ≡ suc v * v
unfolding tri
tri_is zero = refl
tri_is (suc v) = let h = tri_is v in omega (arith, h, suc-mul (suc v) (suc v), mul-suc (suc v) v)

number_tri : (u v : ℕ) → pair_number u v ≡ tri v + u
unfolding pair_number tri
number_tri u zero = refl
number_tri u (suc v) =
    let e : suc v - 1 ≡ v = omega arith in
    ap (λ k. suc v * k / 2 + u) e ∙ (let h = tri_is v in omega (arith, h))

tri_up : (v d : ℕ) → tri v ≤ tri (v + d)
unfolding tri
tri_up v zero = omega (arith, ap tri (add-zero v))
tri_up v (suc d) = let h = tri_up v d in omega (arith, ap tri (add-suc v d))

tri_le : (v y : ℕ) → v < y → tri v + v ≤ tri y
unfolding tri
tri_le v y h =
    let e : suc v + (y - suc v) ≡ y = omega arith in
    omega (arith, tri_up (suc v) (y - suc v), ap tri e)

pub number_inj : (u v x y : ℕ) → u < v → x < y → pair_number u v ≡ pair_number x y → (u ≡ x) × (v ≡ y)
number_inj u v x y p q e =
    let f : tri v + u ≡ tri y + x = sym (number_tri u v) ∙ e ∙ number_tri x y in
    let a : v < y → ⊥ = λ l. omega (arith, tri_le v y l) in
    let b : y < v → ⊥ = λ l. omega (arith, tri_le y v l) in
    let g : v ≡ y = omega (arith, a, b) in
    let h : tri v ≡ tri y = ap tri g in
    (omega arith, g)

pub number_below : (u v : ℕ) → u < v → v < 256 → pair_number u v / 8 < 4080
unfolding pair_number
number_below u v h k =
    let p : v ≤ 255 = omega arith in
    let q : v - 1 ≤ 254 = omega arith in
    let m : v * (v - 1) ≤ 255 * 254 = mul-le-mul p q in
    omega (arith, m)

pub bit_beyond : (ms : List ℕ) (i : ℕ) → length ms ≤ i / 8 → bit_at ms i ≡ false
unfolding bit_at
bit_beyond ms i h = ap (λ x. eqb (x / 2 ^ (i % 8) % 2) 1) (get_or_past ms (i / 8) 0 h) ∙ ap (λ z. eqb z 1) (bit_at-zero (i % 8))

pub none_set : (i : ℕ) → bit_at (replicate 4080 0) i ≡ false
unfolding bit_at
none_set i = ap (λ x. eqb (x / 2 ^ (i % 8) % 2) 1) (zeros 4080 (i / 8)) ∙ ap (λ z. eqb z 1) (bit_at-zero (i % 8))
  where
    zeros : (n k : ℕ) → ◌≡◌ {A = ℕ} (get_or (replicate n 0) k 0) 0
    zeros zero k = refl
    zeros (suc n) zero = refl
    zeros (suc n) (suc k) = zeros n k

pub length_flipped : (ms : List ℕ) (i : ℕ) → length (flipped ms i) ≡ length ms
unfolding flipped
length_flipped ms i = length-set ms (i / 8) _
