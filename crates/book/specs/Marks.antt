-- Pair marks: one bit for each two of 256 places, and no other; the pair of u below v has number v(v - 1)/2 + u.
use Rattle.std.specs.Prelude.{ℕ, ◌+◌, ◌-◌, ◌*◌, ◌/◌, ◌%◌, ◌^◌, Bool, false, cond, List, ◌==◌, bit_xor, nat_lt, slice_index, slice_set}

unfoldable pub pair_number : ℕ → ℕ → ℕ
pair_number u v = v * (v - 1) / 2 + u

unfoldable pub bit_of : ℕ → ℕ → ℕ
bit_of u v = cond (nat_lt u v) (pair_number u v) (pair_number v u)

unfoldable pub bit_at : List ℕ → ℕ → Bool
bit_at ms i = slice_index ms (i / 8) / 2 ^ (i % 8) % 2 == 1

unfoldable pub flipped : List ℕ → ℕ → List ℕ
flipped ms i = slice_set ms (i / 8) (bit_xor (slice_index ms (i / 8)) (2 ^ (i % 8)))

-- the marks tell that two places are partners
abbrev pub marked : List ℕ → ℕ → ℕ → Bool
marked ms u v = bit_at ms (bit_of u v)

-- the marks with that of two places turned
abbrev pub toggled : List ℕ → ℕ → ℕ → List ℕ
toggled ms u v = flipped ms (bit_of u v)

-- whether two places are marked, for any two numbers: a pair has two different places below 256
abbrev pub tells : List ℕ → ℕ → ℕ → Bool
tells ms u v = cond (nat_lt u 256) (cond (nat_lt v 256) (cond (u == v) false (marked ms u v)) false) false
