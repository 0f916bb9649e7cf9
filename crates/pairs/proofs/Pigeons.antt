-- Different numbers below n are at most n.
use Rattle.std.proofs.Common.{◌≡◌, ℕ, zero, suc, ◌<◌, ◌≤◌, cond, eqb, arith}

-- f takes the numbers below m to numbers below n
abbrev pub Low : ℕ → ℕ → (ℕ → ℕ) → Type 0
Low n m f = (k : ℕ) → k < m → f k < n

-- f takes the numbers below m to different numbers
abbrev pub Different : ℕ → (ℕ → ℕ) → Type 0
Different m f = (j k : ℕ) → j < k → k < m → f j ≡ f k → ⊥

-- where f goes to n, the moved f goes where f takes m
abbrev moved : ℕ → ℕ → (ℕ → ℕ) → ℕ → ℕ
moved n m f k = cond (eqb (f k) n) (f m) (f k)

module _ (n m : ℕ) (f : ℕ → ℕ) (low : Low (suc n) (suc m) f) (apart : Different (suc m) f) where
  moved_low : Low n m (moved n m f)
  moved_low k lt = grind arith

  moved_apart : Different m (moved n m f)
  moved_apart j k less lt = grind arith

pub at_most : (n m : ℕ) (f : ℕ → ℕ) → Low n m f → Different m f → m ≤ n
at_most n zero f low apart = omega arith
at_most zero (suc m) f low apart = grind (arith, low 0)
at_most (suc n) (suc m) f low apart =
    let rest : m ≤ n = at_most n m (moved n m f) (moved_low n m f low apart) (moved_apart n m f low apart) in
    omega arith
