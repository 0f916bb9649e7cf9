-- The meaning of a pair table: how many places it has, and which of them are partners.
use Rattle.std.specs.Prelude.{◌≡◌, ℕ, ◌≤◌, Bool, false}

pub record Graph : Type 0 where
  pub size : ℕ
  pub partners : ℕ → ℕ → Bool

-- The laws of a pair table: at most 256 places; partnership goes both ways; no place is its own partner; no place at or
-- above the size has a partner.
pub record Lawful (g : Graph) : Type 0 where
  pub few : g.size ≤ 256
  pub both : (u v : ℕ) → g.partners u v ≡ g.partners v u
  pub apart : (u : ℕ) → g.partners u u ≡ false
  pub within : (u v : ℕ) → g.size ≤ u → g.partners u v ≡ false
