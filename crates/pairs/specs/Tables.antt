-- What the questions of a pair table are answered by, and the tables that are made of a size and a test.
use Rattle.std.specs.Prelude.{◌≡◌, ℕ, ◌<◌, ◌≤◌, Bool, true, false, ◌&&◌, Some, None, Option, ◌≢◌, nat_lt, refl}
use Rattle.std.proofs.Common.{arith, ltb-true}
use Rattle.cliques.specs.Graph.{Graph, Lawful}

-- the first partner of u at or above w: the place, with no partner of u from w up to it; or none, with no partner of u at
-- any place from w on
abbrev pub FirstPartner : Graph → ℕ → ℕ → Option ℕ → Type 0
FirstPartner g u w (Some v) = (w ≤ v) × (g.partners u v ≡ true) × ((k : ℕ) → w ≤ k → k < v → g.partners u k ≡ false)
FirstPartner g u w None = (k : ℕ) → w ≤ k → g.partners u k ≡ false

-- two places with the same stamp other than 0 are one place
abbrev pub Distinct : (ℕ → ℕ) → Type 0
Distinct stamps = (u v : ℕ) → stamps u ≡ stamps v → (stamps u ≢ 0) → u ≡ v

-- the table of the places below the size, in which the test tells partners
abbrev pub graph_of : ℕ → (ℕ → ℕ → Bool) → Graph
graph_of size test = record { size = size; partners = λ u v. nat_lt u size && (nat_lt v size && test u v) }

swapped : (a b x y : Bool) → x ≡ y → (a && (b && x)) ≡ (b && (a && y))
swapped true true x y h = h
swapped true false x y h = refl
swapped false true x y h = refl
swapped false false x y h = refl

never : (a b x : Bool) → x ≡ false → (a && (b && x)) ≡ false
never true true x h = h
never true false x h = refl
never false b x h = refl

beyond : (a x : Bool) → (a ≢ true) → (a && x) ≡ false
beyond true x h = absurd (h refl)
beyond false x h = refl

-- it is lawful where the places are few and the test goes both ways and is false of a place with itself
pub graph_of_lawful : (size : ℕ) (test : ℕ → ℕ → Bool) → size ≤ 256 → ((u v : ℕ) → test u v ≡ test v u) → ((u : ℕ) → test u u ≡ false) → Lawful (graph_of size test)
graph_of_lawful size test few both apart = record {
  few = few;
  both = λ u v. swapped (nat_lt u size) (nat_lt v size) _ _ (both u v);
  apart = λ u. never (nat_lt u size) (nat_lt u size) _ (apart u);
  within = λ u v h. beyond (nat_lt u size) _ (λ e. omega (arith, ltb-true _ _ e));
}
