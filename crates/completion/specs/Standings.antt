-- A set as it is kept: its members at the front of 256 entries, and zeros after them.
use Rattle.std.specs.Prelude.{◌≡◌, ℕ, cond, List, ◌++◌, length, take, drop, replicate, nat_lt}
use Rattle.cliques.specs.Graph.{Graph}
use Rattle.cliques.specs.Shortcuts.{barrier}
use Rattle.completion.specs.declared.standing.Standing.{Standing}

abbrev pub standing_of : List ℕ → Standing
standing_of X = record { members = X ++ drop (length X) (replicate 256 0); count = length X }

abbrev pub members_of : Standing → List ℕ
members_of s = take s.count s.members

-- what is kept is fixed by the members: nothing but zeros stands after them
abbrev pub Clean : Standing → Type 0
Clean s = s ≡ standing_of (members_of s)

-- the barrier of the place x at K; 0 at or above the size
abbrev pub barrier_at : Graph → List ℕ → ℕ → ℕ
barrier_at g K x = cond (nat_lt x g.size) (barrier g K x) 0
