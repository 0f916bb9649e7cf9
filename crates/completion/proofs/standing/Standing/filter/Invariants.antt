use Rattle.std.proofs.Common.{◌≡◌, ◌<◌, ◌^◌, ℕ, Bool, take}
use Rattle.cliques.specs.Sets.{filter}
use Rattle.completion.specs.Standings.{standing_of}
use Rattle.completion.proofs.standing.Standing.filter.Given as goal

abbrev pub invariant-loop-x : goal.invariant-loop-x
invariant-loop-x g l =
    (p : ℕ → Bool) → ((x : ℕ) (b : Bool) → x < 2 ^ 16 → goal.P-post g l.passes x b → b ≡ p x) → l.part ≡ standing_of (filter p (take l.x-index l.x-items))
