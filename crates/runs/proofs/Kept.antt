-- What a walk keeps after a resume.
use Rattle.std.proofs.Common.{◌≡◌, ℕ, List, Some, None, Option, refl}
use Rattle.refusal.specs.declared.Refusal.{Refusal}
use Rattle.completion.specs.declared.standing.Standing.{Standing}
use Rattle.completion.specs.Standings.{members_of, standing_of}
use Rattle.completion.proofs.Standings.{back}
use Rattle.model.specs.Steps.{resumed}
use Rattle.walk.specs.Keeps.{resumed_from}

pub resumed_members : (fault : Option Refusal) (was : Standing) (X : List ℕ) → members_of (resumed_from fault was X) ≡ resumed fault (members_of was) X
resumed_members (Some refusal) was X = refl
resumed_members None was X = back (standing_of X) X refl
