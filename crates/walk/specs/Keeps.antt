-- What a walk keeps after a call, for every walk.
use Rattle.std.specs.Prelude.{◌≡◌, ℕ, List, length, Some, None, Ok, Err, Option, Result}
use Rattle.refusal.specs.Refusals.{refused}
use Rattle.refusal.specs.declared.Layer.TheVariants.{Walk}
use Rattle.refusal.specs.declared.Reason.TheVariants.{Exhausted}
use Rattle.refusal.specs.declared.Refusal.{Refusal}
use Rattle.cliques.specs.Graph.{Graph}
use Rattle.cliques.specs.Paths.{MayStand}
use Rattle.completion.specs.declared.standing.Standing.{Standing}
use Rattle.completion.specs.Checks.{maximal_fault}
use Rattle.completion.specs.Standings.{Clean, members_of, standing_of}

-- after a step: a set that is kept clean, and whose member count was told; or, after the one refusal that a step has, what
-- was kept before
abbrev pub SteppedFrom : Standing → Result ℕ Refusal → Standing → Type 0
SteppedFrom was (Ok count) is = Clean is × (count ≡ length (members_of is))
SteppedFrom was (Err refusal) is = (is ≡ was) × (refusal ≡ refused Exhausted Walk 0)

-- after a resume: the set given, with zeros after its members; or, where that was refused, what was kept before
abbrev pub resumed_from : Option Refusal → Standing → List ℕ → Standing
resumed_from (Some refusal) was X = was
resumed_from None was X = standing_of X

-- a list that was given as a set: a maximal clique, kept; or why it is refused
abbrev pub Checked : Graph → List ℕ → Result Standing Refusal → Type 0
Checked g X (Ok s) = (maximal_fault g X ≡ None) × (s ≡ standing_of X) × MayStand g (members_of s)
Checked g X (Err refusal) = maximal_fault g X ≡ Some refusal
