-- What one call on a walk gives, by the set that stands; the empty list where none does.
use Rattle.std.specs.Prelude.{◌≡◌, ℕ, List, [], ◌∷◌, length, Some, None, Ok, Err, Option, Result}
use Rattle.refusal.specs.Refusals.{refused}
use Rattle.refusal.specs.declared.Layer.TheVariants.{Walk}
use Rattle.refusal.specs.declared.Reason.TheVariants.{Exhausted, NothingStanding}
use Rattle.refusal.specs.declared.Refusal.{Refusal}
use Rattle.cliques.specs.Graph.{Graph}
use Rattle.cliques.specs.Paths.{NextAfter, standing_path}
use Rattle.completion.specs.Answers.{Outcome, copied}

-- a step from one standing set to another: to the set that comes next by path, with its member count; or a refusal where no
-- path comes after, and the same set stands
abbrev pub StepsTo : Graph → List ℕ → Result ℕ Refusal → List ℕ → Type 0
StepsTo g here (Ok count) there = (count ≡ length there) × NextAfter g (standing_path g here) (Some there)
StepsTo g here (Err refusal) there = (refusal ≡ refused Exhausted Walk 0) × (there ≡ here) × NextAfter g (standing_path g here) None

-- the standing set copied to the front of the space; refused where none stands, then where the space is too short
abbrev pub reading : List ℕ → List ℕ → Outcome ℕ
reading [] out = record { answer = Err (refused NothingStanding Walk 0); space = out }
reading (x ∷ xs) out = copied (x ∷ xs) out

-- the set that stands after a resume: the set given, or the one that stood where that is refused
abbrev pub resumed : Option Refusal → List ℕ → List ℕ → List ℕ
resumed (Some refusal) here X = here
resumed None here X = X
