-- The reference model of a walk: the list of all maximal cliques by rising path, and a pin, which is at one of them or, as
-- the empty list, before them all.
use Rattle.std.specs.Prelude.{ℕ, Bool, false, cond, not, ◌||◌, List, [], ◌∷◌, length, Some, None, Ok, Err, Option, Result}
use Rattle.std.specs.Option.{option_or}
use Rattle.refusal.specs.Refusals.{refused}
use Rattle.refusal.specs.declared.Layer.TheVariants.{Walk}
use Rattle.refusal.specs.declared.Reason.TheVariants.{Exhausted, NotMaximal}
use Rattle.refusal.specs.declared.Refusal.{Refusal}
use Rattle.cliques.specs.Graph.{Graph}
use Rattle.cliques.specs.Sets.{same, MaximalClique}
use Rattle.cliques.specs.Paths.{Before, path, standing_path}
use Rattle.cliques.specs.Listing.{Among, ByPath, first_set}
use Rattle.completion.specs.Checks.{set_fault, refuse_if}
use Rattle.model.specs.declared.call.Call.{Call}
use Rattle.model.specs.declared.call.Call.TheVariants.{Step, Read, Resume}
use Rattle.model.specs.declared.answer.Answer.{Answer}
use Rattle.model.specs.declared.answer.Answer.TheVariants.{Count, Resumed}
use Rattle.model.specs.Steps.{reading}

-- the sets of the list that follow K there
abbrev pub following : List ℕ → List (List ℕ) → List (List ℕ)
following K [] = []
following K (D ∷ L) = cond (same K D) L (following K L)

-- the sets after the pin
abbrev pub remainder : List (List ℕ) → List ℕ → List (List ℕ)
remainder L [] = L
remainder L (x ∷ xs) = following (x ∷ xs) L

-- K is one of the list, as a test
abbrev pub listed : List ℕ → List (List ℕ) → Bool
listed K [] = false
listed K (D ∷ L) = same K D || listed K L

-- what a call gives: the answer, the caller's space after it, and the new pin
pub record Turn : Type 0 where
  pub answer : Result Answer Refusal
  pub space : List ℕ
  pub pin : List ℕ

-- a step moves the pin to the next set and tells its member count; with none left it is refused
abbrev pub step_turn : Option (List ℕ) → List ℕ → List ℕ → Turn
step_turn None pin space = record { answer = Err (refused Exhausted Walk 0); space = space; pin = pin }
step_turn (Some D) pin space = record { answer = Ok (Count (length D)); space = space; pin = D }

-- a count or a refusal, as an answer
abbrev pub counted : Result ℕ Refusal → Result Answer Refusal
counted (Ok count) = Ok (Count count)
counted (Err refusal) = Err refusal

-- a read copies the set at the pin
abbrev pub read_turn : List ℕ → List ℕ → Turn
read_turn pin space = record { answer = counted (reading pin space).answer; space = (reading pin space).space; pin = pin }

-- why the model refuses to resume at X, or none: X is no clique, or it is none of the list and so can be enlarged
abbrev pub unlisted : Graph → List (List ℕ) → List ℕ → Option Refusal
unlisted g L X = option_or (set_fault g X) (refuse_if (not (listed X L)) NotMaximal 0)

-- a resume moves the pin to the set given, or is refused
abbrev pub resume_turn : Option Refusal → List ℕ → List ℕ → Turn
resume_turn (Some refusal) pin X = record { answer = Err refusal; space = X; pin = pin }
resume_turn None pin X = record { answer = Ok Resumed; space = X; pin = X }

-- what the model gives at a pin to a call with the caller's space
abbrev pub turn : Graph → List (List ℕ) → List ℕ → Call → List ℕ → Turn
turn g L pin Step space = step_turn (first_set (remainder L pin)) pin space
turn g L pin Read space = read_turn pin space
turn g L pin Resume X = resume_turn (unlisted g L X) pin X

-- R has the maximal cliques whose paths come after that of the set at the pin, or all where the pin is before them all, and
-- nothing else, each once, by rising path
pub record Remains (g : Graph) (pin : List ℕ) (R : List (List ℕ)) : Type 0 where
  pub only : (K : List ℕ) → Among K R → MaximalClique g K × Before (standing_path g pin) (path g K)
  pub every_one : (K : List ℕ) → MaximalClique g K → Before (standing_path g pin) (path g K) → Among K R
  pub order : ByPath g R
