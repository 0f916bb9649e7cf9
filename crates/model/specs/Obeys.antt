-- What one call, a list of calls, and steps alone have to give, whatever list of all maximal cliques the model has.
use Rattle.std.specs.Prelude.{◌≡◌, ℕ, Bool, List, Some, None, Option, Ok, Err, Result}
use Rattle.refusal.specs.declared.Refusal.{Refusal}
use Rattle.cliques.specs.Graph.{Graph}
use Rattle.cliques.specs.Paths.{MayStand}
use Rattle.cliques.specs.Listing.{ListsAll}
use Rattle.completion.specs.declared.standing.Standing.{Standing}
use Rattle.model.specs.declared.answer.Answer.{Answer}
use Rattle.model.specs.declared.answer.Answer.TheVariants.{Resumed}
use Rattle.model.specs.Model.{remainder}
use Rattle.model.specs.Runs.{Asked, Told, reply, moved, replies, pin_after, PutInto}

-- a call made at a pin, what is told of it, and the new pin are the model's
pub record Obeys (g : Graph) (pin : List ℕ) (q : Asked) (o : Told) (new : List ℕ) : Type 0 where
  pub stands : MayStand g new
  pub tells : (L : List (List ℕ)) → ListsAll g L → o ≡ reply g L pin q
  pub moves : (L : List (List ℕ)) → ListsAll g L → new ≡ moved g L pin q

-- the same of a list of calls
pub record ObeysAll (g : Graph) (pin : List ℕ) (qs : List Asked) (os : List Told) (new : List ℕ) : Type 0 where
  pub stands : MayStand g new
  pub tells : (L : List (List ℕ)) → ListsAll g L → os ≡ replies g L pin qs
  pub moves : (L : List (List ℕ)) → ListsAll g L → new ≡ pin_after g L pin qs

-- steps alone from a pin give what is left after it
abbrev pub GivesRest : Graph → List ℕ → List Standing → List Standing → ℕ → Bool → Type 0
GivesRest g pin room exit count all = (L : List (List ℕ)) → ListsAll g L → PutInto room (remainder L pin) exit count all

-- the answer to a resume, by why it was refused
abbrev pub resume_answer : Option Refusal → Result Answer Refusal
resume_answer (Some refusal) = Err refusal
resume_answer None = Ok Resumed
