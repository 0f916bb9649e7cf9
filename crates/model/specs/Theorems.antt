-- The theorems as statements, each for every lawful graph.
use Rattle.std.specs.Prelude.{◌≡◌, ℕ, List, Some, Option, Result}
use Rattle.refusal.specs.declared.Refusal.{Refusal}
use Rattle.cliques.specs.Graph.{Graph}
use Rattle.cliques.specs.Paths.{MayStand}
use Rattle.cliques.specs.Listing.{ListsAll}
use Rattle.cliques.specs.Theorems.{ForGraphs}
use Rattle.completion.specs.Checks.{maximal_fault}
use Rattle.model.specs.declared.call.Call.TheVariants.{Step, Read, Resume}
use Rattle.model.specs.Steps.{StepsTo, reading, resumed}
use Rattle.model.specs.Model.{remainder, counted, Remains}
use Rattle.model.specs.Obeys.{Obeys, resume_answer}

-- What follows the pin in the list of all maximal cliques by rising path are exactly the maximal cliques whose paths come
-- after the pin's.
abbrev pub RemainderHolds : Type 0
RemainderHolds = ForGraphs (λ g. (L : List (List ℕ)) → ListsAll g L → (pin : List ℕ) → MayStand g pin → Remains g pin (remainder L pin))

-- Each call, as it is stated by the set S that stands, answers and moves as the model whose pin is at S.
pub record Calls (g : Graph) : Type 0 where
  pub step : (S : List ℕ) (r : Result ℕ Refusal) (D X : List ℕ) → MayStand g S → StepsTo g S r D
      → Obeys g S (record { call = Step; space = X }) (record { call = Step; answer = Some (counted r); space = X }) D
  pub read : (S out : List ℕ) (r : Result ℕ Refusal) (space : List ℕ) → MayStand g S → r ≡ (reading S out).answer
      → space ≡ (reading S out).space
      → Obeys g S (record { call = Read; space = out }) (record { call = Read; answer = Some (counted r); space = space }) S
  pub resume : (S X : List ℕ) (fault : Option Refusal) → MayStand g S → fault ≡ maximal_fault g X
      → Obeys g S (record { call = Resume; space = X }) (record { call = Resume; answer = Some (resume_answer fault); space = X }) (resumed fault S X)

abbrev pub ModelObeys : Type 0
ModelObeys = ForGraphs Calls
