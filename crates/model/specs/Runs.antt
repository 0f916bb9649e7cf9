-- Whole runs: a new walk, any list of calls, then steps alone into room that the caller lends.
use Rattle.std.specs.Prelude.{◌≡◌, ℕ, min, Bool, List, [], ◌∷◌, ◌++◌, map, length, take, drop, vec_items, nat_le, Some, Option, Result}
use Rattle.refusal.specs.declared.Refusal.{Refusal}
use Rattle.cliques.specs.Graph.{Graph}
use Rattle.cliques.specs.Listing.{ListsAll}
use Rattle.completion.specs.declared.standing.Standing.{Standing}
use Rattle.completion.specs.Standings.{standing_of}
use Rattle.model.specs.declared.call.Call.{Call}
use Rattle.model.specs.declared.answer.Answer.{Answer}
use Rattle.model.specs.declared.exchange.Exchange.{Exchange}
use Rattle.model.specs.Model.{turn, Remains}

-- a call with the caller's space
pub record Asked : Type 0 where
  pub call : Call
  pub space : List ℕ

-- a call, its answer if it is made, and the caller's space after it
pub record Told : Type 0 where
  pub call : Call
  pub answer : Option (Result Answer Refusal)
  pub space : List ℕ

abbrev pub asked : Exchange → Asked
asked x = record { call = x.call; space = vec_items x.space }

abbrev pub told : Exchange → Told
told x = record { call = x.call; answer = x.answer; space = vec_items x.space }

module _ (g : Graph) (L : List (List ℕ)) where
  -- what the model tells of a call at a pin
  abbrev pub reply : List ℕ → Asked → Told
  reply pin q = record { call = q.call; answer = Some (turn g L pin q.call q.space).answer; space = (turn g L pin q.call q.space).space }

  -- the pin after the call
  abbrev pub moved : List ℕ → Asked → List ℕ
  moved pin q = (turn g L pin q.call q.space).pin

  -- the same of a list of calls, made in order
  abbrev pub replies : List ℕ → List Asked → List Told
  replies pin [] = []
  replies pin (q ∷ more) = reply pin q ∷ replies (moved pin q) more

  abbrev pub pin_after : List ℕ → List Asked → List ℕ
  pin_after pin [] = pin
  pin_after pin (q ∷ more) = pin_after (moved pin q) more

-- the sets were put into the room in their order, all of them or as many as there is room for; the room past them is as it
-- was; and it is told how many were put there, and whether they are all
pub record PutInto (room : List Standing) (sets : List (List ℕ)) (exit : List Standing) (count : ℕ) (all : Bool) : Type 0 where
  pub counted : count ≡ min (length sets) (length room)
  pub put : exit ≡ map standing_of (take count sets) ++ drop count room
  pub told_all : all ≡ nat_le (length sets) (length room)

-- A run on a new walk over a table of the meaning g. There is exactly one list L of all maximal cliques by rising path. Each
-- call was answered, and left the caller's space, as the model does whose pin starts before all of L. What the walk kept
-- after the calls is fixed by the set at the model's pin. Steps alone from there gave R: the maximal cliques whose paths come
-- after that set's, or all where the pin is before them all.
pub record Follows (g : Graph) (L R : List (List ℕ)) (calls : List Asked) (answers : List Told) (kept : Standing) (room exit : List Standing) (count : ℕ) (all : Bool) : Type 0 where
  pub lists : ListsAll g L
  pub only_one : (M : List (List ℕ)) → ListsAll g M → M ≡ L
  pub answered : answers ≡ replies g L [] calls
  pub keeps : kept ≡ standing_of (pin_after g L [] calls)
  pub remains : Remains g (pin_after g L [] calls) R
  pub steps : PutInto room R exit count all
