-- Steps alone, into room that the caller lends: what holds after i sets, and at each of the ends.
use Rattle.std.proofs.Common.{◌≡◌, ℕ, zero, suc, ◌+◌, ◌<◌, ◌≤◌, true, false, List, [], ◌∷◌, ◌++◌, map, length, take, drop, set, is_err, Ok, Err, Result, sym, refl, ap, ◌∙◌, add-one, arith}
use Rattle.std.proofs.lemmas.Bool.{le-leb, lt-leb}
use Rattle.std.proofs.lemmas.List.{drop_more, length-drop}
use Rattle.refusal.specs.declared.Refusal.{Refusal}
use Rattle.cliques.specs.Graph.{Graph, Lawful}
use Rattle.cliques.specs.Paths.{MayStand}
use Rattle.cliques.specs.Listing.{ListsAll}
use Rattle.completion.specs.declared.standing.Standing.{Standing}
use Rattle.completion.specs.Standings.{standing_of}
use Rattle.model.specs.Steps.{StepsTo}
use Rattle.model.specs.Model.{remainder}
use Rattle.model.specs.Obeys.{GivesRest}
use Rattle.model.proofs.Remainders.{remainder_some, remainder_none, next_stands}

-- what a list from i on tells of the list
drop_some : {A : Type 0} (xs : List A) (i : ℕ) (x : A) (more : List A) → drop i xs ≡ x ∷ more → (i < length xs) × (drop (i + 1) xs ≡ more)
drop_some xs i x more q =
    let h : i < length xs = omega (arith, ap length q, length-drop i xs) in
    let d = drop_more xs i x h in (h, cc)

-- one more written after those before it
put_more : {A B : Type 0} (f : A → B) (R : List A) (room : List B) (i : ℕ) (D : A) (more : List A) → drop i R ≡ D ∷ more
    → i < length room → set (map f (take i R) ++ drop i room) i (f D) ≡ map f (take (suc i) R) ++ drop (suc i) room
put_more f [] room zero D more q h = cc
put_more f [] room (suc i) D more q h = cc
put_more f (E ∷ R) [] i D more q h = absurd (omega arith)
put_more f (E ∷ R) (s ∷ room) zero D more q h = cc
put_more f (E ∷ R) (s ∷ room) (suc i) D more q h = cc (put_more f R room i D more q (omega arith))

-- i sets of the list were put into the room; a walk that stood at S stands here
pub record Giving (L : List (List ℕ)) (S here : List ℕ) (room exit : List Standing) (i : ℕ) : Type 0 where
  pub put : exit ≡ map standing_of (take i (remainder L S)) ++ drop i room
  pub left : drop i (remainder L S) ≡ remainder L here
  pub few : i ≤ length (remainder L S)

-- the same by every list of all maximal cliques
pub record SteppedOut (g : Graph) (S here : List ℕ) (room exit : List Standing) (i : ℕ) : Type 0 where
  pub stands : MayStand g here
  pub gives : (L : List (List ℕ)) → ListsAll g L → Giving L S here room exit i

module _ (g : Graph) (law : Lawful g) (S here : List ℕ) (room exit : List Standing) (i : ℕ) (o : SteppedOut g S here room exit i) where
  pub out_more : (r : Result ℕ Refusal) (D : List ℕ) (s : Standing) → StepsTo g here r D → is_err r ≡ false → i < length room
      → s ≡ standing_of D → SteppedOut g S D room (set exit i s) (i + 1)
  out_more (Err refusal) D s x e h q = cc
  out_more (Ok count) D s x e h q = record {
    stands = next_stands g law _ D x.1;
    gives = λ L l.
        let b = o.gives L l in
        let d : drop i (remainder L S) ≡ D ∷ remainder L D = b.left ∙ remainder_some g law L l here D o.stands x.1 in
        let f = drop_some (remainder L S) i D (remainder L D) d in
        let few = f.0 in
        let more = put_more standing_of (remainder L S) room i D (remainder L D) d h in
        record { put = rw add-one (cc); left = f.1; few = omega arith };
  }

  -- no set is left, and there was room for all
  pub out_none : (r : Result ℕ Refusal) (D : List ℕ) → StepsTo g here r D → is_err r ≡ true → i ≤ length room
      → GivesRest g S room exit i true
  out_none (Ok count) D x e h = cc
  out_none (Err refusal) D x e h = λ L l.
      let b = o.gives L l in
      let few = b.few in
      let none = b.left ∙ remainder_none g law L l here o.stands x.2 in
      let all : length (remainder L S) ≤ i = omega (arith, ap length none, length-drop i (remainder L S)) in
      record { counted = omega arith; put = b.put; told_all = sym (le-leb _ _ (omega arith)) }

  -- the room is full, and one step more tells whether the sets in it are all
  pub out_full : (r : Result ℕ Refusal) (D : List ℕ) → StepsTo g here r D → i ≡ length room → GivesRest g S room exit i (is_err r)
  out_full (Err refusal) D x h = out_none (Err refusal) D x refl (omega arith)
  out_full (Ok count) D x h = λ L l.
      let b = o.gives L l in
      let f = (drop_some (remainder L S) i D (remainder L D) (b.left ∙ remainder_some g law L l here D o.stands x.1)).0 in
      record { counted = omega arith; put = b.put; told_all = sym (lt-leb _ _ (omega arith)) }
