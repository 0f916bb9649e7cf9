-- A whole run: calls that obey the model, and then steps alone, follow it.
use Rattle.std.proofs.Common.{◌≡◌, ℕ, Bool, List, []}
use Rattle.cliques.specs.Graph.{Graph, Lawful}
use Rattle.cliques.specs.Listing.{maximal_cliques}
use Rattle.cliques.proofs.Listings.{all_listed, lists_one}
use Rattle.completion.specs.declared.standing.Standing.{Standing}
use Rattle.completion.specs.Standings.{standing_of}
use Rattle.model.specs.Model.{remainder}
use Rattle.model.specs.Runs.{Asked, Told, pin_after, Follows}
use Rattle.model.specs.Obeys.{ObeysAll, GivesRest}
use Rattle.model.proofs.Remainders.{remains}

pub run_follows : (g : Graph) (law : Lawful g) (S here : List ℕ) (qs : List Asked) (os : List Told) (kept : Standing)
    (room exit : List Standing) (count : ℕ) (all : Bool) → S ≡ [] → kept ≡ standing_of here → ObeysAll g S qs os here
    → GivesRest g here room exit count all
    → (L : List (List ℕ)) × (R : List (List ℕ)) × Follows g L R qs os kept room exit count all
run_follows g law S here qs os kept room exit count all q k f j =
    let L = maximal_cliques g in
    let l = all_listed g law in
    let b = rw q at f in
    let p : here ≡ pin_after g L [] qs = b.moves L l in (
      L,
      remainder L (pin_after g L [] qs),
      record {
        lists = l;
        only_one = λ M a. lists_one g law M L a l;
        answered = b.tells L l;
        keeps = cc;
        remains = remains g law L l (pin_after g L [] qs) (rw p at b.stands);
        steps = rw p at (j L l);
      },
    )
