-- A list of exchanges answered one by one: what holds midway, at the start and at the end.
use Rattle.std.proofs.Common.{◌≡◌, ℕ, ◌+◌, ◌<◌, ◌≤◌, List, [], ◌∷◌, ◌++◌, map, length, get_or, take, drop, set, append_assoc, arith}
use Rattle.std.proofs.lemmas.List.{append-nil, map_push, take_all, take_more_set, drop_all, drop_more, drop-set-lt}
use Rattle.cliques.specs.Graph.{Graph}
use Rattle.cliques.specs.Paths.{MayStand}
use Rattle.cliques.specs.Listing.{ListsAll}
use Rattle.model.specs.declared.exchange.Exchange.{Exchange}
use Rattle.model.specs.Runs.{Asked, asked, told, replies, pin_after}
use Rattle.model.specs.Obeys.{Obeys, ObeysAll}

-- the exchanges before i were answered, and the others would be answered from here as the whole is from S
pub record Midway (g : Graph) (S : List ℕ) (qs : List Asked) (i : ℕ) (xs : List Exchange) (here : List ℕ) : Type 0 where
  pub stands : MayStand g here
  pub tells : (L : List (List ℕ)) → ListsAll g L
      → map told (take i xs) ++ replies g L here (map asked (drop i xs)) ≡ replies g L S qs
  pub moves : (L : List (List ℕ)) → ListsAll g L → pin_after g L here (map asked (drop i xs)) ≡ pin_after g L S qs

-- the exchange x at i is answered, and y is written in its place
pub midway_more : (g : Graph) (S here new : List ℕ) (qs : List Asked) (i : ℕ) (xs : List Exchange) (x y : Exchange) → i < length xs
    → x ≡ get_or xs i x → Midway g S qs i xs here → Obeys g here (asked x) (told y) new → Midway g S qs (i + 1) (set xs i y) new
midway_more g S here new qs i xs x y h q b o =
    let d = drop_more xs i x h in
    let t = take_more_set xs i y h in
    let p = map_push told (take i xs) y in
    let u = drop-set-lt (i + 1) xs i y (omega arith) in
    record {
      stands = o.stands;
      tells = λ L l.
          cc (o.tells L l, o.moves L l, b.tells L l, append_assoc (map told (take i xs)) (told y ∷ []) (replies g L new (map asked (drop (i + 1) xs))));
      moves = λ L l. cc (o.moves L l, b.moves L l);
    }

pub midway_end : (g : Graph) (S here : List ℕ) (qs : List Asked) (i : ℕ) (xs : List Exchange) → length xs ≤ i
    → Midway g S qs i xs here → ObeysAll g S qs (map told xs) here
midway_end g S here qs i xs h b =
    let d = drop_all i xs h in
    let t = take_all i xs h in
    record {
      stands = b.stands;
      tells = λ L l. cc (b.tells L l, append-nil (map told xs));
      moves = λ L l. cc (b.moves L l);
    }
