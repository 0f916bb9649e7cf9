-- What the parts of a step compute, at any list, and what a step seeks.
use Rattle.std.specs.Prelude.{◌≡◌, ℕ, ◌<◌, ◌≤◌, Bool, cond, not, ◌&&◌, List, [], ◌∷◌, ◌++◌, length, take, Some, None, Option, nat_lt, slice_index}
use Rattle.cliques.specs.Graph.{Graph}
use Rattle.cliques.specs.Sets.{below, every, has, partner_of_all, places, same}
use Rattle.cliques.specs.Completion.{partners_below}
use Rattle.cliques.specs.Shortcuts.{adds_none_below, append_pass}
use Rattle.completion.specs.declared.standing.Standing.{Standing}
use Rattle.completion.specs.Standings.{Clean, members_of, standing_of}

-- no place with a barrier is a partner of all of P; the barriers stand in a list by place
abbrev pub none_joins : Graph → List ℕ → List ℕ → Bool
none_joins g at P = every (λ w. not (nat_lt 0 (slice_index at w) && partner_of_all g w P)) (places g.size)

-- completing P gives K, with the test for barriers before it
abbrev pub gives_back : Graph → List ℕ → List ℕ → List ℕ → Bool
gives_back g at P K = none_joins g at P && same (append_pass g g.size P) K

-- v is outside K, P has a member, and completing P gives K
abbrev pub enters_at : Graph → List ℕ → List ℕ → List ℕ → ℕ → Bool
enters_at g at P K v = not (has v K) && (nat_lt 0 (length P) && gives_back g at P K)

-- P and v completed
abbrev pub completed_with : Graph → ℕ → List ℕ → List ℕ
completed_with g v P = append_pass g g.size (take 256 (P ++ (v ∷ [])))

-- completing P with v adds nothing below v, with the test for partners of v before it
abbrev pub adds_none : Graph → ℕ → List ℕ → Bool
adds_none g v P = adds_none_below g v P && same (below v (completed_with g v P)) P

-- P and v completed, unless that adds something below v
abbrev pub entered : Graph → ℕ → List ℕ → Option Standing
entered g v P = cond (adds_none g v P) (Some (standing_of (completed_with g v P))) None

-- the child of K at v, if the tests pass
abbrev pub child_at : Graph → List ℕ → List ℕ → ℕ → Option Standing
child_at g at K v = cond (enters_at g at (partners_below g v K) K v) (entered g v (partners_below g v K)) None

-- the first child of K at a place from w on; none where no place has one
abbrev pub FirstChild : Graph → List ℕ → List ℕ → ℕ → Option Standing → Type 0
FirstChild g at K w None = (u : ℕ) → w ≤ u → u < g.size → child_at g at K u ≡ None
FirstChild g at K w (Some D) =
    (v : ℕ) × (w ≤ v) × (v < g.size) × (child_at g at K v ≡ Some D) × ((u : ℕ) → w ≤ u → u < v → child_at g at K u ≡ None)

-- a set that is found is kept clean
abbrev pub Kept : Option Standing → Type 0
Kept None = Unit {0}
Kept (Some s) = Clean s

-- the members of a set that is found
abbrev pub found_set : Option Standing → Option (List ℕ)
found_set None = None
found_set (Some s) = Some (members_of s)
