-- Worked racks: one list of cases, computed by the definitions, and one test over the list.
use Rattle.std.specs.Prelude.{Bool, true, false, ◌&&◌, ◌||◌, List, [], ◌∷◌, ℕ, ◌≤◌, T, eqb, ltb, leb}
use Rattle.cliques.specs.Graph.{Graph, Lawful}
use Rattle.cliques.specs.Sets.{same, is_maximal_clique}
use Rattle.cliques.specs.Completion.{completion, parent_index}
use Rattle.cliques.specs.Paths.{path}
use Rattle.cliques.specs.Listing.{maximal_cliques}
use Rattle.order.specs.Orders.{degeneracy_order, most}

-- Where a maximal clique stands: its parent index and its path.
pub record Position : Type 0 where
  pub clique : List ℕ
  pub index : ℕ
  pub path_down : List ℕ

-- A rack: its size and the pairs of partners, its maximal cliques in order, some cliques each with its completion, and where
-- some of the maximal cliques stand.
pub record Rack : Type 0 where
  pub size : ℕ
  pub pairs : List (ℕ × ℕ)
  pub cliques : List (List ℕ)
  pub completions : List (List ℕ × List ℕ)
  pub positions : List Position

-- A rack, its degeneracy order, and the largest number of later partners in it.
pub record Sequence : Type 0 where
  pub size : ℕ
  pub pairs : List (ℕ × ℕ)
  pub order : List ℕ
  pub largest : ℕ

-- A case of any kind. A new kind is one more constructor here and one more clause of holds below.
pub data Case : Type 0 where
  of_rack : Rack → Case
  of_order : Sequence → Case

-- u and v are one of the pairs.
abbrev pub paired : List (ℕ × ℕ) → ℕ → ℕ → Bool
paired [] u v = false
paired (p ∷ ps) u v = (eqb u p.0 && eqb v p.1) || (eqb v p.0 && eqb u p.1) || paired ps u v

-- The graph of a size and a list of pairs.
abbrev pub graph_of : ℕ → List (ℕ × ℕ) → Graph
graph_of n ps = record { size = n; partners = paired ps }

-- Each pair is of two places below n, the smaller first.
abbrev pub placed : ℕ → List (ℕ × ℕ) → Bool
placed n [] = true
placed n (p ∷ ps) = ltb p.0 p.1 && ltb p.1 n && placed n ps

-- The graph of at most 256 places and such pairs is lawful.
abbrev pub RacksLawful : Type 0
RacksLawful = (n : ℕ) (ps : List (ℕ × ℕ)) → n ≤ 256 → T (placed n ps) → Lawful (graph_of n ps)

-- The two lists of sets are equal.
abbrev pub alike : List (List ℕ) → List (List ℕ) → Bool
alike [] [] = true
alike [] (y ∷ ys) = false
alike (x ∷ xs) [] = false
alike (x ∷ xs) (y ∷ ys) = same x y && alike xs ys

-- The second set of each pair is the completion of the first.
abbrev pub completions_hold : Graph → List (List ℕ × List ℕ) → Bool
completions_hold g [] = true
completions_hold g (c ∷ cs) = same (completion g c.0) c.1 && completions_hold g cs

-- Each set is a maximal clique with the parent index and the path named.
abbrev pub positions_hold : Graph → List Position → Bool
positions_hold g [] = true
positions_hold g (t ∷ ts) =
    is_maximal_clique g t.clique && eqb (parent_index g t.clique) t.index && same (path g t.clique) t.path_down
    && positions_hold g ts

-- The graph of the rack is lawful, and the definitions give what the rack says.
abbrev pub rack_holds : Rack → Bool
rack_holds r =
    let g = graph_of r.size r.pairs in
    leb r.size 256 && placed r.size r.pairs && alike (maximal_cliques g) r.cliques
    && completions_hold g r.completions && positions_hold g r.positions

-- The graph of the rack is lawful, and the definitions give the order and the number named.
abbrev pub order_holds : Sequence → Bool
order_holds s =
    let g = graph_of s.size s.pairs in
    leb s.size 256 && placed s.size s.pairs && same (degeneracy_order g) s.order
    && eqb (most g.partners (degeneracy_order g)) s.largest

-- The definitions give what the case says.
abbrev pub holds : Case → Bool
holds (of_rack r) = rack_holds r
holds (of_order s) = order_holds s

-- The definitions give what every case of the list says.
abbrev pub all_hold : List Case → Bool
all_hold [] = true
all_hold (c ∷ cs) = holds c && all_hold cs

-- The cases.
abbrev pub cases : List Case
cases =
    of_rack (record {
      size = 6;
      pairs = (0, 1) ∷ (0, 2) ∷ (1, 2) ∷ (1, 3) ∷ (2, 3) ∷ (3, 4) ∷ [];
      cliques = (0 ∷ 1 ∷ 2 ∷ []) ∷ (1 ∷ 2 ∷ 3 ∷ []) ∷ (3 ∷ 4 ∷ []) ∷ (5 ∷ []) ∷ [];
      completions = (3 ∷ [], 1 ∷ 2 ∷ 3 ∷ []) ∷ [];
      positions = record { clique = 1 ∷ 2 ∷ 3 ∷ []; index = 3; path_down = 0 ∷ 3 ∷ [] } ∷ [];
    })
    ∷ of_rack (record {
      size = 4;
      pairs = (0, 1) ∷ (0, 3) ∷ (1, 2) ∷ (2, 3) ∷ [];
      cliques = (0 ∷ 1 ∷ []) ∷ (1 ∷ 2 ∷ []) ∷ (2 ∷ 3 ∷ []) ∷ (0 ∷ 3 ∷ []) ∷ [];
      completions = [];
      positions = [];
    })
    ∷ of_rack (record {
      size = 4;
      pairs = (0, 1) ∷ (1, 2) ∷ (1, 3) ∷ (2, 3) ∷ [];
      cliques = (0 ∷ 1 ∷ []) ∷ (1 ∷ 2 ∷ 3 ∷ []) ∷ [];
      completions = [];
      positions = [];
    })
    ∷ of_rack (record {
      size = 5;
      pairs = (0, 1) ∷ (0, 2) ∷ (0, 3) ∷ (2, 4) ∷ [];
      cliques = (0 ∷ 1 ∷ []) ∷ (0 ∷ 2 ∷ []) ∷ (2 ∷ 4 ∷ []) ∷ (0 ∷ 3 ∷ []) ∷ [];
      completions = [];
      positions = [];
    })
    ∷ of_rack (record { size = 0; pairs = []; cliques = []; completions = []; positions = [] })
    ∷ of_rack (record { size = 1; pairs = []; cliques = (0 ∷ []) ∷ []; completions = []; positions = [] })
    ∷ of_order (record {
      size = 6;
      pairs = (0, 1) ∷ (0, 2) ∷ (1, 2) ∷ (1, 3) ∷ (2, 3) ∷ (3, 4) ∷ [];
      order = 5 ∷ 4 ∷ 0 ∷ 1 ∷ 2 ∷ 3 ∷ [];
      largest = 2;
    })
    ∷ of_order (record {
      size = 5;
      pairs = (0, 1) ∷ (2, 3) ∷ (2, 4) ∷ (3, 4) ∷ [];
      order = 0 ∷ 2 ∷ 1 ∷ 3 ∷ 4 ∷ [];
      largest = 2;
    })
    ∷ of_order (record { size = 0; pairs = []; order = []; largest = 0 })
    ∷ of_order (record { size = 1; pairs = []; order = 0 ∷ []; largest = 0 })
    ∷ []

-- The definitions give what every case says.
abbrev pub RacksHold : Type 0
RacksHold = T (all_hold cases)
