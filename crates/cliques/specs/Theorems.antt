-- The theorems as statements, each for every lawful graph.
use Rattle.std.specs.Prelude.{◌≡◌, ℕ, suc, ◌<◌, T, ◌⊎◌, List, [], ◌∷◌, ◌++◌, Some, None, Option}
use Rattle.cliques.specs.Graph.{Graph, Lawful}
use Rattle.cliques.specs.Sets.{
  In,
  Sub,
  Rising,
  same,
  smallest,
  insert,
  below,
  FirstFrom,
  Precedes,
  Clique,
  MaximalClique,
  is_maximal_clique,
}
use Rattle.cliques.specs.Completion.{
  completion,
  parent_index,
  ParentIndexAt,
  root,
  parent,
  parent_of,
  Head,
  is_head,
  child,
  ChildAt,
  is_child,
}
use Rattle.cliques.specs.Paths.{path, Before, is_before, NextAfter, LeastFrom}
use Rattle.cliques.specs.Listing.{ListsAll, maximal_cliques, first_set}
use Rattle.cliques.specs.Shortcuts.{append_pass, largest_barrier, completes_to, adds_none_below, is_child_by_barriers}

-- The statement holds of every lawful graph.
abbrev pub ForGraphs : (Graph → Type 0) → Type 0
ForGraphs S = (g : Graph) → Lawful g → S g

-- Each test that stands beside a definition passes exactly where the definition holds.
pub record Tests (g : Graph) : Type 0 where
  pub maximal_test : (K : List ℕ) → MaximalClique g K → T (is_maximal_clique g K)
  pub test_maximal : (K : List ℕ) → T (is_maximal_clique g K) → MaximalClique g K
  pub head_test : (h : ℕ) → Head g h → T (is_head g h)
  pub test_head : (h : ℕ) → T (is_head g h) → Head g h
  pub child_test : (K D : List ℕ) (v : ℕ) → ChildAt g K v D → T (is_child g K v)
  pub test_child : (K : List ℕ) (v : ℕ) → T (is_child g K v) → ChildAt g K v (child g K v)
  pub before_test : (s t : List ℕ) → Before s t → T (is_before s t)
  pub test_before : (s t : List ℕ) → T (is_before s t) → Before s t

abbrev pub TestsHold : Type 0
TestsHold = ForGraphs Tests

-- The completion of a clique holds it and is a maximal clique, that of a maximal clique is itself, and every other maximal
-- clique that holds the clique comes after the completion in the lexicographic order.
pub record Completions (g : Graph) : Type 0 where
  pub holds : (X : List ℕ) → Clique g X → Sub X (completion g X)
  pub maximal : (X : List ℕ) → Clique g X → MaximalClique g (completion g X)
  pub itself : (K : List ℕ) → MaximalClique g K → completion g K ≡ K
  pub least : (X K : List ℕ) → Clique g X → MaximalClique g K → Sub X K → (completion g X ≡ K) ⊎ Precedes (completion g X) K

abbrev pub CompletionsHold : Type 0
CompletionsHold = ForGraphs Completions

-- Every maximal clique has one parent index. The roots are exactly the completions of the heads: a root is the completion
-- of its smallest member, which is a head, and the completion of a head is a root with the head as smallest member.
pub record Indices (g : Graph) : Type 0 where
  pub exists : (K : List ℕ) → MaximalClique g K → ParentIndexAt g K (parent_index g K)
  pub one : (K : List ℕ) (u v : ℕ) → ParentIndexAt g K u → ParentIndexAt g K v → u ≡ v
  pub root_head : (K : List ℕ) → MaximalClique g K → T (root g K) → Head g (smallest K)
  pub root_completion : (K : List ℕ) → MaximalClique g K → T (root g K) → completion g (smallest K ∷ []) ≡ K
  pub head_root : (h : ℕ) → Head g h → T (root g (completion g (h ∷ [])))
  pub head_smallest : (h : ℕ) → Head g h → smallest (completion g (h ∷ [])) ≡ h

abbrev pub IndicesHold : Type 0
IndicesHold = ForGraphs Indices

-- Parent and child are inverse. A root has no parent, and every other maximal clique has one. Up and down again: the parent
-- F of K is a maximal clique, K is its child at K's parent index, and F's parent index is smaller. Down and up again: the
-- child D of K at v is a maximal clique, its parent index is v, and its parent is K. So no set is a child of two sets, or at
-- two places.
pub record Children (g : Graph) : Type 0 where
  pub root_none : (K : List ℕ) → T (root g K) → parent_of g K ≡ None
  pub other_some : (K : List ℕ) → (T (root g K) → ⊥) → parent_of g K ≡ Some (parent g K)
  pub parent_maximal : (K F : List ℕ) → MaximalClique g K → parent_of g K ≡ Some F → MaximalClique g F
  pub parent_child : (K F : List ℕ) → MaximalClique g K → parent_of g K ≡ Some F → ChildAt g F (parent_index g K) K
  pub parent_lower : (K F : List ℕ) → MaximalClique g K → parent_of g K ≡ Some F → parent_index g F < parent_index g K
  pub child_maximal : (K D : List ℕ) (v : ℕ) → MaximalClique g K → ChildAt g K v D → MaximalClique g D
  pub child_index : (K D : List ℕ) (v : ℕ) → MaximalClique g K → ChildAt g K v D → parent_index g D ≡ v
  pub child_parent : (K D : List ℕ) (v : ℕ) → MaximalClique g K → ChildAt g K v D → parent_of g D ≡ Some K
  pub one : (K K' D : List ℕ) (v v' : ℕ) → MaximalClique g K → MaximalClique g K' → ChildAt g K v D → ChildAt g K' v' D
      → (K ≡ K') × (v ≡ v')

abbrev pub ChildrenHold : Type 0
ChildrenHold = ForGraphs Children

-- A path is the parent index alone at a root, and else the parent's path with the parent index at its end. Paths rise
-- strictly, equal paths have equal sets, and of two paths one comes before the other unless they are equal.
pub record Paths (g : Graph) : Type 0 where
  pub rises : (K : List ℕ) → MaximalClique g K → Rising (path g K)
  pub at_root : (K : List ℕ) → MaximalClique g K → parent_of g K ≡ None → path g K ≡ (parent_index g K ∷ [])
  pub at_child : (K F : List ℕ) → MaximalClique g K → parent_of g K ≡ Some F → path g K ≡ path g F ++ (parent_index g K ∷ [])
  pub one : (K K' : List ℕ) → MaximalClique g K → MaximalClique g K' → path g K ≡ path g K' → K ≡ K'
  pub total : (K K' : List ℕ) → MaximalClique g K → MaximalClique g K'
      → Before (path g K) (path g K') ⊎ ((K ≡ K') ⊎ Before (path g K') (path g K))

abbrev pub PathsHold : Type 0
PathsHold = ForGraphs Paths

-- How the next set is found, as a search for the least path at or after the path of K with one entry w more. The first
-- child of K at or above w has it. Without such a child, the search goes on from the parent, at the place after K's parent
-- index; from a root it goes on with the heads, and the first head from there has it. What comes next after K is found from
-- the place after K's parent index, and what comes first from place 0.
pub record Climbs (g : Graph) : Type 0 where
  pub to_child : (K : List ℕ) (w v : ℕ) → MaximalClique g K → FirstFrom (is_child g K) g.size w (Some v)
      → LeastFrom g (path g K ++ (w ∷ [])) (Some (child g K v))
  pub to_parent : (K F : List ℕ) (w : ℕ) (r : Option (List ℕ)) → MaximalClique g K → FirstFrom (is_child g K) g.size w None
      → parent_of g K ≡ Some F → LeastFrom g (path g F ++ (suc (parent_index g K) ∷ [])) r → LeastFrom g (path g K ++ (w ∷ [])) r
  pub from_root : (K : List ℕ) (w : ℕ) (r : Option (List ℕ)) → MaximalClique g K → FirstFrom (is_child g K) g.size w None
      → parent_of g K ≡ None → LeastFrom g (suc (parent_index g K) ∷ []) r → LeastFrom g (path g K ++ (w ∷ [])) r
  pub to_head : (w h : ℕ) → FirstFrom (is_head g) g.size w (Some h) → LeastFrom g (w ∷ []) (Some (completion g (h ∷ [])))
  pub no_head : (w : ℕ) → FirstFrom (is_head g) g.size w None → LeastFrom g (w ∷ []) None
  pub first : (r : Option (List ℕ)) → LeastFrom g (0 ∷ []) r → NextAfter g [] r
  pub next : (K : List ℕ) (r : Option (List ℕ)) → MaximalClique g K
      → LeastFrom g (path g K ++ (suc (parent_index g K) ∷ [])) r → NextAfter g (path g K) r

abbrev pub ClimbsHold : Type 0
ClimbsHold = ForGraphs Climbs

-- What comes next after a path is one.
abbrev pub NextIsOne : Type 0
NextIsOne = ForGraphs (λ g. (a : List ℕ) (r r' : Option (List ℕ)) → NextAfter g a r → NextAfter g a r' → r ≡ r')

-- There is one list of all maximal cliques by rising path. Its first set comes next where there was none before, and what
-- comes next after a set of the list is the set that follows it there.
pub record Lists (g : Graph) : Type 0 where
  pub exists : ListsAll g (maximal_cliques g)
  pub one : (A B : List (List ℕ)) → ListsAll g A → ListsAll g B → A ≡ B
  pub start : (L : List (List ℕ)) → ListsAll g L → NextAfter g [] (first_set L)
  pub along : (A : List (List ℕ)) (K : List ℕ) (B : List (List ℕ)) → ListsAll g (A ++ (K ∷ B))
      → NextAfter g (path g K) (first_set B)

abbrev pub ListsHold : Type 0
ListsHold = ForGraphs Lists

-- The tests that need no completion agree with the definitions.
pub record Shortcuts (g : Graph) : Type 0 where
  pub pass : (X : List ℕ) → Clique g X → append_pass g g.size X ≡ completion g X
  pub index : (K : List ℕ) → MaximalClique g K → largest_barrier g g.size K ≡ parent_index g K
  pub part : (K X : List ℕ) → MaximalClique g K → Clique g X → Sub X K → completes_to g X K ≡ same (completion g X) K
  pub adds : (v : ℕ) (P : List ℕ) → Clique g (insert v P) → Rising P → ((w : ℕ) → In w P → w < v)
      → adds_none_below g v P ≡ same (below v (completion g (insert v P))) P
  pub child : (K : List ℕ) (v : ℕ) → MaximalClique g K → is_child_by_barriers g K v ≡ is_child g K v
  pub first_child : (K : List ℕ) (w : ℕ) (r : Option ℕ) → MaximalClique g K
      → FirstFrom (is_child_by_barriers g K) g.size w r → FirstFrom (is_child g K) g.size w r

abbrev pub ShortcutsHold : Type 0
ShortcutsHold = ForGraphs Shortcuts
