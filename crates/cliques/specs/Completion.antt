-- Completions, and what they make of the maximal cliques: parent indices, roots, parents, heads and children.
use Rattle.std.specs.Prelude.{◌≡◌, ℕ, zero, suc, ◌<◌, ◌≤◌, Bool, true, false, cond, not, ◌&&◌, T, List, Some, None, Option, ◌==◌, nat_lt}
use Rattle.cliques.specs.Graph.{Graph}
use Rattle.cliques.specs.Sets.{In, has, every, filter, below, up_to, same, insert, first_of, smallest, places, partner_of_all}

-- X after the places 0 .. k - 1 were gone through in rising order, and each that is a partner of all gathered so far was
-- added.
abbrev pub completion_after : Graph → ℕ → List ℕ → List ℕ
completion_after g zero X = X
completion_after g (suc k) X =
    let G = completion_after g k X in
    cond (partner_of_all g k G) (insert k G) G

-- The completion of a clique: X after all places were gone through.
abbrev pub completion : Graph → List ℕ → List ℕ
completion g X = completion_after g g.size X

-- The parent index: the smallest member of K such that the completion of the members up to and including it is K.
abbrev pub parent_index : Graph → List ℕ → ℕ
parent_index g K = first_of (λ v. same (completion g (up_to v K)) K) K

-- The same as a relation: v is the parent index of K.
pub record ParentIndexAt (g : Graph) (K : List ℕ) (v : ℕ) : Type 0 where
  pub member : In v K
  pub gives : completion g (up_to v K) ≡ K
  pub least : (u : ℕ) → In u K → completion g (up_to u K) ≡ K → v ≤ u

-- K is a root: its parent index is its smallest member.
abbrev pub root : Graph → List ℕ → Bool
root g K = parent_index g K == smallest K

-- The completion of the members below the parent index.
abbrev pub parent : Graph → List ℕ → List ℕ
parent g K = completion g (below (parent_index g K) K)

-- The parent of a maximal clique: none at a root.
abbrev pub parent_of : Graph → List ℕ → Option (List ℕ)
parent_of g K = elim (root g K) [ true ↦ None | false ↦ Some (parent g K) ]

-- A head: a place without a smaller partner.
pub record Head (g : Graph) (h : ℕ) : Type 0 where
  pub place : h < g.size
  pub alone : (w : ℕ) → w < h → T (g.partners h w) → ⊥

-- The same as a test.
abbrev pub is_head : Graph → ℕ → Bool
is_head g h = nat_lt h g.size && every (λ w. not (g.partners h w)) (places h)

-- The members of K below v that are partners of v.
abbrev pub partners_below : Graph → ℕ → List ℕ → List ℕ
partners_below g v K = filter (λ u. nat_lt u v && g.partners v u) K

-- The set entered from K at v: the completion of v and its partners below v in K.
abbrev pub child : Graph → List ℕ → ℕ → List ℕ
child g K v = completion g (insert v (partners_below g v K))

-- D is the child of K at v: v is outside K and above K's parent index, some member of K below v is a partner of v, the
-- completion of all such members is K, and D is entered there and holds no other place below v.
pub record ChildAt (g : Graph) (K : List ℕ) (v : ℕ) (D : List ℕ) : Type 0 where
  pub outside : In v K → ⊥
  pub above : parent_index g K < v
  pub touching : In (smallest (partners_below g v K)) (partners_below g v K)
  pub back : completion g (partners_below g v K) ≡ K
  pub entered : child g K v ≡ D
  pub clean : below v D ≡ partners_below g v K

-- K has a child at v, as a test.
abbrev pub is_child : Graph → List ℕ → ℕ → Bool
is_child g K v =
    let P = partners_below g v K in
    not (has v K) && nat_lt (parent_index g K) v && has (smallest P) P && same (completion g P) K && same (below v (child g K v)) P
