-- The children of a maximal clique.
use Rattle.std.proofs.Common.{◌≡◌, ℕ, ◌<◌, List, Some, sym, ap, ◌∙◌, subst, inl, inr, arith}
use Rattle.cliques.specs.Graph.{Graph, Lawful}
use Rattle.cliques.specs.Sets.{In, below, up_to, insert, smallest, Clique, MaximalClique}
use Rattle.cliques.specs.Completion.{completion, parent_index, ParentIndexAt, parent, parent_of, partners_below, ChildAt}
use Rattle.cliques.proofs.Tests.{lt_or}
use Rattle.cliques.proofs.Members.{below_in, up_to_out, insert_new, insert_old}
use Rattle.cliques.proofs.Rising.{smallest_le, up_to_insert}
use Rattle.cliques.proofs.Completions.{IsCompletion, completion_maximal, completion_of, between}
use Rattle.cliques.proofs.Indices.{up_to_clique, index_is, index_below}
use Rattle.cliques.proofs.Parents.{partners_below_out, partners_below_clique, partners_below_with}

module _ (g : Graph) (law : Lawful g) where
  -- a child has its parent index where it was entered, and its parent is the set that it was entered from
  module _ (K D : List ℕ) (v : ℕ) (c : MaximalClique g K) (d : ChildAt g K v D) where
    abbrev P : List ℕ
    P = partners_below g v K

    clique_q : Clique g (insert v P)
    clique_q = partners_below_with g law K v c.clique d.touching

    pub child_maximal : MaximalClique g D
    child_maximal = subst (λ z. MaximalClique g z) d.entered (completion_maximal g law (insert v P) clique_q)

    is_q : IsCompletion g (insert v P) D
    is_q = completion_of g law (insert v P) D clique_q d.entered

    pub child_holds : In v D
    child_holds = is_q.sub v (insert_new v P)

    pub child_index_at : ParentIndexAt g D v
    child_index_at = record {
      member = child_holds;
      gives = ap (completion g) (sym (ap (insert v) (sym d.clean) ∙ up_to_insert D v f.sorted child_holds)) ∙ d.entered;
      least = λ u m q. elim (lt_or u v) [ inl h ↦ absurd (earlier u m q h) | inr h ↦ h ];
    }
      where
        f : Clique g D
        f = child_maximal.clique

        earlier : (u : ℕ) → In u D → completion g (up_to u D) ≡ D → u < v → ⊥
        earlier u m q h =
            let p : completion g P ≡ D = between g law (up_to u D) P D
            (up_to_clique g law D u u f m (omega arith)) (partners_below_clique g law K v c.clique d.touching) f.sorted q
            (λ w b. let a = up_to_out u D w b in subst (λ z. In w z) d.clean (below_in v D w a.0 (omega arith)))
            (λ w b. is_q.sub w (insert_old v P w b)) in
            d.outside (subst (λ z. In v z) (sym p ∙ d.back) child_holds)

    pub child_index : parent_index g D ≡ v
    child_index = index_is g law D v child_maximal child_index_at

    pub child_parent : parent g D ≡ K
    child_parent = ap (λ z. completion g (below z D)) child_index ∙ (ap (completion g) d.clean ∙ d.back)

    pub child_low : smallest D < v
    child_low = grind (arith, partners_below_out, is_q, insert_old, smallest_le, child_maximal)

    pub child_parent_of : parent_of g D ≡ Some K
    child_parent_of = grind (arith, child_low, child_index)

  -- a child is one set, and no set is a child of two sets or at two places
  pub child_one : (K D D' : List ℕ) (v : ℕ) → ChildAt g K v D → ChildAt g K v D' → D ≡ D'
  child_one K D D' v d d' = sym d.entered ∙ d'.entered

  pub child_of_one : (K K' D : List ℕ) (v v' : ℕ) → MaximalClique g K → MaximalClique g K' → ChildAt g K v D
      → ChildAt g K' v' D → (K ≡ K') × (v ≡ v')
  child_of_one K K' D v v' c c' d d' =
      (sym (child_parent K D v c d) ∙ child_parent K' D v' c' d', sym (child_index K D v c d) ∙ child_index K' D v' c' d')

  -- that v is above K's parent index follows from the rest of a child's test
  pub child_above : (K : List ℕ) (v : ℕ) → MaximalClique g K → In (smallest (partners_below g v K)) (partners_below g v K)
      → completion g (partners_below g v K) ≡ K → parent_index g K < v
  child_above K v c m q =
      index_below g law K (partners_below g v K) v c (partners_below_clique g law K v c.clique m)
      (λ w h. (partners_below_out g law v K w h).0) (λ w h. (partners_below_out g law v K w h).1) q
