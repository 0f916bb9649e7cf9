-- The parent of a maximal clique.
use Rattle.std.proofs.Common.{◌≡◌, ℕ, ◌<◌, Bool, true, false, ◌&&◌, T, ltb, ◌⊎◌, List, Some, None, Option, sym, refl, ap, ◌∙◌, subst, inl, inr, arith, lt→ltb}
use Rattle.cliques.specs.Graph.{Graph, Lawful}
use Rattle.cliques.specs.Sets.{In, below, up_to, insert, smallest, Clique, MaximalClique}
use Rattle.cliques.specs.Completion.{completion, parent_index, ParentIndexAt, root, parent, parent_of, partners_below, ChildAt}
use Rattle.cliques.proofs.Tests.{and_mk, dec, lt_or, is_true, is_false}
use Rattle.cliques.proofs.Laws.{partners_both, partners_within}
use Rattle.cliques.proofs.Members.{filter_in, filter_out, below_in, below_out, up_to_in, up_to_out, insert_out, insert_new}
use Rattle.cliques.proofs.Rising.{ext, filter_rising, insert_rising, below_rising, smallest_in, up_to_insert}
use Rattle.cliques.proofs.Completions.{
  IsCompletion,
  widen,
  unique,
  completion_is,
  completion_maximal,
  completion_of,
  part_clique,
}
use Rattle.cliques.proofs.Indices.{up_to_clique, below_clique, index_at, index_below, root_or}

module _ (g : Graph) (law : Lawful g) where
  pub partners_below_out : (v : ℕ) (K : List ℕ) (w : ℕ) → In w (partners_below g v K) → In w K × (w < v) × T (g.partners v w)
  partners_below_out v K w m = grind (arith, filter_out)

  pub partners_below_in : (v : ℕ) (K : List ℕ) (w : ℕ) → In w K → w < v → T (g.partners v w) → In w (partners_below g v K)
  partners_below_in v K w m h t = filter_in (λ u. ltb u v && g.partners v u) K w m (and_mk (ltb w v) (g.partners v w) (lt→ltb w v h) t)

  -- where v has partners below it in a clique, they make a clique, and so they do with v
  module _ (K : List ℕ) (v : ℕ) (f : Clique g K) (m : In (smallest (partners_below g v K)) (partners_below g v K)) where
    abbrev N : List ℕ
    N = partners_below g v K

    pub partners_below_clique : Clique g N
    partners_below_clique = part_clique g law K N f (filter_rising _ K f.sorted) (λ w h. (partners_below_out v K w h).0) (smallest N) m

    pub partners_below_with : Clique g (insert v N)
    partners_below_with = record {
      sorted = insert_rising v N partners_below_clique.sorted (λ h. let a = partners_below_out v K v h in absurd (omega arith));
      nonempty = smallest_in (insert v N) v (insert_new v N);
      within = λ w h. elim (insert_out v N w h) [
        | inl q ↦ let z = partners_within g law v (smallest N) (partner (smallest N) m) in omega arith
        | inr q ↦ partners_below_clique.within w q
      ];
      pairwise = λ u w um wm. two u w (insert_out v N u um) (insert_out v N w wm);
    }
      where
        partner : (w : ℕ) → In w N → T (g.partners v w)
        partner w h = (partners_below_out v K w h).2

        two : (u w : ℕ) → (u ≡ v) ⊎ In u N → (w ≡ v) ⊎ In w N → (u ≡ w → ⊥) → T (g.partners u w)
        two u w (inl a) (inl b) x = absurd (x (cc))
        two u w (inl a) (inr b) x = subst (λ z. T (g.partners z w)) (sym a) (partner w b)
        two u w (inr a) (inl b) x = subst (λ z. T (g.partners u z)) (sym b) (partners_both g law v u (partner u a))
        two u w (inr a) (inr b) x = partners_below_clique.pairwise u w a b x

  -- the parent of a set that is no root
  module _ (K : List ℕ) (c : MaximalClique g K) (h : smallest K < parent_index g K) where
    abbrev v : ℕ
    v = parent_index g K

    abbrev F : List ℕ
    F = parent g K

    at : ParentIndexAt g K v
    at = index_at g law K c

    -- the members below the parent index, and those up to it
    clique_b : Clique g (below v K)
    clique_b = below_clique g law K v (smallest K) c.clique c.clique.nonempty h

    is_b : IsCompletion g (below v K) F
    is_b = completion_is g law (below v K) clique_b

    is_u : IsCompletion g (up_to v K) K
    is_u = completion_of g law (up_to v K) K (up_to_clique g law K v v c.clique at.member (omega arith)) at.gives

    pub parent_maximal : MaximalClique g F
    parent_maximal = completion_maximal g law (below v K) clique_b

    pub parent_lower : parent_index g F < v
    parent_lower = index_below g law F (below v K) v parent_maximal clique_b is_b.sub (λ w m. (below_out v K w m).1) refl

    -- the parent does not hold the parent index: else it would be K itself, and K has no lower index
    parent_outside : In v F → ⊥
    parent_outside m =
        let q : F ≡ K = unique g (up_to v K) F K
        (widen g (below v K) (up_to v K) F is_b
        (λ w k. let a = below_out v K w k in up_to_in v K w a.0 (omega arith))
        (λ w k. let a = up_to_out v K w k in grind (arith, lt_or, is_b, below_in)))
        is_u parent_maximal.clique.sorted c.clique.sorted in
        let l = parent_lower in
        let e : parent_index g F ≡ v = ap (parent_index g) q in
        omega arith

    back_in : (w : ℕ) → In w F → w < v → T (g.partners v w) → (In w (below v K) → ⊥) → In w K
    back_in w wf l ev out = grind (arith, is_u, up_to_out, below_in, is_b)

    -- the partners of the parent index below it in the parent are the members of K below it
    pub parent_partners : partners_below g v F ≡ below v K
    parent_partners =
        ext (partners_below g v F) (below v K) (filter_rising _ F parent_maximal.clique.sorted) (below_rising v K c.clique.sorted)
        (λ w k. let a = partners_below_out v F w k in grind (arith, dec, below_in, back_in))
        (λ w k. let a = below_out v K w k in
        partners_below_in v F w (is_b.sub w k) a.1 (c.clique.pairwise v w at.member a.0 (λ q. absurd (omega arith))))

    pub parent_child : ChildAt g F v K
    parent_child = record {
      outside = parent_outside;
      above = parent_lower;
      touching = subst (λ z. In (smallest z) z) (sym parent_partners) clique_b.nonempty;
      back = ap (completion g) parent_partners;
      entered = ap (λ z. completion g (insert v z)) parent_partners
          ∙ (ap (completion g) (up_to_insert K v c.clique.sorted at.member) ∙ at.gives);
      clean = sym parent_partners;
    }

  -- a root has no parent, and every other set has one
  abbrev parent_by : Bool → List ℕ → Option (List ℕ)
  parent_by b K = elim b [ true ↦ None | false ↦ Some (parent g K) ]

  pub parent_of_none : (K : List ℕ) → T (root g K) → parent_of g K ≡ None
  parent_of_none K t = ap (λ b. parent_by b K) (is_true (root g K) t)

  pub parent_of_some : (K : List ℕ) → (T (root g K) → ⊥) → parent_of g K ≡ Some (parent g K)
  parent_of_some K f = ap (λ b. parent_by b K) (is_false (root g K) f)

  pub none_root : (K : List ℕ) → parent_of g K ≡ None → T (root g K)
  none_root K q = grind arith

  pub parent_of_is : (K F : List ℕ) → MaximalClique g K → parent_of g K ≡ Some F
      → (smallest K < parent_index g K) × (parent g K ≡ F)
  parent_of_is K F c q = grind (arith, root_or)

  -- what holds of the computed parent holds of the parent that K has
  pub of_parent : (P : List ℕ → Type 0) (K F : List ℕ) → MaximalClique g K → parent_of g K ≡ Some F
      → ((h : smallest K < parent_index g K) → P (parent g K)) → P F
  of_parent P K F c q f = let p = parent_of_is K F c q in subst P p.1 (f p.0)
