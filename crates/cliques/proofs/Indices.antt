-- Parent indices, roots and heads.
use Rattle.std.proofs.Common.{◌≡◌, ℕ, ◌<◌, ◌≤◌, T, ◌⊎◌, List, [], ◌∷◌, sym, ap, ◌∙◌, subst, inl, inr, arith, eqb→eq}
use Rattle.cliques.specs.Graph.{Graph, Lawful}
use Rattle.cliques.specs.Sets.{In, Sub, below, up_to, same, smallest, Clique, MaximalClique}
use Rattle.cliques.specs.Completion.{completion, parent_index, ParentIndexAt, root, Head}
use Rattle.cliques.proofs.Tests.{lt_or, eqb_of}
use Rattle.cliques.proofs.Laws.{partners_both}
use Rattle.cliques.proofs.Members.{in_here, in_single, below_in, below_out, up_to_in, up_to_out}
use Rattle.cliques.proofs.Rising.{ext, below_rising, up_to_rising, same_eq, same_refl, smallest_le, first, last_of, up_to_last}
use Rattle.cliques.proofs.Completions.{
  IsCompletion,
  completion_is,
  completion_maximal,
  completion_itself,
  completion_of,
  part_clique,
  between,
}

module _ (g : Graph) (law : Lawful g) where
  -- a part of a clique that holds a member
  pub up_to_clique : (K : List ℕ) (v u : ℕ) → Clique g K → In u K → u ≤ v → Clique g (up_to v K)
  up_to_clique K v u f m h =
      part_clique g law K (up_to v K) f (up_to_rising v K f.sorted) (λ w a. (up_to_out v K w a).0) u (up_to_in v K u m h)

  pub below_clique : (K : List ℕ) (v u : ℕ) → Clique g K → In u K → u < v → Clique g (below v K)
  below_clique K v u f m h =
      part_clique g law K (below v K) f (below_rising v K f.sorted) (λ w a. (below_out v K w a).0) u (below_in v K u m h)

  -- the parent index
  pub index_at : (K : List ℕ) → MaximalClique g K → ParentIndexAt g K (parent_index g K)
  index_at K c =
      let r = c.clique.sorted in
      let l = last_of K r (smallest K) c.clique.nonempty in
      let q : completion g (up_to l.0 K) ≡ K = ap (completion g) (up_to_last K l.0 r l.1) ∙ completion_itself g law K c in
      let t : T (same (completion g (up_to l.0 K)) K) = subst (λ z. T (same z K)) (sym q) (same_refl K) in
      let a = first (λ v. same (completion g (up_to v K)) K) K r l.0 l.1.0 t in
      record {
        member = a.0;
        gives = same_eq (completion g (up_to (parent_index g K) K)) K a.1;
        least = λ u m p. a.2 u m (subst (λ z. T (same z K)) (sym p) (same_refl K));
      }

  pub index_unique : (K : List ℕ) (u v : ℕ) → ParentIndexAt g K u → ParentIndexAt g K v → u ≡ v
  index_unique K u v s t = let a = s.least v t.member t.gives in let b = t.least u s.member s.gives in omega arith

  pub index_is : (K : List ℕ) (v : ℕ) → MaximalClique g K → ParentIndexAt g K v → parent_index g K ≡ v
  index_is K v c t = index_unique K (parent_index g K) v (index_at K c) t

  -- where a part of K that lies below v completes to K, the parent index is below v
  pub index_below : (K P : List ℕ) (v : ℕ) → MaximalClique g K → Clique g P → Sub P K → ((w : ℕ) → In w P → w < v)
      → completion g P ≡ K → parent_index g K < v
  index_below K P v c f s low q =
      let l = last_of P f.sorted (smallest P) f.nonempty in
      let u = l.0 in
      let m = s u l.1.0 in
      let h = low u l.1.0 in
      let p = between g law P (up_to u K) K f (up_to_clique K u u c.clique m (omega arith)) c.clique.sorted q
      (λ w b. up_to_in u K w (s w b) (l.1.1 w b)) (λ w b. (up_to_out u K w b).0) in
      let z = (index_at K c).least u m p in
      omega arith

  -- roots and heads
  pub single_clique : (h : ℕ) → h < g.size → Clique g (h ∷ [])
  single_clique h l = grind arith

  pub up_to_smallest : (K : List ℕ) → Clique g K → up_to (smallest K) K ≡ (smallest K ∷ [])
  up_to_smallest K f =
      ext (up_to (smallest K) K) (smallest K ∷ []) (up_to_rising (smallest K) K f.sorted) tt
      (λ w m. let a = up_to_out (smallest K) K w m in let b = smallest_le K f.sorted w a.0 in
      let q : smallest K ≡ w = omega arith in subst (λ z. In z (smallest K ∷ [])) q (in_here (smallest K) []))
      (λ w m. let q = in_single w (smallest K) m in up_to_in (smallest K) K w (subst (λ z. In z K) (sym q) f.nonempty) (omega arith))

  pub root_eq : (K : List ℕ) → T (root g K) → parent_index g K ≡ smallest K
  root_eq K t = eqb→eq (parent_index g K) (smallest K) t

  pub eq_root : (K : List ℕ) → parent_index g K ≡ smallest K → T (root g K)
  eq_root K q = eqb_of (parent_index g K) (smallest K) q

  -- a maximal clique is a root, or its parent index is above its smallest member
  pub root_or : (K : List ℕ) → MaximalClique g K → T (root g K) ⊎ (smallest K < parent_index g K)
  root_or K c =
      let a = smallest_le K c.clique.sorted (parent_index g K) (index_at K c).member in
      elim (lt_or (smallest K) (parent_index g K)) [ inl h ↦ inr h | inr h ↦ inl (eq_root K (omega arith)) ]

  pub root_completion : (K : List ℕ) → MaximalClique g K → T (root g K) → completion g (smallest K ∷ []) ≡ K
  root_completion K c t =
      ap (completion g) (sym (up_to_smallest K c.clique))
      ∙ subst (λ z. completion g (up_to z K) ≡ K) (root_eq K t) (index_at K c).gives

  pub root_head : (K : List ℕ) → MaximalClique g K → T (root g K) → Head g (smallest K)
  root_head K c t = record {
    place = f.within (smallest K) f.nonempty;
    alone = λ w h p.
        let m : In w K = j.greedy w
        (λ x xm. subst (λ z. T (g.partners w z)) (sym (in_single x (smallest K) xm)) (partners_both g law (smallest K) w p))
        (λ u um uw. let a = smallest_le K f.sorted u um in absurd (omega arith)) in
        let b = smallest_le K f.sorted w m in
        absurd (omega arith);
  }
    where
      f : Clique g K
      f = c.clique

      j : IsCompletion g (smallest K ∷ []) K
      j =
          completion_of g law (smallest K ∷ []) K
          (single_clique (smallest K) (f.within (smallest K) f.nonempty)) (root_completion K c t)

  module _ (h : ℕ) (hd : Head g h) where
    abbrev R : List ℕ
    R = completion g (h ∷ [])

    pub head_maximal : MaximalClique g R
    head_maximal = completion_maximal g law (h ∷ []) (single_clique h hd.place)

    head_in : In h R
    head_in = (completion_is g law (h ∷ []) (single_clique h hd.place)).sub h (in_here h [])

    pub head_smallest : smallest R ≡ h
    head_smallest =
        let f = head_maximal.clique in
        let a = smallest_le R f.sorted h head_in in
        elim (lt_or (smallest R) h) [
          | inl q ↦ absurd (hd.alone (smallest R) q (f.pairwise h (smallest R) head_in f.nonempty (λ z. absurd (omega arith))))
          | inr q ↦ omega arith
        ]

    pub head_index_at : ParentIndexAt g R h
    head_index_at = record {
      member = head_in;
      gives = ap (completion g) (subst (λ z. up_to z R ≡ (z ∷ [])) head_smallest (up_to_smallest R head_maximal.clique));
      least = λ u m q. let a = smallest_le R head_maximal.clique.sorted u m in let b = head_smallest in omega arith;
    }

    pub head_index : parent_index g R ≡ h
    head_index = index_is R h head_maximal head_index_at

    pub head_root : T (root g R)
    head_root = eq_root R (head_index ∙ sym head_smallest)
