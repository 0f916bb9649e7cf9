-- The tests that stand beside the definitions.
use Rattle.std.proofs.Common.{ℕ, Bool, not, ◌&&◌, ◌||◌, T, eqb, ltb, ◌⊎◌, List, sym, refl, ap, ◌∙◌, subst, inl, inr, eqb→eq, ltb→lt, lt→ltb, T_not}
use lib.Dec.{not_T}
use Rattle.cliques.specs.Graph.{Graph, Lawful}
use Rattle.cliques.specs.Sets.{
  has,
  In,
  every,
  below,
  same,
  rising,
  smallest,
  places,
  partner_of_all,
  MaximalClique,
  is_maximal_clique,
}
use Rattle.cliques.specs.Completion.{completion, parent_index, Head, is_head, partners_below, child, ChildAt, is_child}
use Rattle.cliques.proofs.Tests.{or_split, or_l, or_r, and_l, and_r, and_mk, dec, eqb_of}
use Rattle.cliques.proofs.Laws.{partners_within}
use Rattle.cliques.proofs.Members.{places_in, places_out, every_at, every_of, partner_at, partner_all}
use Rattle.cliques.proofs.Rising.{same_eq, same_refl}

module _ (g : Graph) (law : Lawful g) where
  -- maximal clique
  module _ (K : List ℕ) where
    abbrev pairs : ℕ → ℕ → Bool
    pairs u v = eqb u v || g.partners u v

    abbrev settled : ℕ → Bool
    settled w = has w K || not (partner_of_all g w K)

    abbrev c1 : Bool
    c1 = rising K

    abbrev c2 : Bool
    c2 = has (smallest K) K

    abbrev c3 : Bool
    c3 = every (λ w. ltb w g.size) K

    abbrev c4 : Bool
    c4 = every (λ u. every (pairs u) K) K

    abbrev c5 : Bool
    c5 = every settled (places g.size)

    pub test_maximal : T (is_maximal_clique g K) → MaximalClique g K
    test_maximal t =
        let t4 = and_l (c1 && c2 && c3 && c4) c5 t in
        let t3 = and_l (c1 && c2 && c3) c4 t4 in
        let t2 = and_l (c1 && c2) c3 t3 in
        let s = and_r c1 c2 t2 in
        record {
          clique = record {
            sorted = and_l c1 c2 t2;
            nonempty = s;
            within = λ w m. ltb→lt w g.size (every_at (λ x. ltb x g.size) K w (and_r (c1 && c2) c3 t3) m);
            pairwise = λ u v um vm d.
                let p = every_at (λ x. every (pairs x) K) K u (and_r (c1 && c2 && c3) c4 t4) um in
                elim (or_split (eqb u v) (g.partners u v) (every_at (pairs u) K v p vm)) [
                  | inl a ↦ absurd (d (eqb→eq u v a))
                  | inr a ↦ a
                ];
          };
          maximal = λ w out all.
              let i = places_in g.size w (partners_within g law w (smallest K) (all (smallest K) s)) in
              let p = every_at settled (places g.size) w (and_r (c1 && c2 && c3 && c4) c5 t) i in
              elim (or_split (has w K) (not (partner_of_all g w K)) p) [
                | inl a ↦ out a
                | inr a ↦ T_not (partner_of_all g w K) a (partner_all g w K all)
              ];
        }

    pub maximal_test : MaximalClique g K → T (is_maximal_clique g K)
    maximal_test c =
        and_mk (c1 && c2 && c3 && c4) c5
        (and_mk (c1 && c2 && c3) c4
        (and_mk (c1 && c2) c3 (and_mk c1 c2 c.clique.sorted c.clique.nonempty)
        (every_of (λ w. ltb w g.size) K (λ w m. lt→ltb w g.size (c.clique.within w m))))
        (every_of (λ u. every (pairs u) K) K (λ u um. every_of (pairs u) K (λ v vm. two u v um vm (dec (eqb u v))))))
        (every_of settled (places g.size) (λ w m. one w (dec (has w K))))
      where
        two : (u v : ℕ) → In u K → In v K → T (eqb u v) ⊎ (T (eqb u v) → ⊥) → T (pairs u v)
        two u v um vm (inl a) = or_l (eqb u v) (g.partners u v) a
        two u v um vm (inr a) = or_r (eqb u v) (g.partners u v) (c.clique.pairwise u v um vm (λ q. a (eqb_of u v q)))

        one : (w : ℕ) → In w K ⊎ (In w K → ⊥) → T (settled w)
        one w (inl a) = or_l (has w K) (not (partner_of_all g w K)) a
        one w (inr a) =
            or_r (has w K) (not (partner_of_all g w K))
            (not_T (partner_of_all g w K) (λ t. c.maximal w a (λ u m. partner_at g w K u t m)))

  -- head
  module _ (h : ℕ) where
    abbrev apart : ℕ → Bool
    apart w = not (g.partners h w)

    pub test_head : T (is_head g h) → Head g h
    test_head t = record {
      place = ltb→lt h g.size (and_l (ltb h g.size) (every apart (places h)) t);
      alone = λ w l.
          T_not (g.partners h w) (every_at apart (places h) w (and_r (ltb h g.size) (every apart (places h)) t) (places_in h w l));
    }

    pub head_test : Head g h → T (is_head g h)
    head_test d =
        and_mk (ltb h g.size) (every apart (places h)) (lt→ltb h g.size d.place)
        (every_of apart (places h) (λ w m. not_T (g.partners h w) (d.alone w (places_out h w m))))

  -- child
  module _ (K : List ℕ) (v : ℕ) where
    abbrev b1 : Bool
    b1 = not (has v K)

    abbrev b2 : Bool
    b2 = ltb (parent_index g K) v

    abbrev b3 : Bool
    b3 = has (smallest (partners_below g v K)) (partners_below g v K)

    abbrev b4 : Bool
    b4 = same (completion g (partners_below g v K)) K

    abbrev b5 : Bool
    b5 = same (below v (child g K v)) (partners_below g v K)

    pub test_child : T (is_child g K v) → ChildAt g K v (child g K v)
    test_child t =
        let t4 = and_l (b1 && b2 && b3 && b4) b5 t in
        let t3 = and_l (b1 && b2 && b3) b4 t4 in
        let t2 = and_l (b1 && b2) b3 t3 in
        record {
          outside = T_not (has v K) (and_l b1 b2 t2);
          above = ltb→lt (parent_index g K) v (and_r b1 b2 t2);
          touching = and_r (b1 && b2) b3 t3;
          back = same_eq (completion g (partners_below g v K)) K (and_r (b1 && b2 && b3) b4 t4);
          entered = refl;
          clean = same_eq (below v (child g K v)) (partners_below g v K) (and_r (b1 && b2 && b3 && b4) b5 t);
        }

    pub child_test : (D : List ℕ) → ChildAt g K v D → T (is_child g K v)
    child_test D d =
        and_mk (b1 && b2 && b3 && b4) b5
        (and_mk (b1 && b2 && b3) b4
        (and_mk (b1 && b2) b3 (and_mk b1 b2 (not_T (has v K) d.outside) (lt→ltb (parent_index g K) v d.above)) d.touching)
        (subst (λ z. T (same z K)) (sym d.back) (same_refl K)))
        (subst (λ z. T (same z (partners_below g v K))) (sym (ap (below v) d.entered ∙ d.clean)) (same_refl (partners_below g v K)))
