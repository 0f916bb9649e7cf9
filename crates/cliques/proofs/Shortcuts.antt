-- The test of a child that needs no completion.
use Rattle.std.proofs.Common.{◌≡◌, ℕ, ◌<◌, Bool, not, ◌&&◌, T, ltb, List, length, Option, sym, refl, subst, inl, inr, arith, T_not}
use lib.Dec.{not_T}
use Rattle.cliques.specs.Graph.{Graph, Lawful}
use Rattle.cliques.specs.Sets.{
  has,
  In,
  Sub,
  below,
  same,
  Rising,
  insert,
  smallest,
  places,
  FirstFrom,
  partner_of_all,
  Clique,
  MaximalClique,
}
use Rattle.cliques.specs.Completion.{completion, partners_below, child, ChildAt, is_child}
use Rattle.cliques.specs.Shortcuts.{completes_to, adds_none_below, is_child_by_barriers}
use Rattle.cliques.proofs.Tests.{and_l, and_r, and_mk, dec, both_same, first_agree}
use Rattle.cliques.proofs.Laws.{partners_both, partners_apart}
use Rattle.cliques.proofs.Members.{places_in, places_out, every_at, every_of, partner_at, partner_all, below_in, below_out, insert_out, insert_new, insert_old}
use Rattle.cliques.proofs.Rising.{ext, filter_rising, same_eq, eq_same}
use Rattle.cliques.proofs.Completions.{IsCompletion, completion_is, completion_rising}
use Rattle.cliques.proofs.Parents.{partners_below_out, partners_below_clique, partners_below_with}
use Rattle.cliques.proofs.Children.{child_above}
use Rattle.cliques.proofs.Decisions.{test_child, child_test}
use Rattle.cliques.proofs.Barriers.{completes_to_lem, to_completes}

module _ (g : Graph) (law : Lawful g) where
  -- what the completion of P and v adds below v
  module _ (v : ℕ) (P : List ℕ) (r : Rising P) (f : Clique g (insert v P)) (low : (w : ℕ) → In w P → w < v) where
    abbrev D : List ℕ
    D = completion g (insert v P)

    is_d : IsCompletion g (insert v P) D
    is_d = completion_is g law (insert v P) f

    -- a partner of v that is one of all of P
    abbrev joins : ℕ → Bool
    joins w = g.partners v w && partner_of_all g w P

    pub adds_none_lem : T (adds_none_below g v P) → below v D ≡ P
    adds_none_lem t =
        ext (below v D) P (filter_rising _ D (completion_rising g law (insert v P) f)) r
        (λ w m. let a = below_out v D w m in elim (dec (has w P)) [ inl z ↦ z | inr z ↦ absurd (other w a.0 a.1 z) ])
        (λ w m. below_in v D w (is_d.sub w (insert_old v P w m)) (low w m))
      where
        other : (w : ℕ) → In w D → w < v → (In w P → ⊥) → ⊥
        other w wd h out =
            T_not (joins w) (every_at (λ z. not (joins z)) (places v) w t (places_in v w h))
            (and_mk (g.partners v w) (partner_of_all g w P)
            (is_d.pairs v w (is_d.sub v (insert_new v P)) wd (λ q. absurd (omega arith)))
            (partner_all g w P (λ u m. is_d.pairs w u wd (is_d.sub u (insert_old v P u m)) (λ q. out (subst (λ y. In y P) (sym q) m)))))

    pub none_adds : below v D ≡ P → T (adds_none_below g v P)
    none_adds q =
        every_of (λ w. not (joins w)) (places v) (λ w m. not_T (joins w) (λ t.
        let h = places_out v w m in
        let a = and_l (g.partners v w) (partner_of_all g w P) t in
        let b = and_r (g.partners v w) (partner_of_all g w P) t in
        let in_d : In w D = is_d.greedy w
        (λ x xm. grind (arith, insert_out, partners_both, partner_at))
        (λ u um l. partner_at g w P u b (subst (λ y. In u y) q (below_in v D u um (omega arith)))) in
        partners_apart g law w (partner_at g w P w b (subst (λ y. In w y) q (below_in v D w in_d h)))))

    pub adds_same : adds_none_below g v P ≡ same (below v D) P
    adds_same =
        both_same (adds_none_below g v P) (same (below v D) P)
        (λ t. eq_same (below v D) P (adds_none_lem t)) (λ t. none_adds (same_eq (below v D) P t))

  -- a list with a member is not empty
  pub some_in : (L : List ℕ) → T (ltb 0 (length L)) → In (smallest L) L
  some_in a t = grind arith

  -- the child's test
  module _ (K : List ℕ) (v : ℕ) (c : MaximalClique g K) where
    abbrev N : List ℕ
    N = partners_below g v K

    abbrev b1 : Bool
    b1 = not (has v K)

    abbrev b2 : Bool
    b2 = ltb 0 (length N)

    abbrev b3 : Bool
    b3 = completes_to g N K

    abbrev b4 : Bool
    b4 = adds_none_below g v N

    sub : Sub N K
    sub w h = (partners_below_out g law v K w h).0

    low : (w : ℕ) → In w N → w < v
    low w h = (partners_below_out g law v K w h).1

    to_child : T (is_child_by_barriers g K v) → ChildAt g K v (child g K v)
    to_child t =
        let t2 = and_r b1 (b2 && (b3 && b4)) t in
        let t3 = and_r b2 (b3 && b4) t2 in
        let m = some_in N (and_l b2 (b3 && b4) t2) in
        let q = completes_to_lem g law K c N (partners_below_clique g law K v c.clique m) sub (and_l b3 b4 t3) in
        record {
          outside = T_not (has v K) (and_l b1 (b2 && (b3 && b4)) t);
          above = child_above g law K v c m q;
          touching = m;
          back = q;
          entered = refl;
          clean =
              adds_none_lem v N (filter_rising _ K c.clique.sorted) (partners_below_with g law K v c.clique m) low
              (and_r b3 b4 t3);
        }

    of_child : ChildAt g K v (child g K v) → T (is_child_by_barriers g K v)
    of_child d = grind (arith, to_completes, partners_below_clique, sub, none_adds, partners_below_with, low)

    pub barriers_are_child : is_child_by_barriers g K v ≡ is_child g K v
    barriers_are_child =
        both_same (is_child_by_barriers g K v) (is_child g K v)
        (λ t. child_test g law K v (child g K v) (to_child t))
        (λ t. of_child (test_child g law K v t))

  -- the first child, sought by barriers
  pub first_child : (K : List ℕ) (w : ℕ) (r : Option ℕ) → MaximalClique g K
      → FirstFrom (is_child_by_barriers g K) g.size w r → FirstFrom (is_child g K) g.size w r
  first_child K w r c s = first_agree (is_child_by_barriers g K) (is_child g K) (λ v. barriers_are_child K v c) g.size w r s
