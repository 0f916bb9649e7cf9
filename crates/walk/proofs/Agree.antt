-- The tests for a child agree with its definition: at a maximal clique, the tests before each completion refuse no child.
use Rattle.std.proofs.Common.{◌≡◌, ℕ, ◌<◌, Bool, true, false, cond, not, ◌&&◌, T, ltb, List, [], ◌∷◌, ◌++◌, length, get_or, Some, None, Option, sym, refl, ap, ◌∙◌, subst, arith}
use Rattle.std.proofs.lemmas.List.{length_push, take_all}
use Rattle.std.proofs.lemmas.Bool.{lt-ltb, cond-true}
use Rattle.cliques.specs.Graph.{Graph, Lawful}
use Rattle.cliques.specs.Sets.{In, Sub, below, every, has, insert, partner_of_all, places, same, MaximalClique, FirstFrom}
use Rattle.cliques.specs.Completion.{partners_below, child, is_child}
use Rattle.cliques.specs.Shortcuts.{append_pass, barrier, completes_to, adds_none_below}
use Rattle.cliques.proofs.Tests.{both_same}
use Rattle.cliques.proofs.Members.{every_at, every_of, places_out}
use Rattle.cliques.proofs.Rising.{filter_rising, insert_end, rising_room}
use Rattle.cliques.proofs.Parents.{partners_below_out, partners_below_clique, partners_below_with}
use Rattle.cliques.proofs.Passes.{pass_is}
use Rattle.cliques.proofs.Barriers.{completes_same}
use Rattle.cliques.proofs.Shortcuts.{some_in, adds_same, barriers_are_child}
use Rattle.completion.specs.declared.standing.Standing.{Standing}
use Rattle.completion.specs.Standings.{barrier_at, standing_of}
use Rattle.walk.specs.Search.{none_joins, completed_with, child_at, FirstChild}

-- a test that is made twice, as the first and the second way agree
twice : {A : Type 0} (a b j s n t : Bool) (x y : Option A) → (T b → s ≡ j) → (T b → t ≡ n) → (T b → x ≡ y)
    → cond (a && (b && (j && s))) (cond (n && t) x None) None ≡ cond (a && (b && (j && n))) y None
twice false b j s n t x y f h k = refl
twice true false j s n t x y f h k = refl
twice true true false s n t x y f h k = refl
twice {A = A} true true true s false t x y f h k = let F : Bool → Option A = λ z. cond z None None in ap F (f tt)
twice {A = A} true true true s true t x y f h k =
    let F : Bool → Option A = λ z. cond z (cond t x None) None in
    let G : Bool → Option A = λ z. cond z x None in
    ap F (f tt) ∙ (ap G (h tt) ∙ k tt)

every_same : (p q : ℕ → Bool) (L : List ℕ) → ((w : ℕ) → In w L → p w ≡ q w) → every p L ≡ every q L
every_same p q L f =
    both_same (every p L) (every q L) (λ t. every_of q L (λ w m. subst T (f w m) (every_at p L w t m)))
    (λ t. every_of p L (λ w m. subst T (sym (f w m)) (every_at q L w t m)))

none_child : {A : Type 0} (b : Bool) (x : A) → cond b (Some x) None ≡ None → b ≡ false
none_child true x q = let z : ◌≡◌ {A = ℕ} 0 1 = cc in absurd (omega arith)
none_child false x q = refl

some_child : {A : Type 0} (b : Bool) (x y : A) → cond b (Some x) None ≡ Some y → (b ≡ true) × (y ≡ x)
some_child true x y q = (refl, cc)
some_child false x y q = let z : ◌≡◌ {A = ℕ} 0 1 = cc in absurd (omega arith)

-- a child that is found is kept with zeros after its members
pub found_kept : (a b : Bool) (x y : Standing) → cond a (cond b (Some x) None) None ≡ Some y → y ≡ x
found_kept true true x y q = cc
found_kept true false x y q = let z : ◌≡◌ {A = ℕ} 0 1 = cc in absurd (omega arith)
found_kept false b x y q = let z : ◌≡◌ {A = ℕ} 0 1 = cc in absurd (omega arith)

module _ (g : Graph) (law : Lawful g) (K : List ℕ) (c : MaximalClique g K) (at : List ℕ) (bars : (x : ℕ) → get_or at x 0 ≡ barrier_at g K x) where
  bar : (w : ℕ) → w < g.size → get_or at w 0 ≡ barrier g K w
  bar w h = bars w ∙ cond-true (ltb w g.size) (barrier g K w) 0 (lt-ltb w g.size h)

  joins_same : (P : List ℕ) → none_joins g at P ≡ completes_to g P K
  joins_same P =
      every_same (λ w. not (ltb 0 (get_or at w 0) && partner_of_all g w P)) (λ w. not (ltb 0 (barrier g K w) && partner_of_all g w P)) (places g.size)
      (λ w m. ap (λ (z : ℕ). not (ltb 0 z && partner_of_all g w P)) (bar w (places_out g.size w m)))

  module _ (v : ℕ) (h : v < g.size) where
    abbrev P : List ℕ
    P = partners_below g v K

    sub : Sub P K
    sub w m = (partners_below_out g law v K w m).0

    low : (w : ℕ) → In w P → w < v
    low w m = (partners_below_out g law v K w m).1

    module _ (t : T (ltb 0 (length P))) where
      m : In (Rattle.cliques.specs.Sets.smallest P) P
      m = some_in g law P t

      back_same : same (append_pass g g.size P) K ≡ none_joins g at P
      back_same =
          let f = partners_below_clique g law K v c.clique m in
          ap (λ (Y : List ℕ). same Y K) (pass_is g law P f) ∙ (sym (completes_same g law K c P f sub) ∙ sym (joins_same P))

      with_is : completed_with g v P ≡ child g K v
      with_is =
          let r = rising_room P 0 v (filter_rising _ K c.clique.sorted) (λ w z. omega arith) low in
          let l = length_push P v in
          let few = law.few in
          ap (append_pass g g.size) (take_all 256 (P ++ (v ∷ [])) (omega arith) ∙ sym (insert_end v P low))
          ∙ pass_is g law (insert v P) (partners_below_with g law K v c.clique m)

      adds_is : same (below v (completed_with g v P)) P ≡ adds_none_below g v P
      adds_is =
          ap (λ (Y : List ℕ). same (below v Y) P) with_is
          ∙ sym (adds_same g law v P (filter_rising _ K c.clique.sorted) (partners_below_with g law K v c.clique m) low)

    -- the child at v, if there is one
    pub child_agrees : child_at g at K v ≡ cond (is_child g K v) (Some (standing_of (child g K v))) None
    child_agrees =
        twice (not (has v K)) (ltb 0 (length P)) (none_joins g at P) (same (append_pass g g.size P) K) (adds_none_below g v P) (same (below v (completed_with g v P)) P)
        (Some (standing_of (completed_with g v P))) (Some (standing_of (child g K v))) back_same adds_is (λ t. ap (λ (Y : List ℕ). Some (standing_of Y)) (with_is t))
        ∙ (ap (λ (b : Bool). cond (not (has v K) && (ltb 0 (length P) && (b && adds_none_below g v P))) (Some (standing_of (child g K v))) None) (joins_same P)
        ∙ ap (λ (b : Bool). cond b (Some (standing_of (child g K v))) None) (barriers_are_child g law K v c))

  -- the first child, or none, by its definition
  pub first_none : (w : ℕ) → FirstChild g at K w None → FirstFrom (is_child g K) g.size w None
  first_none w f = λ u h l. none_child (is_child g K u) (standing_of (child g K u)) (sym (child_agrees u l) ∙ f u h l)

  pub first_some : (w : ℕ) (s : Standing) → FirstChild g at K w (Some s)
      → (v : ℕ) × FirstFrom (is_child g K) g.size w (Some v) × (s ≡ standing_of (child g K v))
  first_some w s f =
      let v = f.0 in
      let a = some_child (is_child g K v) (standing_of (child g K v)) s (sym (child_agrees v f.2) ∙ f.3) in (
        v,
        (f.1, f.2, a.0, λ u h l. none_child (is_child g K u) (standing_of (child g K u)) (sym (child_agrees u (let z = f.2 in omega arith)) ∙ f.4 u h l)),
        a.1,
      )
