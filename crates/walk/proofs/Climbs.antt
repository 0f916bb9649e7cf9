-- The climb: what it keeps from turn to turn, and what it gives.
use Rattle.std.proofs.Common.{◌≡◌, ℕ, suc, ◌+◌, ◌<◌, ◌≤◌, List, [], ◌∷◌, ◌++◌, length, get_or, Some, None, Option, sym, refl, ap, ◌∙◌, subst, inl, inr, add-one, arith}
use Rattle.cliques.specs.Graph.{Graph, Lawful}
use Rattle.cliques.specs.Sets.{smallest, below, MaximalClique, FirstFrom}
use Rattle.cliques.specs.Completion.{parent_index, parent, child, is_child, partners_below}
use Rattle.cliques.specs.Paths.{path, standing_path, MayStand, NextAfter, LeastFrom}
use Rattle.cliques.specs.Shortcuts.{append_pass, largest_barrier}
use Rattle.cliques.proofs.Indices.{below_clique, eq_root, root_eq, root_or}
use Rattle.cliques.proofs.Parents.{parent_maximal, parent_lower}
use Rattle.cliques.proofs.Paths.{index_low}
use Rattle.cliques.proofs.Passes.{pass_is}
use Rattle.cliques.proofs.Barriers.{largest_is_index}
use Rattle.cliques.proofs.Nexts.{climb_parent, climb_root, child_least, least_next, from_index}
use Rattle.completion.specs.declared.barriers.Barriers.{Barriers}
use Rattle.completion.specs.declared.standing.Standing.{Standing}
use Rattle.completion.specs.Standings.{Clean, barrier_at, standing_of, members_of}
use Rattle.completion.proofs.Standings.{again, back}
use Rattle.walk.specs.Search.{FirstChild, adds_none, completed_with, enters_at}
use Rattle.walk.proofs.Agree.{first_none, first_some, found_kept}

module _ (g : Graph) (law : Lawful g) where
  -- the search for what comes next after K has climbed i times, to X, and seeks a child from w on
  pub record Climbed (K X : List ℕ) (w i : ℕ) : Type 0 where
    pub maximal : MaximalClique g X
    pub low : parent_index g X + i < g.size
    pub least : (r : Option (List ℕ)) → LeastFrom g (path g X ++ (w ∷ [])) r → LeastFrom g (path g K ++ (0 ∷ [])) r

  -- the barriers are those at X
  pub record At (X : List ℕ) (b : Barriers) : Type 0 where
    pub each : (x : ℕ) → get_or b.at x 0 ≡ barrier_at g X x
    pub largest : b.largest ≡ largest_barrier g g.size X

  -- the same of a graph that is g, and a set that is X
  at_same : (h : Graph) (Y X : List ℕ) (b : Barriers) → h ≡ g → Y ≡ X → ((x : ℕ) → get_or b.at x 0 ≡ barrier_at h Y x)
      → b.largest ≡ largest_barrier h h.size Y → At X b
  at_same h Y X b q e each largest = record {
    each = subst (λ (Z : List ℕ). (x : ℕ) → get_or b.at x 0 ≡ barrier_at g Z x) e (subst (λ (k : Graph). (x : ℕ) → get_or b.at x 0 ≡ barrier_at k Y x) q each);
    largest = subst (λ (Z : List ℕ). b.largest ≡ largest_barrier g g.size Z) e (subst (λ (k : Graph). b.largest ≡ largest_barrier k k.size Y) q largest);
  }

  index_is : (X : List ℕ) (b : Barriers) → At X b → MaximalClique g X → b.largest ≡ parent_index g X
  index_is X b a c = a.largest ∙ largest_is_index g law X c

  -- the place after the parent index
  past_index : (X : List ℕ) (b : Barriers) (w : ℕ) → At X b → w ≡ b.largest + 1 → MaximalClique g X → w ≡ suc (parent_index g X)
  past_index X b w a q c = q ∙ (add-one b.largest ∙ ap suc (index_is X b a c))

  pub climb_start : (h : Graph) → h ≡ g → (K Y : List ℕ) (b : Barriers) (w : ℕ) → Y ≡ K → ((x : ℕ) → get_or b.at x 0 ≡ barrier_at h Y x)
      → b.largest ≡ largest_barrier h h.size Y → w ≡ b.largest + 1 → MaximalClique g K → Climbed K Y w 0
  climb_start h same K Y b w e each largest q c =
      subst (λ (Z : List ℕ). Climbed K Z w 0) (sym e) (record {
        maximal = c;
        low = let z = index_low g law K c in omega arith;
        least = λ r y. from_index g law K r c
            (subst (λ v. LeastFrom g (path g K ++ (v ∷ [])) r) (past_index K b w (at_same h Y K b same e each largest) q c) y);
      })

  -- a graph h that is g, a set X, reached from K, and its barriers
  module _ (h : Graph) (same : h ≡ g) (K X : List ℕ) (b : Barriers) (w i : ℕ) (each : (x : ℕ) → get_or b.at x 0 ≡ barrier_at h X x)
      (largest : b.largest ≡ largest_barrier h h.size X) (climbed : MaximalClique g K → Climbed K X w i) where
    bars : At X b
    bars = at_same h X X b same refl each largest

    on_g : (r : Option Standing) → FirstChild h b.at X w r → FirstChild g b.at X w r
    on_g r a = subst (λ (k : Graph). FirstChild k b.at X w r) same a

    -- a child that is found is kept with zeros after its members
    pub child_kept : (t : Standing) → FirstChild h b.at X w (Some t) → Clean t
    child_kept t a =
        let f = on_g (Some t) a in
        let P = partners_below g f.0 X in
        again t (completed_with g f.0 P) (found_kept (enters_at g b.at P X f.0) (adds_none g f.0 P) (standing_of (completed_with g f.0 P)) t f.3)

    pub climb_found : (t : Standing) → FirstChild h b.at X w (Some t) → MaximalClique g K → NextAfter g (path g K) (Some (members_of t))
    climb_found t a k =
        let d = climbed k in
        let f = first_some g law X d.maximal b.at bars.each w t (on_g (Some t) a) in
        let q : members_of t ≡ child g X f.0 = back t (child g X f.0) f.2 in
        subst (λ Y. NextAfter g (path g K) (Some Y)) (sym q)
        (least_next g law (path g K) (Some (child g X f.0)) (d.least (Some (child g X f.0)) (child_least g law X w f.0 d.maximal f.1)))

    module _ (a : FirstChild h b.at X w None) where
      none_above : MaximalClique g X → FirstFrom (is_child g X) g.size w None
      none_above c = first_none g law X c b.at bars.each w (on_g None a)

      pub climb_ends : (u : ℕ) (r : Option (List ℕ)) → b.largest ≡ smallest X → u ≡ b.largest + 1 → LeastFrom g (u ∷ []) r
          → MaximalClique g K → NextAfter g (path g K) r
      climb_ends u r e q l k =
          let d = climbed k in
          let c = d.maximal in
          least_next g law (path g K) r (d.least r
          (climb_root g law X w r c (none_above c) (eq_root g law X (sym (index_is X b bars c) ∙ e))
          (subst (λ v. LeastFrom g (v ∷ []) r) (past_index X b u bars q c) l)))

      pub climb_on : (u : ℕ) (t : Standing) → (b.largest ≡ smallest X → ⊥) → u ≡ b.largest + 1
          → t ≡ standing_of (append_pass h h.size (below b.largest X)) → MaximalClique g K → Climbed K (members_of t) u (i + 1)
      climb_on u t e q z k =
          let d = climbed k in
          let c = d.maximal in
          let p = subst (λ (j : Graph). t ≡ standing_of (append_pass j j.size (below b.largest X))) same z in
          let f : b.largest ≡ parent_index g X = index_is X b bars c in
          elim (root_or g law X c) [
            | inl l ↦ absurd (e (f ∙ root_eq g law X l))
            | inr l ↦
                let o : members_of t ≡ parent g X =
                back t (append_pass g g.size (below b.largest X)) p
                ∙ (ap (λ (j : ℕ). append_pass g g.size (below j X)) f
                ∙ pass_is g law (below (parent_index g X) X) (below_clique g law X (parent_index g X) (smallest X) c.clique c.clique.nonempty l)) in
                let lower = parent_lower g law X c l in
                let low = d.low in
                subst (λ Y. Climbed K Y u (i + 1)) (sym o) (record {
                  maximal = parent_maximal g law X c l;
                  low = omega arith;
                  least = λ r x. d.least r (climb_parent g law X w r c (none_above c) l (subst (λ v. LeastFrom g (path g (parent g X) ++ (v ∷ [])) r) (past_index X b u bars q c) x));
                })
          ]

    -- a climb ends before there were as many as places
    pub climb_over : g.size ≤ i → MaximalClique g K → ⊥
    climb_over z k = let a = (climbed k).low in omega arith

  -- from what stands
  pub next_first : (r : Option (List ℕ)) (X : List ℕ) → length X ≡ 0 → LeastFrom g (0 ∷ []) r → MayStand g X → NextAfter g (standing_path g X) r
  next_first r [] q l m = least_next g law [] r l
  next_first r (x ∷ X) q l m = absurd (omega arith)
