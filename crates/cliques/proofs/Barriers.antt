-- The parent index and the completions of parts by barriers.
use Rattle.std.proofs.Common.{◌≡◌, ℕ, zero, suc, ◌<◌, ◌≤◌, Bool, true, false, cond, not, ◌&&◌, T, ltb, ◌⊎◌, List, sym, refl, subst, inl, inr, arith, ltb→lt, lt→ltb, nltb→le, T_not}
use lib.Dec.{not_T}
use Rattle.cliques.specs.Graph.{Graph, Lawful}
use Rattle.cliques.specs.Sets.{
  has,
  In,
  Sub,
  up_to,
  same,
  Rising,
  first_of,
  smallest,
  places,
  partner_of_all,
  Clique,
  MaximalClique,
}
use Rattle.cliques.specs.Completion.{completion, parent_index}
use Rattle.cliques.specs.Shortcuts.{barrier, largest_barrier, completes_to}
use Rattle.cliques.proofs.Tests.{and_l, and_r, and_mk, dec, lt_or, both_same, of_true, of_false}
use Rattle.cliques.proofs.Laws.{partners_apart, partners_within}
use Rattle.cliques.proofs.Members.{places_in, every_at, every_of, partner_at, partner_all, some_fails, up_to_in, up_to_out}
use Rattle.cliques.proofs.Rising.{same_eq, eq_same, smallest_le, First, first}
use Rattle.cliques.proofs.Completions.{IsCompletion, completion_from, completion_of}
use Rattle.cliques.proofs.Indices.{up_to_clique, index_is}

cond_pos : (b : Bool) (u : ℕ) → 0 < cond b u 0 → T b × (cond b u 0 ≡ u)
cond_pos true u h = (tt, refl)
cond_pos false u h = absurd (omega arith)

cond_yes : (b : Bool) (u : ℕ) → T b → cond b u 0 ≡ u
cond_yes true u t = refl
cond_yes false u t = absurd t

module _ (g : Graph) (law : Lawful g) (K : List ℕ) (c : MaximalClique g K) where
  r : Rising K
  r = c.clique.sorted

  abbrev apart : ℕ → ℕ → Bool
  apart x y = not (g.partners x y)

  -- every place has a member that is no partner of it
  one_apart : (x : ℕ) → (u : ℕ) × In u K × T (apart x u)
  one_apart x =
      elim (dec (has x K)) [
        | inl m ↦ (x, m, not_T (g.partners x x) (partners_apart g law x))
        | inr m ↦ some_fails (λ u. g.partners x u) K (λ t. c.maximal x m (λ u um. partner_at g x K u t um))
      ]

  abbrev first_apart : ℕ → ℕ
  first_apart x = first_of (apart x) K

  apart_first : (x : ℕ) → First (apart x) K (first_apart x)
  apart_first x = let o = one_apart x in first (apart x) K r o.0 o.1 o.2

  -- the members below the first that is no partner are partners
  before_apart : (x u : ℕ) → In u K → u < first_apart x → T (g.partners x u)
  before_apart x u m h = grind (arith, apart_first)

  barrier_is : (x : ℕ) → x < first_apart x → barrier g K x ≡ first_apart x
  barrier_is x h = cond_yes (ltb x (first_apart x)) (first_apart x) (lt→ltb x (first_apart x) h)

  barrier_of : (x : ℕ) → 0 < barrier g K x → (x < first_apart x) × (barrier g K x ≡ first_apart x)
  barrier_of x h = let a = cond_pos (ltb x (first_apart x)) (first_apart x) h in (ltb→lt x (first_apart x) a.0, a.1)

  -- a place with a barrier is outside
  outside : (x : ℕ) → x < first_apart x → In x K → ⊥
  outside x h m = let a = (apart_first x).2 x m (not_T (g.partners x x) (partners_apart g law x)) in omega arith

  -- a place outside that is a partner of all members below it has a barrier
  has_barrier : (w : ℕ) → (In w K → ⊥) → ((u : ℕ) → In u K → u < w → T (g.partners w u)) → w < first_apart w
  has_barrier w out b =
      elim (lt_or w (first_apart w)) [
        | inl h ↦ h
        | inr h ↦
            let ne : w ≡ first_apart w → ⊥ = λ q. out (subst (λ z. In z K) (sym q) (apart_first w).0) in
            let l : first_apart w < w = omega arith in
            absurd (T_not (g.partners w (first_apart w)) (apart_first w).1 (b (first_apart w) (apart_first w).0 l))
      ]

  -- I is the largest of the smallest member and the barriers of the places below k
  pub record Largest (k I : ℕ) : Type 0 where
    pub low : smallest K ≤ I
    pub over : (x : ℕ) → x < k → barrier g K x ≤ I
    pub from : (I ≡ smallest K) ⊎ ((x : ℕ) × (barrier g K x ≡ I))

  one_more : (k I : ℕ) → ((x : ℕ) → x < k → barrier g K x ≤ I) → barrier g K k ≤ I → (x : ℕ) → x < suc k → barrier g K x ≤ I
  one_more k I f here x h = grind arith

  larger : (b : Bool) (k I B : ℕ) → ltb I B ≡ b → B ≡ barrier g K k → Largest k I → Largest (suc k) (cond b B I)
  larger true k I B q z l =
      let h : I < B = ltb→lt I B (of_true (ltb I B) q) in
      let o = l.low in
      record {
        low = omega arith;
        over = one_more k B (λ x a. let c = l.over x a in omega arith) (omega arith);
        from = inr (k, sym z);
      }
  larger false k I B q z l =
      let h : B ≤ I = nltb→le I B (not_T (ltb I B) (of_false (ltb I B) q)) in
      record { low = l.low; over = one_more k I l.over (omega arith); from = l.from }

  largest : (k : ℕ) → Largest k (largest_barrier g k K)
  largest zero = record { low = omega arith; over = λ x h. absurd (omega arith); from = inl refl }
  largest (suc k) = larger (ltb (largest_barrier g k K) (barrier g K k)) k (largest_barrier g k K) (barrier g K k) refl refl (largest k)

  -- the largest over all places is the parent index
  abbrev I : ℕ
  I = largest_barrier g g.size K

  member : In I K
  member = grind (arith, largest, apart_first)

  complete : IsCompletion g (up_to I K) K
  complete = record {
    sub = λ w m. (up_to_out I K w m).0;
    pairs = c.clique.pairwise;
    greedy = λ w a b. elim (dec (has w K)) [
      | inl m ↦ m
      | inr m ↦
          let h = has_barrier w m b in
          let i = up_to_in I K (smallest K) c.clique.nonempty (largest g.size).low in
          let j = partners_within g law w (smallest K) (a (smallest K) i) in
          let o = (largest g.size).over w j in
          let q = barrier_is w h in
          let l : first_apart w ≤ I = omega arith in
          let p = a (first_apart w) (up_to_in I K (first_apart w) (apart_first w).0 l) in
          absurd (T_not (g.partners w (first_apart w)) (apart_first w).1 p)
    ];
  }

  lowest : (u : ℕ) → In u K → completion g (up_to u K) ≡ K → I ≤ u
  lowest u m q =
      elim (largest g.size).from [
        | inl z ↦ let a = smallest_le K r u m in omega arith
        | inr z ↦ elim (lt_or u I) [
          | inl h ↦
              let p : 0 < barrier g K z.0 = (let y = z.1 in omega arith) in
              let d = barrier_of z.0 p in
              let d0 = d.0 in
              let y = z.1 in
              let y2 = d.1 in
              let j = completion_of g law (up_to u K) K (up_to_clique g law K u u c.clique m (omega arith)) q in
              let in_k : In z.0 K = j.greedy z.0
              (λ x xm. let a = up_to_out u K x xm in let a1 = a.1 in before_apart z.0 x a.0 (omega arith))
              (λ x xm l. before_apart z.0 x xm (omega arith)) in
              absurd (outside z.0 d0 in_k)
          | inr h ↦ h
        ]
      ]

  pub largest_is_index : largest_barrier g g.size K ≡ parent_index g K
  largest_is_index =
      sym (index_is g law K I c (record {
        member = member;
        gives = completion_from g law (up_to I K) K (up_to_clique g law K I I c.clique member (omega arith)) complete r;
        least = lowest;
      }))

  -- the completion of a part
  module _ (P : List ℕ) (f : Clique g P) (s : Sub P K) where
    -- a place with a barrier that is a partner of all of P
    abbrev joins : ℕ → Bool
    joins w = ltb 0 (barrier g K w) && partner_of_all g w P

    pub completes_to_lem : T (completes_to g P K) → completion g P ≡ K
    completes_to_lem t = completion_from g law P K f (record { sub = s; pairs = c.clique.pairwise; greedy = λ w a b. go w a b }) r
      where
        go : (w : ℕ) → ((x : ℕ) → In x P → T (g.partners w x)) → ((u : ℕ) → In u K → u < w → T (g.partners w u)) → In w K
        go w a b =
            elim (dec (has w K)) [
              | inl m ↦ m
              | inr m ↦
                  let h = has_barrier w m b in
                  let j = partners_within g law w (smallest P) (a (smallest P) f.nonempty) in
                  let q = barrier_is w h in
                  let p : 0 < barrier g K w = omega arith in
                  let z = every_at (λ w. not (joins w)) (places g.size) w t (places_in g.size w j) in
                  absurd (T_not (joins w) z
                  (and_mk (ltb 0 (barrier g K w)) (partner_of_all g w P) (lt→ltb 0 (barrier g K w) p) (partner_all g w P a)))
            ]

    pub to_completes : completion g P ≡ K → T (completes_to g P K)
    to_completes q =
        every_of (λ w. not (joins w)) (places g.size)
        (λ w m. not_T (joins w) (λ t.
        let d = barrier_of w (ltb→lt 0 (barrier g K w) (and_l (ltb 0 (barrier g K w)) (partner_of_all g w P) t)) in
        let d0 = d.0 in
        let a = and_r (ltb 0 (barrier g K w)) (partner_of_all g w P) t in
        outside w d0 ((completion_of g law P K f q).greedy w
        (λ x xm. partner_at g w P x a xm) (λ x xm l. before_apart w x xm (omega arith)))))

    pub completes_same : completes_to g P K ≡ same (completion g P) K
    completes_same =
        both_same (completes_to g P K) (same (completion g P) K)
        (λ t. eq_same (completion g P) K (completes_to_lem t)) (λ t. to_completes (same_eq (completion g P) K t))
