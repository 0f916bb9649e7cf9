-- What comes next by path: the least child, the least head, and the climb from a set without one.
use Rattle.std.proofs.Common.{◌≡◌, ℕ, suc, ◌<◌, T, ◌⊎◌, List, [], ◌∷◌, ◌++◌, Some, None, Option, sym, ◌∙◌, subst, inl, inr, arith}
use Rattle.cliques.specs.Graph.{Graph, Lawful}
use Rattle.cliques.specs.Sets.{smallest, FirstFrom, Precedes, MaximalClique}
use Rattle.cliques.specs.Completion.{completion, parent_index, root, parent, Head, is_head, child, ChildAt, is_child}
use Rattle.cliques.specs.Paths.{path, AtOrBefore, NextAfter, LeastFrom}
use Rattle.cliques.proofs.Tests.{of_true, of_false, first_least}
use Rattle.cliques.proofs.Indices.{head_maximal}
use Rattle.cliques.proofs.Children.{child_maximal, child_holds}
use Rattle.cliques.proofs.Decisions.{test_head, head_test, test_child, child_test}
use Rattle.cliques.proofs.Order.{
  nil_mid,
  snoc_split,
  before_from,
  from_before,
  le_not,
  split,
  le_min,
  precedes_le,
  precedes_snoc,
  snoc_precedes,
}
use Rattle.cliques.proofs.Paths.{path_root, path_parent, path_head, path_child, tree_ind, path_some, path_one}

module _ (g : Graph) (law : Lawful g) where
  -- what a path begins with is a path, or its first entry is a head
  abbrev pub Begins : List ℕ → ℕ → Type 0
  Begins s y = ((s ≡ []) × Head g y)
      ⊎ ((A : List ℕ) × (D : List ℕ) × MaximalClique g A × (path g A ≡ s) × ChildAt g A y D)

  pub prefix : (K : List ℕ) → MaximalClique g K → (s : List ℕ) (y : ℕ) (r : List ℕ) → path g K ≡ s ++ (y ∷ r) → Begins s y
  prefix = tree_ind g law (λ K. (s : List ℕ) (y : ℕ) (r : List ℕ) → path g K ≡ s ++ (y ∷ r) → Begins s y)
      (λ h d s y r q. elim (snoc_split [] s h y r (sym (path_head g law h d) ∙ q)) [
        | inl a ↦ inl (sym a.0, subst (λ z. Head g z) a.1 d)
        | inr a ↦ absurd (nil_mid s y a.0 a.1)
      ])
      (λ F D v c d ih s y r q. elim (snoc_split (path g F) s v y r (sym (path_child g law F D v c d) ∙ q)) [
        | inl a ↦ inr (F, D, c, a.0, subst (λ z. ChildAt g F z D) a.1 d)
        | inr a ↦ ih s y a.0 a.1
      ])

  -- a maximal clique whose path goes on from K's goes through a child of K
  pub through : (K D : List ℕ) → MaximalClique g K → MaximalClique g D → (y : ℕ) (r : List ℕ) → path g D ≡ path g K ++ (y ∷ r)
      → T (is_child g K y)
  through K D c c' y r q =
      grind (arith, prefix, path_some, path_one, child_test)

  -- the first entry of a path is a head
  pub first_head : (D : List ℕ) → MaximalClique g D → (y : ℕ) (r : List ℕ) → path g D ≡ (y ∷ r) → T (is_head g y)
  first_head D c y r q =
      elim (prefix D c [] y r q) [
        | inl a ↦ head_test g law y a.1
        | inr a ↦ absurd (path_some g law a.0 a.2 (sym a.3))
      ]

  -- the least from a is the least from b, where the same paths are at or after both
  moved : (a b : List ℕ) (r : Option (List ℕ))
      → ((D : List ℕ) → MaximalClique g D → AtOrBefore a (path g D) → AtOrBefore b (path g D))
      → ((D : List ℕ) → MaximalClique g D → AtOrBefore b (path g D) → AtOrBefore a (path g D)) → LeastFrom g b r
      → LeastFrom g a r
  moved a b r f j l = grind arith

  -- the least head at or above w, and none
  pub heads_least : (w h : ℕ) → FirstFrom (is_head g) g.size w (Some h)
      → LeastFrom g (w ∷ []) (Some (completion g (h ∷ [])))
  heads_least w h s =
      let d = test_head g law h (of_true (is_head g h) s.2) in
      let q = path_head g law h d in (
        head_maximal g law h d,
        subst (λ z. AtOrBefore (w ∷ []) z) (sym q) (le_min [] w h [] s.0),
        λ D c l. grind (arith, split, first_head, first_least, le_min),
      )

  pub heads_none : (w : ℕ) → FirstFrom (is_head g) g.size w None → LeastFrom g (w ∷ []) None
  heads_none w s = grind (arith, first_head)

  -- without a child at or above w, what is at or after the path with w is larger at a difference
  pub no_child : (K : List ℕ) (w : ℕ) → MaximalClique g K → FirstFrom (is_child g K) g.size w None → (D : List ℕ)
      → MaximalClique g D → AtOrBefore (path g K ++ (w ∷ [])) (path g D) → Precedes (path g K) (path g D)
  no_child K w c s D c' l =
      elim (split (path g K) w (path g D) l) [
        | inl a ↦
            let t = through K D c c' a.0 a.1 a.2 in
            let k = test_child g law K a.0 t in
            let p : a.0 < g.size = child_place a.0 k in
            absurd (of_false (is_child g K a.0) (s a.0 a.3 (omega arith)) t)
        | inr a ↦ a
      ]
    where
      child_place : (v : ℕ) → ChildAt g K v (child g K v) → v < g.size
      child_place v k = (child_maximal g law K (child g K v) v c k).clique.within v (child_holds g law K (child g K v) v c k)

  lifted : (K front : List ℕ) (v w : ℕ) (r : Option (List ℕ)) → MaximalClique g K → FirstFrom (is_child g K) g.size w None
      → path g K ≡ front ++ (v ∷ []) → LeastFrom g (front ++ (suc v ∷ [])) r → LeastFrom g (path g K ++ (w ∷ [])) r
  lifted K front v w r c s q l =
      moved (path g K ++ (w ∷ [])) (front ++ (suc v ∷ [])) r
      (λ D c' h. precedes_snoc front v (path g D) (subst (λ z. Precedes z (path g D)) q (no_child K w c s D c' h)))
      (λ D c' h. precedes_le (path g K) w (path g D) (subst (λ z. Precedes z (path g D)) (sym q) (snoc_precedes front v (path g D) h)))
      l

  -- without a child at or above w: on from the root's place, or from the parent
  pub climb_root : (K : List ℕ) (w : ℕ) (r : Option (List ℕ)) → MaximalClique g K → FirstFrom (is_child g K) g.size w None
      → T (root g K) → LeastFrom g (suc (parent_index g K) ∷ []) r → LeastFrom g (path g K ++ (w ∷ [])) r
  climb_root K w r c s t l = lifted K [] (parent_index g K) w r c s (path_root g law K c t) l

  pub climb_parent : (K : List ℕ) (w : ℕ) (r : Option (List ℕ)) → MaximalClique g K → FirstFrom (is_child g K) g.size w None
      → smallest K < parent_index g K → LeastFrom g (path g (parent g K) ++ (suc (parent_index g K) ∷ [])) r
      → LeastFrom g (path g K ++ (w ∷ [])) r
  climb_parent K w r c s h l = lifted K (path g (parent g K)) (parent_index g K) w r c s (path_parent g law K c h) l

  -- with a child at or above w, the least of them comes next
  pub child_least : (K : List ℕ) (w v : ℕ) → MaximalClique g K → FirstFrom (is_child g K) g.size w (Some v)
      → LeastFrom g (path g K ++ (w ∷ [])) (Some (child g K v))
  child_least K w v c s =
      let d = test_child g law K v (of_true (is_child g K v) s.2) in
      let q = path_child g law K (child g K v) v c d in (
        child_maximal g law K (child g K v) v c d,
        subst (λ z. AtOrBefore (path g K ++ (w ∷ [])) z) (sym q) (le_min (path g K) w v [] s.0),
        λ D c' l. subst (λ z. AtOrBefore z (path g D)) (sym q) (elim (split (path g K) w (path g D) l) [
          | inl a ↦
              let t = through K D c c' a.0 a.1 a.2 in
              let m = first_least (is_child g K) g.size w v s a.0 a.3 t in
              subst (λ z. AtOrBefore (path g K ++ (v ∷ [])) z) (sym a.2) (le_min (path g K) v a.0 a.1 m)
          | inr a ↦ precedes_le (path g K) v (path g D) a
        ]),
      )

  -- from the least at or after to the next
  pub least_next : (a : List ℕ) (r : Option (List ℕ)) → LeastFrom g (a ++ (0 ∷ [])) r → NextAfter g a r
  least_next a r l = grind (arith, before_from, from_before, le_not)

  -- a child lies above the parent index, so a search may begin there
  pub from_index : (K : List ℕ) (r : Option (List ℕ)) → MaximalClique g K
      → LeastFrom g (path g K ++ (suc (parent_index g K) ∷ [])) r → LeastFrom g (path g K ++ (0 ∷ [])) r
  from_index K r c l =
      moved (path g K ++ (0 ∷ [])) (path g K ++ (suc (parent_index g K) ∷ [])) r
      (λ D c' h. elim (split (path g K) 0 (path g D) h) [
        | inl a ↦ subst (λ z. AtOrBefore (path g K ++ (suc (parent_index g K) ∷ [])) z) (sym a.2)
            (le_min (path g K) (suc (parent_index g K)) a.0 a.1
            (test_child g law K a.0 (through K D c c' a.0 a.1 a.2)).above)
        | inr a ↦ precedes_le (path g K) (suc (parent_index g K)) (path g D) a
      ])
      (λ D c' h. grind (arith, split, le_min, precedes_le))
      l
