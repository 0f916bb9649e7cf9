-- Paths, and induction over the tree of maximal cliques.
use Rattle.std.proofs.Common.{◌≡◌, ℕ, zero, suc, ◌<◌, ◌≤◌, Bool, true, false, T, ◌⊎◌, List, [], ◌∷◌, ◌++◌, sym, ap, ◌∙◌, subst, inl, inr, arith}
use Rattle.cliques.specs.Graph.{Graph, Lawful}
use Rattle.cliques.specs.Sets.{In, Rising, smallest, MaximalClique}
use Rattle.cliques.specs.Completion.{completion, parent_index, root, parent, Head, ChildAt}
use Rattle.cliques.specs.Paths.{path_end, path, Before}
use Rattle.cliques.proofs.Tests.{is_true, is_false}
use Rattle.cliques.proofs.Members.{in_single, snoc_out}
use Rattle.cliques.proofs.Rising.{snoc_rising}
use Rattle.cliques.proofs.Indices.{index_at, root_eq, root_or, root_completion, root_head, head_index, head_root}
use Rattle.cliques.proofs.Parents.{parent_maximal, parent_lower, parent_child}
use Rattle.cliques.proofs.Children.{child_maximal, child_index, child_low, child_one}
use Rattle.cliques.proofs.Order.{nil_mid, snoc_inj, before_or, le_anti}

module _ (g : Graph) (law : Lawful g) where
  -- the two equations of a path
  abbrev path_by : Bool → ℕ → List ℕ → List ℕ
  path_by b k K = elim b [ true ↦ parent_index g K ∷ [] | false ↦ path_end g k (parent g K) ++ (parent_index g K ∷ []) ]

  path_end_root : (k : ℕ) (K : List ℕ) → T (root g K) → path_end g (suc k) K ≡ (parent_index g K ∷ [])
  path_end_root k K t = ap (λ b. path_by b k K) (is_true (root g K) t)

  path_end_child : (k : ℕ) (K : List ℕ) → smallest K < parent_index g K
      → path_end g (suc k) K ≡ path_end g k (parent g K) ++ (parent_index g K ∷ [])
  path_end_child k K h = ap (λ b. path_by b k K) (is_false (root g K) (λ t. let q = root_eq g law K t in omega arith))

  -- a count above the parent index makes no difference
  path_end_same : (f j : ℕ) (K : List ℕ) → MaximalClique g K → parent_index g K < f → parent_index g K < j
      → path_end g f K ≡ path_end g j K
  path_end_same zero j K c p q = absurd (omega arith)
  path_end_same (suc f) zero K c p q = absurd (omega arith)
  path_end_same (suc f) (suc j) K c p q = grind (arith, root_or, parent_lower, parent_maximal, path_end_same f j)

  pub index_low : (K : List ℕ) → MaximalClique g K → parent_index g K < g.size
  index_low K c = c.clique.within (parent_index g K) (index_at g law K c).member

  path_next : (K : List ℕ) → MaximalClique g K → path g K ≡ path_end g (suc g.size) K
  path_next K c = let a = index_low K c in path_end_same g.size (suc g.size) K c a (omega arith)

  pub path_root : (K : List ℕ) → MaximalClique g K → T (root g K) → path g K ≡ (parent_index g K ∷ [])
  path_root K c t = path_next K c ∙ path_end_root g.size K t

  pub path_parent : (K : List ℕ) → MaximalClique g K → smallest K < parent_index g K
      → path g K ≡ path g (parent g K) ++ (parent_index g K ∷ [])
  path_parent K c h = path_next K c ∙ path_end_child g.size K h

  pub path_head : (h : ℕ) → Head g h → path g (completion g (h ∷ [])) ≡ (h ∷ [])
  path_head h d = grind (arith, head_root, head_index)

  pub path_child : (K D : List ℕ) (v : ℕ) → MaximalClique g K → ChildAt g K v D → path g D ≡ path g K ++ (v ∷ [])
  path_child K D v c d = grind (arith, child_index, child_low, path_parent, child_maximal)

  -- every maximal clique is the completion of a head, or a child
  abbrev pub View : List ℕ → Type 0
  View K = ((h : ℕ) × Head g h × (completion g (h ∷ []) ≡ K))
      ⊎ ((F : List ℕ) × (v : ℕ) × MaximalClique g F × ChildAt g F v K × (parent_index g F < parent_index g K))

  pub view : (K : List ℕ) → MaximalClique g K → View K
  view K c =
      elim (root_or g law K c) [
        | inl t ↦ inl (smallest K, root_head g law K c t, root_completion g law K c t)
        | inr h ↦ inr (parent g K, parent_index g K, parent_maximal g law K c h, parent_child g law K c h, parent_lower g law K c h)
      ]

  tree_below : (P : List ℕ → Type 0) → ((h : ℕ) → Head g h → P (completion g (h ∷ [])))
      → ((F D : List ℕ) (v : ℕ) → MaximalClique g F → ChildAt g F v D → P F → P D)
      → (k : ℕ) (K : List ℕ) → MaximalClique g K → parent_index g K < k → P K
  tree_below P r s zero K c h = absurd (omega arith)
  tree_below P r s (suc k) K c h =
      elim (view K c) [
        | inl a ↦ subst P a.2 (r a.0 a.1)
        | inr a ↦ let l = a.4 in s a.0 K a.1 a.2 a.3 (tree_below P r s k a.0 a.2 (omega arith))
      ]

  -- induction over the tree
  pub tree_ind : (P : List ℕ → Type 0) → ((h : ℕ) → Head g h → P (completion g (h ∷ [])))
      → ((F D : List ℕ) (v : ℕ) → MaximalClique g F → ChildAt g F v D → P F → P D)
      → (K : List ℕ) → MaximalClique g K → P K
  tree_ind P r s K c = tree_below P r s (suc (parent_index g K)) K c (omega arith)

  pub path_some : (K : List ℕ) → MaximalClique g K → [] ≡ path g K → ⊥
  path_some K c q =
      elim (view K c) [
        | inl a ↦ let t = path_head a.0 a.1 in let s = a.2 in let z : ◌≡◌ {A = ℕ} 0 1 = cc in omega arith
        | inr a ↦ nil_mid (path g a.0) a.1 [] (q ∙ path_child a.0 K a.1 a.2 a.3)
      ]

  -- two maximal cliques with one path are one
  pub path_one : (K : List ℕ) → MaximalClique g K → (K' : List ℕ) → MaximalClique g K' → path g K ≡ path g K' → K ≡ K'
  path_one = tree_ind (λ K. (K' : List ℕ) → MaximalClique g K' → path g K ≡ path g K' → K ≡ K')
      (λ h d K' c' q. elim (view K' c') [
        | inl a ↦ let t = path_head h d in let t2 = path_head a.0 a.1 in let s = a.2 in let z : h ≡ a.0 = cc in cc
        | inr a ↦
            let t = sym (path_head h d) ∙ (q ∙ path_child a.0 K' a.1 a.2 a.3) in
            absurd (path_some a.0 a.2 (snoc_inj [] (path g a.0) h a.1 t).0)
      ])
      (λ F D v c d ih K' c' q. elim (view K' c') [
        | inl a ↦
            let s : path g K' ≡ (a.0 ∷ []) = ap (path g) (sym a.2) ∙ path_head a.0 a.1 in
            let t = sym s ∙ (sym q ∙ path_child F D v c d) in
            absurd (path_some F c (snoc_inj [] (path g F) a.0 v t).0)
        | inr a ↦
            let t = snoc_inj (path g F) (path g a.0) v a.1
            (sym (path_child F D v c d) ∙ (q ∙ path_child a.0 K' a.1 a.2 a.3)) in
            let f : F ≡ a.0 = ih a.0 a.2 t.0 in
            let d1 : ChildAt g a.0 v K' = subst (λ z. ChildAt g a.0 z K') (sym t.1) a.3 in
            let d2 : ChildAt g F v K' = subst (λ z. ChildAt g z v K') (sym f) d1 in
            child_one g law F D K' v d d2
      ])

  -- a path rises, and no entry is above the parent index
  path_rises_to : (K : List ℕ) → MaximalClique g K → Rising (path g K) × ((w : ℕ) → In w (path g K) → w ≤ parent_index g K)
  path_rises_to = tree_ind (λ K. Rising (path g K) × ((w : ℕ) → In w (path g K) → w ≤ parent_index g K))
      (λ h d.
      let q = path_head h d in
      let i = head_index g law h d in (
        subst (λ z. Rising z) (sym q) tt,
        (λ w m. let a : w ≡ h = in_single w h (subst (λ z. In w z) q m) in omega arith),
      ))
      (λ F D v c d ih.
      let q = path_child F D v c d in
      let i = child_index g law F D v c d in
      let l = d.above in (
        subst (λ z. Rising z) (sym q) (snoc_rising (path g F) v ih.0 (λ w m. let a = ih.1 w m in omega arith)),
        (λ w m. grind (arith, snoc_out)),
      ))

  pub path_rises : (K : List ℕ) → MaximalClique g K → Rising (path g K)
  path_rises K c = (path_rises_to K c).0

  -- the order of paths is total on maximal cliques
  pub path_total : (K D : List ℕ) → MaximalClique g K → MaximalClique g D
      → Before (path g K) (path g D) ⊎ ((K ≡ D) ⊎ Before (path g D) (path g K))
  path_total K D c d =
      grind (arith, before_or, path_one, le_anti)
