-- The maximal cliques by rising path make one list, and what comes next after a set is the next of the list.
use Rattle.std.proofs.Common.{◌≡◌, ℕ, zero, suc, ◌<◌, Bool, true, false, not, T, ◌⊎◌, List, [], ◌∷◌, ◌++◌, map, Option, sym, refl, ◌∙◌, subst, inl, inr, arith, T_not}
use Rattle.cliques.specs.Graph.{Graph, Lawful}
use Rattle.cliques.specs.Sets.{has, In, below, Rising, MaximalClique, is_maximal_clique}
use Rattle.cliques.specs.Paths.{path, Before, is_before, NextAfter}
use Rattle.cliques.specs.Listing.{Among, first_set, ByPath, ListsAll, subsets, put_by_path, sort_by_path, maximal_cliques}
use Rattle.cliques.proofs.Tests.{dec}
use Rattle.cliques.proofs.Members.{in_here, below_out}
use Rattle.cliques.proofs.Rising.{below_rising, below_more, below_all}
use Rattle.cliques.proofs.Decisions.{test_maximal, maximal_test}
use Rattle.cliques.proofs.Order.{before_trans, not_self, before_test, test_before, neither}
use Rattle.cliques.proofs.Paths.{path_some, path_one}

-- sets among a list of sets
pub among_append : (A B : List (List ℕ)) (K : List ℕ) → Among K (A ++ B) → Among K A ⊎ Among K B
among_append [] B K m = inr m
among_append (D ∷ A) B K q = grind (arith, among_append A)

pub among_l : (A B : List (List ℕ)) (K : List ℕ) → Among K A → Among K (A ++ B)
among_l [] B K m = absurd m
among_l (D ∷ A) B K q = grind (arith, among_l A)

pub among_r : (A B : List (List ℕ)) (K : List ℕ) → Among K B → Among K (A ++ B)
among_r [] B K m = m
among_r (D ∷ A) B K m = inr (among_r A B K m)

among_map : (f : List ℕ → List ℕ) (A : List (List ℕ)) (K : List ℕ) → Among K A → Among (f K) (map f A)
among_map f [] K m = absurd m
among_map f (D ∷ A) K q = grind (arith, among_map f A)

-- every rising list of places below k is among the subsets
snoc_below : (k : ℕ) (K : List ℕ) → Rising K → ((w : ℕ) → In w K → w < suc k) → In k K → below k K ++ (k ∷ []) ≡ K
snoc_below k K r f m = sym (below_more k K r m) ∙ below_all (suc k) K r f

none_below : (K : List ℕ) → ((w : ℕ) → In w K → w < 0) → K ≡ []
none_below [] f = refl
none_below (x ∷ K) f = let h = f x (in_here x K) in absurd (omega arith)

pub subsets_all : (k : ℕ) (K : List ℕ) → Rising K → ((w : ℕ) → In w K → w < k) → Among K (subsets k)
subsets_all zero K r f = inl (none_below K f)
subsets_all (suc k) K r f =
    elim (dec (has k K)) [
      | inl m ↦
          among_r (subsets k) (map (λ X. X ++ (k ∷ [])) (subsets k)) K
          (subst (λ z. Among z (map (λ X. X ++ (k ∷ [])) (subsets k))) (snoc_below k K r f m)
          (among_map (λ X. X ++ (k ∷ [])) (subsets k) (below k K)
          (subsets_all k (below k K) (below_rising k K r) (λ w h. (below_out k K w h).1))))
      | inr m ↦
          among_l (subsets k) (map (λ X. X ++ (k ∷ [])) (subsets k)) K
          (subsets_all k K r (λ w h. let l = f w h in
          let d : k ≡ w → ⊥ = λ q. m (subst (λ z. In z K) (sym q) h) in omega arith))
    ]

module _ (g : Graph) (law : Lawful g) where
  -- the computed list is the list of all
  abbrev pub All : List (List ℕ) → Type 0
  All L = (K : List ℕ) → Among K L → MaximalClique g K

  abbrev put_by : Bool → Bool → List ℕ → List ℕ → List (List ℕ) → List (List ℕ) → List (List ℕ)
  put_by a b K D L S = elim a [ true ↦ K ∷ D ∷ L | false ↦ elim b [ true ↦ D ∷ S | false ↦ D ∷ L ] ]

  put_out : (K : List ℕ) (L : List (List ℕ)) (X : List ℕ) → Among X (put_by_path g K L) → (X ≡ K) ⊎ Among X L
  put_out K [] X m = m
  put_out K (D ∷ L) X m = grind (arith, put_out K L)

  put_old : (K : List ℕ) (L : List (List ℕ)) (X : List ℕ) → Among X L → Among X (put_by_path g K L)
  put_old K [] X m = absurd m
  put_old K (D ∷ L) X m = grind (arith, put_old K L)

  by_new : (a b : Bool) (K D : List ℕ) (L S : List (List ℕ)) → Among K S → (T (not a) → T (not b) → K ≡ D)
      → Among K (put_by a b K D L S)
  by_new true b K D L S m f = inl refl
  by_new false true K D L S m f = inr m
  by_new false false K D L S m f = inl (f tt tt)

  not_before : (s t : List ℕ) → T (not (is_before s t)) → Before s t → ⊥
  not_before s t f b = T_not (is_before s t) f (before_test s t b)

  put_new : (K : List ℕ) (L : List (List ℕ)) → MaximalClique g K → All L → Among K (put_by_path g K L)
  put_new K [] c f = inl refl
  put_new K (D ∷ L) c f =
      by_new (is_before (path g K) (path g D)) (is_before (path g D) (path g K)) K D L (put_by_path g K L)
      (put_new K L c (λ X m. f X (inr m)))
      (λ a b. path_one g law K c D (f D (inl refl))
      (neither (path g K) (path g D) (not_before (path g K) (path g D) a) (not_before (path g D) (path g K) b)))

  by_order : (a b : Bool) (K D : List ℕ) (L S : List (List ℕ)) → (T a → Before (path g K) (path g D))
      → (T b → (X : List ℕ) → Among X S → Before (path g D) (path g X)) → ByPath g S → ByPath g (D ∷ L)
      → ByPath g (put_by a b K D L S)
  by_order true b K D L S f j s o = (
    (λ X m. grind (arith, before_trans)),
    o,
  )
  by_order false true K D L S f j s o = (j tt, s)
  by_order false false K D L S f j s o = o

  put_order : (K : List ℕ) (L : List (List ℕ)) → ByPath g L → ByPath g (put_by_path g K L)
  put_order K [] o = (λ X m. absurd m, tt)
  put_order K (D ∷ L) o =
      by_order (is_before (path g K) (path g D)) (is_before (path g D) (path g K)) K D L (put_by_path g K L)
      (test_before (path g K) (path g D))
      (λ b X m. grind (arith, put_out, test_before))
      (put_order K L o.1) o

  abbrev kept_by : Bool → List ℕ → List (List ℕ) → List (List ℕ)
  kept_by b K S = elim b [ true ↦ put_by_path g K S | false ↦ S ]

  kept_all : (b : Bool) (K : List ℕ) (S : List (List ℕ)) → (T b → MaximalClique g K) → All S → All (kept_by b K S)
  kept_all true K S f j X m = elim (put_out K S X m) [ inl q ↦ subst (λ z. MaximalClique g z) (sym q) (f tt) | inr q ↦ j X q ]
  kept_all false K S f j X m = j X m

  sorted_all : (L : List (List ℕ)) → All (sort_by_path g L)
  sorted_all [] X m = absurd m
  sorted_all (K ∷ L) X m = kept_all (is_maximal_clique g K) K (sort_by_path g L) (test_maximal g law K) (sorted_all L) X m

  kept_order : (b : Bool) (K : List ℕ) (S : List (List ℕ)) → ByPath g S → ByPath g (kept_by b K S)
  kept_order true K S o = put_order K S o
  kept_order false K S o = o

  sorted_order : (L : List (List ℕ)) → ByPath g (sort_by_path g L)
  sorted_order [] = tt
  sorted_order (K ∷ L) = kept_order (is_maximal_clique g K) K (sort_by_path g L) (sorted_order L)

  kept_in : (b : Bool) (K : List ℕ) (S : List (List ℕ)) (X : List ℕ) → All S → MaximalClique g X → ((X ≡ K) × T b) ⊎ Among X S
      → Among X (kept_by b K S)
  kept_in true K S X f c (inl m) =
      subst (λ z. Among z (put_by_path g K S)) (sym m.0) (put_new K S (subst (λ z. MaximalClique g z) m.0 c) f)
  kept_in true K S X f c (inr m) = put_old K S X m
  kept_in false K S X f c (inl m) = absurd m.1
  kept_in false K S X f c (inr m) = m

  sorted_in : (L : List (List ℕ)) (X : List ℕ) → MaximalClique g X → Among X L → Among X (sort_by_path g L)
  sorted_in [] X c m = m
  sorted_in (K ∷ L) X c (inl q) =
      kept_in (is_maximal_clique g K) K (sort_by_path g L) X (sorted_all L) c
      (inl (q, subst (λ z. T (is_maximal_clique g z)) q (maximal_test g law X c)))
  sorted_in (K ∷ L) X c (inr q) = kept_in (is_maximal_clique g K) K (sort_by_path g L) X (sorted_all L) c (inr (sorted_in L X c q))

  pub all_listed : ListsAll g (maximal_cliques g)
  all_listed = record {
    only = sorted_all (subsets g.size);
    every_one = λ K c. sorted_in (subsets g.size) K c (subsets_all g.size K c.clique.sorted c.clique.within);
    order = sorted_order (subsets g.size);
  }

  -- one list only
  one_list : (A B : List (List ℕ)) → ByPath g A → ByPath g B → ((K : List ℕ) → Among K A → Among K B)
      → ((K : List ℕ) → Among K B → Among K A) → A ≡ B
  one_list [] [] a b f j = refl
  one_list [] (y ∷ B) a b f j = absurd (j y (inl refl))
  one_list (x ∷ A) [] a b f j = absurd (f x (inl refl))
  one_list (x ∷ A) (y ∷ B) a b f j =
      let q : x ≡ y = heads (f x (inl refl)) (j y (inl refl)) in
      let t : A ≡ B = one_list A B a.1 b.1 (tail_f q) (tail_g q) in
      cc
    where
      heads : (x ≡ y) ⊎ Among x B → (y ≡ x) ⊎ Among y A → x ≡ y
      heads (inl p) r = p
      heads (inr p) (inl r) = sym r
      heads (inr p) (inr r) = absurd (not_self (path g x) (before_trans (path g x) (path g y) (path g x) (a.0 y r) (b.0 x p)))

      tail_f : x ≡ y → (K : List ℕ) → Among K A → Among K B
      tail_f q K m = grind (arith, not_self)

      tail_g : x ≡ y → (K : List ℕ) → Among K B → Among K A
      tail_g q K m = grind (arith, not_self)

  pub lists_one : (A B : List (List ℕ)) → ListsAll g A → ListsAll g B → A ≡ B
  lists_one A B a b = one_list A B a.order b.order (λ K m. b.every_one K (a.only K m)) (λ K m. a.every_one K (b.only K m))

  order_r : (A B : List (List ℕ)) → ByPath g (A ++ B) → ByPath g B
  order_r [] B o = o
  order_r (D ∷ A) B o = order_r A B o.1

  order_lr : (A B : List (List ℕ)) → ByPath g (A ++ B) → (X Y : List ℕ) → Among X A → Among Y B → Before (path g X) (path g Y)
  order_lr [] B o X Y x y = absurd x
  order_lr (D ∷ A) B o X Y q y = grind (arith, among_r, order_lr A)

  pub some_before : (K : List ℕ) → MaximalClique g K → Before [] (path g K)
  some_before K c = grind (arith, path_some)

  -- what comes first
  pub start : (L : List (List ℕ)) → ListsAll g L → NextAfter g [] (first_set L)
  start L l = grind (arith, some_before, not_self, before_trans)

  -- what comes after a set of the list
  rest : (A : List (List ℕ)) (K : List ℕ) (B : List (List ℕ)) → ListsAll g (A ++ (K ∷ B)) → (D : List ℕ) → MaximalClique g D
      → Before (path g K) (path g D) → Among D B
  rest A K B l D d b =
      elim (among_append A (K ∷ B) D (l.every_one D d)) [
        | inl q ↦
            let a = order_lr A (K ∷ B) l.order D K q (inl refl) in
            absurd (not_self (path g K) (before_trans (path g K) (path g D) (path g K) b a))
        | inr q ↦ grind (arith, not_self)
      ]

  pub along : (A : List (List ℕ)) (K : List ℕ) (B : List (List ℕ)) → ListsAll g (A ++ (K ∷ B))
      → NextAfter g (path g K) (first_set B)
  along A K [] l = λ D c b. rest A K [] l D c b
  along A K (E ∷ B) l =
      let o = order_r A (K ∷ (E ∷ B)) l.order in (
        l.only E (among_r A (K ∷ (E ∷ B)) E (inr (inl refl))),
        o.0 E (inl refl),
        λ D c b j. elim (rest A K (E ∷ B) l D c b) [
          | inl q ↦ not_self (path g E) (subst (λ z. Before (path g z) (path g E)) q j)
          | inr q ↦ not_self (path g E) (before_trans (path g E) (path g D) (path g E) (o.1.0 D q) j)
        ],
      )

  -- what comes next is one set
  pub next_one : (a : List ℕ) (r r' : Option (List ℕ)) → NextAfter g a r → NextAfter g a r' → r ≡ r'
  next_one a r s x y = grind (arith, path_one, neither)
