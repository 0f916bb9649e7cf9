-- The list of all maximal cliques cut at the pin: what follows the pin there is what comes next, and all that comes after.
use Rattle.std.proofs.Common.{◌≡◌, ℕ, T, List, [], ◌∷◌, ◌++◌, Some, None, Option, sym, refl, ◌∙◌, inl, inr, append_assoc}
use Rattle.std.proofs.lemmas.Bool.{cond-true, cond-false, cond_both}
use Rattle.cliques.specs.Graph.{Graph, Lawful}
use Rattle.cliques.specs.Sets.{same, MaximalClique}
use Rattle.cliques.specs.Paths.{Before, NextAfter, MayStand, path, standing_path}
use Rattle.cliques.specs.Listing.{Among, ByPath, ListsAll, first_set}
use Rattle.cliques.proofs.Tests.{or_split, or_l, or_r, is_true, is_false, of_true, of_false}
use Rattle.cliques.proofs.Rising.{same_eq, same_refl, eq_same}
use Rattle.cliques.proofs.Order.{before_trans, not_self}
use Rattle.cliques.proofs.Listings.{among_append, among_r, some_before, start, along, next_one}
use Rattle.model.specs.Model.{following, remainder, listed, Remains}

-- the test whether a set is one of the list
pub listed_among : (K : List ℕ) (L : List (List ℕ)) → T (listed K L) → Among K L
listed_among K [] t = t
listed_among K (D ∷ L) t =
    elim (or_split (same K D) (listed K L) t) [ inl a ↦ inl (same_eq K D a) | inr a ↦ inr (listed_among K L a) ]

pub among_listed : (K : List ℕ) (L : List (List ℕ)) → Among K L → T (listed K L)
among_listed K [] m = m
among_listed K (D ∷ L) (inl q) = or_l (same K D) (listed K L) (eq_same K D q)
among_listed K (D ∷ L) (inr q) = or_r (same K D) (listed K L) (among_listed K L q)

-- the list is some sets, then K, then B
abbrev Cut : List ℕ → List (List ℕ) → List (List ℕ) → Type 0
Cut K L B = (A : List (List ℕ)) × (L ≡ A ++ (K ∷ B))

cut : (K : List ℕ) (L : List (List ℕ)) → Among K L → Cut K L (following K L)
cut K [] m = absurd m
cut K (D ∷ L) m =
    cond_both (same K D) L (following K L) (Cut K (D ∷ L))
    (λ t. ([], cc (same_eq K D (of_true (same K D) t))))
    (λ t. elim m [
      | inl q ↦ absurd (of_false (same K D) t (eq_same K D q))
      | inr q ↦ let c = cut K L q in (D ∷ c.0, cc)
    ])

following_at : (A : List (List ℕ)) (K : List ℕ) (B : List (List ℕ)) → (Among K A → ⊥) → following K (A ++ (K ∷ B)) ≡ B
following_at [] K B out = cond-true (same K K) B (following K B) (is_true (same K K) (same_refl K))
following_at (D ∷ A) K B out =
    cond-false (same K D) (A ++ (K ∷ B)) (following K (A ++ (K ∷ B))) (is_false (same K D) (λ t. out (inl (same_eq K D t))))
    ∙ following_at A K B (λ m. out (inr m))

some_first : (B : List (List ℕ)) (D : List ℕ) → Some D ≡ first_set B → (C : List (List ℕ)) × (B ≡ D ∷ C)
some_first [] D q = cc
some_first (E ∷ C) D q = (C, cc)

none_first : (B : List (List ℕ)) → None ≡ first_set B → B ≡ []
none_first [] q = refl
none_first (E ∷ C) q = cc

module _ (g : Graph) (law : Lawful g) where
  -- the two parts of a list by path
  order_back : (A B : List (List ℕ)) → ByPath g (A ++ B) → ByPath g B
  order_back [] B o = o
  order_back (D ∷ A) B o = order_back A B o.1

  front_before : (A : List (List ℕ)) (K : List ℕ) (B : List (List ℕ)) → ByPath g (A ++ (K ∷ B)) → (X : List ℕ) → Among X A
      → Before (path g X) (path g K)
  front_before [] K B o X m = absurd m
  front_before (D ∷ A) K B o X (inl q) = rw q (o.0 K (among_r A (K ∷ B) K (inl refl)))
  front_before (D ∷ A) K B o X (inr q) = front_before A K B o.1 X q

  -- where a walk may stand
  pub may_stand : (K : List ℕ) → MaximalClique g K → MayStand g K
  may_stand [] c = tt
  may_stand (x ∷ K) c = c

  pub next_stands : (a D : List ℕ) → NextAfter g a (Some D) → MayStand g D
  next_stands a D x = may_stand D x.0

  module _ (L : List (List ℕ)) (l : ListsAll g L) where
    remainder_of : (D : List ℕ) → MaximalClique g D → remainder L D ≡ following D L
    remainder_of [] c = absurd c.clique.nonempty
    remainder_of (x ∷ D) c = refl

    -- the remainder ends the list
    ends : (S : List ℕ) → MayStand g S → (A : List (List ℕ)) × (L ≡ A ++ remainder L S)
    ends [] m = ([], refl)
    ends (x ∷ S) m =
        let c = cut (x ∷ S) L (l.every_one (x ∷ S) m) in
        (c.0 ++ ((x ∷ S) ∷ []), c.1 ∙ sym (append_assoc c.0 ((x ∷ S) ∷ []) (following (x ∷ S) L)))

    comes_next : (S : List ℕ) → MayStand g S → NextAfter g (standing_path g S) (first_set (remainder L S))
    comes_next [] m = start g law L l
    comes_next (x ∷ S) m =
        let c = cut (x ∷ S) L (l.every_one (x ∷ S) m) in
        along g law c.0 (x ∷ S) (following (x ∷ S) L) (rw c.1 at l)

    -- what comes next is the first set that remains
    pub next_first : (S : List ℕ) (r : Option (List ℕ)) → MayStand g S → NextAfter g (standing_path g S) r → r ≡ first_set (remainder L S)
    next_first S r m x = next_one g law (standing_path g S) r (first_set (remainder L S)) x (comes_next S m)

    pub remainder_some : (S D : List ℕ) → MayStand g S → NextAfter g (standing_path g S) (Some D) → remainder L S ≡ D ∷ remainder L D
    remainder_some S D m x =
        let a = ends S m in
        let f = some_first (remainder L S) D (next_first S (Some D) m x) in
        let q : L ≡ a.0 ++ (D ∷ f.0) = cc in
        let out : Among D a.0 → ⊥ =
        λ k. not_self (path g D) (front_before a.0 D f.0 (rw q at l.order) D k) in
        cc (remainder_of D x.0, following_at a.0 D f.0 out)

    pub remainder_none : (S : List ℕ) → MayStand g S → NextAfter g (standing_path g S) None → remainder L S ≡ []
    remainder_none S m x = none_first (remainder L S) (next_first S None m x)

    pub remains : (pin : List ℕ) → MayStand g pin → Remains g pin (remainder L pin)
    remains [] m = record {
      only = λ K a. (l.only K a, some_before g law K (l.only K a));
      every_one = λ K k b. l.every_one K k;
      order = l.order;
    }
    remains (x ∷ S) m =
        let c = cut (x ∷ S) L (l.every_one (x ∷ S) m) in
        let all : ByPath g (c.0 ++ ((x ∷ S) ∷ following (x ∷ S) L)) = rw c.1 at l.order in
        let o = order_back c.0 ((x ∷ S) ∷ following (x ∷ S) L) all in
        record {
          only = λ K a. (
            l.only K (rw c.1 (among_r c.0 ((x ∷ S) ∷ following (x ∷ S) L) K (inr a))),
            o.0 K a,
          );
          every_one = λ K k b.
              let a : Among K (c.0 ++ ((x ∷ S) ∷ following (x ∷ S) L)) = rw c.1 at (l.every_one K k) in
              elim (among_append c.0 ((x ∷ S) ∷ following (x ∷ S) L) K a) [
                | inl q ↦
                    let j = front_before c.0 (x ∷ S) (following (x ∷ S) L) all K q in
                    absurd (not_self (path g K) (before_trans (path g K) (path g (x ∷ S)) (path g K) j b))
                | inr q ↦ elim q [
                  | inl z ↦ absurd (not_self (path g (x ∷ S)) (rw z at b))
                  | inr z ↦ z
                ]
              ];
          order = o.1;
        }
