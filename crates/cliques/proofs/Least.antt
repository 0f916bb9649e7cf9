-- The completion is the lexicographically least maximal clique that holds the clique.
use Rattle.std.proofs.Common.{◌≡◌, ℕ, ◌<◌, ◌⊎◌, List, [], ◌∷◌, sym, subst, inl, inr, arith}
use Rattle.cliques.specs.Graph.{Graph, Lawful}
use Rattle.cliques.specs.Sets.{In, Sub, Rising, Precedes, Clique, MaximalClique}
use Rattle.cliques.specs.Completion.{completion}
use Rattle.cliques.proofs.Tests.{lt_or}
use Rattle.cliques.proofs.Members.{in_cons, in_here, in_there}
use Rattle.cliques.proofs.Rising.{rising_head, rising_tail, ext, smallest_le}
use Rattle.cliques.proofs.Completions.{IsCompletion, completion_is, completion_maximal}

-- two lists: one begins the other, or there is a first difference
compared : (A B : List ℕ) → (Sub A B ⊎ Sub B A) ⊎ (Precedes A B ⊎ Precedes B A)
compared [] B = inl (inl (λ w m. absurd m))
compared (x ∷ A) [] = inl (inr (λ w m. absurd m))
compared (x ∷ A) (y ∷ B) =
    elim (lt_or x y) [
      | inl h ↦ inr (inl (inl h))
      | inr h ↦ elim (lt_or y x) [
        | inl k ↦ inr (inr (inl k))
        | inr k ↦ let q : x ≡ y = omega arith in elim (compared A B) [
          | inl a ↦ elim a [ inl s ↦ inl (inl (longer x y A B q s)) | inr s ↦ inl (inr (longer y x B A (sym q) s)) ]
          | inr a ↦ elim a [ inl s ↦ inr (inl (inr (q, s))) | inr s ↦ inr (inr (inr (sym q, s))) ]
        ]
      ]
    ]
  where
    longer : (x y : ℕ) (A B : List ℕ) → x ≡ y → Sub A B → Sub (x ∷ A) (y ∷ B)
    longer x y A B q s w m =
        grind (arith, in_cons, in_here, in_there)

-- the first difference is a member of the list that comes first, and below it that list holds what the other holds
abbrev Difference : List ℕ → List ℕ → Type 0
Difference A B = (w : ℕ) × In w A × (In w B → ⊥) × ((u : ℕ) → In u B → u < w → In u A)

difference : (A B : List ℕ) → Rising A → Rising B → Precedes A B → Difference A B
difference [] B r s p = absurd p
difference (x ∷ A) [] r s p = absurd p
difference (x ∷ A) (y ∷ B) r s (inl h) = (
  x,
  in_here x A,
  (λ m. let k = smallest_le (y ∷ B) s x m in omega arith),
  (λ u m l. let k = smallest_le (y ∷ B) s u m in absurd (omega arith)),
)
difference (x ∷ A) (y ∷ B) r s (inr h) =
    let q = h.0 in
    let d = difference A B (rising_tail x A r) (rising_tail y B s) h.1 in
    let l = rising_head x A r d.0 d.1 in (
      d.0,
      in_there d.0 x A d.1,
      (λ m. elim (in_cons d.0 y B m) [ inl a ↦ omega arith | inr a ↦ d.2 a ]),
      (λ u m k. grind (arith, in_cons, in_here, in_there)),
    )

module _ (g : Graph) (law : Lawful g) where
  -- a maximal clique that lies in another is the other
  pub maximal_sub : (K D : List ℕ) → MaximalClique g K → MaximalClique g D → Sub K D → K ≡ D
  maximal_sub K D c d s = grind (arith, ext)

  pub completion_least : (X K : List ℕ) → Clique g X → MaximalClique g K → Sub X K
      → (completion g X ≡ K) ⊎ Precedes (completion g X) K
  completion_least X K f c s =
      elim (compared J K) [
        | inl a ↦ elim a [ inl b ↦ inl (maximal_sub J K d c b) | inr b ↦ inl (sym (maximal_sub K J c d b)) ]
        | inr a ↦ elim a [ inl b ↦ inr b | inr b ↦ absurd (later (difference K J c.clique.sorted d.clique.sorted b)) ]
      ]
    where
      J : List ℕ
      J = completion g X

      d : MaximalClique g J
      d = completion_maximal g law X f

      is : IsCompletion g X J
      is = completion_is g law X f

      later : Difference K J → ⊥
      later p =
          let w = p.0 in
          p.2 (is.greedy w
          (λ x m. c.clique.pairwise w x p.1 (s x m) (λ q. p.2 (subst (λ z. In z J) (sym q) (is.sub x m))))
          (λ u m h. c.clique.pairwise w u p.1 (p.3 u m h) (λ q. absurd (omega arith))))
