-- One place more: the completion and the largest barrier as they are computed.
use Rattle.std.proofs.Common.{◌≡◌, ℕ, ◌+◌, ◌<◌, max, Bool, true, false, cond, ◌&&◌, ◌||◌, ltb, List, [], ◌∷◌, ◌++◌, take, inl, inr, sym, ap, ◌∙◌, add-one, arith}
use Rattle.std.proofs.lemmas.List.{length_push, take_all}
use Rattle.std.proofs.lemmas.Bool.{lt-ltb, le-ltb, cond-true, cond-false, cases_lt}
use Rattle.cliques.specs.Graph.{Graph}
use Rattle.cliques.specs.Sets.{has, partner_of_all}
use Rattle.cliques.specs.Shortcuts.{append_pass, barrier, largest_barrier}
use Rattle.cliques.proofs.Passes.{pass_long}
use Rattle.completion.specs.declared.standing.Standing.{Standing}
use Rattle.completion.specs.Standings.{standing_of, members_of}
use Rattle.completion.proofs.Standings.{again, back}

-- the barrier of one place more
module _ (g : Graph) (K : List ℕ) (k i b : ℕ) (p : i ≡ largest_barrier g k K) (q : b ≡ barrier g K k) where
  larger : (a c : ℕ) → max a c ≡ cond (ltb a c) c a
  larger a c =
      elim (cases_lt a c) [
        | inl h ↦ let e : max a c ≡ c = omega arith in e ∙ sym (cond-true (ltb a c) c a (lt-ltb a c h))
        | inr h ↦ let e : max a c ≡ a = omega arith in e ∙ sym (cond-false (ltb a c) c a (le-ltb a c h))
      ]

  pub largest_more : max i b ≡ largest_barrier g (k + 1) K
  largest_more =
      ap (λ (y : ℕ). max y b) p ∙ (ap (max (largest_barrier g k K)) q ∙ (larger (largest_barrier g k K) (barrier g K k) ∙ ap (λ (y : ℕ). largest_barrier g y K) (sym (add-one k))))

module _ (g : Graph) (X : List ℕ) (k : ℕ) (s : Standing) (p : s ≡ standing_of (append_pass g k X)) where
  abbrev G : List ℕ
  G = append_pass g k X

  abbrev test : List ℕ → Bool
  test L = has k X || (partner_of_all g k X && partner_of_all g k L)

  abbrev next : Bool → List ℕ
  next b = cond b (G ++ (k ∷ [])) G

  on : (b : Bool) (L : List ℕ) → L ≡ members_of s → b ≡ test L → next b ≡ append_pass g (k + 1) X
  on b L l q = ap next (q ∙ ap test (l ∙ back s G p)) ∙ ap (λ (y : ℕ). append_pass g y X) (sym (add-one k))

  pub pass_yes : k < 256 → (L : List ℕ) (t : Standing) → L ≡ members_of s → true ≡ test L
      → (s ≡ standing_of (members_of s) → t ≡ standing_of (take 256 (members_of s ++ (k ∷ [])))) → t ≡ standing_of (append_pass g (k + 1) X)
  pass_yes h L t l q z =
      let a = pass_long g k X in
      let b = length_push G k in
      z (again s G p)
      ∙ (ap (λ (y : List ℕ). standing_of (take 256 (y ++ (k ∷ [])))) (back s G p)
      ∙ ap standing_of (take_all 256 (G ++ (k ∷ [])) (omega arith) ∙ on true L l q))

  pub pass_no : (L : List ℕ) (t : Standing) → L ≡ members_of s → false ≡ test L → t ≡ s → t ≡ standing_of (append_pass g (k + 1) X)
  pass_no L t l q z = z ∙ (p ∙ ap standing_of (on false L l q))
