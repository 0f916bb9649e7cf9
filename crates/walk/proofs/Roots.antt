-- Heads, and the first root from a place on.
use Rattle.std.proofs.Common.{◌≡◌, ℕ, ◌<◌, ◌≤◌, Bool, true, false, not, ◌&&◌, ltb, [], ◌∷◌, Some, None, Option, IsSomeAnd, sym, ap, ◌∙◌, subst, inl, inr, arith}
use Rattle.std.proofs.lemmas.Bool.{lt-ltb, le-ltb}
use Rattle.cliques.specs.Graph.{Graph, Lawful}
use Rattle.cliques.specs.Sets.{every, places, Clique, FirstFrom}
use Rattle.cliques.specs.Completion.{completion, is_head}
use Rattle.cliques.specs.Paths.{LeastFrom}
use Rattle.cliques.proofs.Tests.{lt_or, of_true, of_false}
use Rattle.cliques.proofs.Indices.{single_clique}
use Rattle.cliques.proofs.Nexts.{heads_least, heads_none}
use Rattle.pairs.specs.Tables.{FirstPartner}
use Rattle.completion.specs.declared.standing.Standing.{Standing}
use Rattle.completion.specs.Standings.{standing_of, members_of}
use Rattle.completion.proofs.Lists.{places_yes, places_no}
use Rattle.completion.proofs.Standings.{back}
use Rattle.std.specs.Option.{MatchOption}
use Rattle.walk.specs.Search.{found_set}

module _ (g : Graph) (law : Lawful g) where
  module _ (h : ℕ) (place : h < g.size) where
    abbrev test : ℕ → Bool
    test w = not (g.partners h w)

    is_every : is_head g h ≡ every test (places h)
    is_every = ap (λ (b : Bool). b && every test (places h)) (lt-ltb h g.size place)

    head_none : FirstPartner g h 0 None → true ≡ is_head g h
    head_none f = sym (is_every ∙ places_yes test h (λ j k. ap not (f j (omega arith))))

    head_some : (w : ℕ) → FirstPartner g h 0 (Some w) → ltb h w ≡ is_head g h
    head_some w f =
        elim (lt_or h w) [
          | inl l ↦ lt-ltb h w l ∙ sym (is_every ∙ places_yes test h (λ j k. ap not (f.2 j (omega arith) (omega arith))))
          | inr l ↦
              let ne : w ≡ h → ⊥ = λ q. of_false (g.partners h h) (law.apart h) (of_true (g.partners h h) (subst (λ z. g.partners h z ≡ true) q f.1)) in
              le-ltb h w l ∙ sym (is_every ∙ places_no test h w (omega arith) (ap not f.1))
        ]

    -- the first partner, or none, tested
    pub head_is : (Q : ℕ → Type 0) (o : Option ℕ) (r : Bool) → FirstPartner g h 0 o → MatchOption o (r ≡ true) Q
        → ((w : ℕ) → Q w → r ≡ ltb h w) → r ≡ is_head g h
    head_is Q None r f m same = m ∙ head_none f
    head_is Q (Some w) r f m same = same w m ∙ head_some w f

  -- the first head among the places below n
  pub head_found : (w n : ℕ) (o : Option ℕ) → n ≡ g.size
      → MatchOption o ((k : ℕ) → w ≤ k → k < n → k < g.size → is_head g k ≡ false)
      (λ h. (w ≤ h) × (h < n) × (h < g.size → is_head g h ≡ true) × ((k : ℕ) → w ≤ k → k < h → k < g.size → is_head g k ≡ false)) → FirstFrom (is_head g) g.size w o
  head_found w n None q f = λ u a b. f u a (omega arith) b
  head_found w n (Some h) q f =
      let l : h < g.size = let z = f.1 in omega arith in
      (f.0, l, f.2 l, λ u a b. f.3 u a b (omega arith))

  -- the completion of the first head, kept as s
  root_least : (w h : ℕ) (s : Standing) → FirstFrom (is_head g) g.size w (Some h)
      → (Clique g (h ∷ []) → s ≡ standing_of (completion g (h ∷ []))) → LeastFrom g (w ∷ []) (Some (members_of s))
  root_least w h s a p =
      subst (λ X. LeastFrom g (w ∷ []) (Some X)) (sym (back s (completion g (h ∷ [])) (p (single_clique g law h a.1)))) (heads_least g law w h a)

  pub root_found : (w : ℕ) (Q : ℕ → Standing → Type 0) (o : Option ℕ) (r : Option Standing) → FirstFrom (is_head g) g.size w o
      → MatchOption o (r ≡ None) (λ h. IsSomeAnd r (Q h)) → ((h : ℕ) (s : Standing) → Q h s → Clique g (h ∷ []) → s ≡ standing_of (completion g (h ∷ [])))
      → LeastFrom g (w ∷ []) (found_set r)
  root_found w Q None r a m same = subst (λ x. LeastFrom g (w ∷ []) (found_set x)) (sym m) (heads_none g law w a)
  root_found w Q (Some h) None a m same = absurd m
  root_found w Q (Some h) (Some s) a m same = root_least w h s a (same h s m)
