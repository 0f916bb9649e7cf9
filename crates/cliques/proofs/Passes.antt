-- The completion appended in rising order.
use Rattle.std.proofs.Common.{◌≡◌, ℕ, zero, suc, ◌<◌, ◌≤◌, Bool, true, false, cond, ◌&&◌, ◌||◌, T, List, [], ◌∷◌, ◌++◌, length, sym, ◌∙◌, subst, inl, inr, arith, length-append}
use Rattle.cliques.specs.Graph.{Graph, Lawful}
use Rattle.cliques.specs.Sets.{has, In, below, Rising, partner_of_all, Clique}
use Rattle.cliques.specs.Completion.{completion}
use Rattle.cliques.specs.Shortcuts.{append_pass}
use Rattle.cliques.proofs.Tests.{or_l, or_r, and_mk, dec}
use Rattle.cliques.proofs.Members.{snoc_out, partner_at, partner_all, below_in, below_out}
use Rattle.cliques.proofs.Rising.{snoc_rising, below_more, below_same, below_none, below_all}
use Rattle.cliques.proofs.Completions.{IsCompletion, completion_is, completion_rising, completion_clique}

module _ (g : Graph) (law : Lawful g) (X : List ℕ) (f : Clique g X) where
  abbrev F : List ℕ
  F = completion g X

  is_f : IsCompletion g X F
  is_f = completion_is g law X f

  -- the test of one place, from X and what was written so far
  abbrev pub joins : ℕ → Bool
  joins k = has k X || (partner_of_all g k X && partner_of_all g k (below k F))

  pub joins_in : (k : ℕ) → T (joins k) → In k F
  joins_in k t = grind (arith, is_f, partner_at, below_in)

  pub in_joins : (k : ℕ) → In k F → T (joins k)
  in_joins k m =
      elim (dec (has k X)) [
        | inl a ↦ or_l (has k X) (partner_of_all g k X && partner_of_all g k (below k F)) a
        | inr a ↦ or_r (has k X) (partner_of_all g k X && partner_of_all g k (below k F))
            (and_mk (partner_of_all g k X) (partner_of_all g k (below k F))
            (partner_all g k X (λ u um. is_f.pairs k u m (is_f.sub u um) (λ q. a (subst (λ y. In y X) (sym q) um))))
            (partner_all g k (below k F) (λ u um. let b = below_out k F u um in is_f.pairs k u m b.0 (λ q. absurd (omega arith)))))
      ]

  turn_by : (b : Bool) (k : ℕ) → (T b → In k F) → (In k F → T b)
      → below (suc k) F ≡ cond b (below k F ++ (k ∷ [])) (below k F)
  turn_by true k j h = below_more k F (completion_rising g law X f) (j tt)
  turn_by false k j h = below_same k F (completion_rising g law X f) h

  pub completion_turn : (k : ℕ) → below (suc k) F ≡ cond (joins k) (below k F ++ (k ∷ [])) (below k F)
  completion_turn k = turn_by (joins k) k (joins_in k) (in_joins k)

  pub completion_end : below g.size F ≡ F
  completion_end = below_all g.size F (completion_rising g law X f) (completion_clique g law X f).within

  pub pass_below : (k : ℕ) → append_pass g k X ≡ below k F
  pass_below zero = sym (below_none F (completion_rising g law X f))
  pass_below (suc k) = grind (arith, completion_turn, pass_below k)

  -- the pass over all places gives the completion
  pub pass_is : append_pass g g.size X ≡ F
  pass_is = pass_below g.size ∙ completion_end

-- a pass over k places gives at most k
pass_by : (b : Bool) (k : ℕ) (G : List ℕ) → length G ≤ k → length (cond b (G ++ (k ∷ [])) G) ≤ suc k
pass_by true k G h = let q = length-append G (k ∷ []) in omega arith
pass_by false k G h = omega arith

pub pass_long : (g : Graph) (k : ℕ) (X : List ℕ) → length (append_pass g k X) ≤ k
pass_long g zero X = omega arith
pass_long g (suc k) X = grind (arith, pass_by, pass_long g k)

-- whatever the list is, it rises, and holds places below k
pass_in : (b : Bool) (k : ℕ) (G : List ℕ) → ((w : ℕ) → In w G → w < k) → (w : ℕ) → In w (cond b (G ++ (k ∷ [])) G) → w < suc k
pass_in true k G f w m = elim (snoc_out G k w m) [ inl a ↦ let h = f w a in omega arith | inr q ↦ omega arith ]
pass_in false k G f w m = let h = f w m in omega arith

pub pass_within : (g : Graph) (k : ℕ) (X : List ℕ) (w : ℕ) → In w (append_pass g k X) → w < k
pass_within g zero X w m = absurd m
pass_within g (suc k) X w m =
    let G = append_pass g k X in
    pass_in (has k X || (partner_of_all g k X && partner_of_all g k G)) k G (pass_within g k X) w m

pass_rise : (b : Bool) (k : ℕ) (G : List ℕ) → Rising G → ((w : ℕ) → In w G → w < k) → Rising (cond b (G ++ (k ∷ [])) G)
pass_rise true k G r f = snoc_rising G k r f
pass_rise false k G r f = r

pub pass_rising : (g : Graph) (k : ℕ) (X : List ℕ) → Rising (append_pass g k X)
pass_rising g zero X = tt
pass_rising g (suc k) X =
    let G = append_pass g k X in
    pass_rise (has k X || (partner_of_all g k X && partner_of_all g k G)) k G (pass_rising g k X) (pass_within g k X)
