-- What a completion is, without its order of work.
use Rattle.std.proofs.Common.{◌≡◌, ℕ, zero, suc, ◌<◌, Bool, true, false, cond, T, ◌⊎◌, List, sym, subst, inl, inr, arith}
use Rattle.cliques.specs.Graph.{Graph, Lawful}
use Rattle.cliques.specs.Sets.{In, Sub, Rising, insert, smallest, partner_of_all, Pairwise, Clique, MaximalClique}
use Rattle.cliques.specs.Completion.{completion_after, completion}
use Rattle.cliques.proofs.Tests.{lt_or}
use Rattle.cliques.proofs.Laws.{partners_apart, partners_within}
use Rattle.cliques.proofs.Members.{partner_at, partner_all, insert_out, insert_new, insert_old}
use Rattle.cliques.proofs.Rising.{ext, insert_rising, smallest_in}

-- one place gone through
step_out : (b : Bool) (k : ℕ) (G : List ℕ) (w : ℕ) → In w (cond b (insert k G) G) → In w G ⊎ ((w ≡ k) × T b)
step_out true k G w m = elim (insert_out k G w m) [ inl q ↦ inr (q, tt) | inr q ↦ inl q ]
step_out false k G w m = inl m

step_old : (b : Bool) (k : ℕ) (G : List ℕ) (w : ℕ) → In w G → In w (cond b (insert k G) G)
step_old true k G w m = insert_old k G w m
step_old false k G w m = m

step_new : (b : Bool) (k : ℕ) (G : List ℕ) → T b → In k (cond b (insert k G) G)
step_new true k G t = insert_new k G
step_new false k G t = absurd t

step_rising : (b : Bool) (k : ℕ) (G : List ℕ) → Rising G → (T b → In k G → ⊥) → Rising (cond b (insert k G) G)
step_rising true k G r h = insert_rising k G r (h tt)
step_rising false k G r h = r

-- every place that is a partner of all of X and of all members below it is a member
abbrev pub Greedy : Graph → List ℕ → List ℕ → Type 0
Greedy g X G = (w : ℕ) → ((x : ℕ) → In x X → T (g.partners w x)) → ((u : ℕ) → In u G → u < w → T (g.partners w u)) → In w G

-- G is the completion of X: it holds X, every two members are partners, and nothing that could be added was left out
pub record IsCompletion (g : Graph) (X G : List ℕ) : Type 0 where
  pub sub : Sub X G
  pub pairs : Pairwise g G
  pub greedy : Greedy g X G

-- a set between X and its completion has the same completion
pub widen : (g : Graph) (X Y G : List ℕ) → IsCompletion g X G → Sub X Y → Sub Y G → IsCompletion g Y G
widen g X Y G f s t = record { sub = t; pairs = f.pairs; greedy = λ w a b. f.greedy w (λ x m. a x (s x m)) b }

unique_below : (g : Graph) (X G H : List ℕ) → IsCompletion g X G → IsCompletion g X H → (k w : ℕ) → w < k
    → (In w G → In w H) × (In w H → In w G)
unique_below g X G H f j zero w h = absurd (omega arith)
unique_below g X G H f j (suc k) w h = grind (arith, unique_below g X G H f j k)

pub unique : (g : Graph) (X G H : List ℕ) → IsCompletion g X G → IsCompletion g X H → Rising G → Rising H → G ≡ H
unique g X G H f j r s =
    ext G H r s (λ w. (unique_below g X G H f j (suc w) w (omega arith)).0) (λ w. (unique_below g X G H f j (suc w) w (omega arith)).1)

module _ (g : Graph) (law : Lawful g) where
  to_sub : (k : ℕ) (X : List ℕ) → Sub X (completion_after g k X)
  to_sub zero X w m = m
  to_sub (suc k) X w m = step_old (partner_of_all g k (completion_after g k X)) k (completion_after g k X) w (to_sub k X w m)

  to_from : (k : ℕ) (X : List ℕ) (w : ℕ) → In w (completion_after g k X) → In w X ⊎ (w < k)
  to_from zero X w m = inl m
  to_from (suc k) X w m =
      elim (step_out (partner_of_all g k (completion_after g k X)) k (completion_after g k X) w m) [
        | inl q ↦ elim (to_from k X w q) [ inl a ↦ inl a | inr a ↦ inr (omega arith) ]
        | inr q ↦ inr (omega (arith, q.0))
      ]

  to_pairs : (k : ℕ) (X : List ℕ) → Pairwise g X → Pairwise g (completion_after g k X)
  to_pairs zero X c u v um vm d = c u v um vm d
  to_pairs (suc k) X c u v um vm d = grind (arith, step_out, partner_at, to_pairs k)

  to_greedy : (k : ℕ) (X : List ℕ) (w : ℕ) → w < k → ((x : ℕ) → In x X → T (g.partners w x))
      → ((u : ℕ) → In u (completion_after g k X) → u < w → T (g.partners w u)) → In w (completion_after g k X)
  to_greedy zero X w h a b = absurd (omega arith)
  to_greedy (suc k) X w h a b =
      elim (lt_or w k) [
        | inl l ↦ old w (to_greedy k X w l a (λ u m. b u (old u m)))
        | inr l ↦
            let q : w ≡ k = omega arith in
            subst (λ z. In z (completion_after g (suc k) X)) (sym q)
            (step_new (partner_of_all g k G) k G
            (partner_all g k G (λ u m. subst (λ z. T (g.partners z u)) q (passes q u m (to_from k X u m)))))
      ]
    where
      G : List ℕ
      G = completion_after g k X

      old : (u : ℕ) → In u G → In u (completion_after g (suc k) X)
      old u m = step_old (partner_of_all g k G) k G u m

      passes : w ≡ k → (u : ℕ) → In u G → In u X ⊎ (u < k) → T (g.partners w u)
      passes q u m (inl x) = a u x
      passes q u m (inr x) = b u (old u m) (omega arith)

  to_rising : (k : ℕ) (X : List ℕ) → Rising X → Rising (completion_after g k X)
  to_rising zero X r = r
  to_rising (suc k) X r =
      step_rising (partner_of_all g k (completion_after g k X)) k (completion_after g k X) (to_rising k X r)
      (λ t m. partners_apart g law k (partner_at g k (completion_after g k X) k t m))

  pub completion_is : (X : List ℕ) → Clique g X → IsCompletion g X (completion g X)
  completion_is X f = record {
    sub = to_sub g.size X;
    pairs = to_pairs g.size X f.pairwise;
    greedy = λ w a b. to_greedy g.size X w (partners_within g law w (smallest X) (a (smallest X) f.nonempty)) a b;
  }

  pub completion_rising : (X : List ℕ) → Clique g X → Rising (completion g X)
  completion_rising X f = to_rising g.size X f.sorted

  -- a list that is a completion of X is the completion of X
  pub completion_from : (X G : List ℕ) → Clique g X → IsCompletion g X G → Rising G → completion g X ≡ G
  completion_from X G f j r = unique g X (completion g X) G (completion_is X f) j (completion_rising X f) r

  -- the completion of a clique is a maximal clique
  pub completion_clique : (X : List ℕ) → Clique g X → Clique g (completion g X)
  completion_clique X f = grind (arith, completion_rising, smallest_in, to_sub, to_from, to_pairs)

  pub completion_maximal : (X : List ℕ) → Clique g X → MaximalClique g (completion g X)
  completion_maximal X f = record {
    clique = completion_clique X f;
    maximal = λ w out all. out ((completion_is X f).greedy w (λ x m. all x (to_sub g.size X x m)) (λ u m h. all u m));
  }

  pub maximal_itself : (K : List ℕ) → MaximalClique g K → IsCompletion g K K
  maximal_itself K c = grind arith

  pub completion_itself : (K : List ℕ) → MaximalClique g K → completion g K ≡ K
  completion_itself K c = completion_from K K c.clique (maximal_itself K c) c.clique.sorted

  -- completion as an equation, and back
  pub completion_of : (X G : List ℕ) → Clique g X → completion g X ≡ G → IsCompletion g X G
  completion_of X G f q = subst (λ z. IsCompletion g X z) q (completion_is X f)

  -- a part of a clique with a member
  pub part_clique : (X Y : List ℕ) → Clique g X → Rising Y → Sub Y X → (w : ℕ) → In w Y → Clique g Y
  part_clique X Y f r s w m = grind arith

  -- a set between X and its completion has the same completion
  pub between : (X Y G : List ℕ) → Clique g X → Clique g Y → Rising G → completion g X ≡ G → Sub X Y → Sub Y G
      → completion g Y ≡ G
  between X Y G f j r q s t = completion_from Y G j (widen g X Y G (completion_of X G f q) s t) r
