-- Each call on a walk answers and moves as the model.
use Rattle.std.proofs.Common.{◌≡◌, ℕ, not, T, List, Some, None, Ok, Err, Option, Result, sym, refl, ◌∙◌, inl, inr, T_not}
use lib.Dec.{not_T}
use Rattle.refusal.specs.declared.Refusal.{Refusal}
use Rattle.cliques.specs.Graph.{Graph, Lawful}
use Rattle.cliques.specs.Sets.{has, every, places, partner_of_all, MaximalClique}
use Rattle.cliques.specs.Paths.{MayStand}
use Rattle.cliques.specs.Listing.{ListsAll}
use Rattle.cliques.proofs.Tests.{dec, both_same, is_false}
use Rattle.cliques.proofs.Laws.{partners_apart}
use Rattle.cliques.proofs.Members.{every_of, partner_at}
use Rattle.completion.specs.Checks.{can_grow, set_fault, maximal_fault}
use Rattle.completion.proofs.Sound.{maximal_of}
use Rattle.model.specs.declared.call.Call.TheVariants.{Step, Read, Resume}
use Rattle.model.specs.Steps.{StepsTo, reading, resumed}
use Rattle.model.specs.Model.{listed, counted, unlisted}
use Rattle.model.specs.Obeys.{Obeys, resume_answer}
use Rattle.model.proofs.Remainders.{listed_among, among_listed, may_stand, next_first}

module _ (g : Graph) (law : Lawful g) where
  -- a maximal clique cannot grow
  cannot_grow : (K : List ℕ) → MaximalClique g K → T (can_grow g K) → ⊥
  cannot_grow K c t =
      T_not (every (λ w. not (partner_of_all g w K)) (places g.size)) t
      (every_of (λ w. not (partner_of_all g w K)) (places g.size) (λ w _. not_T (partner_of_all g w K) (λ p.
      elim (dec (has w K)) [
        | inl h ↦ partners_apart g law w (partner_at g w K w p h)
        | inr h ↦ c.maximal w h (λ u m. partner_at g w K u p m)
      ])))

  module _ (L : List (List ℕ)) (l : ListsAll g L) where
    -- a list that passes as a clique can grow exactly where it is not in the list
    grows_unlisted : (X : List ℕ) → set_fault g X ≡ None → can_grow g X ≡ not (listed X L)
    grows_unlisted X q =
        both_same (can_grow g X) (not (listed X L))
        (λ t. not_T (listed X L) (λ s. cannot_grow X (l.only X (listed_among X L s)) t))
        (λ t. elim (dec (can_grow g X)) [
          | inl s ↦ s
          | inr s ↦
              let passes : maximal_fault g X ≡ None = cc (q, is_false (can_grow g X) s) in
              absurd (T_not (listed X L) t (among_listed X L (l.every_one X (maximal_of g law X passes))))
        ])

    same_fault : (X : List ℕ) → maximal_fault g X ≡ unlisted g L X
    same_fault X = go (set_fault g X) refl
      where
        go : (o : Option Refusal) → set_fault g X ≡ o → maximal_fault g X ≡ unlisted g L X
        go (Some r) q = cc
        go None q = cc (grows_unlisted X q)

  pub step_obeys : (S : List ℕ) (r : Result ℕ Refusal) (D X : List ℕ) → MayStand g S → StepsTo g S r D
      → Obeys g S (record { call = Step; space = X }) (record { call = Step; answer = Some (counted r); space = X }) D
  step_obeys S (Ok count) D X m x = record {
    stands = may_stand g law D x.1.0;
    tells = λ L l. cc (x.0, next_first g law L l S (Some D) m x.1);
    moves = λ L l. cc (next_first g law L l S (Some D) m x.1);
  }
  step_obeys S (Err refusal) D X m x = record {
    stands = rw x.1 m;
    tells = λ L l. cc (x.0, next_first g law L l S None m x.2);
    moves = λ L l. cc (x.1, next_first g law L l S None m x.2);
  }

  pub read_obeys : (S out : List ℕ) (r : Result ℕ Refusal) (space : List ℕ) → MayStand g S → r ≡ (reading S out).answer
      → space ≡ (reading S out).space
      → Obeys g S (record { call = Read; space = out }) (record { call = Read; answer = Some (counted r); space = space }) S
  read_obeys S out r space m p q = record { stands = m; tells = λ L l. cc; moves = λ L l. refl }

  pub resume_obeys : (S X : List ℕ) (fault : Option Refusal) → MayStand g S → fault ≡ maximal_fault g X
      → Obeys g S (record { call = Resume; space = X }) (record { call = Resume; answer = Some (resume_answer fault); space = X }) (resumed fault S X)
  resume_obeys S X (Some refusal) m q = record {
    stands = m;
    tells = λ L l. cc (q ∙ same_fault L l X);
    moves = λ L l. cc (q ∙ same_fault L l X);
  }
  resume_obeys S X None m q = record {
    stands = may_stand g law X (maximal_of g law X (sym q));
    tells = λ L l. cc (q ∙ same_fault L l X);
    moves = λ L l. cc (q ∙ same_fault L l X);
  }
