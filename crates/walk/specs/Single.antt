-- What a walk's type keeps are facts with one proof at most each.
use Rattle.std.specs.Prelude.{ℕ, false, List, [], ◌∷◌, refl}
use Rattle.std.specs.Coded.{Coded, Coded-set, code_by, coded×, coded_list, coded_ℕ, le_prop, Unit-prop}
use Rattle.std.proofs.Math.Dec.{T_prop}
use Rattle.cliques.specs.Graph.{Graph}
use Rattle.cliques.specs.Sets.{has, rising, smallest, Clique, MaximalClique}
use Rattle.cliques.specs.Paths.{MayStand}
use Rattle.completion.specs.declared.standing.Standing.{Standing}
use Rattle.completion.specs.Standings.{Clean, members_of, standing_of}

-- a set as it is kept, told apart by its fields
standing_code : Coded Standing
standing_code = code_by (List ℕ × ℕ) (coded× (coded_list coded_ℕ) coded_ℕ) (λ s. (s.members, s.count)) (λ p. record { members = p.0; count = p.1 }) (λ _. refl)

pub clean_single : (s : Standing) → IsProp (Clean s)
clean_single s = Coded-set standing_code s (standing_of (members_of s))

clique_single : (g : Graph) (X : List ℕ) → IsProp (Clique g X)
clique_single g X a b i = record {
  sorted = T_prop (rising X) a.sorted b.sorted i;
  nonempty = T_prop (has (smallest X) X) a.nonempty b.nonempty i;
  within = λ w h. le_prop (a.within w h) (b.within w h) i;
  pairwise = λ u v p q n. T_prop (g.partners u v) (a.pairwise u v p q n) (b.pairwise u v p q n) i;
}

maximal_single : (g : Graph) (K : List ℕ) → IsProp (MaximalClique g K)
maximal_single g K a b i = record {
  clique = clique_single g K a.clique b.clique i;
  maximal = λ w p q. T_prop false (a.maximal w p q) (b.maximal w p q) i;
}

pub may_stand_single : (g : Graph) (K : List ℕ) → IsProp (MayStand g K)
may_stand_single g [] = Unit-prop
may_stand_single g (x ∷ xs) = maximal_single g (x ∷ xs)
