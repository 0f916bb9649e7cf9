-- A graph given by a list of pairs is lawful.
use Rattle.std.proofs.Common.{◌≡◌, ℕ, ◌<◌, ◌≤◌, T, List, [], ◌∷◌, refl, arith}
use Rattle.cliques.specs.Graph.{Lawful}
use Rattle.worked.specs.Racks.{paired, graph_of, placed}
use Rattle.cliques.proofs.Tests.{is_false}

paired_both : (ps : List (ℕ × ℕ)) (u v : ℕ) → paired ps u v ≡ paired ps v u
paired_both [] u v = refl
paired_both (p ∷ ps) u v = grind (arith, paired_both ps u v)

-- partners are two places below n
paired_places : (n : ℕ) (ps : List (ℕ × ℕ)) → T (placed n ps) → (u v : ℕ) → T (paired ps u v) → (u < n) × (u ≡ v → ⊥)
paired_places n [] t u v m = absurd m
paired_places n (p ∷ ps) t u v m = grind (arith, paired_places n ps)

pub graph_lawful : (n : ℕ) (ps : List (ℕ × ℕ)) → n ≤ 256 → T (placed n ps) → Lawful (graph_of n ps)
graph_lawful n ps h t = record {
  few = h;
  both = paired_both ps;
  apart = λ u. is_false (paired ps u u) (λ m. (paired_places n ps t u u m).1 refl);
  within = λ u v l. is_false (paired ps u v) (λ m. let a = paired_places n ps t u v m in let b = a.0 in omega arith);
}
