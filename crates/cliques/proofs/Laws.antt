-- The laws of a graph, as facts about partners.
use Rattle.std.proofs.Common.{ℕ, ◌<◌, T, subst, inl, inr}
use Rattle.cliques.specs.Graph.{Graph, Lawful}
use Rattle.cliques.proofs.Tests.{lt_or}

module _ (g : Graph) (law : Lawful g) where
  pub partners_both : (u v : ℕ) → T (g.partners u v) → T (g.partners v u)
  partners_both u v t = subst T (law.both u v) t

  pub partners_apart : (u : ℕ) → T (g.partners u u) → ⊥
  partners_apart u t = subst T (law.apart u) t

  pub partners_within : (u v : ℕ) → T (g.partners u v) → u < g.size
  partners_within u v t = elim (lt_or u g.size) [ inl h ↦ h | inr h ↦ absurd (subst T (law.within u v h) t) ]
