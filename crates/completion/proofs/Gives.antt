-- The calls on a list that passes its checks.
use Rattle.std.proofs.Common.{◌≡◌, ℕ, List, take, Some, None, Ok, Err, Option, sym, ap, ◌∙◌, inl, inr, arith}
use Rattle.refusal.specs.declared.Refusal.{Refusal}
use Rattle.cliques.specs.Graph.{Graph, Lawful}
use Rattle.cliques.specs.Sets.{smallest, below, MaximalClique}
use Rattle.cliques.specs.Completion.{completion, parent_index, parent_of}
use Rattle.cliques.specs.Shortcuts.{append_pass, largest_barrier}
use Rattle.cliques.proofs.Indices.{below_clique, eq_root, root_eq, root_or}
use Rattle.cliques.proofs.Parents.{parent_of_none, parent_of_some}
use Rattle.cliques.proofs.Passes.{pass_is}
use Rattle.std.proofs.lemmas.List.{take_all}
use Rattle.completion.proofs.Sound.{clique_of, few, maximal_of}
use Rattle.cliques.proofs.Barriers.{largest_is_index}
use Rattle.completion.specs.declared.standing.Standing.{Standing}
use Rattle.completion.specs.Standings.{standing_of, members_of}
use Rattle.completion.specs.Checks.{set_fault, maximal_fault}
use Rattle.completion.specs.Answers.{copied, unless, completing, indexing, copied_if_any, parenting}
use Rattle.completion.proofs.Standings.{back}
use Rattle.completion.proofs.Sound.{clique_of, maximal_of}

module _ (g : Graph) (law : Lawful g) where
  pub complete_gives : (X out : List ℕ) (s : Standing) → None ≡ set_fault g X → s ≡ standing_of (append_pass g g.size X)
      → copied (members_of s) out ≡ completing g X out
  complete_gives X out s q p =
      ap (λ (Y : List ℕ). copied Y out) (back s (append_pass g g.size X) p ∙ pass_is g law X (clique_of g law X (sym q)))
      ∙ ap (λ (o : Option Refusal). unless o out (copied (completion g X) out)) q

  module _ (X : List ℕ) (none : None ≡ maximal_fault g X) where
    set : MaximalClique g X
    set = maximal_of g law X (sym none)

    pub index_gives : (i : ℕ) → i ≡ largest_barrier g g.size X → Ok i ≡ indexing g X
    index_gives i p =
        ap (λ (k : ℕ). Ok k) (p ∙ largest_is_index g law X set)
        ∙ ap (λ (o : Option Refusal). elim o [ Some refusal ↦ Err refusal | None ↦ Ok (parent_index g X) ]) none

    pub parent_gives : (out : List ℕ) → copied_if_any (parent_of g X) out ≡ parenting g X out
    parent_gives out = ap (λ (o : Option Refusal). unless o out (copied_if_any (parent_of g X) out)) none

    module _ (i f : ℕ) (p : i ≡ largest_barrier g g.size X) (q : f ≡ smallest X) where
      index : i ≡ parent_index g X
      index = p ∙ largest_is_index g law X set

      pub parent_none : i ≡ f → None ≡ parent_of g X
      parent_none z = sym (parent_of_none g law X (eq_root g law X (sym index ∙ (z ∙ q))))

      pub parent_some : (i ≡ f → ⊥) → Some (append_pass g g.size (below i X)) ≡ parent_of g X
      parent_some z =
          elim (root_or g law X set) [
            | inl t ↦ absurd (z (index ∙ (root_eq g law X t ∙ sym q)))
            | inr h ↦
                ap (λ (k : ℕ). Some (append_pass g g.size (below k X))) index
                ∙ (ap (λ (Y : List ℕ). Some Y) (pass_is g law (below (parent_index g X) X) (below_clique g law X (parent_index g X) (smallest X) set.clique set.clique.nonempty h))
                ∙ sym (parent_of_some g law X (λ t. let e = root_eq g law X t in omega arith)))
          ]

      -- the set kept as w, and its members below i completed as s
      pub parent_copied : (out : List ℕ) (w s : Standing) → (i ≡ f → ⊥) → w ≡ standing_of (take 256 X)
          → s ≡ standing_of (append_pass g g.size (below i (members_of w))) → copied_if_any (Some (members_of s)) out ≡ copied_if_any (parent_of g X) out
      parent_copied out w s z x y =
          let e : members_of w ≡ X = back w (take 256 X) x ∙ take_all 256 X (few g law X (sym none)) in
          ap (λ (o : Option (List ℕ)). copied_if_any o out)
          (ap (λ (Y : List ℕ). Some Y) (back s (append_pass g g.size (below i (members_of w))) y ∙ ap (λ (Y : List ℕ). append_pass g g.size (below i Y)) e) ∙ parent_some z)
