use Rattle.std.proofs.Common.{eqb, refl, rules}
use Rattle.std.proofs.lemmas.List.Recursion.{or_is}
use Rattle.std.proofs.iter.runs.Made.{chains}
use Rattle.cliques.specs.Sets.{has}
use Rattle.completion.proofs.sets.is_member.Goals as goal

pub returns : goal.returns
returns c = or_is (λ xs. has c.args.w xs) (λ x. eqb c.args.w x) refl (λ _ _. refl) c.args.set.now 0 c.any.result (search (rules, chains)) (search (rules, chains))
