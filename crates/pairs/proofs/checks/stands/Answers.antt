use Rattle.std.proofs.Common.{eqb, refl, rules}
use Rattle.std.proofs.lemmas.List.Recursion.{or_is}
use Rattle.std.proofs.iter.runs.Made.{chains}
use Rattle.pairs.specs.Checks.{stands}
use Rattle.pairs.proofs.checks.stands.Goals as goal

pub returns : goal.returns
returns c = or_is (λ xs. stands xs c.args.place) (λ x. eqb x c.args.place) refl (λ _ _. refl) c.args.list.now 0 c.any.result (search (rules, chains)) (search (rules, chains))
