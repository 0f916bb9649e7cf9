use Rattle.std.proofs.Common.{ap, refl, ◌∙◌, rules}
use Rattle.std.proofs.iter.runs.Made.{chains}
use Rattle.std.proofs.lemmas.List.Recursion.{and_is}
use Rattle.pairs.specs.Checks.{stands}
use Rattle.pairs.specs.Lists.{list_of, named_back}
use Rattle.pairs.proofs.lists.PartnerLists.is_named_back.Goals as goal

pub returns : goal.returns
returns c =
    let named = named_back c.args.self.now.ends.now c.args.self.now.entries.now c.args.u in
    and_is named (λ v. stands (list_of c.args.self.now.ends.now c.args.self.now.entries.now v) c.args.u) refl (λ _ _. refl) c.list.result.now 0 c.all.result (search (rules, chains)) (search (rules, chains))
    ∙ ap named c.list.ensures
