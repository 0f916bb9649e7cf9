use Rattle.std.proofs.Common.{rules, ◌∙◌}
use borrow.Author.Tests.{tests}
use Rattle.std.proofs.lemmas.Iterator.{YieldsList-from_slice}
use Rattle.std.proofs.lemmas.Iterator.Search.{all_from_yields_List}
use Rattle.completion.proofs.Chains.{all_every}
use Rattle.completion.proofs.sets.partner_of_all.Goals as goal

pub returns : goal.returns
returns g c =
    let p = (g.T.PairTable.meaning c.args.table.now).partners c.args.w in
    all_from_yields_List p _ _ _ c.all.ensures.ran (YieldsList-from_slice c.args.set.now cc) (λ x b q k. search (rules, tests))
    ∙ all_every p c.args.set.now
