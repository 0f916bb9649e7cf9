use Rattle.std.proofs.Common.{not, ◌∙◌, rules, tests}
use Rattle.std.proofs.lemmas.Iterator.{YieldsList-from_slice}
use Rattle.std.proofs.lemmas.Iterator.Search.{all_from_yields_List}
use Rattle.order.proofs.Chains.{none_pass}
use Rattle.order.proofs.fronts.is_head.Goals as goal

pub returns : goal.returns
returns g c =
    let p = (g.T.PairTable.meaning c.args.table.now).partners c.args.place in
    let xs = c.args.before.now in
    all_from_yields_List (λ x. not (p x)) _ _ c.all.result c.all.ensures.ran (YieldsList-from_slice xs (cc)) (λ x b q k. search (rules, tests)) ∙ none_pass p xs
