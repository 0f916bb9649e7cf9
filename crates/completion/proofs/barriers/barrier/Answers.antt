use Rattle.std.proofs.Common.{not, sym, ◌∙◌, rules}
use borrow.Author.Tests.{tests}
use Rattle.std.proofs.lemmas.Iterator.{YieldsList-from_slice}
use Rattle.std.proofs.lemmas.Iterator.Adapters.{option_map_id}
use Rattle.std.proofs.lemmas.Iterator.Consumers.{YieldsList-from_copied}
use Rattle.std.proofs.lemmas.Iterator.Search.{find_from_yields_List}
use Rattle.completion.proofs.Chains.{barrier_found}
use Rattle.completion.proofs.barriers.barrier.Goals as goal

pub returns : goal.returns
returns g c =
    let m = g.T.PairTable.meaning c.args.table.now in
    barrier_found m c.args.set.now c.args.x _ c.find.result c.filter.result c.unwrap_or.result
    (sym (option_map_id c.find.result)
    ∙ find_from_yields_List (λ y. not (m.partners c.args.x y)) _ _ c.find.result c.find.ensures.ran (YieldsList-from_copied (YieldsList-from_slice c.args.set.now cc)) (λ y b q k. search (rules, tests)))
    c.filter.ensures c.unwrap_or.ensures (λ y b k. search (rules, tests))
