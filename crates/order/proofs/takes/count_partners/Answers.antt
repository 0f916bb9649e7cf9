use Rattle.std.proofs.Common.{◌≡◌, ◌-◌, ap, ◌∙◌, rules, tests, arith}
use Rattle.std.proofs.lemmas.Iterator.{YieldsList-from_range}
use Rattle.std.proofs.lemmas.Iterator.Consumers.{YieldsList-from_filter, count_from_yields_List}
use Rattle.order.proofs.Chains.{many_filtered}
use Rattle.order.proofs.takes.count_partners.Goals as goal

pub returns : goal.returns
returns g c =
    let m = g.T.PairTable.meaning c.args.table.now in
    let p = m.partners c.args.place in
    let z : m.size - 0 ≡ m.size = omega arith in
    let q = c.filter.ensures.source ∙ ap (λ n. record { start = 0; end = n }) c.size.ensures in
    count_from_yields_List c.filter.result _ c.count.ensures.ran (YieldsList-from_filter _ p (YieldsList-from_range 0 m.size m.size q z) c.filter.ensures.closure (λ x b q k. search (rules, tests)))
    ∙ many_filtered p m.size
