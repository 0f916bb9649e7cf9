use Rattle.std.proofs.Common.{ℕ, ◌≤◌, length, ap, ◌∙◌, arith, rules}
use Rattle.std.proofs.lemmas.Iterator.{YieldsList-from_map, YieldsList-from_range}
use Rattle.std.proofs.lemmas.Iterator.Adapters.{at_most_from_yields_List, fits_from_length}
use Rattle.std.proofs.lemmas.Iterator.Consumers.{sum_from_yields_List}
use Rattle.std.proofs.lemmas.List.FromFn.{length-range_with_len}
use Rattle.std.proofs.lemmas.List.Sums.{sum-map}
use Rattle.std.specs.List.{range_with_len}
use Rattle.summary.specs.Summing.{count_to, pairs_to}
use Rattle.summary.proofs.Counts.{range_sum}
use Rattle.summary.proofs.counting.count_pairs.Goals as goal

pub sum-requires-clause-fits : goal.sum-requires-clause-fits
sum-requires-clause-fits g c =
    let n = c.size.result in
    let few : length (range_with_len 0 n) ≤ 256 = omega (arith, length-range_with_len 0 n, c.size.ensures, (g.T.PairTable.lawful c.args.table.now).few) in
    fits_from_length _ _ 256 _ (at_most_from_yields_List (YieldsList-from_range 0 n n (cc) (omega arith)) few) c.map.ensures.closure (omega arith) (λ x r q k. search rules)

pub returns : goal.returns
returns g c =
    let n = c.size.result in
    let partners = (g.T.PairTable.meaning c.args.table.now).partners in
    let below = λ (v : ℕ). count_to (λ u. partners u v) v in
    sum_from_yields_List c.map.result _ c.sum.ensures.ran (YieldsList-from_map _ below (YieldsList-from_range 0 n n (cc) (omega arith)) c.map.ensures.closure (λ x r q k. search rules))
    ∙ sum-map below (range_with_len 0 n) ∙ range_sum below n ∙ ap (pairs_to partners) c.size.ensures
