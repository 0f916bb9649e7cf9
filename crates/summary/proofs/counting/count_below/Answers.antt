use Rattle.std.proofs.Common.{ℕ, arith, rules}
use borrow.Author.Tests.{tests}
use Rattle.std.proofs.lemmas.Iterator.{YieldsList-from_range}
use Rattle.std.proofs.lemmas.Iterator.Consumers.{YieldsList-from_filter}
use Rattle.summary.proofs.Counts.{range_count}
use Rattle.summary.proofs.counting.count_below.Goals as goal

pub returns-clause-count : goal.returns-clause-count
returns-clause-count g c =
    let v = c.args.v in
    let told = λ (u : ℕ). (g.T.PairTable.meaning c.args.table.now).partners u v in
    range_count told v c.count.ensures.ran (YieldsList-from_filter _ told (YieldsList-from_range 0 v v (cc) (omega arith)) c.filter.ensures.closure (λ x b q k. search (rules, tests)))
