use Rattle.std.proofs.Common.{rules}
use borrow.Author.Tests.{tests}
use Rattle.cliques.specs.Sets.{partner_of_all}
use Rattle.completion.proofs.Chains.{any_below}
use Rattle.completion.proofs.checks.can_grow.Goals as goal

pub returns : goal.returns
returns g c =
    let m = g.T.PairTable.meaning c.args.table.now in
    any_below (λ w. partner_of_all m w c.args.set.now) c.size.ensures c.any.ensures.ran (λ x b q k. search (rules, tests))
