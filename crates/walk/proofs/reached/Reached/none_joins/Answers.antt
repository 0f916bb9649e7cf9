use Rattle.std.proofs.Common.{◌&&◌, ltb, get_or, rules}
use borrow.Author.Tests.{tests}
use Rattle.cliques.specs.Sets.{partner_of_all}
use Rattle.completion.proofs.Chains.{none_below}
use Rattle.walk.proofs.reached.Reached.none_joins.Goals as goal

pub returns : goal.returns
returns g c =
    let m = g.T.PairTable.meaning c.args.self.now.table.now in
    none_below (λ w. ltb 0 (get_or c.args.self.now.barriers.at w 0) && partner_of_all m w c.args.part.now) c.size.ensures c.any.ensures.ran (λ x b q k. search (rules, tests))
