use Rattle.std.proofs.Common.{◌&&◌, refl, rules}
use borrow.Author.Tests.{tests}
use Rattle.cliques.specs.Sets.{partner_of_all}
use Rattle.completion.proofs.Chains.{none_below}
use Rattle.walk.proofs.reached.none_meets.Goals as goal

pub returns : goal.returns
returns g c =
    let m = g.T.PairTable.meaning c.args.table.now in
    none_below (λ w. m.partners c.args.v w && partner_of_all m w c.args.part.now) refl c.any.ensures.ran (λ x b q k. search (rules, tests))
