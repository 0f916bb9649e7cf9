use Rattle.std.proofs.Common.{rules}
use borrow.Author.Tests.{tests}
use Rattle.completion.specs.Standings.{members_of}
use Rattle.completion.proofs.Chains.{first_mapped}
use Rattle.walk.specs.Search.{child_at}
use Rattle.walk.proofs.Found.{child_found}
use Rattle.walk.proofs.reached.Reached.first_child.Goals as goal

pub returns : goal.returns
returns g c =
    let m = g.T.PairTable.meaning c.args.self.now.table.now in
    let at = c.args.self.now.barriers.at in
    let K = members_of c.args.self.now.set in
    child_found m at K c.args.from c.size.result c.find_map.result c.size.ensures
    (first_mapped _ _ (child_at m at K) (λ x y q k. search (rules, tests)) _ c.find_map.result c.find_map.ensures.runs)
