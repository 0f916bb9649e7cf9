use Rattle.std.proofs.Common.{◌≡◌, None, rules}
use Rattle.completion.specs.Checks.{maximal_fault}
use Rattle.completion.proofs.Gives.{index_gives}
use Rattle.completion.proofs.calls.parent_index.Goals as goal

pub returns : goal.returns
returns g c =
    let none : None ≡ maximal_fault (g.T.PairTable.meaning c.args.table.now) c.args.set.now = search rules in
    index_gives _ (g.T.PairTable.lawful c.args.table.now) c.args.set.now none c.of.result.largest c.of.ensures.largest
