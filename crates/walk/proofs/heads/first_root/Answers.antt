use Rattle.std.proofs.Common.{rules}
use Rattle.walk.proofs.Roots.{root_found}
use Rattle.walk.proofs.heads.first_root.Goals as goal

pub returns-clause-least : goal.returns-clause-least
returns-clause-least g c =
    root_found _ (g.T.PairTable.lawful c.args.table.now) c.args.from _ c.first_head.result c.map.result c.first_head.ensures c.map.ensures.cases (λ h s k. search rules)
