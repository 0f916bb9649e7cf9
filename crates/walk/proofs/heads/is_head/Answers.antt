use Rattle.std.proofs.Common.{rules}
use borrow.Author.Tests.{tests}
use Rattle.walk.proofs.Roots.{head_is}
use Rattle.walk.proofs.heads.is_head.Goals as goal

pub returns : goal.returns
returns g c = λ h.
    head_is _ (g.T.PairTable.lawful c.args.table.now) c.args.h h _ c.first_partner.result c.is_none_or.result c.first_partner.ensures c.is_none_or.ensures (λ w k. search (rules, tests))
