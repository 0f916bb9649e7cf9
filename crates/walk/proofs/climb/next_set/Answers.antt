use Rattle.std.proofs.Common.{◌≡◌, length, sym, ap, ◌∙◌, rules}
use borrow.Author.Tests.{tests}
use Rattle.completion.specs.Standings.{members_of}
use Rattle.walk.specs.Search.{found_set}
use Rattle.walk.proofs.Climbs.{next_first}
use Rattle.walk.proofs.climb.next_set.Goals as goal

pub returns-then-is_empty-clause-next : goal.returns-then-is_empty-clause-next
returns-then-is_empty-clause-next g c =
    let z : length c.members.result.now ≡ 0 = search (rules, tests) in
    next_first _ (g.T.PairTable.lawful c.args.table.now) (found_set c.first_root.result) (members_of c.args.here.now) (sym (ap length c.members.ensures.members) ∙ z) c.first_root.ensures.least
