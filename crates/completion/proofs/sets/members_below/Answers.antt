use Rattle.std.proofs.Common.{ltb, rules}
use borrow.Author.Tests.{tests}
use Rattle.cliques.specs.Sets.{below}
use Rattle.completion.specs.Standings.{members_of}
use Rattle.completion.proofs.Standings.{back}
use Rattle.completion.proofs.sets.members_below.Goals as goal

pub returns-clause-members : goal.returns-clause-members
returns-clause-members c =
    back c.filter.result (below c.args.v (members_of c.args.set.now)) (c.filter.ensures (λ x. ltb x c.args.v) (λ x b h k. search (rules, tests)))
