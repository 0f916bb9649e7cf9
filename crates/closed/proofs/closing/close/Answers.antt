use Rattle.std.proofs.Common.{sym}
use Rattle.closed.proofs.Stamps.{told}
use Rattle.closed.proofs.closing.close.Goals as goal
use Rattle.closed.proofs.closing.close.Goals.{in-Some-rule, in-None}

pub returns-clause-stamps : goal.returns-clause-stamps
returns-clause-stamps c =
    let none = sym c.in_default.ensures in
    elim c.match-rule.branch [
      | in-Some-rule w ↦ rw w.result-is (told _ none)
      | in-None w ↦ rw w.result-is (told _ none)
    ]
