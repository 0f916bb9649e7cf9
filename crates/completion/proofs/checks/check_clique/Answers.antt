use Rattle.std.proofs.Common.{◌≡◌, rules, length}
use borrow.Author.Tests.{tests}
use Rattle.std.specs.Result.{result_err}
use Rattle.pairs.specs.Checks.{first_fault}
use Rattle.completion.specs.Checks.{misplaced, place_fault, stranger, stranger_fault}
use Rattle.completion.proofs.checks.check_clique.Goals as goal

pub returns-in_err-check_entries : goal.returns-in_err-check_entries
returns-in_err-check_entries g c =
    let X = c.args.set.now in
    let m = g.T.PairTable.meaning c.args.table.now in
    let p : result_err c.check_entries.result ≡ first_fault (place_fault m.size X) (length X) = c.check_entries.ensures (misplaced m.size X) (λ i b h k. search (rules, tests)) in
    search rules

pub returns : goal.returns
returns g c =
    let X = c.args.set.now in
    let m = g.T.PairTable.meaning c.args.table.now in
    let p : result_err c.check_entries.result ≡ first_fault (place_fault m.size X) (length X) = c.check_entries.ensures (misplaced m.size X) (λ i b h k. search (rules, tests)) in
    let q : result_err c.check_entries-2.result ≡ first_fault (stranger_fault m X) (length X) = c.check_entries-2.ensures (stranger m X) (λ i b h k. search (rules, tests)) in
    search rules
