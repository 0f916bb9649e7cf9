use Rattle.std.proofs.Common.{◌≡◌, ℕ, ◌<◌, true, false, rules}
use borrow.Author.Tests.{tests}
use Rattle.std.proofs.lemmas.Iterator.{first_from_Range}
use Rattle.cliques.specs.Completion.{is_head}
use Rattle.walk.proofs.Roots.{head_found}
use Rattle.walk.proofs.heads.first_head.Goals as goal

pub returns : goal.returns
returns g c =
    let m = g.T.PairTable.meaning c.args.table.now in
    let law = g.T.PairTable.lawful c.args.table.now in
    let yes = λ (k : ℕ). k < m.size → is_head m k ≡ true in
    let not = λ (k : ℕ). k < m.size → is_head m k ≡ false in
    head_found m law c.args.from c.size.result c.find.result c.size.ensures
    (first_from_Range _ _ _ c.find.result yes not c.find.ensures.ran (λ x q k. search (rules, tests)) (λ x q k. search (rules, tests)))
