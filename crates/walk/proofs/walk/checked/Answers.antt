use Rattle.std.proofs.Common.{◌≡◌, ℕ, List, None, sym, ap, ◌∙◌, subst, rules}
use Rattle.std.proofs.lemmas.List.{take_all}
use Rattle.cliques.specs.Paths.{MayStand}
use Rattle.completion.specs.Checks.{maximal_fault}
use Rattle.completion.specs.Standings.{standing_of}
use Rattle.completion.proofs.Sound.{few, maximal_of}
use Rattle.completion.proofs.Standings.{back}
use Rattle.model.proofs.Remainders.{may_stand}
use Rattle.walk.proofs.walk.checked.Goals as goal

pub returns : goal.returns
returns g c =
    let m = g.T.PairTable.meaning c.args.table.now in
    let law = g.T.PairTable.lawful c.args.table.now in
    let X = c.args.set.now in
    let none : maximal_fault m X ≡ None = search rules in
    let q : c.of.result ≡ standing_of X = c.of.ensures ∙ ap standing_of (take_all 256 X (few m law X none)) in
    (none, q, subst (λ (Y : List ℕ). MayStand m Y) (sym (back c.of.result X q)) (may_stand m law X (maximal_of m law X none)))
