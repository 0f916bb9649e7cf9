use Rattle.std.proofs.Common.{◌≡◌, ◌≤◌, None, sym, ◌∙◌, arith}
use Rattle.pairs.specs.Selections.{selection_fault}
use Rattle.pairs.proofs.Chosen.{entries_few, entries_apart}
use Rattle.pairs.proofs.selection.Selection.new.Goals as goal

pub invariant_of-result : goal.invariant_of-result
invariant_of-result g c =
    let none : selection_fault c.size.result c.args.chosen.now ≡ None = sym c.selection_fault.ensures ∙ c.in_default.is in
    let few : c.size.result ≤ 256 = omega (arith, (g.T.PairTable.lawful c.args.below).few) in
    record { few = entries_few _ _ none few; apart = entries_apart _ _ none }
