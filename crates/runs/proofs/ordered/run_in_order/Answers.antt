use Rattle.std.proofs.Common.{◌≡◌, take, None}
use Rattle.pairs.specs.Selections.{selection_fault}
use Rattle.runs.proofs.Permuted.{order_selects}
use Rattle.runs.proofs.ordered.run_in_order.Goals as goal

pub returns-in-Err-new : goal.returns-in-Err-new
returns-in-Err-new g c =
    let m = g.T.PairTable.meaning c.args.table in
    let o = c.in-Ok.ensures.answer in
    let none : selection_fault m.size (take m.size c.degeneracy_order.new.order) ≡ None = order_selects m.size _ o.degeneracy.permutation in
    let some = rw o.count at c.in-Err-new.ensures.refusal in
    cc
