use Rattle.std.proofs.Common.{◌≡◌, ◌<◌, ◌≤◌, not, length, sym, ◌∙◌, subst, rules}
use Rattle.book.specs.Changes.{OnePair}
use Rattle.book.specs.Marks.{marked}
use Rattle.book.proofs.Changed.{one_pair, other}
use Rattle.book.proofs.Pairs.{tells_marked}
use Rattle.book.proofs.open.OpenBook.change_pair.Goals as goal

pub returns-clause-marks : goal.returns-clause-marks
returns-clause-marks c =
    let ms = c.args.marks.now in
    let l : 4080 ≤ length ms = search rules in
    let lu : c.args.u < 256 = search rules in
    let lv : c.args.v < 256 = search rules in
    let m : marked ms c.args.u c.args.v ≡ not c.args.add = sym (tells_marked ms _ _ lu lv c.if-u-v.false) ∙ sym c.is_marked.ensures ∙ other c.is_marked.result c.args.add c.if-is_marked-add.false in
    subst (OnePair c.args.u c.args.v c.args.add ms) (sym c.toggle.ensures) (one_pair ms _ _ c.args.add l lu lv c.if-u-v.false m)
