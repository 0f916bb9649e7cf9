use Rattle.std.proofs.Common.{◌≡◌, false, length, Ok, sym, ◌∙◌, subst, rules}
use Rattle.std.proofs.lemmas.Result.{err_from_is_err_and}
use Rattle.book.specs.Changes.{short_spaces}
use Rattle.closed.specs.Tells.{Tells}
use Rattle.closed.proofs.Tabling.{closed_as, closes, long_enough}
use Rattle.closed.proofs.reading.read_closed.Goals as goal

pub returns-in_err-book-clause-table : goal.returns-in_err-book-clause-table
returns-in_err-book-clause-table c =
    let p = err_from_is_err_and c.from_residual.result c.from_residual.ensures.1 in
    let e = c.in_err-book.ensures in
    rw (p.1, p.2) (e.answer, e.means)

pub returns-clause-table : goal.returns-clause-table
returns-clause-table c =
    let m = c.in_ok-book.ensures.means in
    let lc : length c.read.new.cards ≡ length c.args.cards.now = search rules in
    let lm : length c.read.new.marks ≡ length c.args.marks.now = search rules in
    let s : short_spaces (length c.read.new.cards) (length c.read.new.marks) ≡ false = (λ i. short_spaces (lc i) (lm i)) ∙ long_enough (length c.args.cards.now) (length c.args.marks.now) (length c.args.index.now) m.1 in
    let k = closes m.2.0 m.2.1.well c.in_ok-book.book c.read.new.cards c.read.new.marks m.2.2 s in
    let t = closed_as c.close.result k.0 (c.close.ensures.closed ∙ k.1) in
    let same : c.map_err.result ≡ Ok t.0 = rw t.1 at c.map_err.ensures.cases in
    rw same (m.0, m.1, (m.2.0, m.2.1, subst (Tells m.2.0) (sym t.2) k.2))
