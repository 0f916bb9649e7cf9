use Rattle.std.proofs.Common.{take, sym, ap, ◌∙◌}
use Rattle.sorted.specs.Keyed.{of_key, left}
use Rattle.sorted.proofs.Taken.{placed, absent}
use Rattle.sorted.proofs.lists.remove_in.Goals as goal

pub returns-in_err-at-clause-answer : goal.returns-in_err-at-clause-answer
returns-in_err-at-clause-answer g c =
    let a = absent (of_key g.T.Key.Order.upto g.T.Keyed.keyed c.args.key) (take c.args.count c.args.records.now) (sym c.place_of.ensures ∙ c.in_err-at.was) in
    c.from_residual.ensures ∙ sym a.0

pub returns-in_err-at-clause-held : goal.returns-in_err-at-clause-held
returns-in_err-at-clause-held g c =
    let a = absent (of_key g.T.Key.Order.upto g.T.Keyed.keyed c.args.key) (take c.args.count c.args.records.now) (sym c.place_of.ensures ∙ c.in_err-at.was) in
    ap (λ o. take (left o c.args.count) c.args.records.now) c.from_residual.ensures ∙ sym a.1

pub returns-clause-answer : goal.returns-clause-answer
returns-clause-answer g c =
    let a = placed (of_key g.T.Key.Order.upto g.T.Keyed.keyed c.args.key) (take c.args.count c.args.records.now) c.in_ok-at.at (sym c.place_of.ensures ∙ c.in_ok-at.was) in
    c.remove_at.ensures.answer ∙ a.1

pub returns-clause-held : goal.returns-clause-held
returns-clause-held g c =
    let a = placed (of_key g.T.Key.Order.upto g.T.Keyed.keyed c.args.key) (take c.args.count c.args.records.now) c.in_ok-at.at (sym c.place_of.ensures ∙ c.in_ok-at.was) in
    c.remove_at.ensures.held ∙ a.2
