use Rattle.std.proofs.Common.{refl, sym, ap, ◌∙◌}
use Rattle.std.proofs.lemmas.List.Quantifiers.{position-Some}
use Rattle.std.proofs.lemmas.Option.{slice_get_read}
use Rattle.sorted.specs.Keyed.{of_key}
use Rattle.std.proofs.lemmas.Bool.{and_parts}
use Rattle.sorted.proofs.Taken.{placed, absent}
use Rattle.sorted.proofs.lists.find_in.Goals as goal

pub returns-in_err-at-clause-answer : goal.returns-in_err-at-clause-answer
returns-in_err-at-clause-answer g c =
    let a = absent (of_key g.T.Key.Order.upto g.T.Keyed.keyed c.args.key) c.args.records.now (sym c.place_of.ensures ∙ c.in_err-at.was) in
    c.from_residual.ensures ∙ sym a.0

pub returns-clause-answer : goal.returns-clause-answer
returns-clause-answer g c =
    let a = placed (of_key g.T.Key.Order.upto g.T.Keyed.keyed c.args.key) c.args.records.now c.in_ok-at.at (sym c.place_of.ensures ∙ c.in_ok-at.was) in
    sym (slice_get_read c.args.records.now _ c.in_ok-at.at _ refl a.0 c.index-records-at.is) ∙ a.1

pub returns-clause-key : goal.returns-clause-key
returns-clause-key g c =
    let p = of_key g.T.Key.Order.upto g.T.Keyed.keyed c.args.key in
    let xs = c.args.records.now in
    let a = position-Some p xs c.in_ok-at.at c.index-records-at.result (sym c.place_of.ensures ∙ c.in_ok-at.was) in
    let e = and_parts _ _ a.1 in
    ap g.T.Keyed.keyed c.index-records-at.is ∙ g.met.T.Key.TotalOrder.ties _ _ e.0 e.1
