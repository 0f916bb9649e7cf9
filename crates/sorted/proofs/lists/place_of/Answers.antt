use Rattle.std.proofs.Common.{rules, ◌∙◌}
use Rattle.std.proofs.lemmas.Fn.{always_returns_same}
use Rattle.sorted.specs.Keyed.{comparison}
use Rattle.sorted.proofs.Search.{found}
use Rattle.sorted.proofs.lists.place_of.Goals as goal

pub returns : goal.returns
returns g c =
    let key = g.T.Keyed.keyed in
    let facts = c.binary_search_by.ensures in
    let at = facts.position (λ y. comparison g.T.Key.Order.upto (key y) c.args.key) (always_returns_same _ _ _ (λ a r f k. search rules)) in
    c.ok.ensures.value ∙ found g.T.Key.Order.upto g.met.T.Key.Order.transitive key c.args.key c.args.records.now _ c.requires facts.bound at
