use Rattle.std.proofs.Common.{◌≡◌, List, take, None, sym, refl, ap, ◌∙◌, subst}
use Rattle.sorted.specs.Keyed.{first_of, of_key, Rising}
use Rattle.sorted.proofs.Rising.{none_of, rising_inserted}
use Rattle.sorted.proofs.slice.SortedSlice.insert.Goals as goal

pub invariant_of-self-2-clause-rising : goal.invariant_of-self-2-clause-rising
invariant_of-self-2-clause-rising g c =
    let upto = g.T.Key.Order.upto in
    let key = g.T.Keyed.keyed in
    let x = c.args.item in
    let xs : List g.row.T.Denot = take c.args.self.now.count c.args.self.now.records.now in
    let n : c.find.result ≡ None = none_of c.find.result (sym c.is_some.ensures ∙ c.if-is_some.false) in
    let f : first_of (of_key upto key (key x)) xs ≡ None = sym (ap (λ k. first_of (of_key upto key k) xs) c.key.ensures) ∙ sym c.find.ensures.answer ∙ n in
    subst (λ (l : List g.row.T.Denot). Rising upto key l) (sym (c.in_ok-insert_in.ensures.held refl)) (rising_inserted upto key g.met.T.Key.Order.total g.met.T.Key.Order.transitive x xs f c.args.self.now.rising)
