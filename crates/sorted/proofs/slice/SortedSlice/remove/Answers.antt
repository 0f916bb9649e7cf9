use Rattle.std.proofs.Common.{List, take, sym, ap, ◌∙◌, subst}
use Rattle.sorted.specs.Keyed.{left, of_key, Rising}
use Rattle.sorted.proofs.Rising.{rising_without}
use Rattle.sorted.proofs.slice.SortedSlice.remove.Goals as goal

pub invariant_of-self-2-clause-rising : goal.invariant_of-self-2-clause-rising
invariant_of-self-2-clause-rising g c =
    let upto = g.T.Key.Order.upto in
    let key = g.T.Keyed.keyed in
    let h = sym c.remove_in.ensures.held ∙ ap (λ o. take (left o c.args.self.now.count) c.remove_in.new.records) c.in_ok-taken.ensures.ok_part in
    subst (λ (l : List g.row.T.Denot). Rising upto key l) h (rising_without upto key (of_key upto key c.args.key) _ c.args.self.now.rising)
