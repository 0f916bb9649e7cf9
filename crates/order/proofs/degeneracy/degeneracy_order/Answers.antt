use Rattle.std.proofs.Common.{◌≡◌, List, ℕ, ◌++◌, ◌≤◌, length, take, drop, sym, ap, ◌∙◌, subst, arith}
use Rattle.std.proofs.lemmas.List.{take_at, drop_at, length-take-le}
use Rattle.order.specs.Orders.{heads_first, degeneracy_order, Degeneracy}
use Rattle.order.proofs.Degenerate.{degenerate}
use Rattle.order.proofs.degeneracy.degeneracy_order.Goals as goal

pub returns-clause-answer : goal.returns-clause-answer
returns-clause-answer g c =
    let m = g.T.PairTable.meaning c.args.table.now in
    let n = c.size-n.result in
    let ys = c.args.order.now in
    let zs = c.heads_first.new.order in
    let d = c.take_all-largest.result in
    let lo : n ≤ length ys = omega arith in
    let whole : zs ≡ degeneracy_order m = c.heads_first.ensures ∙ ap (heads_first m.partners) c.take_all-largest.ensures.order in
    let l : length zs ≡ m.size = omega (arith, c.heads_first.auto.order, c.take_all-largest.auto.order, length-take-le n ys lo, c.size-n.ensures) in
    let front : take m.size (zs ++ drop n ys) ≡ degeneracy_order m = take_at zs (drop n ys) m.size l ∙ whole in
    record {
      count = c.size-n.ensures;
      defined = front;
      degeneracy = subst (λ (z : List ℕ). Degeneracy m z d) (sym front) (subst (λ k. Degeneracy m (degeneracy_order m) k) (sym c.take_all-largest.ensures.most) (degenerate m (g.T.PairTable.lawful c.args.table.now)));
      rest = drop_at zs (drop n ys) m.size l ∙ ap (λ k. drop k ys) c.size-n.ensures;
    }
