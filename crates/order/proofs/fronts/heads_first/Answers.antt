use Rattle.std.proofs.Common.{◌≡◌, ℕ, ◌+◌, ◌<◌, List, length, get_or, take, sym, ◌∙◌, subst, arith}
use Rattle.order.specs.Orders.{head}
use Rattle.order.proofs.Moves.{Moved, moved_head, moved_other}
use Rattle.order.proofs.fronts.heads_first.Goals as goal
use Rattle.order.proofs.fronts.heads_first.Goals.{then-is_head, else-is_head}

pub loop-i-preserved : goal.loop-i-preserved
loop-i-preserved g c =
    let e = (g.T.PairTable.meaning c.args.table.now).partners in
    let i = c.loop-i.i in
    let h = c.loop-i.count in
    let ys = c.args.order.now in
    let xs = c.loop-i.order in
    let inv = c.loop-i.invariant in
    let t : c.is_head.result ≡ head e (take i xs) (get_or xs i 0) = c.is_head.ensures in
    let lx : i < length xs = omega (arith, inv.0) in
    let ly : i < length ys = omega (arith, inv.0) in
    elim c.if-is_head.branch [
      | then-is_head w ↦ (
        c.if-is_head.auto.order ∙ inv.0,
        omega (arith, w.count-is),
        subst (λ k. Moved e (i + 1) k ys c.if-is_head.order) (sym w.count-is)
            (subst (λ (l : List ℕ). Moved e (i + 1) (h + 1) ys l) (sym w.order-is)
            (moved_head e i h ys xs inv.2 ly lx (sym t ∙ w.if-is_head.true) w.move_up.new.order w.move_up.ensures.front w.move_up.ensures.rest)),
      )
      | else-is_head w ↦ (
        c.if-is_head.auto.order ∙ inv.0,
        omega (arith, w.count-is),
        subst (λ k. Moved e (i + 1) k ys c.if-is_head.order) (sym w.count-is)
            (subst (λ (l : List ℕ). Moved e (i + 1) h ys l) (sym w.order-is)
            (moved_other e i h ys xs inv.2 ly lx (sym t ∙ w.if-is_head.false))),
      )
    ]
