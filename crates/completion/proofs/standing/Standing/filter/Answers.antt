use Rattle.std.proofs.Common.{◌<◌, ◌^◌, get_or, sym, ◌∙◌, rules}
use Rattle.completion.proofs.Standings.{filter_yes, filter_no}
use Rattle.completion.proofs.standing.Standing.filter.Goals as goal
use Rattle.completion.proofs.standing.Standing.filter.Goals.{then-passes, else-passes}

pub loop-x-preserved : goal.loop-x-preserved
loop-x-preserved g c = λ p f.
    let xs = c.members-x-items.result.now in
    let i = c.loop-x.x-index in
    let h : get_or xs i 0 < 2 ^ 16 = search rules in
    let q = f (get_or xs i 0) c.passes.result h c.passes.ensures in
    elim c.if-passes.branch [
      | then-passes w ↦ filter_yes p xs i c.loop-x.part (c.loop-x.invariant p f) c.loop-x-test.true c.members-x-items.ensures.few c.if-passes.part (sym q ∙ w.if-passes.true) (λ clean. w.part-is ∙ w.push.ensures clean)
      | else-passes w ↦ filter_no p xs i c.loop-x.part (c.loop-x.invariant p f) c.loop-x-test.true c.if-passes.part (sym q ∙ w.if-passes.false) w.part-is
    ]
