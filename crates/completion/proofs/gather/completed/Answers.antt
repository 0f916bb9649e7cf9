use Rattle.std.proofs.Common.{◌≡◌, ◌<◌, ap, ◌∙◌, arith, rules}
use Rattle.cliques.specs.Shortcuts.{append_pass}
use Rattle.cliques.proofs.Passes.{pass_is}
use Rattle.completion.specs.Standings.{standing_of}
use Rattle.completion.proofs.Passing.{pass_yes, pass_no}
use Rattle.completion.proofs.gather.completed.Goals as goal
use Rattle.completion.proofs.gather.completed.Goals.{then-joins, else-joins}

pub loop-k-preserved : goal.loop-k-preserved
loop-k-preserved g c =
    let m = g.T.PairTable.meaning c.args.table.now in
    let few = (g.T.PairTable.lawful c.args.table.now).few in
    let h : c.loop-k.k < 256 = omega (arith, c.size-k-end.ensures) in
    elim c.if-joins.branch [
      | then-joins w ↦ pass_yes m c.args.set.now c.loop-k.k c.loop-k.got c.loop-k.invariant h _ c.if-joins.got c.members.ensures.members w.if-joins.ensures (λ clean. w.got-is ∙ w.push.ensures clean)
      | else-joins w ↦ pass_no m c.args.set.now c.loop-k.k c.loop-k.got c.loop-k.invariant _ c.if-joins.got c.members.ensures.members w.if-joins.ensures w.got-is
    ]

pub returns-clause-clique : goal.returns-clause-clique
returns-clause-clique g c =
    let m = g.T.PairTable.meaning c.args.table.now in
    let q : c.loop-k.got ≡ standing_of (append_pass m m.size c.args.set.now) = search rules in
    λ f. q ∙ ap standing_of (pass_is m (g.T.PairTable.lawful c.args.table.now) c.args.set.now f)
