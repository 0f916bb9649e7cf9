use Rattle.std.proofs.Common.{◌≡◌, length, true, false, is_err, ◌∙◌, arith}
use Rattle.std.proofs.lemmas.List.{set-get_or}
use Rattle.model.proofs.Rooms.{out_more, out_none, out_full}
use Rattle.runs.proofs.driver.step_out.Goals as goal

pub loop-count-preserved : goal.loop-count-preserved
loop-count-preserved g c =
    let law = g.T.PairTable.lawful c.args.walk.now.table in
    let h = c.loop-count.invariant in
    let next = rw h.table at c.step.ensures.next in
    let took : is_err c.step.result ≡ false = cc in
    let kept = c.standing.ensures.standing ∙ c.step.new.self.clean in
    record {
      table = cc;
      gives = out_more _ law _ _ _ _ _ h.gives c.step.result _ _ next took c.loop-count-test.true kept;
    }

pub returns-then-is_err-clause-gives : goal.returns-then-is_err-clause-gives
returns-then-is_err-clause-gives g c =
    let law = g.T.PairTable.lawful c.args.walk.now.table in
    let h = c.loop-count.invariant in
    let o = h.gives in
    let next = rw h.table at c.step.ensures.next in
    let ended : is_err c.step.result ≡ true = cc in
    rw set-get_or (out_none _ law _ _ _ _ _ o c.step.result _ next ended (omega arith))

pub returns-clause-gives : goal.returns-clause-gives
returns-clause-gives g c =
    let law = g.T.PairTable.lawful c.args.walk.now.table in
    let h = c.loop-count.invariant in
    let o = h.gives in
    let next = rw h.table at c.step-2.ensures.next in
    let k = c.loop-count.auto.room in
    let full : c.loop-count.count ≡ length c.loop-count.room = omega arith in
    rw (← full, c.is_err-2.ensures.value) (out_full _ law _ _ _ _ _ o c.step-2.result _ next (omega arith))
