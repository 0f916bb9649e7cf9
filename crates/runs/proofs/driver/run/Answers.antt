use Rattle.std.proofs.Common.{◌≡◌, [], ◌∙◌}
use Rattle.completion.specs.Standings.{standing_of}
use Rattle.completion.proofs.Standings.{back}
use Rattle.model.proofs.Whole.{run_follows}
use Rattle.runs.proofs.driver.run.Goals as goal

pub returns-clause-follows : goal.returns-clause-follows
returns-clause-follows g c =
    let law = g.T.PairTable.lawful c.args.table in
    let new : c.new-walk.result.standing ≡ standing_of [] = cc in
    let same : c.new-walk.result.table ≡ c.args.table = cc in
    let still : c.make_all.new.walk.table ≡ c.args.table = cc in
    let kept = c.step_out-rest.ensures.kept ∙ c.make_all.new.walk.clean in
    run_follows _ law _ _ _ _ _ _ _ _ _ (back c.new-walk.result.standing [] new) kept (rw same at c.make_all.ensures.obeys) (rw still at c.step_out-rest.ensures.gives)
