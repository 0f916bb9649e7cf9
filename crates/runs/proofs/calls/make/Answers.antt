use Rattle.std.proofs.Common.{rules, ◌≡◌, length, vec_items, Some, refl}
use Rattle.std.proofs.lemmas.List.{with_items_is}
use Rattle.completion.specs.Checks.{maximal_fault}
use Rattle.completion.specs.Standings.{members_of}
use Rattle.model.specs.Model.{counted}
use Rattle.model.specs.Obeys.{resume_answer}
use Rattle.model.proofs.Turns.{step_obeys, read_obeys, resume_obeys}
use Rattle.runs.proofs.Kept.{resumed_members}
use Rattle.runs.proofs.calls.make.Goals as goal
use Rattle.runs.proofs.calls.make.Goals.{in-Step, in-Read, in-Resume}

pub returns-clause-obeys : goal.returns-clause-obeys
returns-clause-obeys g c =
    let p = c.args.walk.now.sound in
    let m = g.T.PairTable.meaning c.args.walk.now.table in
    let law = g.T.PairTable.lawful c.args.walk.now.table in
    let s = c.args.walk.now.standing in
    let S = members_of s in
    let x = c.args.exchange.now in
    let X = vec_items x.space in
    elim c.match-exchange.branch [
      | in-Step w ↦
          let answered : c.match-exchange.exchange2 ≡ Some (counted w.step.result) = search rules in
          let D = members_of w.step.new.self.standing in
          rw (w.walk-is, w.exchange-is, answered, w.in-Step.is) (step_obeys m law S w.step.result D X p w.step.ensures.next)
      | in-Read w ↦
          let answered : c.match-exchange.exchange2 ≡ Some (counted w.read.result) = search rules in
          let long : length w.read.new.out ≡ x.space.len = cc in
          rw (w.walk-is, w.exchange-is, answered, w.in-Read.is, with_items_is x.space w.read.new.out long)
          (read_obeys m law S X w.read.result w.read.new.out p (rw w.deref_mut.ensures.value at w.read.ensures.answer) (rw w.deref_mut.ensures.value at w.read.ensures.space))
      | in-Resume w ↦
          let fault = maximal_fault m X in
          let stood = rw w.deref.ensures.value at w.resume.ensures.stands in
          let told = rw w.deref.ensures.value at w.resume.ensures.answer in
          let answered : c.match-exchange.exchange2 ≡ Some (resume_answer fault) = search rules in
          rw (w.walk-is, stood, w.exchange-is, answered, w.in-Resume.is, resumed_members fault s X) (resume_obeys m law S X fault p refl)
    ]
