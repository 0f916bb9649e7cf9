use Rattle.std.proofs.Common.{◌≡◌, None, ℕ, ap, ◌∙◌, rules}
use Rattle.completion.specs.Answers.{Outcome}
use Rattle.completion.specs.Checks.{set_fault}
use Rattle.completion.proofs.Gives.{complete_gives}
use Rattle.completion.proofs.calls.complete.Goals as goal

pub returns : goal.returns
returns g c =
    let none : None ≡ set_fault (g.T.PairTable.meaning c.args.table.now) c.args.set.now = search rules in
    let q = complete_gives _ (g.T.PairTable.lawful c.args.table.now) c.args.set.now c.args.out.now c.completed.result none c.completed.ensures.pass in
    record {
      answer = c.copy_out.ensures.answer ∙ ap (λ (o : Outcome ℕ). o.answer) q;
      space = c.copy_out.ensures.space ∙ ap (λ (o : Outcome ℕ). o.space) q;
    }
