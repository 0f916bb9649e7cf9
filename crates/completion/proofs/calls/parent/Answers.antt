use Rattle.std.proofs.Common.{◌≡◌, None, ℕ, List, Option, ap, ◌∙◌, rules}
use Rattle.completion.specs.Answers.{Outcome, copied_if_any, counted}
use Rattle.completion.specs.Checks.{maximal_fault}
use Rattle.completion.proofs.Gives.{parent_gives, parent_none, parent_copied}
use Rattle.completion.proofs.calls.parent.Goals as goal

pub returns-then-index-smallest : goal.returns-then-index-smallest
returns-then-index-smallest g c =
    let law = g.T.PairTable.lawful c.args.table.now in
    let none : None ≡ maximal_fault (g.T.PairTable.meaning c.args.table.now) c.args.set.now = search rules in
    let q = ap (λ (o : Option (List ℕ)). copied_if_any o c.args.out.now) (parent_none _ law c.args.set.now none c.of-index.result.largest c.smallest.result c.of-index.ensures.largest c.smallest.ensures c.if-index-smallest.true)
    ∙ parent_gives _ law c.args.set.now none c.args.out.now in
    record { answer = ap (λ (o : Outcome (Option ℕ)). o.answer) q; space = ap (λ (o : Outcome (Option ℕ)). o.space) q }

pub returns : goal.returns
returns g c =
    let law = g.T.PairTable.lawful c.args.table.now in
    let none : None ≡ maximal_fault (g.T.PairTable.meaning c.args.table.now) c.args.set.now = search rules in
    let q = parent_copied _ law c.args.set.now none c.of-index.result.largest c.smallest.result c.of-index.ensures.largest c.smallest.ensures
    c.args.out.now c.of.result c.completed_below-parent.result c.if-index-smallest.false c.of.ensures c.completed_below-parent.ensures
    ∙ parent_gives _ law c.args.set.now none c.args.out.now in
    let e : c.map.result ≡ counted c.copy_out.result = search rules in
    record {
      answer = e ∙ (ap counted c.copy_out.ensures.answer ∙ ap (λ (o : Outcome (Option ℕ)). o.answer) q);
      space = c.copy_out.ensures.space ∙ ap (λ (o : Outcome (Option ℕ)). o.space) q;
    }
