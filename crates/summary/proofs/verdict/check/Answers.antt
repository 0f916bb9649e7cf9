use Rattle.std.proofs.Common.{Ok, ap, ◌∙◌}
use Rattle.summary.proofs.Tallies.{all_counted}
use Rattle.summary.proofs.verdict.check.Goals as goal

pub returns : goal.returns
returns c =
    let h = all_counted c.args.bytes.now _ c.in_ok-book.book c.in_ok-book.ensures.table in
    record { answer = ap (λ s. Ok s) c.summarize.ensures ∙ h.0; sums = (h.1.0, (h.1.1.0, h.1.1.1, c.summarize.ensures ∙ h.1.1.2)) }
