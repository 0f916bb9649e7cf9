use Rattle.std.proofs.Common.{replicate, ap, ◌∙◌}
use Rattle.book.proofs.reading.clear.Goals as goal

pub returns-clause-marks : goal.returns-clause-marks
returns-clause-marks c = c.fill-2.ensures.after (λ y e. e) ∙ ap (λ n. replicate n 0) c.told-marks
