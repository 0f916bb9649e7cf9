use Rattle.std.proofs.Common.{sym, ◌∙◌}
use Rattle.pairs.proofs.Listed.{listed}
use Rattle.pairs.proofs.lists.PartnerLists.new.Goals as goal

pub returns-clause-meaning : goal.returns-clause-meaning
returns-clause-meaning c = listed c.args.ends.now c.args.entries.now (sym c.fault.ensures ∙ c.in_default.is)
