use Rattle.std.proofs.Common.{rules}
use Rattle.pairs.specs.Selections.{entry_fault}
use Rattle.pairs.proofs.Faults.{first_found}
use Rattle.pairs.proofs.selection.selection_fault.Goals as goal

pub returns : goal.returns
returns c = first_found (entry_fault c.args.size c.args.chosen.now) (λ k o h q. search rules) c.find_map.ensures.runs
