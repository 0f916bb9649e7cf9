use Rattle.std.proofs.Common.{rules}
use Rattle.pairs.specs.Lists.{side_fault}
use Rattle.pairs.proofs.Faults.{first_found}
use Rattle.pairs.proofs.lists.PartnerLists.first_side_fault.Goals as goal

pub returns : goal.returns
returns c = first_found (side_fault c.args.self.now.ends.now c.args.self.now.entries.now) (λ k o h q. search rules) c.find_map.ensures.runs
