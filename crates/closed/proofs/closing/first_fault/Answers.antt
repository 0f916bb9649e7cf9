use Rattle.std.proofs.Common.{rules}
use Rattle.pairs.proofs.Faults.{first_found}
use Rattle.closed.specs.Closes.{card_fault}
use Rattle.closed.proofs.closing.first_fault.Goals as goal

pub returns : goal.returns
returns c = first_found (card_fault c.args.cards.now) (λ k o h q. search rules) c.find_map.ensures.runs
