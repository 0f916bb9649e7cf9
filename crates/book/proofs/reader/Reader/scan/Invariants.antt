use Rattle.std.proofs.Common.{◌≡◌, ◌-◌, ◌≤◌, length, drop}
use Rattle.format.specs.Rules.{Draft, read_book, run}
use Rattle.book.specs.Stands.{GoesOn, stand_of}
use Rattle.book.proofs.Follows.{Represents}
use Rattle.book.proofs.reader.Reader.scan.Given as goal

-- what is left of the bytes, read after the draft so far, gives what the whole gives
abbrev pub invariant-loop-at : goal.invariant-loop-at
invariant-loop-at l = record {
  within : l.at ≤ length l.bytes;
  goes_on : GoesOn l.initial.self l.self;
  reads : ((d : Draft) × Represents d (stand_of l.self) × (run 0 (drop l.at l.bytes) l.at d ≡ read_book l.bytes));
}

abbrev pub decreases-loop-at : goal.decreases-loop-at
decreases-loop-at l = length l.bytes - l.at
