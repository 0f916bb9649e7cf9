-- Cards come first, then one rule or any number of pairs, then withdrawn rolls, then the end.
use Rattle.std.specs.Prelude.{Bool, true, false, Some, None, Option}
use Rattle.format.specs.declared.records.Record.{Record}
use Rattle.format.specs.declared.records.Record.TheVariants.{Card as CardRecord, Rule as RuleRecord, Pair as PairRecord, Withdrawn as WithdrawnRecord, End as EndRecord}
use Rattle.format.specs.declared.records.Section.{Section}
use Rattle.format.specs.declared.records.Section.TheVariants.{Cards, Ruled, Paired, Withdrawing, Done}

-- the section that a record leads to, where it may follow in the section reached
abbrev pub next : Section → Record → Option Section
next Cards (CardRecord c) = Some Cards
next Cards (RuleRecord r) = Some Ruled
next Cards (PairRecord a b) = Some Paired
next Cards (WithdrawnRecord s) = Some Withdrawing
next Cards EndRecord = Some Done
next Ruled (CardRecord c) = None
next Ruled (RuleRecord r) = None
next Ruled (PairRecord a b) = None
next Ruled (WithdrawnRecord s) = Some Withdrawing
next Ruled EndRecord = Some Done
next Paired (CardRecord c) = None
next Paired (RuleRecord r) = None
next Paired (PairRecord a b) = Some Paired
next Paired (WithdrawnRecord s) = Some Withdrawing
next Paired EndRecord = Some Done
next Withdrawing (CardRecord c) = None
next Withdrawing (RuleRecord r) = None
next Withdrawing (PairRecord a b) = None
next Withdrawing (WithdrawnRecord s) = Some Withdrawing
next Withdrawing EndRecord = Some Done
next Done (CardRecord c) = None
next Done (RuleRecord r) = None
next Done (PairRecord a b) = None
next Done (WithdrawnRecord s) = None
next Done EndRecord = None

abbrev pub is_done : Section → Bool
is_done Cards = false
is_done Ruled = false
is_done Paired = false
is_done Withdrawing = false
is_done Done = true
