use Rattle.order.specs.Lines.{Lowered}
use Rattle.order.proofs.takes.Line.lower_partners.Given as goal

abbrev pub invariant-loop-other : goal.invariant-loop-other
invariant-loop-other g l = Lowered l.other ((g.T.PairTable.meaning l.table).partners l.place) l.initial.self.tallies.records l.self.tallies.records
