use Rattle.std.proofs.Common.{arith}
use Rattle.sorted.specs.Held.{held, room}
use Rattle.order.proofs.Nexts.{begun}
use Rattle.order.proofs.takes.Line.begin.Goals as goal

pub invariant_of-self : goal.invariant_of-self
invariant_of-self c =
    let line = c.args.self.now in
    let b = begun line.tallies.records _ (held line.waiting) line.lined c.args.place c.args.partners (room line.waiting) (omega arith) c.requires.idle c.requires.free c.start.ensures
    c.waiting-record.result c.waiting-record.ensures c.insert.result c.insert.ensures.answer _ c.insert.ensures.held in
    record { lined = b.0 }

pub returns-clause-longer : goal.returns-clause-longer
returns-clause-longer c =
    let line = c.args.self.now in
    let b = begun line.tallies.records _ (held line.waiting) line.lined c.args.place c.args.partners (room line.waiting) (omega arith) c.requires.idle c.requires.free c.start.ensures
    c.waiting-record.result c.waiting-record.ensures c.insert.result c.insert.ensures.answer _ c.insert.ensures.held in
    b.1
