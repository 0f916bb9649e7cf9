use Rattle.std.proofs.Common.{◌≡◌, ltb, length, ap, ◌∙◌}
use Rattle.sorted.specs.Held.{held, room}
use Rattle.sorted.specs.Keyed.{first_of, tie, insert_answer}
use Rattle.order.specs.Lines.{upto}
use Rattle.order.proofs.Nexts.{lowers, held_room}
use Rattle.order.proofs.takes.Line.lower.Goals as goal

pub invariant_of-self : goal.invariant_of-self
invariant_of-self c =
    let line = c.args.self.now in
    let W1 = held c.remove.new.self in
    let x = c.waiting-after.result in
    let r : c.insert.result ≡ insert_answer (first_of (λ y. tie upto y x) W1) (ltb (length W1) (room line.waiting)) =
    c.insert.ensures.answer ∙ ap (λ m. insert_answer (first_of (λ y. tie upto y x) W1) (ltb (length W1) m)) c.remove.ensures.room in
    let l = lowers line.tallies.records (held line.waiting) line.lined c.args.place (room line.waiting) c.requires (held_room line.waiting.records.now line.waiting.count)
    c.waiting-before.result c.waiting-before.ensures W1 c.remove.ensures.held c.lower.new.self.records c.lower.ensures x c.waiting-after.ensures
    c.insert.result r (held c.insert.new.self) c.insert.ensures.held in
    record { lined = l.0 }
