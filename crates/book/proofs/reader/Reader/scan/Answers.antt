use Rattle.std.proofs.Common.{◌≡◌, ◌-◌, ◌<◌, ◌≤◌, true, false, cond, length, drop, Ok, Err, sym, refl, ap, ◌∙◌, subst, arith, rules}
use Rattle.std.proofs.lemmas.List.{take_rest}
use Rattle.refusal.specs.Refusals.{refused_over}
use Rattle.refusal.specs.declared.Layer.TheVariants.{Book as BookLayer}
use Rattle.refusal.specs.declared.Reason.TheVariants.{Truncated}
use Rattle.format.specs.Sections.{is_done}
use Rattle.format.specs.Rules.{Draft, blank, read_book, refused_at, run}
use Rattle.book.specs.declared.fault.Fault.{Fault}
use Rattle.book.specs.Reading.{Finds}
use Rattle.book.specs.Stands.{stand_of, told_stand}
use Rattle.book.proofs.Follows.{Represents, starts}
use Rattle.book.proofs.Scans.{ended, finds, goes_further, goes_same, halt, section_is, turn}
use Rattle.book.proofs.reader.Reader.scan.Goals as goal

pub loop-at-init : goal.loop-at-init
unfolding read_book
loop-at-init c = record { within = omega arith; goes_on = goes_same c.args.self.now; reads = (blank, starts _ c.requires.fresh, refl) }

pub returns-in_err-left-clause-finds : goal.returns-in_err-left-clause-finds
returns-in_err-left-clause-finds c =
    let bs = c.args.bytes.now in
    let v = c.loop-at.invariant.reads in
    let r : (f : Fault) × (c.step.result ≡ Err f) × (c.from_residual.result ≡ Err (refused_over f.why BookLayer c.loop-at.at f.below)) = search rules in
    let e = halt bs _ c.loop-at.at v.0 _ _ c.loop-at-test.true (take_rest bs c.loop-at.at) v.1 v.2 r.0 (c.step.ensures.answer ∙ ap (λ q. told_stand q (stand_of c.step.new.self)) r.1) in
    subst (λ q. Finds q c.from_residual.result c.step.new.self.cards.now c.step.new.self.marks.now) (sym e) r.2

pub returns-in_err-left-clause-goes_on : goal.returns-in_err-left-clause-goes_on
returns-in_err-left-clause-goes_on c = goes_further _ _ _ c.loop-at.invariant.goes_on c.step.ensures.goes_on

-- the turn that took a record
turned : (c : goal.In_ok-left) → (c.in_ok-left.left ≤ length c.args.bytes.now) × (c.loop-at.at < length c.args.bytes.now - c.in_ok-left.left)
    × ((e : Draft) × Represents e (stand_of c.step.new.self)
    × (run 0 (drop (length c.args.bytes.now - c.in_ok-left.left) c.args.bytes.now) (length c.args.bytes.now - c.in_ok-left.left) e ≡ read_book c.args.bytes.now))
turned c =
    let bs = c.args.bytes.now in
    let v = c.loop-at.invariant.reads in
    let r : c.step.result ≡ Ok c.in_ok-left.left = search rules in
    turn bs _ c.loop-at.at v.0 _ _ c.loop-at-test.true (take_rest bs c.loop-at.at) v.1 v.2 _ c.in_ok-left.left (c.step.ensures.answer ∙ ap (λ q. told_stand q (stand_of c.step.new.self)) r)

pub overflow_sub-at : goal.overflow_sub-at
overflow_sub-at c = (turned c).0

pub loop-at-smaller : goal.loop-at-smaller
loop-at-smaller c = let a = (turned c).0 in let b = (turned c).1 in omega arith

pub loop-at-preserved : goal.loop-at-preserved
loop-at-preserved c = record { within = omega arith; goes_on = goes_further _ _ _ c.loop-at.invariant.goes_on c.step.ensures.goes_on; reads = (turned c).2 }

pub returns-then-ne-clause-finds : goal.returns-then-ne-clause-finds
returns-then-ne-clause-finds c =
    let bs = c.args.bytes.now in
    let v = c.loop-at.invariant.reads in
    let f : is_done c.loop-at.self.section ≡ false = search rules in
    let s : is_done v.0.section ≡ false = ap is_done (section_is v.0 _ v.1) ∙ f in
    let e = ended bs c.loop-at.at v.0 _ c.loop-at-test.false v.2 ∙ ap (λ b. cond b (Ok v.0) (Err (refused_at Truncated c.loop-at.at))) s in
    subst (λ q. Finds q (Err c.new.result) c.loop-at.self.cards.now c.loop-at.self.marks.now) (sym e) (ap (λ w. Err w) c.new.ensures)

pub returns-clause-finds : goal.returns-clause-finds
returns-clause-finds c =
    let bs = c.args.bytes.now in
    let r = c.loop-at.self in
    let v = c.loop-at.invariant.reads in
    let g = c.loop-at.invariant.goes_on in
    let f : is_done r.section ≡ true = search rules in
    let s : is_done v.0.section ≡ true = ap is_done (section_is v.0 _ v.1) ∙ f in
    let e = ended bs c.loop-at.at v.0 _ c.loop-at-test.false v.2 ∙ ap (λ b. cond b (Ok v.0) (Err (refused_at Truncated c.loop-at.at))) s in
    let few : r.index.now.records.count ≤ 256 = omega (arith, r.index.now.records.within, r.index.now.room) in
    let l : length r.cards.now ≡ 256 = g.whole ∙ ap length c.requires.cards in
    subst (λ q. Finds q (Ok (record { count = c.len.result; notes = r.notes })) r.cards.now r.marks.now) (sym e)
    (rw c.len.ensures (finds v.0 r v.1 l few (g.behind ∙ ap (drop r.index.now.records.count) c.requires.cards)))
