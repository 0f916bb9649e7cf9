use Rattle.std.proofs.Common.{ℕ, ◌+◌, ◌≤◌, sym, ap, ◌∙◌, arith, eqb-true}
use Rattle.std.proofs.lemmas.Bool.{eqb-false}
use Rattle.cliques.specs.Sets.{smallest}
use Rattle.completion.specs.Standings.{members_of}
use Rattle.walk.specs.Search.{found_set}
use Rattle.walk.proofs.Climbs.{child_kept, climb_start, climb_found, climb_ends, climb_on, climb_over}
use Rattle.walk.proofs.climb.next_after.Goals as goal

pub loop-climbed-init : goal.loop-climbed-init
loop-climbed-init g c =
    let law = g.T.PairTable.lawful c.args.table.now in
    let here = c.new-here.result in
    let q = c.past-from.ensures ∙ ap (λ (i : ℕ). i + 1) c.index.ensures in (
      c.new-here.ensures.table,
      climb_start _ law _ (ap g.T.PairTable.meaning c.new-here.ensures.table) (members_of c.args.set.now) (members_of here.set) here.barriers c.past-from.result
          (ap members_of c.new-here.ensures.set) here.each here.largest q,
    )

pub returns-in-Some : goal.returns-in-Some
returns-in-Some g c =
    let law = g.T.PairTable.lawful c.args.table.now in
    let here = c.loop-climbed.here in
    let X = members_of here.set in
    let e = ap g.T.PairTable.meaning c.loop-climbed.invariant.0 in
    record {
      kept = child_kept _ law _ e (members_of c.args.set.now) X here.barriers c.loop-climbed.from c.loop-climbed._climbed here.each here.largest c.loop-climbed.invariant.1 c.in-Some.child c.in-Some.ensures;
      next = climb_found _ law _ e (members_of c.args.set.now) X here.barriers c.loop-climbed.from c.loop-climbed._climbed here.each here.largest c.loop-climbed.invariant.1 c.in-Some.child c.in-Some.ensures;
    }

pub returns-then-is_root-clause-next : goal.returns-then-is_root-clause-next
returns-then-is_root-clause-next g c =
    let law = g.T.PairTable.lawful c.args.table.now in
    let here = c.loop-climbed.here in
    let X = members_of here.set in
    let e = ap g.T.PairTable.meaning c.loop-climbed.invariant.0 in
    let q = c.past-from-in-loop-climbed.ensures ∙ ap (λ (i : ℕ). i + 1) c.index-in-loop-climbed.ensures in
    climb_ends _ law _ e (members_of c.args.set.now) X here.barriers c.loop-climbed.from c.loop-climbed._climbed here.each here.largest c.loop-climbed.invariant.1 c.in_default.ensures
    c.past-from-in-loop-climbed.result (found_set c.first_root.result) (eqb-true here.barriers.largest (smallest X) (sym c.if-is_root.ensures)) q c.first_root.ensures.least

pub loop-climbed-preserved : goal.loop-climbed-preserved
loop-climbed-preserved g c =
    let law = g.T.PairTable.lawful c.args.table.now in
    let here = c.loop-climbed.here in
    let X = members_of here.set in
    let e = ap g.T.PairTable.meaning c.loop-climbed.invariant.0 in
    let q = c.past-from-in-loop-climbed.ensures ∙ ap (λ (i : ℕ). i + 1) c.index-in-loop-climbed.ensures in (
      c.parent-here.ensures.table ∙ c.loop-climbed.invariant.0,
      climb_on _ law _ e (members_of c.args.set.now) X here.barriers c.loop-climbed.from c.loop-climbed._climbed here.each here.largest c.loop-climbed.invariant.1 c.in_default.ensures
          c.past-from-in-loop-climbed.result c.parent-here.result.set (eqb-false here.barriers.largest (smallest X) (sym c.if-is_root.ensures)) q c.parent-here.ensures.set,
    )

pub returns-clause-next : goal.returns-clause-next
returns-clause-next g c =
    let m = g.T.PairTable.meaning c.args.table.now in
    let here = c.loop-climbed.here in
    let z : m.size ≤ c.loop-climbed._climbed = omega (arith, c.size-climbed-end.ensures, c.loop-climbed-test.false) in
    λ k. absurd (climb_over m (g.T.PairTable.lawful c.args.table.now) _ (ap g.T.PairTable.meaning c.loop-climbed.invariant.0) (members_of c.args.set.now) (members_of here.set) here.barriers
    c.loop-climbed.from c.loop-climbed._climbed here.each here.largest c.loop-climbed.invariant.1 z k)
