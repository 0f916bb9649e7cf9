use Rattle.std.proofs.Common.{◌≡◌, ℕ, ◌+◌, ◌<◌, max, List, ◌++◌, length, take, set, sym, ap, ◌∙◌, subst, arith}
use Rattle.cliques.specs.Sets.{places}
use Rattle.order.specs.Orders.{taken, most}
use Rattle.order.specs.Lines.{left, after_next}
use Rattle.order.proofs.Counts.{length_places}
use Rattle.order.proofs.Steps.{step, order_more, most_more}
use Rattle.order.proofs.takes.take_all.Goals as goal

pub loop-slot-init : goal.loop-slot-init
loop-slot-init g c =
    let m = g.T.PairTable.meaning c.args.table.now in
    let e = m.partners in
    let n = m.size in
    let S = left n c.of_all-line.result.tallies.records in
    let q : S ≡ places n = c.of_all-line.ensures.left in
    let l : length S ≡ n = ap length q ∙ length_places n in
    let t : taken e n (places n) ≡ taken e (length S) S = ap (λ k. taken e k (places n)) (sym l) ∙ ap (taken e (length S)) (sym q) in
    record { tallied = c.of_all-line.ensures.tallied; order = t; whole = omega arith; most = (let k = ap (most e) t in omega arith) }

pub loop-slot-preserved : goal.loop-slot-preserved
loop-slot-preserved g c =
    let m = g.T.PairTable.meaning c.args.table.now in
    let e = m.partners in
    let n = m.size in
    let w = c.in-Some.next in
    let xs = c.loop-slot.order in
    let i = c.loop-slot.slot-index in
    let inv = c.loop-slot.invariant in
    let S = left n c.loop-slot.line.tallies.records in
    let s = step e (g.T.PairTable.lawful c.args.table.now).apart S w c.in-Some.ensures.answer in
    let q : left n c.take_next.new.self.tallies.records ≡ after_next e S = c.in-Some.ensures.left in
    let sh = s.shorter in
    let l = ap length q in
    let lx : i < length xs = omega (arith, c.loop-slot.auto.order) in
    let all = taken e n (places n) in
    let k : c.max-largest.result ≡ max c.loop-slot.largest w.tally = c.max-largest.ensures in record {
      tallied = c.in-Some.ensures.tallied;
      order = subst (λ (z : List ℕ). all ≡ take (i + 1) (set xs i w.place) ++ taken e (length z) z) (sym q) (order_more e S w s all xs i lx inv.order);
      whole = omega (arith, inv.whole);
      most = subst (λ (z : List ℕ). most e all ≡ max c.max-largest.result (most e (taken e (length z) z))) (sym q)
          (subst (λ j. most e all ≡ max j (most e (taken e (length (after_next e S)) (after_next e S)))) (sym k) (most_more e S w s (most e all) c.loop-slot.largest inv.most));
    }
