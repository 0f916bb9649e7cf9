use Rattle.std.proofs.Common.{◌≡◌, ℕ, true, List, length, set, sym, ap, ◌∙◌, subst, inl, inr, arith}
use Rattle.std.proofs.lemmas.Bool.{cases_eq}
use Rattle.sorted.specs.Held.{held}
use Rattle.order.specs.declared.tallies.Tally.{Tally}
use Rattle.cliques.specs.Sets.{places}
use Rattle.order.specs.Orders.{how_many}
use Rattle.order.specs.Lines.{tally_at, count_at, waits_at}
use Rattle.order.proofs.Lining.{tally_same, tally_other}
use Rattle.order.proofs.Steps.{idle, none_lined, all_wait}
use Rattle.order.proofs.takes.Line.of_all.Goals as goal

pub invariant_of-line : goal.invariant_of-line
invariant_of-line g c = record { lined = none_lined _ _ c.new.ensures c.new-2.ensures.held }

pub loop-place-init : goal.loop-place-init
loop-place-init g c = record {
  begun = λ v l. absurd (omega arith);
  idle = λ v l. ap (λ (z : List Tally). waits_at z v) c.new.ensures ∙ idle 256 v;
  long = ap length c.new-2.ensures.held;
  free = omega (arith, c.new-2.ensures.room, c.requires);
}

pub loop-place-preserved : goal.loop-place-preserved
loop-place-preserved g c =
    let i = c.loop-place.invariant in
    let m = g.T.PairTable.meaning c.args.table.now in
    let u = c.loop-place.place in
    let R = c.loop-place.line.tallies.records in
    let R' = c.begin.new.self.tallies.records in
    let t : Tally = record { partners = c.count_partners.result; waits = true } in
    let q : R' ≡ set R u t = c.begin.ensures.after in
    let few = (g.T.PairTable.lawful c.args.table.now).few in
    let here : tally_at R' u ≡ t = ap (λ (z : List Tally). tally_at z u) q ∙ tally_same R u t (omega (arith, c.size-place-end.ensures, c.loop-place.line.lined.wide)) in
    let there : (v : ℕ) → (v ≡ u → ⊥) → tally_at R' v ≡ tally_at R v = λ v n. ap (λ (z : List Tally). tally_at z v) q ∙ tally_other R u t v n in
    record {
      begun = λ v l. elim (cases_eq v u) [
        | inl r ↦ subst (λ z. (waits_at R' z ≡ true) × (count_at R' z ≡ how_many (m.partners z) (places m.size))) (sym r) (ap (λ z. z.waits) here, ap (λ z. z.partners) here ∙ c.count_partners.ensures)
        | inr r ↦ (let o = i.begun v (omega arith) in (ap (λ z. z.waits) (there v r) ∙ o.0, ap (λ z. z.partners) (there v r) ∙ o.1))
      ];
      idle = λ v l. ap (λ z. z.waits) (there v (λ r. omega arith)) ∙ i.idle v (omega arith);
      long = omega (arith, c.begin.ensures.longer, i.long);
      free = omega (arith, c.begin.ensures.room, i.free);
    }

pub returns : goal.returns
returns g c =
    let m = g.T.PairTable.meaning c.args.table.now in
    let line = c.loop-place.line in
    let i = c.loop-place.invariant in
    let t = all_wait m.size m.partners line.tallies.records (held line.waiting) line.lined (λ v l. i.begun v (omega (arith, c.size-place-end.ensures))) (λ v l. i.idle v (omega (arith, c.size-place-end.ensures))) in
    record { tallied = t.0; left = t.1 }
