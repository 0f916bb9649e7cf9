use Rattle.std.proofs.Common.{◌≡◌, ◌<◌, ◌≤◌, ◌∙◌, ℕ, length, get_or, ltb, cond, replicate, ◌++◌, drop, sym, subst, arith, rules}
use Rattle.std.proofs.lemmas.List.{length-set, length-take-le}
use Rattle.cliques.specs.Shortcuts.{barrier, largest_barrier}
use Rattle.completion.proofs.Lists.{table_none, table_more, table_whole}
use Rattle.completion.proofs.Passing.{largest_more}
use Rattle.completion.proofs.barriers.Barriers.of.Goals as goal

pub loop-x-init : goal.loop-x-init
loop-x-init g c =
    let few = (g.T.PairTable.lawful c.args.table.now).few in
    let n = c.size.result in
    let h : n ≤ 256 = omega (arith, c.size.ensures) in (
      search rules,
      length-take-le n (replicate 256 0) h ∙ c.size.ensures,
      λ y. table_none (barrier (g.T.PairTable.meaning c.args.table.now) c.args.set.now) n 256 y h,
    )

pub loop-x-preserved : goal.loop-x-preserved
loop-x-preserved g c =
    let m = g.T.PairTable.meaning c.args.table.now in
    let K = c.args.set.now in
    let items = c.loop-x.slot-items in
    let x = c.loop-x.x in
    let b = c.barrier.result in
    let h : x < length items = omega (arith, c.loop-x-test.true) in (
      c.max-largest.ensures ∙ largest_more m K x c.loop-x.largest b c.loop-x.invariant.0 c.barrier.ensures,
      length-set items x b ∙ c.loop-x.invariant.1,
      table_more (barrier m K) items x b h c.barrier.ensures c.loop-x.invariant.2,
    )

pub returns : goal.returns
returns g c =
    let m = g.T.PairTable.meaning c.args.table.now in
    let K = c.args.set.now in
    let items = c.loop-x.slot-items in
    let all : c.loop-x.x ≡ m.size = omega (arith, c.loop-x-test.false) in
    record {
      at = λ x.
          subst (λ (n : ℕ). get_or (items ++ drop n (replicate 256 0)) x 0 ≡ cond (ltb x m.size) (barrier m K x) 0) (sym c.size.ensures)
          (table_whole (barrier m K) items m.size 256 x c.loop-x.invariant.1
          (subst (λ (n : ℕ). get_or items x 0 ≡ cond (ltb x n) (barrier m K x) 0) all (c.loop-x.invariant.2 x)));
      largest = subst (λ (n : ℕ). c.loop-x.largest ≡ largest_barrier m n K) all c.loop-x.invariant.0;
    }
