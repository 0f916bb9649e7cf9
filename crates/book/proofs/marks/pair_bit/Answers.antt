use Rattle.std.proofs.Common.{ℕ, ◌+◌, ◌-◌, ◌*◌, ◌/◌, ◌<◌, sym, ap, ◌∙◌, arith}
use Rattle.book.specs.Marks.{pair_number}
use Rattle.book.proofs.Pairs.{bit_gt, bit_lt}
use Rattle.book.proofs.marks.pair_bit.Goals as goal
use Rattle.book.proofs.marks.pair_bit.Goals.{then-u-v, else-u-v}

pub returns-clause-bit : goal.returns-clause-bit
unfolding pair_number
returns-clause-bit c = elim c.if-u-v.branch [
  | then-u-v w ↦ ap (λ (p : ℕ × ℕ). p.1 * (p.1 - 1) / 2 + p.0) w.low-is ∙ sym (bit_lt c.args.u c.args.v w.if-u-v.true)
  | else-u-v w ↦ (let l : c.args.v < c.args.u = omega arith in ap (λ (p : ℕ × ℕ). p.1 * (p.1 - 1) / 2 + p.0) w.low-is ∙ sym (bit_gt c.args.u c.args.v l))
]
