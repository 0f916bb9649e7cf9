use Rattle.std.proofs.Common.{◌/◌, ◌%◌, get_or, set, ap, arith}
use lib.Bits.{bit_xor}
use Rattle.std.proofs.lemmas.Nat.{one_shl}
use Rattle.book.specs.Marks.{flipped}
use Rattle.book.proofs.marks.flip.Goals as goal

pub returns : goal.returns
unfolding flipped
returns c =
    let i = c.args.bit in
    let ms = c.args.marks.now in
    ap (λ k. set ms (i / 8) (bit_xor (get_or ms (i / 8) 0) k)) (one_shl (i % 8) 8 (omega arith))
