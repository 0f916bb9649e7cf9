use Rattle.std.proofs.Common.{◌≡◌, ◌<◌, ◌≤◌, true, false, length, Some, None, Err, sym, refl, ap, ◌∙◌, arith, rules}
use Rattle.std.specs.Array.{IsFirstChunk}
use Rattle.std.specs.Option.{ok_or}
use Rattle.std.specs.Result.{result_ok}
use Rattle.std.proofs.lemmas.Result.{err_from_is_err_and}
use Rattle.std.proofs.lemmas.Bool.{le-ltb, lt-ltb}
use Rattle.refusal.specs.Refusals.{refused}
use Rattle.refusal.specs.declared.Layer.TheVariants.{Book as BookLayer}
use Rattle.refusal.specs.declared.Reason.TheVariants.{ShortSpace}
use Rattle.book.specs.Spaces.{too_short}
use Rattle.book.proofs.Answered.{answered, front_back, same_err, unread}
use Rattle.book.proofs.reading.read.Goals as goal

pub returns-in_err-marks-clause-cards : goal.returns-in_err-marks-clause-cards
returns-in_err-marks-clause-cards c =
    let s : too_short (length c.args.cards.now) (length c.args.marks.now) (length c.args.index.now) ≡ true = search rules in
    let w : length c.args.bytes.now ≤ 65536 = omega arith in
    let k : IsFirstChunk c.args.cards.now c.in_ok-cards.cards.now 256 = search rules in
    (unread c.args.bytes.now _ c.args.cards.now _ c.args.marks.now _ c.args.index.now w s (front_back k) refl).cards

pub returns-in_err-index : goal.returns-in_err-index
returns-in_err-index c =
    let n : length c.args.index.now < 256 = search rules in
    let a : 256 ≤ length c.args.cards.now = search rules in
    let b : 4080 ≤ length c.args.marks.now = search rules in
    let s : too_short (length c.args.cards.now) (length c.args.marks.now) (length c.args.index.now) ≡ true = rw (le-ltb _ _ a, le-ltb _ _ b, lt-ltb _ _ n) in
    let w : length c.args.bytes.now ≤ 65536 = omega arith in
    let k : IsFirstChunk c.args.cards.now c.in_ok-cards.cards.now 256 = search rules in
    let q : c.first_chunk_mut-2.result ≡ Some c.in_ok-marks.marks = c.ok_or-2.ensures.ok_part ∙ ap result_ok c.in_ok-marks.was in
    let m : IsFirstChunk c.args.marks.now c.in_ok-marks.marks.now 4080 = rw q at c.first_chunk_mut-2.ensures.cases in
    let z : c.first_chunk_mut-3.result ≡ None = c.ok_or-3.ensures.ok_part ∙ ap result_ok c.in_err-index.was in
    let p = err_from_is_err_and c.from_residual-in_err-index.result c.from_residual-in_err-index.ensures.1 in
    let v = sym c.in_err-index.was ∙ c.ok_or-3.ensures.value ∙ ap (λ o. ok_or o c.new-short.result) z in
    let e : c.from_residual-in_err-index.result ≡ Err (refused ShortSpace BookLayer 0) = p.1 ∙ ap (λ w. Err w) (p.2 ∙ same_err v ∙ c.new-short.ensures) in
    let h = unread c.args.bytes.now _ c.args.cards.now _ c.args.marks.now _ c.args.index.now w s (front_back k) (front_back m) in
    rw e (record { answer = h.answer; cards = h.cards; marks = h.marks; index = h.index; means = h.means })

pub returns : goal.returns
returns c =
    let a : 256 ≤ length c.args.cards.now = search rules in
    let b : 4080 ≤ length c.args.marks.now = search rules in
    let n : 256 ≤ length c.args.index.now = search rules in
    let s : too_short (length c.args.cards.now) (length c.args.marks.now) (length c.args.index.now) ≡ false = rw (le-ltb _ _ a, le-ltb _ _ b, le-ltb _ _ n) in
    let w : length c.args.bytes.now ≤ 65536 = omega arith in
    let k = c.read_or_clear.ensures in
    let h = answered c.args.bytes.now _ c.args.cards.now c.read_or_clear.new.cards c.args.marks.now c.read_or_clear.new.marks c.args.index.now c.read_or_clear.new.index
    (λ i. (c.type_inv.bytes i).fits) w s n k.whole.0 k.whole.1 c.read_or_clear.result k.finds k.cleared in
    record { answer = h.answer; cards = h.cards; marks = h.marks; index = h.index; means = h.means }
