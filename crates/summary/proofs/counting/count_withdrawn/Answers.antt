use Rattle.std.proofs.Common.{ℕ, ◌<◌, false, cond, get_or, ltb, ap, ◌∙◌, arith, rules}
use borrow.Author.Tests.{tests}
use Rattle.std.proofs.lemmas.Bool.{lt-ltb}
use Rattle.std.proofs.lemmas.Iterator.{YieldsList-from_range}
use Rattle.std.proofs.lemmas.Iterator.Consumers.{YieldsList-from_filter}
use Rattle.closed.specs.Closes.{book_in, plain}
use Rattle.summary.proofs.Counts.{count_same, range_count}
use Rattle.summary.proofs.counting.count_withdrawn.Goals as goal

pub returns : goal.returns
returns c =
    let n = c.args.size in
    let gone = λ (u : ℕ). get_or (book_in (plain c.args.book.now)).notes.withdrawn u false in
    let told = λ (u : ℕ). cond (ltb u 256) (gone u) false in
    range_count told n c.count.ensures.ran (YieldsList-from_filter _ told (YieldsList-from_range 0 n n (cc) (omega arith)) c.filter.ensures.closure (λ x b q k. search (rules, tests)))
    ∙ count_same told gone n (λ u l. let below : u < 256 = omega (arith, c.requires) in ap (λ b. cond b (gone u) false) (lt-ltb u 256 below))
