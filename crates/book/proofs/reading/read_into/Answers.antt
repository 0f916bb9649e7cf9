use Rattle.std.proofs.Common.{take, replicate, false, None}
use Rattle.format.specs.declared.records.Section.TheVariants.{Cards}
use Rattle.book.proofs.reading.read_into.Goals as goal

pub read_records-requires-clause-fresh : goal.read_records-requires-clause-fresh
read_records-requires-clause-fresh c = λ i. record {
  section = Cards;
  rule = None;
  cards = take (c.new-index.ensures.count i) c.args.cards.now;
  index = c.new-index.ensures.held i;
  marks = c.requires.marks i;
  withdrawn = replicate 256 false;
}
