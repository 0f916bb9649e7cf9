-- The caller's spaces: how long they have to be, and what stands for nothing in them.
use Rattle.std.specs.Prelude.{ℕ, Bool, ◌||◌, List, pos, nat_lt, slice_index_or}
use Rattle.format.specs.declared.card.Card.{Card}
use Rattle.book.specs.declared.index.IndexRecord.{IndexRecord}

abbrev pub no_card : Card
no_card = record { stamp = 0; family = 0; diameter = 0; crown = pos 0 }

abbrev pub no_index : IndexRecord
no_index = record { stamp = 0; place = 0 }

-- fewer than 256 cards, 4,080 mark bytes or 256 index records
abbrev pub too_short : ℕ → ℕ → ℕ → Bool
too_short cards marks index = nat_lt cards 256 || (nat_lt marks 4080 || nat_lt index 256)

-- the stamp at a place, 0 where there is no card
abbrev pub stamp_at : List Card → ℕ → ℕ
stamp_at cs u = (slice_index_or cs u no_card).stamp
