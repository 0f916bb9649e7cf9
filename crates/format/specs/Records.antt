-- A record is a kind byte, then a body whose length the kind fixes; numbers have the high byte first.
use Rattle.std.specs.Prelude.{ℕ, ◌+◌, ◌-◌, ◌*◌, ◌/◌, ◌%◌, Bool, true, cond, not, ◌&&◌, ◌||◌, List, [], ◌∷◌, ◌++◌, length, pos, negsuc, Ok, Err, Result, ◌==◌, int_le, nat_le, nat_lt, slice_index}
use Rattle.std.specs.Int.{w16}
use Rattle.std.proofs.Common.{of_z, to_z}
use Rattle.refusal.specs.declared.Reason.{Reason}
use Rattle.refusal.specs.declared.Reason.TheVariants.{Truncated, UnknownKind}
use Rattle.format.specs.declared.card.Card.{Card}
use Rattle.format.specs.declared.card.Rule.{Rule}
use Rattle.format.specs.declared.records.Record.{Record}
use Rattle.format.specs.declared.records.Record.TheVariants.{Card as CardRecord, Rule as RuleRecord, Pair as PairRecord, Withdrawn as WithdrawnRecord, End as EndRecord}

-- a number in two bytes and in four
abbrev pub two : ℕ → List ℕ
two n = n / 256 ∷ n % 256 ∷ []

abbrev pub four : ℕ → List ℕ
four n = n / 16777216 ∷ n / 65536 % 256 ∷ n / 256 % 256 ∷ n % 256 ∷ []

-- a record's bytes
abbrev pub bytes_of : Record → List ℕ
bytes_of (CardRecord c) = 1 ∷ (two c.stamp ++ (c.family ∷ (four c.diameter ++ two (of_z w16 c.crown))))
bytes_of (RuleRecord r) = 2 ∷ (two r.diameter ++ two r.crown)
bytes_of (PairRecord a b) = 3 ∷ (two a ++ two b)
bytes_of (WithdrawnRecord s) = 4 ∷ two s
bytes_of EndRecord = 5 ∷ []

-- how long a record is, by its kind byte; 0 for a byte that is no kind
abbrev pub length_of_kind : ℕ → ℕ
length_of_kind k = cond (k == 1) 10 (cond (k == 2) 5 (cond (k == 3) 5 (cond (k == 4) 3 (cond (k == 5) 1 0))))

-- the number in the two bytes from i on, and in the four
abbrev pub two_at : List ℕ → ℕ → ℕ
two_at xs i = slice_index xs i * 256 + slice_index xs (i + 1)

abbrev pub four_at : List ℕ → ℕ → ℕ
four_at xs i = slice_index xs i * 16777216 + slice_index xs (i + 1) * 65536 + slice_index xs (i + 2) * 256 + slice_index xs (i + 3)

abbrev pub card_of : List ℕ → Card
card_of xs = record { stamp = two_at xs 1; family = slice_index xs 3; diameter = four_at xs 4; crown = to_z w16 (two_at xs 8) }

abbrev pub rule_of : List ℕ → Rule
rule_of xs = record { diameter = two_at xs 1; crown = two_at xs 3 }

abbrev pub kind_of : List ℕ → ℕ
kind_of xs = slice_index xs 0

-- the record that begins the bytes, which are of a known kind and long enough
abbrev pub record_of : List ℕ → Record
record_of xs =
    cond (kind_of xs == 1) (CardRecord (card_of xs))
    (cond (kind_of xs == 2) (RuleRecord (rule_of xs))
    (cond (kind_of xs == 3) (PairRecord (two_at xs 1) (two_at xs 3))
    (cond (kind_of xs == 4) (WithdrawnRecord (two_at xs 1)) EndRecord)))

-- the first byte is no kind
abbrev pub unknown_kind : List ℕ → Bool
unknown_kind xs = nat_lt 0 (length xs) && length_of_kind (kind_of xs) == 0

-- the bytes end in or before the record
abbrev pub cut_short : List ℕ → Bool
cut_short xs = length xs == 0 || nat_lt (length xs) (length_of_kind (kind_of xs))

-- the record that begins the bytes, and how many follow it
abbrev pub record_in : List ℕ → Result (Record × ℕ) Reason
record_in xs =
    cond (unknown_kind xs) (Err UnknownKind)
    (cond (cut_short xs) (Err Truncated) (Ok (record_of xs, length xs - length_of_kind (kind_of xs))))

-- the ranges of the fields
abbrev pub stamp_ok : ℕ → Bool
stamp_ok s = nat_le 1 s && nat_le s 9999

abbrev pub card_ok : Card → Bool
card_ok c = stamp_ok c.stamp && (nat_le 1 c.family && (nat_le c.diameter 200000 && (int_le (negsuc 499) c.crown && (int_le c.crown (pos 500)
    && (not (c.diameter == 0) || (int_le c.crown (pos 0) && int_le (pos 0) c.crown))))))

abbrev pub fields_ok : Record → Bool
fields_ok (CardRecord c) = card_ok c
fields_ok (RuleRecord r) = true
fields_ok (PairRecord a b) = stamp_ok a && stamp_ok b
fields_ok (WithdrawnRecord s) = stamp_ok s
fields_ok EndRecord = true
