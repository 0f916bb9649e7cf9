-- What a sorted slice holds; k and u are the key of a record and the order of the keys, which its type cites.
use Rattle.std.specs.Prelude.{◌≡◌, ℕ, Bool, List, length, take, nat_lt}
use Rattle.sorted.specs.declared.slice.SortedSlice.{SortedSlice}

-- the records that it holds
abbrev pub held : {T K : Type 0} {k u : _} → SortedSlice T K k u → List T
held s = take s.count s.records.now

-- how many records it has room for
abbrev pub room : {T K : Type 0} {k u : _} → SortedSlice T K k u → ℕ
room s = length s.records.now

-- whether there is room for one more
abbrev pub has_room : {T K : Type 0} {k u : _} → SortedSlice T K k u → Bool
has_room s = nat_lt (length (held s)) (room s)

-- the second has the records and the count of the first
abbrev pub Same : {T K : Type 0} {k u : _} → SortedSlice T K k u → SortedSlice T K k u → Type 0
Same s t = (t.records.now ≡ s.records.now) × (t.count ≡ s.count)
