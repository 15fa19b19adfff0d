-- What a page's bytes say at a record's origin, and at a slot.
use Rattle.std.specs.Prelude.{ℕ, ◌+◌, ◌-◌, ◌*◌, ◌%◌, List, slice_index}
use Rattle.compact_record.specs.Bytes.{u16_at}

-- the origin that the record with this origin leads to: two bytes before it say how far it is
abbrev pub next_origin : List ℕ → ℕ → ℕ
next_origin bytes at = (at + u16_at bytes (at - 2)) % 65536

-- the number of records that the record with this origin owns
abbrev pub owned_count : List ℕ → ℕ → ℕ
owned_count bytes at = slice_index bytes (at - 5) % 16

-- the origin that slot s names: slots stand at the page's end, each below the one before it
abbrev pub slot_word : List ℕ → ℕ → ℕ
slot_word bytes s = u16_at bytes (16374 - 2 * s)
