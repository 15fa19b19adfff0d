-- The fold of a prefix: the 64-bit FNV-1a hash of its bytes, cut to the low bits.
use Rattle.std.specs.Prelude.{ℕ, ◌+◌, ◌*◌, ◌%◌, ◌^◌, List, ◌++◌, length, take, fold, flat_map, bit_xor, slice_index_or, [], ◌==◌, if◌then◌else◌}
use Rattle.std.specs.Int.{bytes_high_first}
use Rattle.key_tuple.specs.declared.mode.Params.{Params}
use Rattle.key_tuple.specs.Order.{FieldList}

-- one byte more: exclusive or, then the product with the prime modulo 2 ^ 64
abbrev pub hash_byte : ℕ → ℕ → ℕ
hash_byte hash byte = (bit_xor hash byte * 0x100000001b3) % 2 ^ 64

-- the hash of these bytes, from the basis on
abbrev pub hash_of : List ℕ → ℕ
hash_of bytes = fold hash_byte 0xcbf29ce484222325 bytes

-- a whole field: its length in two bytes, most significant first, and its bytes
abbrev pub with_length : List ℕ → List ℕ
with_length field = bytes_high_first 2 (length field) ++ field

-- the whole fields of a prefix
abbrev pub whole_fields : FieldList → Params → FieldList
whole_fields fields params = take params.fields fields

-- the first bytes of the next field, or all of it where it is shorter
abbrev pub next_bytes : FieldList → Params → List ℕ
next_bytes fields params = take params.bytes (slice_index_or fields params.fields [])

-- what is hashed: the index number in four bytes, the whole fields, then the first bytes of the
-- next one
abbrev pub prefix_bytes : ℕ → FieldList → Params → List ℕ
prefix_bytes index fields params =
    bytes_high_first 4 index ++ flat_map with_length (whole_fields fields params)
    ++ next_bytes fields params

-- the fold: the low bits of the hash
unfoldable pub fold_of : ℕ → FieldList → Params → ℕ → ℕ
fold_of index fields params bits = hash_of (prefix_bytes index fields params) % 2 ^ bits

-- how many fields the parameters ask for
abbrev pub asked_fields : Params → ℕ
asked_fields params = if params.bytes == 0 then params.fields else params.fields + 1
