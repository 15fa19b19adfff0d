-- What hashing a tuple or a key feeds a hasher.
use Rattle.std.specs.Hash.{HashWrites, slice, u8}
use Rattle.key_tuple.specs.Order.{FieldList}

-- the number of fields, then each field's length and bytes
abbrev pub hash_writes : FieldList → HashWrites
hash_writes = slice (slice u8)
