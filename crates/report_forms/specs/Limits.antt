-- Keys, values and rows within their limits, as tests.
use Rattle.std.specs.Prelude.{ℕ, Bool, ◌&&◌, ◌==◌, nat_lt, nat_le, List, length}
use Rattle.std.specs.List.{list_all}
use Rattle.key_tuple.specs.Order.{FieldList, byte_count}
use Rattle.key_tuple.specs.declared.TheConstants.{MAX_KEY_BYTES, MAX_VALUE_BYTES}
use Rattle.map_history.specs.Map.{Pair, MapChange, Put, Set, Del}

-- each is a byte
abbrev pub are_bytes : List ℕ → Bool
are_bytes bytes = list_all (λ (b : ℕ). nat_lt b 256) bytes

-- a key of so many fields
abbrev pub is_key : ℕ → FieldList → Bool
is_key count key =
    (length key == count) && list_all are_bytes key && nat_le (byte_count key) MAX_KEY_BYTES

-- a value
abbrev pub is_value : List ℕ → Bool
is_value value = are_bytes value && nat_le (length value) MAX_VALUE_BYTES

-- a row
abbrev pub is_row : ℕ → Pair → Bool
is_row count row = is_key count row.key && is_value row.value

-- a change of such a row
abbrev pub changes_row : ℕ → MapChange → Bool
changes_row count (Put k v) = is_key count k && is_value v
changes_row count (Set k v) = is_key count k && is_value v
changes_row count (Del k) = is_key count k
