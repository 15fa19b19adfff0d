-- The limits of keys and values, and the refusals that they cause.
use Rattle.std.specs.Prelude.{ℕ, ◌≤◌, nat_lt, Option, Some, None, if◌then◌else◌, List, length}
pub use Rattle.key_tuple.specs.declared.TheConstants.{MAX_FIELDS, MAX_KEY_BYTES, MAX_VALUE_BYTES, FIELD_ROOM}
use Rattle.key_tuple.specs.declared.error.KeyError.{KeyError}
use Rattle.key_tuple.specs.declared.error.KeyError.TheVariants.{TooManyFields, TooLong}
use Rattle.key_tuple.specs.Order.{FieldList, byte_count}

-- the fields are few enough and short enough for a tuple
pub record IsWithinLimits (fields : FieldList) : Type 0 where
  pub few : length fields ≤ MAX_FIELDS
  pub short : byte_count fields ≤ MAX_KEY_BYTES

-- the refusal of these fields, if any: their number is judged before their bytes
abbrev pub refusal_of : FieldList → Option KeyError
refusal_of fields =
    if nat_lt MAX_FIELDS (length fields) then Some (TooManyFields (length fields))
    else (if nat_lt MAX_KEY_BYTES (byte_count fields) then Some (TooLong (byte_count fields))
    else None)

-- the refusal of a value's bytes, if any
abbrev pub value_refusal_of : List ℕ → Option KeyError
value_refusal_of bytes =
    if nat_lt MAX_VALUE_BYTES (length bytes) then Some (TooLong (length bytes)) else None
