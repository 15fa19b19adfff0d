-- Fields, keys and values as lists of bytes.
use Rattle.std.specs.Prelude.{ℕ, ◌<◌, ◌≤◌, List, length}
use Rattle.std.specs.List.{AllByRecursion}
use Rattle.key_tuple.specs.declared.TheConstants.{MAX_VALUE_BYTES}
use Rattle.key_tuple.specs.Order.{FieldList}

-- each is a byte
abbrev pub AreBytes : List ℕ → Type 0
AreBytes = AllByRecursion (λ (b : ℕ). b < 256)

-- a key's fields: at least one, each of bytes
pub record AreFields (fields : FieldList) : Type 0 where
  pub some : 0 < length fields
  pub bytes : AllByRecursion AreBytes fields

-- a value: bytes, within their limit
pub record IsValue (value : List ℕ) : Type 0 where
  pub bytes : AreBytes value
  pub short : length value ≤ MAX_VALUE_BYTES
