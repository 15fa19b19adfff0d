-- What a key is seen as.
use Rattle.std.specs.Prelude.{ℕ}
use Rattle.key_tuple.specs.Order.{FieldList}

-- the fields of a key, and how many fields it was made to be refilled with: 0 for one that isn't
-- refilled
pub record FieldsWithRoom : Type 0 where
  pub tuple : FieldList
  pub room : ℕ
