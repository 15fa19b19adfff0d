-- The laws of sizes.
use Rattle.std.specs.Prelude.{◌≡◌, ◌≤◌, ℕ, List, length, map}
use Rattle.key_tuple.specs.Order.{FieldList, byte_count}
use Rattle.key_tuple.specs.Limits.{MAX_FIELDS, MAX_KEY_BYTES, MAX_VALUE_BYTES}
use Rattle.key_tuple.specs.declared.TheConstants.{MAX_ROW_SIZE, MAX_POINTER_SIZE}
use Rattle.key_tuple.specs.Sizes.{row_size_of, pointer_size_of, charge, largest_row, largest_pointer}

-- no record is larger than the limits allow, whatever they are
pub record SizesAreLimited : Type 0 where
  pub row : (fields : FieldList) (value : List ℕ) (most bytes room : ℕ) → length fields ≤ most
      → byte_count fields ≤ bytes → length value ≤ room
      → row_size_of fields value ≤ largest_row most bytes room
  pub pointer : (fields : FieldList) (most bytes : ℕ) → length fields ≤ most
      → byte_count fields ≤ bytes → pointer_size_of fields ≤ largest_pointer most bytes

-- the largest records under the present limits, and what a page is charged for them
pub record LargestSizes : Type 0 where
  pub row : largest_row MAX_FIELDS MAX_KEY_BYTES MAX_VALUE_BYTES ≡ MAX_ROW_SIZE
  pub pointer : largest_pointer MAX_FIELDS MAX_KEY_BYTES ≡ MAX_POINTER_SIZE
  pub row_charge : charge MAX_ROW_SIZE ≡ 2831
  pub pointer_charge : charge MAX_POINTER_SIZE ≡ 785

-- a size depends on the lengths alone
pub record SizesFollowLengths : Type 0 where
  pub row : (s t : FieldList) (u v : List ℕ) → map length s ≡ map length t → length u ≡ length v
      → row_size_of s u ≡ row_size_of t v
  pub pointer : (s t : FieldList) → map length s ≡ map length t
      → pointer_size_of s ≡ pointer_size_of t
