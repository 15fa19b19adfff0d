-- The laws of folds.
use Rattle.std.specs.Prelude.{◌≡◌, ◌≤◌, ◌<◌, ◌%◌, ◌^◌, ℕ, List, fold, map, bit_xor}
use Rattle.key_tuple.specs.declared.mode.Params.{Params}
use Rattle.key_tuple.specs.Order.{FieldList}
use Rattle.key_tuple.specs.Fold.{whole_fields, next_bytes, prefix_bytes, fold_of}

-- the exclusive or of 1 and the lowest bits of all bytes
abbrev pub lowest_bits : List ℕ → ℕ
lowest_bits bytes = fold bit_xor 1 (map (λ byte. byte % 2) bytes)

-- a fold depends on the prefix alone, is below 2 to the power of its bits, and its lowest bit comes
-- from the lowest bits alone
pub record FoldsFollowPrefixes : Type 0 where
  pub same_prefix : (index : ℕ) (s t : FieldList) (p q : Params) (bits : ℕ)
      → whole_fields s p ≡ whole_fields t q → next_bytes s p ≡ next_bytes t q
      → fold_of index s p bits ≡ fold_of index t q bits
  pub below : (index : ℕ) (s : FieldList) (p : Params) (bits : ℕ)
      → fold_of index s p bits < 2 ^ bits
  pub lowest_bit : (index : ℕ) (s : FieldList) (p : Params) (bits : ℕ) → 1 ≤ bits
      → fold_of index s p bits % 2 ≡ lowest_bits (prefix_bytes index s p)
