-- How far a tuple and a key agree.
use Rattle.std.specs.Prelude.{ℕ, ◌+◌, List, [], ◌∷◌, nat_eq, ◌==◌, if◌then◌else◌, slice_index_or}
use Rattle.std.specs.Cmp.Lexicographic.{pointwise}
use Rattle.key_tuple.specs.declared.mode.Match.{Match}
use Rattle.key_tuple.specs.Order.{FieldList}

-- how many first bytes two byte lists share
abbrev pub equal_bytes : List ℕ → List ℕ → ℕ
equal_bytes [] ys = 0
equal_bytes (x ∷ xs) [] = 0
equal_bytes (x ∷ xs) (y ∷ ys) = if x == y then equal_bytes xs ys + 1 else 0

-- how many first fields are equal
abbrev pub equal_fields : FieldList → FieldList → ℕ
equal_fields [] key = 0
equal_fields (x ∷ xs) [] = 0
equal_fields (x ∷ xs) (y ∷ ys) = if pointwise nat_eq x y then equal_fields xs ys + 1 else 0

-- the number of equal first fields, and of equal first bytes of the tuple's next field, 0 where it
-- has none
abbrev pub matching : FieldList → FieldList → Match
matching tuple key =
    let n = equal_fields tuple key in record {
      fields = n;
      bytes = equal_bytes (slice_index_or tuple n []) (slice_index_or key n []);
    }
