-- Keys that come after others have fields, and copies of fields.
use Rattle.std.proofs.Common.{◌≡◌, ◌<◌, true, List, [], ◌∷◌, ◌++◌, arith, length}
use Rattle.key_tuple.specs.Order.{FieldList}
use Rattle.key_tuple.specs.KeyPlace.{At, before}
use Rattle.index_page.specs.Rows.{Row}
use Rattle.index_page.specs.Page.{RowsAscend}
use Rattle.list_facts.proofs.Each.{each_right}

-- a key before which another comes has fields
pub some_fields : (j k : FieldList) → before (At j) (At k) ≡ true → 0 < length k
unfolding before
some_fields [] [] e = absurd cc
some_fields (x ∷ j) [] e = absurd cc
some_fields j (x ∷ k) e = omega arith

-- so has the key of a row that isn't the first
pub later_fields : (lower : List Row) (row : Row) (above : List Row) → 0 < length lower
    → RowsAscend (lower ++ row ∷ above) → 0 < length row.key
later_fields [] row above some a = absurd (omega arith)
later_fields (x ∷ lower) row above some a = some_fields x.key row.key
    (each_right (λ (y : Row). before (At x.key) (At y.key) ≡ true) lower (row ∷ above) a.0).0
