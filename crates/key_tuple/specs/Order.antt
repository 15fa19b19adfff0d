-- The order of keys and of tuples.
use Rattle.std.specs.Prelude.{ℕ, List, [], ◌∷◌, length, sum_by}
use Rattle.std.specs.Ordering.{nat_cmp, ordering_then}
use Rattle.std.specs.Cmp.Lexicographic.{slice_cmp}
use Rattle.std.specs.declared.cmp.Ordering.{Ordering}
use Rattle.std.specs.declared.cmp.Ordering.TheVariants.{Equal, Greater}

-- the fields of a tuple or a key, each a list of bytes
abbrev pub FieldList : Type 0
FieldList = List (List ℕ)

-- how many bytes the fields have together
abbrev pub byte_count : FieldList → ℕ
byte_count fields = sum_by length fields

-- two keys are compared field by field, each field byte by byte; a proper prefix comes first
abbrev pub key_cmp : FieldList → FieldList → Ordering
key_cmp = slice_cmp (slice_cmp nat_cmp)

-- how a tuple stands to a key's first fields; a tuple that a key begins with stands equal to it
abbrev pub tuple_cmp : FieldList → FieldList → Ordering
tuple_cmp [] key = Equal
tuple_cmp (field ∷ fields) [] = Greater
tuple_cmp (field ∷ fields) (part ∷ parts) =
    ordering_then (slice_cmp nat_cmp field part) (tuple_cmp fields parts)
