-- How many bytes a record takes on a page.
use Rattle.std.specs.Prelude.{ℕ, ◌+◌, ◌*◌, List, length, sum_by, nat_lt, if◌then◌else◌}
use Rattle.key_tuple.specs.Order.{FieldList}

-- how many bytes a length takes: one up to 127, two above
abbrev pub length_size : ℕ → ℕ
length_size n = if nat_lt 127 n then 2 else 1

-- a field with its length
abbrev pub field_size : List ℕ → ℕ
field_size field = length_size (length field) + length field

-- a row: five bytes of head, the key's fields and the value, each with its length
abbrev pub row_size_of : FieldList → List ℕ → ℕ
row_size_of fields value = 5 + sum_by field_size fields + field_size value

-- a pointer: five bytes of head, the key's fields, each with its length, and four bytes of child
abbrev pub pointer_size_of : FieldList → ℕ
pointer_size_of fields = 5 + sum_by field_size fields + 4

-- what a page is charged for a record: its size, and one byte of the directory
abbrev pub charge : ℕ → ℕ
charge size = size + 1

-- the largest row where a key has at most so many fields and bytes, and a value so many bytes
abbrev pub largest_row : ℕ → ℕ → ℕ → ℕ
largest_row fields bytes value = 5 + (2 * fields + bytes) + (2 + value)

-- the largest pointer where a key has at most so many fields and bytes
abbrev pub largest_pointer : ℕ → ℕ → ℕ
largest_pointer fields bytes = 5 + (2 * fields + bytes) + 4
