-- What the kind of a record says of its bytes.
use Rattle.std.specs.Prelude.{ℕ, List, [], ◌∷◌, ◌++◌, nat_eq, if◌then◌else◌}
use Rattle.key_tuple.specs.Order.{FieldList}
use Rattle.compact_record.specs.declared.kind.RecordKind.{RecordKind}
use Rattle.compact_record.specs.declared.kind.RecordKind.TheVariants.{Row, Pointer, LeftmostPointer}

-- the status in the head: 0 of a row, 1 of a pointer
abbrev pub status_bits : RecordKind → ℕ
status_bits Row = 0
status_bits Pointer = 1
status_bits LeftmostPointer = 1

-- the info bits in the head: 1 of the leftmost pointer of a level, else 0
abbrev pub info_bits : RecordKind → ℕ
info_bits Row = 0
info_bits Pointer = 0
info_bits LeftmostPointer = 1

-- the kind with this status and these info bits
abbrev pub kind_with : ℕ → ℕ → RecordKind
kind_with status info =
    if nat_eq status 0 then Row else (if nat_eq info 0 then Pointer else LeftmostPointer)

-- the parts whose lengths are written: the key's fields, and a row's value
abbrev pub measured : RecordKind → FieldList → List ℕ → FieldList
measured Row key tail = key ++ tail ∷ []
measured Pointer key tail = key
measured LeftmostPointer key tail = key
