-- Lines that ask indexes with so many fields.
use Rattle.std.specs.Prelude.{ℕ, ◌≡◌, ◌≤◌, List, length}
use Rattle.std.specs.List.{AllByRecursion}
use mathlib.Core.Option.{some}
use lib.ListN.{get_elem?}
use Rattle.key_tuple.specs.Order.{FieldList}
use Rattle.map_history.specs.declared.op.Op.{Op}
use Rattle.map_history.specs.declared.op.Op.TheVariants as op
use Rattle.map_history.specs.declared.line.Line.{Line}

-- a key of an index that has so many fields
abbrev pub IsKeyOf : List ℕ → ℕ → FieldList → Type 0
IsKeyOf fields index key = get_elem? fields index ≡ some (length key)

-- a tuple of an index whose keys have no fewer fields
abbrev pub IsTupleOf : List ℕ → ℕ → FieldList → Type 0
IsTupleOf fields index tuple =
    (n : ℕ) × (get_elem? fields index ≡ some n) × (length tuple ≤ n)

-- an operation, other than a scan, by such a key or tuple
abbrev pub IsOpOf : List ℕ → Op → Type 0
IsOpOf fields (op.Get index key) = IsKeyOf fields index key.tuple
IsOpOf fields (op.Put index key value) = IsKeyOf fields index key.tuple
IsOpOf fields (op.Set index key value) = IsKeyOf fields index key.tuple
IsOpOf fields (op.Del index key) = IsKeyOf fields index key.tuple
IsOpOf fields (op.Seek index mode tuple) = IsTupleOf fields index tuple.fields
IsOpOf fields (op.Scan index from to limit) = ⊥

-- lines that all ask so
abbrev pub AreLinesOf : List ℕ → List Line → Type 0
AreLinesOf fields lines = AllByRecursion (λ (line : Line). IsOpOf fields line.op) lines
