-- What an operation asks, in plain lists.
use Rattle.std.specs.Prelude.{ℕ, Bool, true, false, Option, Some, None}
use Rattle.std.specs.Option.{option_map}
use Rattle.key_tuple.specs.Order.{FieldList}
use Rattle.key_tuple.specs.declared.mode.Mode.{Mode}
use Rattle.map_history.specs.Map.{MapChange}
use Rattle.map_history.specs.Map as map
use Rattle.map_history.specs.declared.op.Op.{Op}
use Rattle.map_history.specs.declared.op.Op.TheVariants as op
use Rattle.map_history.specs.declared.op.OpRef.{OpRef}
use Rattle.map_history.specs.declared.op.OpRef.TheVariants as by
use Rattle.map_history.specs.declared.change.Change as change

-- what is asked of the map of an index
pub data Ask : Type 0 where
  Get : FieldList → Ask
  Make : MapChange → Ask
  Seek : Mode → FieldList → Ask
  Scan : (from : FieldList) → (to : Option FieldList) → (limit : ℕ) → Ask

-- what is asked, and of which index
pub record Operation : Type 0 where
  pub index : ℕ
  pub ask : Ask

-- what an operation of the program asks
abbrev pub operation_of : Op → Operation
operation_of (op.Get index key) = record { index = index; ask = Get key.tuple }
operation_of (op.Put index key value) = record {
  index = index;
  ask = Make (map.Put key.tuple value);
}
operation_of (op.Set index key value) = record {
  index = index;
  ask = Make (map.Set key.tuple value);
}
operation_of (op.Del index key) = record { index = index; ask = Make (map.Del key.tuple) }
operation_of (op.Seek index mode tuple) = record { index = index; ask = Seek mode tuple.fields }
operation_of (op.Scan index from to limit) = record {
  index = index;
  ask = Scan from.fields (option_map (λ t. t.fields) to) limit;
}

-- and what a lent one asks
abbrev pub operation_by : OpRef → Operation
operation_by (by.Get index key) = record { index = index; ask = Get key.now.tuple }
operation_by (by.Put index key value) = record {
  index = index;
  ask = Make (map.Put key.now.tuple value.now);
}
operation_by (by.Set index key value) = record {
  index = index;
  ask = Make (map.Set key.now.tuple value.now);
}
operation_by (by.Del index key) = record { index = index; ask = Make (map.Del key.now.tuple) }
operation_by (by.Seek index mode tuple) = record {
  index = index;
  ask = Seek mode tuple.now.fields;
}
operation_by (by.Scan index from to limit) = record {
  index = index;
  ask = Scan from.now.fields (option_map (λ t. t.now.fields) to) limit;
}

-- the change that a value of the program stands for
abbrev pub change_of : change.Change → MapChange
change_of (change.TheVariants.Put key value) = map.Put key.tuple value
change_of (change.TheVariants.Set key value) = map.Set key.tuple value
change_of (change.TheVariants.Del key) = map.Del key.tuple

-- the change that is asked for, if one is
abbrev pub change_asked : Ask → Option MapChange
change_asked (Get k) = None
change_asked (Make c) = Some c
change_asked (Seek mode tuple) = None
change_asked (Scan from to limit) = None

-- it asks for the rows of a range
abbrev pub is_scan : Ask → Bool
is_scan (Get k) = false
is_scan (Make c) = false
is_scan (Seek mode tuple) = false
is_scan (Scan from to limit) = true

-- the map after the change that is asked for, if one is
abbrev pub after_ask : map.Map → Ask → map.Map
after_ask m (Get key) = m
after_ask m (Make c) = map.after_change m c
after_ask m (Seek mode tuple) = m
after_ask m (Scan from to limit) = m
