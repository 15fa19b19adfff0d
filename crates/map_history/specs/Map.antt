-- An ordered map, what may change it, and what it is after a list of changes.
use Rattle.std.specs.Prelude.{ℕ, ◌≡◌, Bool, true, false, Option, Some, None, is_some, is_none, if◌then◌else◌, List, [], ◌∷◌, ◌++◌, take, slice_get}
use Rattle.std.specs.List.{filter, AllByRecursion}
use Rattle.std.specs.Ordering.{is_eq}
use Rattle.key_tuple.specs.Order.{FieldList, key_cmp}
use Rattle.key_tuple.specs.KeyPlace.{KeyPlace, At, before, within}

-- a row: a key's fields and a value's bytes
pub record Pair : Type 0 where
  pub key : FieldList
  pub value : List ℕ

-- the rows of an index, by ascending keys
abbrev pub Map : Type 0
Map = List Pair

-- the keys rise along the list
abbrev pub Ascends : Map → Type 0
Ascends [] = Unit {0}
Ascends (x ∷ xs) =
    AllByRecursion (λ (y : Pair). before (At x.key) (At y.key) ≡ true) xs × Ascends xs

-- the rows at `low` or after it, and before `high`
abbrev pub slice : KeyPlace → KeyPlace → Map → Map
slice low high m = filter (λ (e : Pair). within low high (At e.key)) m

-- the value of a key
abbrev pub value_at : FieldList → Map → Option (List ℕ)
value_at k [] = None
value_at k (x ∷ xs) = if is_eq (key_cmp k x.key) then Some x.value else value_at k xs

-- a row with this value, or none
abbrev pub row_of : FieldList → Option (List ℕ) → Map
row_of k None = []
row_of k (Some v) = record { key = k; value = v } ∷ []

-- the map with this value at the key, or without the key
abbrev pub write : FieldList → Option (List ℕ) → Map → Map
write k v m =
    (filter (λ (e : Pair). before (At e.key) (At k)) m ++ row_of k v)
    ++ filter (λ (e : Pair). before (At k) (At e.key)) m

-- a change: a new row, a new value of a row, or a row taken out
pub data MapChange : Type 0 where
  Put : FieldList → List ℕ → MapChange
  Set : FieldList → List ℕ → MapChange
  Del : FieldList → MapChange

-- the change writes a row: a put or a set
abbrev pub writes : MapChange → Bool
writes (Put k v) = true
writes (Set k v) = true
writes (Del k) = false

-- the key that a change is about
abbrev pub key_of : MapChange → FieldList
key_of (Put k v) = k
key_of (Set k v) = k
key_of (Del k) = k

-- the value that a change leaves at its key, if any
abbrev pub value_of : MapChange → Option (List ℕ)
value_of (Put k v) = Some v
value_of (Set k v) = Some v
value_of (Del k) = None

-- the map allows the change: a put's key isn't there, and that of a set or a del is
abbrev pub is_allowed : Map → MapChange → Bool
is_allowed m (Put k v) = is_none (value_at k m)
is_allowed m (Set k v) = is_some (value_at k m)
is_allowed m (Del k) = is_some (value_at k m)

-- the map after a change; one that it doesn't allow leaves it
abbrev pub after_change : Map → MapChange → Map
after_change m c = if is_allowed m c then write (key_of c) (value_of c) m else m

-- a map after some changes, one after another
abbrev pub after_changes : Map → List MapChange → Map
after_changes m [] = m
after_changes m (c ∷ cs) = after_changes (after_change m c) cs

-- what changes make of the empty map
abbrev pub map_after : List MapChange → Map
map_after cs = after_changes [] cs

-- each change is allowed by the map after those before it
abbrev pub AreLawful : List MapChange → Type 0
AreLawful cs = (n : ℕ) (c : MapChange) → slice_get cs n ≡ Some c
    → is_allowed (map_after (take n cs)) c ≡ true
