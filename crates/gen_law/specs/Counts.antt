-- How many rows there are, by the changes.
use Rattle.std.specs.Prelude.{◌≡◌, ◌+◌, Bool, true, false, List, length, count_by}
use Rattle.map_history.specs.Map.{MapChange, Put, Set, Del, map_after, AreLawful}

-- a change that puts a row in
abbrev pub is_put : MapChange → Bool
is_put (Put key value) = true
is_put (Set key value) = false
is_put (Del key) = false

-- a change that takes a row out
abbrev pub is_del : MapChange → Bool
is_del (Put key value) = false
is_del (Set key value) = false
is_del (Del key) = true

-- the rows that are there and those that were taken out are as many as were put in
abbrev pub RowsByChanges : Type 0
RowsByChanges = (changes : List MapChange) → AreLawful changes
    → length (map_after changes) + count_by is_del changes ≡ count_by is_put changes
