-- The rows around a key.
use Rattle.std.specs.Prelude.{Bool, not, Option}
use Rattle.key_tuple.specs.Order.{FieldList}
use Rattle.key_tuple.specs.KeyPlace.{KeyPlace, At, before}
use Rattle.map_history.specs.Map.{Map, Pair}
use Rattle.map_history.specs.Reply.{first_after, last_before}

-- the cut just before a key
abbrev pub from_key : FieldList → KeyPlace → Bool
from_key key place = not (before place (At key))

-- the first row from a key on
abbrev pub row_from : FieldList → Map → Option Pair
row_from key m = first_after (from_key key) m

-- the last row before a key
abbrev pub row_below : FieldList → Map → Option Pair
row_below key m = last_before (from_key key) m
