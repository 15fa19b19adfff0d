-- What an ordered map replies.
use Rattle.std.specs.Prelude.{ℕ, Bool, Option, Some, None, List, [], ◌∷◌, if◌then◌else◌}
use Rattle.key_tuple.specs.Order.{FieldList}
use Rattle.key_tuple.specs.KeyPlace.{KeyPlace, At, cut_of, looks_ahead}
use Rattle.key_tuple.specs.declared.mode.Mode.{Mode}
use Rattle.map_history.specs.Map.{Map, Pair, MapChange, Put, Set, Del, value_at, is_allowed}
use Rattle.map_history.specs.Operation.{Ask, Get, Make, Seek, Scan}

-- a value, a row, or a word
pub data MapReply : Type 0 where
  Value : List ℕ → MapReply
  Row : FieldList → List ℕ → MapReply
  Done : MapReply
  Absent : MapReply
  Duplicate : MapReply

-- the first row that the cut lets pass
abbrev pub first_after : (KeyPlace → Bool) → Map → Option Pair
first_after p [] = None
first_after p (x ∷ xs) = if p (At x.key) then Some x else first_after p xs

-- the first of two that is there
abbrev pub or_else : Option Pair → Option Pair → Option Pair
or_else None o = o
or_else (Some x) o = Some x

-- the last row that the cut doesn't let pass
abbrev pub last_before : (KeyPlace → Bool) → Map → Option Pair
last_before p [] = None
last_before p (x ∷ xs) = or_else (last_before p xs) (if p (At x.key) then None else Some x)

-- the row that a search with this mode asks for
abbrev pub sought : Mode → FieldList → Map → Option Pair
sought mode tuple m =
    if looks_ahead mode then first_after (cut_of mode tuple) m
    else last_before (cut_of mode tuple) m

-- the reply to a get, by what the map has at the key
abbrev pub value_reply : Option (List ℕ) → MapReply
value_reply None = Absent
value_reply (Some v) = Value v

-- the reply to a seek, by the row that is sought
abbrev pub row_reply : Option Pair → MapReply
row_reply None = Absent
row_reply (Some row) = Row row.key row.value

-- what is said of a change that isn't allowed
abbrev pub refusal : MapChange → MapReply
refusal (Put k v) = Duplicate
refusal (Set k v) = Absent
refusal (Del k) = Absent

-- what the map replies; a scan has pieces in place of a reply
abbrev pub reply_of : Map → Ask → MapReply
reply_of m (Get k) = value_reply (value_at k m)
reply_of m (Make c) = if is_allowed m c then Done else refusal c
reply_of m (Seek mode tuple) = row_reply (sought mode tuple m)
reply_of m (Scan from to limit) = Absent
