-- The laws of maps, of lists of changes and of replies.
use Rattle.std.specs.Prelude.{ℕ, ◌≡◌, ◌≢◌, ◌≤◌, Bool, true, false, Some, None, List, [], ◌∷◌, ◌++◌, length, take, Contains}
use Rattle.key_tuple.specs.Order.{FieldList}
use Rattle.key_tuple.specs.KeyPlace.{KeyPlace, At, before, within}
use Rattle.map_history.specs.Map.{Pair, Map, MapChange, Ascends, slice, value_at, key_of, value_of, is_allowed, after_change, map_after, AreLawful}
use Rattle.map_history.specs.Operation.{Ask}
use Rattle.map_history.specs.Reply.{first_after, last_before, reply_of}
use Rattle.map_history.specs.Report.{Report}
use Rattle.map_history.specs.LegalReport.{Run, HasRoom, HasNoSpaceFull}

-- keys rise along each map that changes make
pub record MapsAscend : Type 0 where
  pub one : (m : Map) (c : MapChange) → Ascends m → Ascends (after_change m c)
  pub all : (cs : List MapChange) → Ascends (map_after cs)

-- a change leaves its value at its key, and each other key as it was; one that isn't allowed leaves
-- all
pub record ChangesAreLocal : Type 0 where
  pub here : (m : Map) (c : MapChange) → is_allowed m c ≡ true
      → value_at (key_of c) (after_change m c) ≡ value_of c
  pub elsewhere : (m : Map) (c : MapChange) (k : FieldList) → k ≢ key_of c
      → value_at k (after_change m c) ≡ value_at k m
  pub refused : (m : Map) (c : MapChange) → is_allowed m c ≡ false → after_change m c ≡ m

-- a range of a map has the values of its keys; it is changed as the map is where it has the key,
-- and else stays
pub record SlicesChange : Type 0 where
  pub value : (low high : KeyPlace) (m : Map) (k : FieldList) → within low high (At k) ≡ true
      → value_at k (slice low high m) ≡ value_at k m
  pub inside : (low high : KeyPlace) (m : Map) (c : MapChange)
      → within low high (At (key_of c)) ≡ true
      → slice low high (after_change m c) ≡ after_change (slice low high m) c
  pub outside : (low high : KeyPlace) (m : Map) (c : MapChange)
      → within low high (At (key_of c)) ≡ false
      → slice low high (after_change m c) ≡ slice low high m

-- lists of changes grow by what their map allows, and each first part of a lawful one is lawful
pub record ListsGrow : Type 0 where
  pub nothing : AreLawful []
  pub after : (cs : List MapChange) (c : MapChange)
      → map_after (cs ++ c ∷ []) ≡ after_change (map_after cs) c
  pub lawful : (cs : List MapChange) (c : MapChange) → AreLawful cs
      → is_allowed (map_after cs) c ≡ true → AreLawful (cs ++ c ∷ [])
  pub last : (cs : List MapChange) (c : MapChange) → AreLawful (cs ++ c ∷ [])
      → is_allowed (map_after cs) c ≡ true
  pub front : (cs more : List MapChange) → AreLawful (cs ++ more) → AreLawful cs

-- what was replied at a point stays the reply there when the list grows
pub record RepliesStay : Type 0 where
  pub same_map : (cs more : List MapChange) (point : ℕ) → point ≤ length cs
      → map_after (take point (cs ++ more)) ≡ map_after (take point cs)
  pub same_reply : (cs more : List MapChange) (point : ℕ) (ask : Ask) → point ≤ length cs
      → reply_of (map_after (take point (cs ++ more))) ask
      ≡ reply_of (map_after (take point cs)) ask

-- a row of the map that passes, and each other that passes isn't before it
pub record IsFirst (p : KeyPlace → Bool) (m : Map) (x : Pair) : Type 0 where
  pub member : Contains m x
  pub passes : p (At x.key) ≡ true
  pub first : (y : Pair) → Contains m y → p (At y.key) ≡ true → before (At y.key) (At x.key) ≡ false

-- a row of the map that doesn't pass, and each other that doesn't isn't after it
pub record IsLast (p : KeyPlace → Bool) (m : Map) (x : Pair) : Type 0 where
  pub member : Contains m x
  pub fails : p (At x.key) ≡ false
  pub last : (y : Pair) → Contains m y → p (At y.key) ≡ false → before (At x.key) (At y.key) ≡ false

-- a search finds that row, and none where none is
pub record SearchesFind : Type 0 where
  pub first : (p : KeyPlace → Bool) (m : Map) (x : Pair) → Ascends m
      → first_after p m ≡ Some x → IsFirst p m x
  pub first_is : (p : KeyPlace → Bool) (m : Map) (x : Pair) → Ascends m
      → IsFirst p m x → first_after p m ≡ Some x
  pub no_first : (p : KeyPlace → Bool) (m : Map) → first_after p m ≡ None
      → (y : Pair) → Contains m y → p (At y.key) ≡ false
  pub last : (p : KeyPlace → Bool) (m : Map) (x : Pair) → Ascends m
      → last_before p m ≡ Some x → IsLast p m x
  pub last_is : (p : KeyPlace → Bool) (m : Map) (x : Pair) → Ascends m
      → IsLast p m x → last_before p m ≡ Some x
  pub no_last : (p : KeyPlace → Bool) (m : Map) → last_before p m ≡ None
      → (y : Pair) → Contains m y → p (At y.key) ≡ true

-- a report in which nothing is answered `space-full` has room, however many pages there are
abbrev pub NoSpaceFullHasRoom : Type 0
NoSpaceFullHasRoom = (run : Run) (report : Report) → HasNoSpaceFull report → HasRoom run report
