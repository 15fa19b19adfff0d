-- What is known on the way of a seek: which part of the map it has left behind.
use Rattle.std.specs.Prelude.{ℕ, ◌≡◌, ◌++◌, Bool, true, false, Option, List, ◌∷◌, length}
use mathlib.Core.Option.{some}
use lib.ListN.{get_elem?}
use Rattle.list_facts.specs.Growing.{AreBeginnings}
use Rattle.key_tuple.specs.KeyPlace.{KeyPlace, At, cut_of}
use Rattle.key_tuple.specs.Order.{FieldList}
use Rattle.key_tuple.specs.declared.mode.Mode.{Mode}
use Rattle.latch_law.specs.declared.knows.Holding.{Holding}
use Rattle.latch_law.specs.Rule.{Holds}
use Rattle.map_history.specs.declared.reply.Reply.{Reply}
use Rattle.map_history.specs.Map.{Pair, Map, map_after}
use Rattle.map_history.specs.Operation.{Seek}
use Rattle.map_history.specs.Told.{Says}
use Rattle.index_page.specs.Rows.{Bytes, Row}
use Rattle.index_page.specs.Search.{AllOut, AllIn}
use Rattle.tree_law.specs.GuessCheck.{NoneBefore, AllFrom}
use Rattle.index_law.specs.Answers.{speaks_at}
use Rattle.index_law.specs.State.{Entries, changes}
use Rattle.forest_law.specs.declared.objects.Frame.{Frame}
use Rattle.forest_law.specs.declared.objects.Object.{Object}
use Rattle.forest_law.specs.Law.{IsLawful}
use Rattle.forest_law.specs.State.{ForestState}
use Rattle.call_law.specs.Spoken.{View}
use Rattle.tree_facts.specs.TreeFrames.{low_of, high_of}
use Rattle.tree_neighbours.specs.declared.side.Side.{Side}
use Rattle.tree_neighbours.specs.declared.side.Side.TheVariants.{Left, Right}
use Rattle.tree_neighbours.specs.Sides.{side_of}

-- where a search that goes on to this side comes into a frame's page
abbrev pub near_of : Side → Frame → KeyPlace
near_of Left f = high_of f
near_of Right f = low_of f

-- and where it leaves it
abbrev pub far_of : Side → Frame → KeyPlace
far_of Left f = low_of f
far_of Right f = high_of f

-- no row of the map on the way to the place is beyond the cut: to the right none before it, to the
-- left none from it on
abbrev pub NothingUpTo : Side → (KeyPlace → Bool) → KeyPlace → Map → Type 0
NothingUpTo Left cut place map = AllFrom cut place map
NothingUpTo Right cut place map = NoneBefore cut place map

-- no row of some is beyond the cut on this side
abbrev pub NoneBeyond : Side → (KeyPlace → Bool) → List Row → Type 0
NoneBeyond Left cut rows = AllIn cut rows
NoneBeyond Right cut rows = AllOut cut rows

-- the row between these is beyond the cut on this side, and no other is nearer to it
abbrev pub IsNextBeyond : Side → (KeyPlace → Bool) → List Row → Row → List Row → Type 0
IsNextBeyond Left cut xs row ys = (cut (At row.key) ≡ false) × AllIn cut ys
IsNextBeyond Right cut xs row ys = AllOut cut xs × (cut (At row.key) ≡ true)

-- among the rows that one stands, and it is this pair
pub record HasNextBeyond (side : Side) (cut : KeyPlace → Bool) (rows : List Row)
    (pair : Pair) : Type 0 where
  pub xs : List Row
  pub row : Row
  pub ys : List Row
  pub split : rows ≡ xs ++ row ∷ ys
  pub beyond : IsNextBeyond side cut xs row ys
  pub key : row.key ≡ pair.key
  pub body : row.body ≡ Bytes pair.value

-- whether the rows have a row for the mode, which is the pair then
abbrev pub TellsRow : Mode → FieldList → List Row → Bool → Pair → Type 0
TellsRow mode tuple rows true pair = HasNextBeyond (side_of mode) (cut_of mode tuple) rows pair
TellsRow mode tuple rows false pair = NoneBeyond (side_of mode) (cut_of mode tuple) rows

-- the state has what is held as it is known, and of each list at least what was seen
pub record HasKnown (w : ForestState) (v : View) : Type 0 where
  pub shape : w.shape ≡ v.terms.shape
  pub known : (k : ℕ) (h : Holding Object) → Holds v k h → get_elem? w.objects k ≡ some h.known
  pub seen : AreBeginnings v.seen w.lists

-- in each lawful state that has what is known, and a list of the index at whose end a reply with
-- this bound speaks, nothing of the map up to the place is sought
abbrev pub PassesNothing : View → ℕ → Mode → FieldList → Option ℕ → KeyPlace → Type 0
PassesNothing v i mode tuple bound place =
    (w : ForestState) → IsLawful w → HasKnown w v
    → (xs : Entries) → get_elem? w.lists i ≡ some xs → speaks_at bound (length xs) ≡ true
    → NothingUpTo (side_of mode) (cut_of mode tuple) place (map_after (changes xs))

-- in each such state the reply with the pair is the map's
abbrev pub CanTell : View → ℕ → Mode → FieldList → Option ℕ → Reply → Pair → Type 0
CanTell v i mode tuple bound reply pair =
    (w : ForestState) → IsLawful w → HasKnown w v
    → (xs : Entries) → get_elem? w.lists i ≡ some xs → speaks_at bound (length xs) ≡ true
    → Says (map_after (changes xs)) (Seek mode tuple) reply pair

-- the list of the index was seen to begin with so many changes, and nothing of their map up to the
-- place is sought
pub record SawNothing (v : View) (i count : ℕ) (mode : Mode) (tuple : FieldList)
    (place : KeyPlace) : Type 0 where
  pub list : Entries
  pub more : Entries
  pub seen : get_elem? v.seen i ≡ some (list ++ more)
  pub counted : length list ≡ count
  pub none : NothingUpTo (side_of mode) (cut_of mode tuple) place (map_after (changes list))
