-- What is said of a list at a point, and what its entries say.
use Rattle.std.specs.Prelude.{ℕ, Bool, true, ◌==◌, Option, Some, None, List, []}
use Rattle.key_tuple.specs.KeyPlace.{KeyPlace}
use Rattle.map_history.specs.declared.columns.How.TheVariants as how
use Rattle.map_history.specs.declared.columns.Note.TheVariants as note
use Rattle.map_history.specs.Map.{Map, MapChange, Del}
use Rattle.map_history.specs.Operation.{Ask}
use Rattle.map_history.specs.Reply.{MapReply}
use Rattle.map_history.specs.Report.{Columns}

-- a change with the two columns of its answer, of which no law speaks
pub record MadeChange : Type 0 where
  pub change : MapChange
  pub columns : Columns

-- some change, for a type of which no value is made
abbrev pub no_change : MadeChange
no_change = record { change = Del []; columns = record { how = how.Dash; note = note.Dash } }

-- what an operation is told that changes nothing: the map's reply, or that its list is full, or
-- that there is no page for it
pub data Word : Type 0 where
  Gives : MapReply → Word
  LogFull : Word
  SpaceFull : Word

-- where a page is: nowhere, in a block's frame, or in its image
pub data Where : Type 0 where
  Free : Where
  InFrame : (block : ℕ) → Where
  Image : Where

-- What is said at a point. A reply or a piece that is bound to a number says nothing at any other
-- point. A piece is the rows of a range. A full carries where each page is. A look says nothing.
pub data Saying : Type 0 where
  Replies : Ask → Word → (bound : Option ℕ) → Columns → Saying
  Piece : Ask → (low high : KeyPlace) → (rows : Map) → (bound : Option ℕ) → Columns → Saying
  Full : List Where → Saying
  Look : Saying

-- what is bound to a number speaks at that point alone, and what isn't at each
abbrev pub speaks_at : Option ℕ → ℕ → Bool
speaks_at None p = true
speaks_at (Some n) p = n == p
