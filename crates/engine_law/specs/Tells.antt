-- What a call tells of its one answer.
use Rattle.std.specs.Prelude.{ℕ, ◌≡◌, true, Option, Some, None, IsSome}
use Rattle.map_history.specs.declared.reply.Reply.{Reply}
use Rattle.map_history.specs.declared.reply.Reply.TheVariants as words
use Rattle.map_history.specs.declared.reply.Told.{Told}
use Rattle.map_history.specs.Map.{Pair}
use Rattle.map_history.specs.Operation.{Ask, Get}
use Rattle.map_history.specs.Columns.{may_stand}
use Rattle.map_history.specs.Report.{Answer}
use Rattle.map_history.specs.Told.{answer_of, columns_told}
use Rattle.call_law.specs.Once.{AnswersOnce}
use Rattle.call_law.specs.Spoken.{View}

-- with the row that a get found comes the key that it asked for
abbrev pub HasKeyOf : Ask → Reply → Pair → Type 0
HasKeyOf (Get key) words.Found row = row.key ≡ key
HasKeyOf ask reply row = Unit {0}

-- at a full list the point is its length, where there is no page there is none, and elsewhere there
-- is one
abbrev pub TellsPoint : Reply → Option ℕ → Type 0
TellsPoint (words.LogFull n) point = point ≡ Some n
TellsPoint words.SpaceFull point = point ≡ None
TellsPoint reply point = IsSome point

-- what is told, with the row in the caller's buffer, is this answer, and its columns may stand
pub record IsTold (ask : Ask) (told : Told) (row : Pair) (answer : Answer) : Type 0 where
  pub is : answer_of ask told row ≡ Some answer
  pub point : TellsPoint told.reply told.point
  pub key : HasKeyOf ask told.reply row
  pub stands : may_stand (columns_told told) ≡ true

-- the operation was answered once, and that is told
pub record TellsOnce (v v' : View) (i : ℕ) (ask : Ask) (told : Told) (row : Pair) : Type 0 where
  pub answer : Answer
  pub is_told : IsTold ask told row answer
  pub once : AnswersOnce v v' i ask answer
