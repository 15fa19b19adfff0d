-- What was said at the end of a list, and the columns of what is told.
use Rattle.std.specs.Prelude.{ℕ, ◌≡◌, ◌≢◌, length}
use mathlib.Core.Option.{some}
use lib.ListN.{get_elem?}
use Rattle.map_history.specs.declared.reply.Reply.TheVariants as words
use Rattle.map_history.specs.declared.reply.Told.{Told}
use Rattle.map_history.specs.Map.{Pair}
use Rattle.map_history.specs.Operation.{Ask}
use Rattle.map_history.specs.Report.{Columns, Answer}
use Rattle.index_law.specs.State.{Entries}
use Rattle.call_law.specs.Once.{IsQuiet, AnswersOnce}
use Rattle.call_law.specs.Spoken.{View}
use Rattle.call_law.specs.Trace.{IsOnlySaid}
use Rattle.engine_law.specs.declared.found.Found.{Found}
use Rattle.engine_law.specs.Tells.{IsTold}

-- the list of the index was seen with as many changes as it may have
pub record SeesFull (v : View) (i : ℕ) : Type 0 where
  pub list : Entries
  pub seen : get_elem? v.seen i ≡ some list
  pub full : length list ≡ v.terms.max_changes

-- the one answer was told, not for want of a page, and nothing else was done
pub record SaysOnce (v v' : View) (i : ℕ) (ask : Ask) (told : Told) (row : Pair) : Type 0 where
  pub answer : Answer
  pub is_told : IsTold ask told row answer
  pub once : AnswersOnce v v' i ask answer
  pub only : IsOnlySaid once.added
  pub placed : told.reply ≢ words.SpaceFull

-- nothing was answered, and nothing else was done; the list may have been looked at
pub record OnlyLooks (v v' : View) (i : ℕ) : Type 0 where
  pub quiet : IsQuiet v v' i
  pub only : IsOnlySaid quiet.added

-- the two columns of what is told by a leaf that was found so
abbrev pub columns_by : Found → Columns
columns_by found = record { how = found.how; note = found.note }
