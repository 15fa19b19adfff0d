-- What a write does with a leaf in hand, and then without.
use Rattle.std.specs.Prelude.{ℕ, ◌≡◌, ◌≢◌, ◌⊎◌, Option, Some, None, List, []}
use Rattle.key_tuple.specs.Order.{FieldList}
use Rattle.key_tuple.specs.declared.mode.Mode.{Mode}
use Rattle.key_tuple.specs.declared.mode.Mode.TheVariants as mode
use Rattle.map_history.specs.declared.reply.Reply.TheVariants as words
use Rattle.map_history.specs.declared.reply.Told.{Told}
use Rattle.map_history.specs.Map as map
use Rattle.map_history.specs.Operation.{Ask, Make}
use Rattle.map_history.specs.Report.{Columns, SpaceFull}
use Rattle.index_law.specs.Meanings.{lent_row}
use Rattle.index_law.specs.Rightness.{IsShort}
use Rattle.forest_law.specs.Law.{IsLawful}
use Rattle.forest_law.specs.State.{ForestState}
use Rattle.forest_world.specs.Held.{TreePass, shape_of_pass}
use Rattle.latch_space.specs.Passes.{view}
use Rattle.call_law.specs.Once.{IsQuiet}
use Rattle.call_law.specs.Spoken.{View, spoken, sayings}
use Rattle.call_law.specs.Trace.{Added, Adds, AreGivenAt, fulls}
use Rattle.buffer_pool.specs.Forests.{FitsTrees}
use Rattle.index_engine.specs.declared.write.Write.{Write}
use Rattle.index_engine.specs.declared.write.Write.TheVariants as write
use Rattle.leaf_changes.specs.Says.{AnswersAndLeaves}
use Rattle.index_engine.specs.Leaving.{LooksAndLeaves, LeavesFull}
use Rattle.engine_law.specs.Tells.{TellsOnce}
use Rattle.index_engine.specs.Traces.{AreWayTo, EndsOnLeaf, IsFullLeaf}

-- what a write asks: a new row, or another value for the row of the key
abbrev pub write_asked : Write → FieldList → List ℕ → Ask
write_asked write.Put key value = Make (map.Put key value)
write_asked write.Set key value = Make (map.Set key value)

-- the mode that a write searches its leaf with
abbrev pub mode_of_write : Write → Mode
mode_of_write write.Put = mode.Le
mode_of_write write.Set = mode.Ge

-- in each lawful state in which all that is known is so, there are so few pages that the trees may
-- need them all
abbrev pub KnowsShort : View → Type 0
KnowsShort v = (w : ForestState) → IsLawful w → FitsTrees w v → IsShort w

-- the word that there is no page for a row was said, and nothing else
pub record SaysNoRoom (v v' : View) (i : ℕ) (ask : Ask) (columns : Columns) : Type 0 where
  pub added : Added
  pub adds : Adds v v' added
  pub given : AreGivenAt i v.low added.said
  pub said : spoken added.said ≡ sayings i v.low ask (SpaceFull columns)
  pub fulls : fulls added.said ≡ []

-- a write was answered once, for want of a page
pub record LacksPage (v v' : View) (i : ℕ) (ask : Ask) (told : Told) : Type 0 where
  pub tells : TellsOnce v v' i ask told (lent_row None)
  pub full : told.reply ≡ words.SpaceFull

-- room was made and nothing answered, or there was no page for the row
abbrev pub TellsGrowth : View → View → ℕ → Ask → Option Told → Type 0
TellsGrowth v v' i ask None = IsQuiet v v' i
TellsGrowth v v' i ask (Some told) = LacksPage v v' i ask told

-- the write was answered by a leaf to which a way led, unless there was no page for the row
pub record TellsAgain (v v' : View) (i : ℕ) (key : FieldList) (ask : Ask) (told : Told) : Type 0
  where
    pub tells : TellsOnce v v' i ask told (lent_row None)
    pub ends : told.reply ≢ words.SpaceFull
        → EndsOnLeaf v.terms.shape (AreWayTo v.terms.shape i key) tells.once.added.references

-- the leaf in hand had no room for the row, and was given back; then the write was answered
pub record AnswersAgain (p : TreePass) (b i : ℕ) (key : FieldList) (value : List ℕ) (ask : Ask)
    (told : Told) (q : TreePass) : Type 0 where
  pub between : TreePass
  pub left : LeavesFull p b i key value between
  pub again : TellsAgain (view between) (view q) i key ask told

-- the write was answered by the leaf in hand, or later
abbrev pub AnswersWrite : TreePass → (b i : ℕ) → FieldList → List ℕ → Ask → Told → TreePass
    → Type 0
AnswersWrite p b i key value ask told q = AnswersAndLeaves p b i ask told (lent_row None) q
    ⊎ AnswersAgain p b i key value ask told q

-- the leaf in hand had no room for the row, and was given back; then room was made, and nothing
-- was answered
pub record MakesRoomThen (p : TreePass) (b i : ℕ) (key : FieldList) (value : List ℕ)
    (q : TreePass) : Type 0 where
  pub between : TreePass
  pub left : LeavesFull p b i key value between
  pub quiet : IsQuiet (view between) (view q) i

-- one try of a write: it is to be tried again, or was answered
abbrev pub TriesWrite : TreePass → (b i : ℕ) → FieldList → List ℕ → Ask → Option Told → TreePass
    → Type 0
TriesWrite p b i key value ask None q = MakesRoomThen p b i key value q
TriesWrite p b i key value ask (Some told) q = AnswersWrite p b i key value ask told q

-- nothing was answered: the leaf in hand was given back, and that was all, or it had no room for
-- the row
pub record LeavesUnanswered (p : TreePass) (b i : ℕ) (key : FieldList) (value : List ℕ)
    (q : TreePass) : Type 0 where
  pub between : TreePass
  pub left : LooksAndLeaves p b i between
  pub after : (q ≡ between) ⊎ (IsFullLeaf (shape_of_pass p) i key value left.gave.frame
      × IsQuiet (view between) (view q) i)
