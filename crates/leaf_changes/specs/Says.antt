-- What may be said of a leaf that is held, and what was said then.
use Rattle.std.specs.Prelude.{ℕ, ◌≡◌, ◌≢◌, Some, None, [], length}
use mathlib.Core.Option.{some}
use lib.ListN.{get_elem?}
use Rattle.key_tuple.specs.Order.{FieldList}
use Rattle.latch_space.specs.Passes.{view}
use Rattle.map_history.specs.declared.reply.Reply.{Reply}
use Rattle.map_history.specs.declared.reply.Reply.TheVariants as words
use Rattle.map_history.specs.declared.reply.Told.{Told}
use Rattle.map_history.specs.Map.{Pair, Map, key_of}
use Rattle.map_history.specs.Operation.{Ask, Get, Make}
use Rattle.map_history.specs.Report.{Columns, Answer}
use Rattle.tree_law.specs.Pages.{row_pairs}
use Rattle.index_law.specs.Answers.{Word, Gives, SpaceFull}
use Rattle.index_law.specs.Answers as answers
use Rattle.index_law.specs.Meanings.{reply_word}
use Rattle.index_law.specs.Rightness.{IsReply, IsAllowed}
use Rattle.index_law.specs.Shape.{Shape}
use Rattle.index_law.specs.State.{Entries}
use Rattle.forest_law.specs.declared.objects.Frame.{Frame}
use Rattle.forest_law.specs.declared.objects.Object.TheVariants as object
use Rattle.forest_law.specs.Numbers.{frame_id}
use Rattle.forest_world.specs.Held.{TreePass, shape_of_pass}
use Rattle.call_law.specs.Once.{IsQuiet, AnswersOnce}
use Rattle.call_law.specs.Spoken.{View}
use Rattle.call_law.specs.Trace.{Added, IsOnlySaid, SparesTrees, frame_references}
use Rattle.buffer_pool.specs.AsTaken.{WasHeldSo}
use Rattle.buffer_pool.specs.Frames.{GivesFrame}
use Rattle.engine_law.specs.declared.found.Found.{Found}
use Rattle.engine_law.specs.Says.{SeesFull, SaysOnce}
use Rattle.engine_law.specs.Tells.{HasKeyOf, IsTold}
use Rattle.leaf_changes.specs.Holds.{HoldsLeaf, HoldsStill, KeepsNumber, StaysKnown}

-- the rows of the held leaf make the word right: the map's reply that changes nothing, or the
-- refusal of an allowed change at a full list
abbrev pub MaySay : View → ℕ → Map → Ask → Word → Type 0
MaySay v i rows ask (Gives reply) = IsReply rows ask reply
MaySay v i rows ask answers.LogFull = SeesFull v i × IsAllowed rows ask
MaySay v i rows ask SpaceFull = ⊥

-- a refusal for a full list tells how many changes a list may have
abbrev pub TellsMost : Reply → ℕ → Type 0
TellsMost (words.LogFull n) most = n ≡ most
TellsMost reply most = Unit {0}

-- what is asked is about this key alone
abbrev pub AsksOf : FieldList → Ask → Type 0
AsksOf key (Get k) = k ≡ key
AsksOf key (Make change) = key_of change ≡ key
AsksOf key ask = ⊥

-- the pass holds the leaf of the key, which is what it is known to be, and its rows make the word
-- right
pub record CanSay (p : TreePass) (i : ℕ) (key : FieldList) (ask : Ask) (reply : Reply)
    (row : Pair) : Type 0 where
  pub block : ℕ
  pub frame : Frame
  pub holds : HoldsLeaf p block i key frame frame
  pub about : AsksOf key ask
  pub word : Word
  pub is_word : reply_word ask reply row ≡ Some word
  pub may : MaySay (view p) i (row_pairs holds.leaf.page.is.page.rows) ask word
  pub most : TellsMost reply (view p).terms.max_changes
  pub row_key : HasKeyOf ask reply row

-- the pass has answered once, holds what it held, as it is known to be, and with it the leaf, of
-- the same number
pub record AnswersHolding (p q : TreePass) (b i : ℕ) (ask : Ask) (told : Told)
    (row : Pair) : Type 0 where
  pub says : SaysOnce (view p) (view q) i ask told row
  pub holds : HoldsStill q b
  pub number : KeepsNumber (view p) b holds.frame
  pub stays : StaysKnown p q

-- no tree and no frame was given back, and no tree was tried in vain
pub record SparesPages (shape : Shape) (added : Added) : Type 0 where
  pub trees : SparesTrees shape added
  pub frames : frame_references added.references ≡ []

-- the one answer was told, not for want of a page, and of pages nothing else was done
pub record SaysBeside (v v' : View) (i : ℕ) (ask : Ask) (told : Told) (row : Pair) : Type 0 where
  pub answer : Answer
  pub is_told : IsTold ask told row answer
  pub once : AnswersOnce v v' i ask answer
  pub beside : SparesPages v.terms.shape once.added
  pub placed : told.reply ≢ words.SpaceFull

-- nothing was answered, and of pages nothing was done
pub record LooksBeside (v v' : View) (i : ℕ) : Type 0 where
  pub quiet : IsQuiet v v' i
  pub beside : SparesPages v.terms.shape quiet.added

-- what is told of a change that was made at the point
abbrev pub told_made : Found → ℕ → Told
told_made found point =
    record { reply = words.Ok; point = Some point; how = found.how; note = found.note }

-- what is told where there is no page for a row
abbrev pub told_space_full : Found → Told
told_space_full found =
    record { reply = words.SpaceFull; point = None; how = found.how; note = found.note }

-- the operation was answered by the leaf in hand, which then was given back
pub record AnswersAndLeaves (p : TreePass) (b i : ℕ) (ask : Ask) (told : Told) (row : Pair)
    (q : TreePass) : Type 0 where
  pub between : TreePass
  pub says : SaysBeside (view p) (view between) i ask told row
  pub gave : GivesFrame between b q
  pub number : KeepsNumber (view p) b gave.frame

-- the same, and the leaf was given back as it was held
pub record ReadsAndLeaves (p : TreePass) (b i : ℕ) (ask : Ask) (told : Told) (row : Pair)
    (q : TreePass) : Type 0 where
  pub answers : AnswersAndLeaves p b i ask told row q
  pub held : WasHeldSo (view p) (frame_id (shape_of_pass p) b) answers.gave.taken
      (object.Frame answers.gave.frame)
