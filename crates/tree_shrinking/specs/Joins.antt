-- What is told on the way up of pages that were merged, or weren't.
use Rattle.std.specs.Prelude.{ℕ, ◌≡◌, ◌<◌, ◌≤◌, Option, Some, [], ◌∷◌}
use Rattle.key_tuple.specs.Order.{FieldList}
use Rattle.key_tuple.specs.declared.mode.Mode.TheVariants as mode
use Rattle.latch_space.specs.Passes.{view}
use Rattle.forest_law.specs.declared.objects.Frame.{Frame}
use Rattle.forest_world.specs.Held.{TreePass, shape_of_pass}
use Rattle.call_law.specs.Hands.{KnowsFrame}
use Rattle.tree_descent.specs.Descents.{HoldsInner}
use Rattle.tree_descent.specs.Leaves.{cut_in}
use Rattle.tree_descent.specs.Paths.{PicksChild}
use Rattle.tree_shrinking.specs.declared.families.Family.{Family}
use Rattle.tree_shrinking.specs.declared.pairs.Pair.{Pair}
use Rattle.tree_shrinking.specs.declared.pairs.Siblings.{Siblings}
use Rattle.tree_shrinking.specs.Families.{TellsFamily}
use Rattle.tree_shrinking.specs.Pairs.{GoesTo, StillKnows, ComesBack}
use Rattle.tree_shrinking.specs.Shrinking.{WasGiven, StayApart, StaysAlone, RestsAt, pages_freed, EndsUp}

-- both pages were given back as they were known
pub record GivesPair (p : TreePass) (pair : Pair) (i : ℕ) (key : FieldList) (q : TreePass) : Type 0
  where
    pub to : GoesTo p i key (pair.parent ∷ []) q
    pub still : StillKnows p pair.parent q
    pub left : (f : Frame) → KnowsFrame (view p) pair.left f
        → WasGiven (shape_of_pass p) pair.left f to.goes.added.references
    pub right : (f : Frame) → KnowsFrame (view p) pair.right f
        → WasGiven (shape_of_pass p) pair.right f to.goes.added.references

-- the pass came back to the page above, which is as it was, and both pages stay apart
pub record LeavesPair (p : TreePass) (parent : ℕ) (asked : Siblings) (i : ℕ) (key : FieldList)
    (q : TreePass) : Type 0 where
  pub back : ComesBack p parent i key q
  pub still : StillKnows p parent q
  pub apart : StayApart (shape_of_pass p) i asked.left asked.right asked.right_asks
      back.to.goes.added.references

-- the same of these, where two are named
pub record LeavesPairIf (p : TreePass) (parent : ℕ) (asked : Option Siblings) (i : ℕ)
    (key : FieldList) (q : TreePass) : Type 0 where
  pub back : ComesBack p parent i key q
  pub still : StillKnows p parent q
  pub apart : (s : Siblings) → asked ≡ Some s → StayApart (shape_of_pass p) i s.left s.right
      s.right_asks back.to.goes.added.references

-- the child that has the key stays alone under the page above, which is as it was
pub record LeavesChild (p : TreePass) (parent i : ℕ) (key : FieldList)
    (held : HoldsInner (view p) parent i mode.Ge key) (q : TreePass) : Type 0 where
  pub back : ComesBack p parent i key q
  pub still : StillKnows p parent q
  pub family : Family
  pub tells : TellsFamily held.page.is.page.rows family
  pub picks : PicksChild (cut_in (shape_of_pass p) i mode.Ge key) held.page.is.page.rows
      family.child
  pub alone : StaysAlone (shape_of_pass p) i family back.to.goes.added.references

-- a page was freed on the way back to the page above
pub record FreesUnder (p : TreePass) (parent i : ℕ) (key : FieldList) (q : TreePass) : Type 0 where
  pub back : ComesBack p parent i key q
  pub freed : 0 < pages_freed back.to.goes.added.references

-- on the level no page that has the key is to be merged, and none but the tree is in hand
pub record RestsOn (p : TreePass) (i level : ℕ) (key : FieldList) (q : TreePass) : Type 0 where
  pub to : GoesTo p i key [] q
  pub rests : RestsAt (shape_of_pass p) i level key to.goes.added.references

-- a page was freed, and none but the tree is in hand
pub record FreesOne (p : TreePass) (i : ℕ) (key : FieldList) (q : TreePass) : Type 0 where
  pub to : GoesTo p i key [] q
  pub freed : 0 < pages_freed to.goes.added.references

-- as many pages were freed, or more, and none but the tree is in hand
pub record FreesMany (p : TreePass) (i level : ℕ) (key : FieldList) (q : TreePass) : Type 0 where
  pub to : GoesTo p i key [] q
  pub freed : level ≤ pages_freed to.goes.added.references

-- the way up has come to an end, and none but the tree is in hand
pub record WalksUp (p : TreePass) (i : ℕ) (key : FieldList) (q : TreePass) : Type 0 where
  pub to : GoesTo p i key [] q
  pub ends : EndsUp (shape_of_pass p) i key to.goes.added.references
