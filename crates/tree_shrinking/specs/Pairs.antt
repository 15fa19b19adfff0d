-- Two pages that follow one another under a page in hand, on the way up.
use Rattle.std.specs.Prelude.{ℕ, suc, ◌≡◌, ◌<◌, ◌≤◌, ◌+◌, Bool, true, false, if◌then◌else◌, Option, Some, List, [], ◌∷◌}
use Rattle.key_tuple.specs.Order.{FieldList}
use Rattle.latch_space.specs.Passes.{view}
use Rattle.index_page.specs.Loads.{load_of}
use Rattle.index_page.specs.Page.{PageRows}
use Rattle.forest_law.specs.declared.objects.Frame.{Frame}
use Rattle.forest_law.specs.Outside.{HasNoOutside}
use Rattle.forest_world.specs.Held.{TreePass, HasFrame}
use Rattle.call_law.specs.Hands.{KnowsFrame}
use Rattle.call_law.specs.Spoken.{View}
use Rattle.buffer_pool.specs.Pages.{HasTreePage, PointsAt}
use Rattle.tree_growth.specs.Ways.{IsGoingDown, GoesOn}
use Rattle.tree_shrinking.specs.declared.TheConstants.{MERGED_LOAD, LIGHT_LOAD}
use Rattle.tree_shrinking.specs.declared.pairs.Pair.{Pair}
use Rattle.tree_shrinking.specs.declared.pairs.Siblings.{Siblings}
use Rattle.tree_shrinking.specs.Merging.{PointsAtPair}

-- the pass holds a page of an index that points to both pages, one behind the other
pub record HoldsAbovePair (v : View) (parent : ℕ) (asked : Siblings) (i : ℕ) : Type 0 where
  pub level : ℕ
  pub up : Frame
  pub knows : KnowsFrame v parent up
  pub above : HasTreePage up i (suc level)
  pub points : PointsAtPair above.page.rows asked.left asked.right

-- it holds such a page, which points to these, where two are named
pub record HoldsAboveIf (v : View) (parent : ℕ) (asked : Option Siblings) (i : ℕ) : Type 0 where
  pub level : ℕ
  pub up : Frame
  pub knows : KnowsFrame v parent up
  pub above : HasTreePage up i (suc level)
  pub points : (s : Siblings) → asked ≡ Some s → PointsAtPair above.page.rows s.left s.right

-- and it holds both pages
pub record HoldsPair (v : View) (pair : Pair) (i : ℕ) : Type 0 where
  pub level : ℕ
  pub up : Frame
  pub lower : Frame
  pub upper : Frame
  pub knows_up : KnowsFrame v pair.parent up
  pub knows_left : KnowsFrame v pair.left lower
  pub knows_right : KnowsFrame v pair.right upper
  pub above : HasTreePage up i (suc level)
  pub is_left : HasTreePage lower i level
  pub is_right : HasTreePage upper i level
  pub points : PointsAtPair above.page.rows is_left.page.head.number is_right.page.head.number

-- one of two pages is to be merged with the other: its rows are light, and those of both take no
-- more than a page may that comes of two
pub record AreToJoin (left right : PageRows) (right_asks : Bool) : Type 0 where
  pub light : (if right_asks then load_of right.rows else load_of left.rows) < LIGHT_LOAD
  pub fits : load_of left.rows + load_of right.rows ≤ MERGED_LOAD

-- this tells whether the pages of two frames in hand are to be merged
pub record TellsJoin (p : TreePass) (pair : Pair) (answer : Bool) : Type 0 where
  pub yes : (l r : Frame) (left right : PageRows) → HasFrame p pair.left l l
      → HasFrame p pair.right r r → l.page ≡ Some left → r.page ≡ Some right
      → answer ≡ true → AreToJoin left right pair.right_asks
  pub no : (l r : Frame) (left right : PageRows) → HasFrame p pair.left l l
      → HasFrame p pair.right r r → l.page ≡ Some left → r.page ≡ Some right
      → answer ≡ false → AreToJoin left right pair.right_asks → ⊥

-- the pass has said nothing, and holds the index's tree and these frames
pub record GoesTo (p : TreePass) (i : ℕ) (key : FieldList) (bs : List ℕ) (q : TreePass) : Type 0
  where
    pub goes : GoesOn p q
    pub way : IsGoingDown q i key bs

-- what the frame is known to be stays so
abbrev pub StillKnows : TreePass → ℕ → TreePass → Type 0
StillKnows p b q = (f : Frame) → KnowsFrame (view p) b f → KnowsFrame (view q) b f

-- the pass came back to the page above, which alone is in hand beside the index's tree, and is none
-- outside the trees
pub record ComesBack (p : TreePass) (parent i : ℕ) (key : FieldList) (q : TreePass) : Type 0 where
  pub to : GoesTo p i key (parent ∷ []) q
  pub up : Frame
  pub knows : KnowsFrame (view q) parent up
  pub inside : HasNoOutside up

-- the blocks of a page and of two pages under it
abbrev pub pair_in : (parent : ℕ) → Siblings → (left right : ℕ) → Pair
pair_in parent asked left right =
    record { parent = parent; left = left; right = right; right_asks = asked.right_asks }

-- both pages, of these numbers, were taken besides
pub record TakesPair (p : TreePass) (pair : Pair) (asked : Siblings) (i : ℕ) (key : FieldList)
    (q : TreePass) : Type 0 where
  pub to : GoesTo p i key (pair.parent ∷ pair.left ∷ pair.right ∷ []) q
  pub held : HoldsPair (view q) pair i
  pub left : held.is_left.page.head.number ≡ asked.left
  pub right : held.is_right.page.head.number ≡ asked.right
  pub still : StillKnows p pair.parent q

-- the pass holds a page of an index, and one that it points to whose rows take no more than a page
-- may that comes of two
pub record HoldsJoined (v : View) (parent child i : ℕ) : Type 0 where
  pub level : ℕ
  pub up : Frame
  pub low : Frame
  pub knows_up : KnowsFrame v parent up
  pub knows_low : KnowsFrame v child low
  pub above : HasTreePage up i (suc level)
  pub below : HasTreePage low i level
  pub points : PointsAt above.page.rows below.page.head.number
  pub fits : load_of below.page.rows ≤ MERGED_LOAD
