-- The leaf of a scan's first piece: how it was found, and what is known of it.
use Rattle.std.specs.Prelude.{ℕ, ◌≡◌, ◌⊎◌, Bool, false, Option, Some}
use Rattle.key_tuple.specs.Order.{FieldList}
use Rattle.key_tuple.specs.KeyPlace.{KeyPlace, before}
use Rattle.key_tuple.specs.declared.mode.Mode.TheVariants.{Ge}
use Rattle.map_history.specs.declared.columns.How.TheVariants as how
use Rattle.map_history.specs.declared.columns.Note.{Note}
use Rattle.search_info.specs.declared.knows.Knows.{Knows}
use Rattle.search_info.specs.declared.outcome.Learn.{Learn}
use Rattle.index_page.specs.Page.{IsPageInOrder}
use Rattle.forest_world.specs.Held.{TreePass}
use Rattle.call_law.specs.Spoken.{View}
use Rattle.hash_guess.specs.declared.cause.Cause.{Cause}
use Rattle.hash_guess.specs.Guesses.{GuessHits, GuessMisses}
use Rattle.tree_facts.specs.TreeFrames.{low_of, high_of}
use Rattle.tree_descent.specs.declared.descending.Leaf.{Leaf}
use Rattle.tree_descent.specs.Descents.{Descends}
use Rattle.tree_descent.specs.Ways.{HoldsPage}
use Rattle.leaf_search.specs.Downs.{figures_at}
use Rattle.leaf_search.specs.Hows.{how_of, note_of_hit}
use Rattle.leaf_search.specs.Lessons.{Teaches}
use Rattle.tree_cursor.specs.Starts.{BeginsAt}
use Rattle.index_scans.specs.declared.scan_call.FirstLeaf.{FirstLeaf}

-- one guess hit the first row that isn't below FROM
pub record FoundByHit (p : TreePass) (l : Knows) (i : ℕ) (from : FieldList) (leaf : FirstLeaf)
    (q : TreePass) (m : Knows) : Type 0 where
  pub place : ℕ
  pub found : Bool
  pub learn : Learn
  pub guess : GuessHits p l i Ge from leaf.block place found learn q m
  pub place_is : leaf.place ≡ Some place
  pub how_is : leaf.how ≡ how.Hit
  pub note_is : leaf.note ≡ note_of_hit learn

-- one way was gone down to the leaf that has FROM's position, which was learnt from
pub record WentDown (p : TreePass) (l : Knows) (i : ℕ) (from : FieldList) (way : Leaf)
    (note : Note) (q : TreePass) (m : Knows) : Type 0 where
  pub between : TreePass
  pub went : Descends p i Ge from way between
  pub taught : Teaches between l i way.block (figures_at way.spot) note q m

-- one guess led nowhere, for a cause, and then such a way was gone
pub record FoundByWay (p : TreePass) (l : Knows) (i : ℕ) (from : FieldList) (leaf : FirstLeaf)
    (q : TreePass) (m : Knows) : Type 0 where
  pub between : TreePass
  pub read : Knows
  pub cause : Cause
  pub learn : Option Learn
  pub guess : GuessMisses p l i Ge from cause learn between read
  pub way : Leaf
  pub down : WentDown between read i from way leaf.note q m
  pub block_is : leaf.block ≡ way.block
  pub place_is : leaf.place ≡ way.spot.after
  pub how_is : leaf.how ≡ how_of cause

-- the one or the other
abbrev pub FindsFirst : TreePass → Knows → ℕ → FieldList → FirstLeaf → TreePass → Knows → Type 0
FindsFirst p l i from leaf q m = FoundByHit p l i from leaf q m ⊎ FoundByWay p l i from leaf q m

-- a leaf of the index is held in the block's frame, and its rows that aren't before the place begin at
-- `start`; the place is within the leaf's bounds, or their end
pub record HoldsFirst (v : View) (b i : ℕ) (place : KeyPlace) (start : Option ℕ) : Type 0 where
  pub holds : HoldsPage v b i 0
  pub order : IsPageInOrder holds.is.page
  pub begins : BeginsAt holds.is.page.rows place start
  pub low : before place (low_of holds.frame) ≡ false
  pub high : before (high_of holds.frame) place ≡ false
