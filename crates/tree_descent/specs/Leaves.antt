-- A page of the trees in a frame, with what a search of it asks for.
use Rattle.std.specs.Prelude.{ℕ, ◌≡◌, Bool, true, false}
use Rattle.key_tuple.specs.KeyPlace.{KeyPlace}
use Rattle.key_tuple.specs.Order.{FieldList}
use Rattle.key_tuple.specs.Position.{position_cut}
use Rattle.key_tuple.specs.declared.mode.Mode.{Mode}
use Rattle.index_page.specs.declared.spot.Spot.{Spot}
use Rattle.index_page.specs.Search.{Finds}
use Rattle.tree_law.specs.Pages.{low_place, high_place, IsOrderly}
use Rattle.index_law.specs.Shape.{Shape}
use Rattle.forest_law.specs.declared.objects.Frame.{Frame}
use Rattle.forest_law.specs.State.{bound, page_within, fields_for}
use Rattle.buffer_pool.specs.Pages.{HasTreePage}

-- the bounds of the frame's page have the cut
pub record HasCutWithin (f : Frame) (cut : KeyPlace → Bool) : Type 0 where
  pub low : cut (low_place (bound f.low)) ≡ false
  pub high : cut (high_place (bound f.high)) ≡ true

-- the frame has a page of the trees, of this index and level, in order by itself, with the
-- cut in its bounds
pub record IsPageFor (shape : Shape) (f : Frame) (i level : ℕ)
    (cut : KeyPlace → Bool) : Type 0 where
  pub is : HasTreePage f i level
  pub order : IsOrderly (fields_for shape) (page_within is.page f.low f.high)
  pub within : HasCutWithin f cut

-- the cut at the position of a tuple among the keys of an index
abbrev pub cut_in : Shape → ℕ → Mode → FieldList → KeyPlace → Bool
cut_in shape i mode tuple = position_cut (fields_for shape i) mode tuple

-- the frame has the leaf of an index that has the tuple's position, and this is the mode's
-- spot there
pub record IsLeafFor (shape : Shape) (f : Frame) (i : ℕ) (mode : Mode) (tuple : FieldList)
    (spot : Spot) : Type 0 where
  pub page : IsPageFor shape f i 0 (cut_in shape i mode tuple)
  pub finds : Finds mode tuple page.is.page.rows spot
