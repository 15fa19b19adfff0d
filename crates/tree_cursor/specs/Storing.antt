-- What a cursor that was stored tells of the leaf in hand.
use Rattle.std.specs.Prelude.{ℕ, ◌≡◌, false, Option, Some, None, IsSome, List, length}
use Rattle.key_tuple.specs.Order.{FieldList}
use Rattle.key_tuple.specs.declared.key.Key.{Key}
use Rattle.clock_law.specs.ModifyClock.{HasKeyAt}
use Rattle.index_page.specs.Rows.{Row, find_row}
use Rattle.forest_law.specs.declared.objects.Frame.{Frame}
use Rattle.forest_law.specs.State.{bound, fields_for}
use Rattle.call_law.specs.Spoken.{View}
use Rattle.tree_descent.specs.Ways.{HoldsPage}
use Rattle.tree_cursor.specs.declared.cursor.Cursor.{Cursor}
use Rattle.tree_cursor.specs.Cursors.{HasCursor}

-- a row stands at the place; without a place there is a high key
abbrev pub HasStand : List Row → Option Key → Option ℕ → Type 0
HasStand rows high (Some place) = IsSome (find_row place rows)
HasStand rows high None = IsSome high

-- the key is that of the row at the place; without a place it is the high key
abbrev pub IsKeyOf : List Row → Option Key → Option ℕ → FieldList → Type 0
IsKeyOf rows high (Some place) key = HasKeyAt rows place key
IsKeyOf rows high None key = bound high ≡ Some key

-- the pass holds a leaf in the block's frame, on which a cursor may stand so
pub record MayStore (v : View) (b : ℕ) (place : Option ℕ) : Type 0 where
  pub index : ℕ
  pub holds : HoldsPage v b index 0
  pub stand : HasStand holds.is.page.rows holds.frame.high place

-- the cursor stands on the frame in hand, at this place, before its key, which has as many fields as
-- the keys of the index and may be refilled with each of them
pub record StoresCursor (v : View) (b i : ℕ) (f : Frame) (place : Option ℕ)
    (c : Cursor) : Type 0 where
  pub block : c.block ≡ b
  pub place_is : c.place ≡ place
  pub stands_before : c.after ≡ false
  pub has : HasCursor f c
  pub fields : length c.key.tuple ≡ fields_for v.terms.shape i
  pub room : c.key.room ≡ fields_for v.terms.shape i

-- so it is with the leaf that is held in the block's frame
abbrev pub Stores : View → ℕ → Option ℕ → Cursor → Type 0
Stores v b place c = (i : ℕ) (h : HoldsPage v b i 0) → StoresCursor v b i h.frame place c
