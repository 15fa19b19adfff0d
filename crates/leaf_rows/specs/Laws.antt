-- What is so of each frame of a leaf.
use Rattle.std.specs.Prelude.{ℕ, ◌≡◌, ◌≤◌, ◌==◌, Some, List, length}
use Rattle.key_tuple.specs.Order.{FieldList}
use Rattle.index_page.specs.declared.error.PageError.{PageError}
use Rattle.index_page.specs.Page.{IsPageInOrder}
use Rattle.clock_law.specs.ModifyClock.{last_clock}
use Rattle.forest_law.specs.declared.objects.Frame.{Frame}
use Rattle.leaf_rows.specs.Changing.{row_refusal, IsFullFor, HasRowOf, TakesRowOut}
use Rattle.leaf_rows.specs.Setting.{frame_with, SetsValue, value_refusal, LacksRoomFor}

-- where a row is refused, it needs more than is free
abbrev pub RefusalsAreFull : Type 0
RefusalsAreFull =
    (f : Frame) (key : FieldList) (value : List ℕ) (e : PageError)
    → row_refusal f key value ≡ Some e → IsFullFor f key value e

-- a frame with a leaf in order becomes, without the row of a key, what a del makes of it
abbrev pub RowsAreTakenOut : Type 0
RowsAreTakenOut =
    (f : Frame) (place : ℕ) (key : FieldList) → (has : HasRowOf f place key)
    → IsPageInOrder has.page → f.clock ≤ last_clock → TakesRowOut f place key

-- a frame with a leaf in order becomes, with another value of a key that is no longer, what a set
-- makes of it
abbrev pub ValuesAreSet : Type 0
ValuesAreSet =
    (f : Frame) (place : ℕ) (key : FieldList) (value : List ℕ) → (has : HasRowOf f place key)
    → IsPageInOrder has.page → f.clock ≤ last_clock → length value ≤ length has.has.value
    → SetsValue f (frame_with place value (length value == length has.has.value) f) key value

-- where a longer value is refused, the key's row with it has no room
abbrev pub RefusedValuesLackRoom : Type 0
RefusedValuesLackRoom =
    (f : Frame) (place : ℕ) (key : FieldList) (value : List ℕ) (e : PageError)
    → (has : HasRowOf f place key) → IsPageInOrder has.page
    → value_refusal f place value ≡ Some e → LacksRoomFor f key value
