-- A pointer that is put in behind another.
use Rattle.std.specs.Prelude.{ℕ, ◌≡◌, true, Option, Some, option_and_then, List, [], ◌∷◌, ◌++◌, length}
use Rattle.key_tuple.specs.Order.{FieldList}
use Rattle.key_tuple.specs.KeyPlace.{At, before}
use Rattle.index_page.specs.declared.error.PageError.{PageError}
use Rattle.index_page.specs.Rows.{Row, Child}
use Rattle.index_page.specs.Page.{PageRows, IsPageInOrder}
use Rattle.index_page.specs.Refusals.{insert_refusal}
use Rattle.forest_law.specs.declared.objects.Frame.{Frame}

-- the first of some rows, if there is one, comes after the key
abbrev pub BeginsAfter : FieldList → List Row → Type 0
BeginsAfter at [] = Unit {0}
BeginsAfter at (x ∷ xs) = before (At at) (At x.key) ≡ true

-- the key is in the range of the pointer to this child, and isn't where that begins
pub record RangeHas (page : PageRows) (child : ℕ) (at : FieldList) : Type 0 where
  pub fore : List Row
  pub this : Row
  pub aft : List Row
  pub was : page.rows ≡ fore ++ this ∷ aft
  pub this_is : this.body ≡ Child child
  pub above : before (At this.key) (At at) ≡ true
  pub below : BeginsAfter at aft
  pub fields : length at ≡ page.head.fields

-- so it is on the page of a frame
pub record PointsAround (f : Frame) (child : ℕ) (at : FieldList) : Type 0 where
  pub page : PageRows
  pub has : f.page ≡ Some page
  pub range : RangeHas page child at

-- why the frame's page takes no pointer with this key, if it doesn't
abbrev pub pointer_refusal : Frame → FieldList → ℕ → Option PageError
pointer_refusal f at child =
    option_and_then (λ (page : PageRows). insert_refusal page at (Child child)) f.page

-- the pointer to the right page, with this key, stands right behind that to the left one, and all
-- else in the frame is as before
pub record PutsPointer (left right : ℕ) (f g : Frame) (at : FieldList) : Type 0 where
  pub page : PageRows
  pub new : PageRows
  pub had : f.page ≡ Some page
  pub kept : g ≡ record f { page = Some new }
  pub fore : List Row
  pub this : Row
  pub pointer : Row
  pub aft : List Row
  pub was : page.rows ≡ fore ++ this ∷ aft
  pub is : new.rows ≡ fore ++ this ∷ pointer ∷ aft
  pub this_is : this.body ≡ Child left
  pub pointer_is : pointer.body ≡ Child right
  pub key_is : pointer.key ≡ at
  pub head : new.head ≡ page.head
  pub order : IsPageInOrder new

-- the pointer at this place is such a one, whatever page's range the key is in
abbrev pub PutsBehind : ℕ → ℕ → Frame → Frame → FieldList → Type 0
PutsBehind place right f g at = (left : ℕ) → PointsAround f left at
    → (p : PutsPointer left right f g at) × (p.pointer.place ≡ place)
