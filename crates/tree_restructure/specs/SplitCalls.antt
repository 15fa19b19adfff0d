-- A page that is cut while its parent gets the pointer.
use Rattle.std.specs.Prelude.{ℕ, ◌≡◌, Option, Some, IsSome, option_and_then}
use Rattle.key_tuple.specs.Order.{FieldList}
use Rattle.index_page.specs.declared.error.PageError.{PageError}
use Rattle.index_page.specs.Rows.{find_row}
use Rattle.index_page.specs.Page.{PageRows}
use Rattle.index_page.specs.Changes.{Deletes}
use Rattle.forest_law.specs.declared.objects.Frame.{Frame}
use Rattle.tree_restructure.specs.FrameCuts.{SuitsFrames, CutsFrame}
use Rattle.tree_restructure.specs.Pointers.{PointsAround, PutsPointer, pointer_refusal}

-- the left frame's page can be cut into the right one's, and the key of the cut is in the range of
-- the parent's pointer to the left page
pub record SuitsSplit (l r u : Frame) (place : ℕ) (at : FieldList) : Type 0 where
  pub frames : SuitsFrames l r place at
  pub around : PointsAround u frames.page.head.number at

-- the left frame's page was cut into the right one's, and the pointer to that stands right behind
-- the one to the left page
pub record SplitsUnder (l l' r r' u u' : Frame) (at : FieldList) : Type 0 where
  pub cut : CutsFrame l l' r r' at
  pub pointer : PutsPointer cut.page.head.number cut.fresh.head.number u u' at

-- the row at the place of the frame's page is gone, and all else is as before
pub record TakesRow (f g : Frame) (place : ℕ) : Type 0 where
  pub page : PageRows
  pub new : PageRows
  pub had : f.page ≡ Some page
  pub kept : g ≡ record f { page = Some new }
  pub deletes : Deletes page new place

-- a row stands at the place of the frame's page
pub record HasRowAt (f : Frame) (place : ℕ) : Type 0 where
  pub page : PageRows
  pub has : f.page ≡ Some page
  pub there : IsSome (find_row place page.rows)

-- why the parent's page takes no pointer to the page of the right frame, if it doesn't
abbrev pub split_refusal : Frame → Frame → FieldList → Option PageError
split_refusal u r at = option_and_then
    (λ (page : PageRows). pointer_refusal u at page.head.number) r.page
