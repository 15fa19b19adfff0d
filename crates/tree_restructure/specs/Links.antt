-- The page behind two halves.
use Rattle.std.specs.Prelude.{ℕ, ◌≡◌, Option, Some, None}
use Rattle.index_page.specs.Page.{PageRows, linked, IsPageInOrder}
use Rattle.forest_law.specs.declared.objects.Frame.{Frame}

-- the frame has a page
pub record HasAPage (f : Frame) : Type 0 where
  pub page : PageRows
  pub has : f.page ≡ Some page

-- the frame's page has this left neighbour, and all else is as before
pub record Relinks (right : ℕ) (f g : Frame) : Type 0 where
  pub page : PageRows
  pub new : PageRows
  pub had : f.page ≡ Some page
  pub kept : g ≡ record f { page = Some new }
  pub head : new.head ≡ linked page.head (Some right) page.head.next
  pub rows : new.rows ≡ page.rows
  pub order : IsPageInOrder new

-- so it is with the frame of the page behind; where there is none, the frame stands for nothing
abbrev pub RelinksNext : ℕ → Option ℕ → Frame → Frame → Type 0
RelinksNext right None f g = g ≡ f
RelinksNext right (Some n) f g = (r : Relinks right f g) × (r.page.head.number ≡ n)
