-- What a lawful state tells of the images of pages.
use Rattle.std.specs.Prelude.{ℕ, ◌≡◌, ◌≢◌, ◌<◌, false, Some, None, []}
use Rattle.tree_law.specs.TreeShape.{tag_of, IsSound}
use Rattle.tree_law.specs.Pages.{is_own, pointers_of, outline, IsOrderly}
use Rattle.forest_law.specs.declared.objects.Stored.{Stored}
use Rattle.forest_law.specs.declared.objects.Where.TheVariants.{Image}
use Rattle.forest_law.specs.State.{ForestState, page_within, where_at, places, image_at, images, pages_of, heights_of, fields_for}
use Rattle.forest_law.specs.Law.{IsLawful}

-- the image of this number is the state's page of that number, and it is in order by itself; in the
-- trees it is sound, and outside them it has no rows
pub record TellsImage (w : ForestState) (n : ℕ) (s : Stored) : Type 0 where
  pub number : s.page.head.number ≡ n
  pub place : where_at (places w.objects) n ≡ Image
  pub below : n < w.shape.pages
  pub is : pages_of w.shape w.objects n ≡ Some (page_within s.page s.low s.high)
  pub order : IsOrderly (fields_for w.shape) (page_within s.page s.low s.high)
  pub sound : is_own n s.page.head.prev ≡ false
      → IsSound w.shape.indexes (heights_of w.objects)
      (tag_of (outline (page_within s.page s.low s.high))) (pointers_of s.page.rows)
  pub outside : s.page.head.prev ≡ Some n → s.page.rows ≡ []

-- in a lawful state each image tells a page, each page whose place says so has an image, and no
-- other page has one
pub record ImagesTellPages : Type 0 where
  pub tells : (w : ForestState) → IsLawful w → (n : ℕ) (s : Stored)
      → image_at (images w.objects) n ≡ Some s → TellsImage w n s
  pub stored : (w : ForestState) → IsLawful w → (n : ℕ) → where_at (places w.objects) n ≡ Image
      → (s : Stored) × (image_at (images w.objects) n ≡ Some s)
  pub unstored : (w : ForestState) → IsLawful w → (n : ℕ) → where_at (places w.objects) n ≢ Image
      → image_at (images w.objects) n ≡ None
