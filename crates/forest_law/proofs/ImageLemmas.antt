-- What a lawful state tells of the images of pages.
use Rattle.std.proofs.Common.{◌≡◌, ℕ, ap, ◌∙◌, Some}
use Rattle.tree_law.specs.Pages.{Page, outline}
use Rattle.tree_law.proofs.PageRowLemmas.{tree_is}
use Rattle.forest_law.specs.declared.objects.Stored.{Stored}
use Rattle.forest_law.specs.State.{ForestState, page_within, page_stored, image_at, images, page_where, pages_of}
use Rattle.forest_law.specs.Law.{IsLawful}
use Rattle.forest_law.specs.Placed.{IsImaged}
use Rattle.forest_law.specs.Images.{TellsImage, ImagesTellPages}
use Rattle.forest_law.proofs.PlacesLemmas.{none_stored}
use Rattle.forest_law.proofs.FramePageLemmas.{number_below}

-- an image is the state's page of its number
pub image_tells : (w : ForestState) → IsLawful w → (n : ℕ) (s : Stored)
    → image_at (images w.objects) n ≡ Some s → TellsImage w n s
image_tells w law n s at = record {
  number = is_imaged.number;
  place = is_imaged.place;
  below = number_below w law n page is;
  is = is;
  order = law.objects.pages.orderly n page is;
  sound = λ tree. law.objects.pages.shape.pages n (outline page)
      (tree_is (pages_of w.shape w.objects) n page is tree);
  outside = law.objects.pages.outside n page is;
}
  where
    is_imaged : IsImaged w.objects n s
    is_imaged = law.objects.placed.imaged n s at

    page : Page
    page = page_within s.page s.low s.high

    is : pages_of w.shape w.objects n ≡ Some page
    is = ap (page_where w.shape w.objects n) is_imaged.place ∙ ap page_stored at

pub images_tell_pages : ImagesTellPages
images_tell_pages = record {
  tells = image_tells;
  stored = λ w law n e. law.objects.placed.stored n e;
  unstored = λ w law n isnt. none_stored w.shape w.objects law.objects.placed n isnt;
}
