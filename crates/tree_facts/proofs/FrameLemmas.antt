-- The pages of the trees, in frames and by their numbers.
use Rattle.std.proofs.Common.{◌≡◌, ℕ, Some, refl, sym, ap, ◌∙◌}
use Rattle.key_tuple.specs.KeyPlace.{KeyPlace, before}
use Rattle.key_tuple.proofs.PlaceLemmas.{before-itself}
use Rattle.list_facts.proofs.Places.{same_some}
use Rattle.index_page.specs.Page.{PageRows}
use Rattle.tree_law.specs.TreeShape.{Outline, Tag, tag_of, map_tag, tag_at}
use Rattle.tree_law.specs.Pages.{low_place, high_place, outline, forest}
use Rattle.tree_law.proofs.OnePageLemmas.{page_at}
use Rattle.tree_law.proofs.PageRowLemmas.{tree_is}
use Rattle.forest_law.specs.declared.objects.Frame.{Frame}
use Rattle.forest_law.specs.State.{ForestState, page_within, pages_of}
use Rattle.forest_law.specs.Law.{IsLawful}
use Rattle.forest_law.specs.FramePages.{TellsPage, HasCutPage}
use Rattle.forest_law.proofs.FramePageLemmas.{frames_tell_pages, cuts_have_pages}
use Rattle.tree_facts.specs.TreeFrames.{IsTreeFrame, low_of, high_of}
use Rattle.tree_facts.specs.InnerPages.{HasPageWithin}

module _ (w : ForestState) (law : IsLawful w) where
  -- what a frame of the trees tells of its page
  pub tells_page : (b : ℕ) (f : Frame) (page : PageRows) → IsTreeFrame w b f page
      → TellsPage w f page
  tells_page b f page is = frames_tell_pages w law b f page is.at is.paged

  -- its page is a page of the trees
  pub tree_outline : (b : ℕ) (f : Frame) (page : PageRows) → IsTreeFrame w b f page
      → forest (pages_of w.shape w.objects) page.head.number
      ≡ Some (outline (page_within page f.low f.high))
  tree_outline b f page is = tree_is (pages_of w.shape w.objects) page.head.number
      (page_within page f.low f.high) (tells_page b f page is).is is.tree

  -- a page of the trees, by its tag
  pub tagged_page : (n : ℕ) (t : Tag) → tag_at (forest (pages_of w.shape w.objects)) n ≡ Some t
      → HasPageWithin w t.index t.level t.low t.high n
  tagged_page n t e = record {
    page = has.page;
    at = has.at;
    tree = has.tree;
    index = ap (λ z. z.index) same;
    at_level = ap (λ z. z.level) same;
    low = ap (λ z. z.low) same;
    high = ap (λ z. z.high) same;
  }
    where
      there : (q : Outline) × (forest (pages_of w.shape w.objects) n ≡ Some q) × (tag_of q ≡ t)
      there = page_at (forest (pages_of w.shape w.objects)) n t e

      has : HasCutPage w (before there.0.low) there.0.index there.0.level n
      has = cuts_have_pages w law (before there.0.low) there.0.index there.0.level n (record {
        page = there.0;
        is = there.1;
        index = refl;
        at_level = refl;
        low = before-itself there.0.low;
        high = (law.objects.pages.shape.pages n there.0 there.1).bounds;
      })

      same : tag_of (outline has.page) ≡ t
      same = same_some (tag_of (outline has.page)) t
          (sym (ap map_tag (tree_is (pages_of w.shape w.objects) n has.page has.at has.tree)) ∙ e)

  -- what is known of a page by its number holds of the frame that has it
  pub known_page : (n i level : ℕ) (from to : KeyPlace) → HasPageWithin w i level from to n
      → (b : ℕ) (f : Frame) (page : PageRows) → IsTreeFrame w b f page → page.head.number ≡ n
      → (page.head.index ≡ i) × (page.head.level ≡ level) × (low_of f ≡ from) × (high_of f ≡ to)
  known_page n i level from to has b f page is number =
      let same : page_within page f.low f.high ≡ has.page =
      same_some (page_within page f.low f.high) has.page
      (sym (tells_page b f page is).is ∙ (ap (pages_of w.shape w.objects) number ∙ has.at)) in (
        ap (λ z. z.index) same ∙ has.index,
        ap (λ z. z.level) same ∙ has.at_level,
        ap (λ z. low_place z.low) same ∙ has.low,
        ap (λ z. high_place z.high) same ∙ has.high,
      )
