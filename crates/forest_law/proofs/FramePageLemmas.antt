-- What a lawful state tells of the page in a frame.
use Rattle.std.proofs.Common.{◌≡◌, ℕ, ◌<◌, Bool, List, sym, ap, ◌∙◌, arith, refl, Option, Some, None}
use mathlib.Core.Option as maybe
use lib.ListN.{get_elem?}
use Rattle.key_tuple.specs.KeyPlace.{KeyPlace, IsCut}
use Rattle.list_facts.proofs.Places.{same_some, inside}
use Rattle.index_page.specs.Page.{PageRows}
use Rattle.tree_law.specs.TreeShape.{Outline, tag_of, map_tag, root_tag, HasCut}
use Rattle.tree_law.specs.Pages.{Page, outline, tree_page, forest}
use Rattle.tree_law.specs.PageBudget.{HasLimit}
use Rattle.tree_law.proofs.PageRowLemmas.{tree_is}
use Rattle.tree_law.proofs.WholeLemmas.{in_tree}
use Rattle.index_law.specs.Shape.{Shape}
use Rattle.index_law.specs.State.{Entries}
use Rattle.forest_law.specs.declared.objects.Frame.{Frame}
use Rattle.forest_law.specs.declared.objects.Where.{Where}
use Rattle.forest_law.specs.declared.objects.Object.{Object}
use Rattle.forest_law.specs.State.{ForestState, page_within, page_if, page_of, where_at, where_of, places, page_where, pages_of, heights_of}
use Rattle.forest_law.specs.Objects.{IsFrameOf}
use Rattle.forest_law.specs.Law.{AreLawfulObjects, IsLawful}
use Rattle.forest_law.specs.FramePages.{TellsPage, FramesTellPages, FramesHaveOnePage, HasCutPage, CutsHavePages, RootsHaveCuts}
use Rattle.forest_law.proofs.ObjectLemmas.{same_block}

-- each page has a number below the shape's
pub numbers_below : (sh : Shape) (objects : List Object) (lists : List Entries)
    → AreLawfulObjects sh objects lists → HasLimit sh.pages (pages_of sh objects)
numbers_below sh objects lists law n page is = pick (get_elem? (places objects) n) refl
  where
    none_is_not : None ≡ Some page → ⊥
    none_is_not e = absurd cc

    pick : (o : maybe.Option Where) → get_elem? (places objects) n ≡ o → n < sh.pages
    pick maybe.none e = absurd
        (none_is_not (sym (ap (λ o. page_where sh objects n (where_of o)) e) ∙ is))
    pick (maybe.some at) e = let room = inside (places objects) n at e in
        let counted = law.counted.places in omega (arith, room, counted)

-- so it is in a lawful state
pub number_below : (w : ForestState) → IsLawful w → (n : ℕ) (page : Page)
    → pages_of w.shape w.objects n ≡ Some page → n < w.shape.pages
number_below w law n page is = numbers_below w.shape w.objects w.lists law.objects n page is

module _ (w : ForestState) (law : IsLawful w) where
  -- the page in a frame is a page of the state
  page_at : (b : ℕ) (f : Frame) (rows : PageRows) → IsFrameOf w.shape w.objects b f
      → f.page ≡ Some rows
      → pages_of w.shape w.objects rows.head.number ≡ Some (page_within rows f.low f.high)
  page_at b f rows at is =
      ap (page_where w.shape w.objects rows.head.number) (law.objects.placed.named b f rows at is)
      ∙ (ap page_of at ∙ ap (λ p. page_if p f.low f.high) is)

  pub frame_tells : (b : ℕ) (f : Frame) (rows : PageRows) → IsFrameOf w.shape w.objects b f
      → f.page ≡ Some rows → TellsPage w f rows
  frame_tells b f rows at paged = record {
    below = number_below w law rows.head.number page is;
    is = is;
    order = law.objects.pages.orderly rows.head.number page is;
    sound = λ tree. law.objects.pages.shape.pages rows.head.number (outline page)
        (tree_is (pages_of w.shape w.objects) rows.head.number page is tree);
    outside = law.objects.pages.outside rows.head.number page is;
  }
    where
      page : Page
      page = page_within rows f.low f.high

      is : pages_of w.shape w.objects rows.head.number ≡ Some page
      is = page_at b f rows at paged

  module _ (p : KeyPlace → Bool) where
    -- the page that has the cut
    pub cut_page : (i level n : ℕ) → HasCut (forest (pages_of w.shape w.objects)) p i level n
        → HasCutPage w p i level n
    cut_page i level n has = with_page (pages_of w.shape w.objects n) refl
      where
        none_is_not : None ≡ Some has.page → ⊥
        none_is_not e = absurd cc

        with_page : (o : Option Page) → pages_of w.shape w.objects n ≡ o → HasCutPage w p i level n
        with_page None e = absurd (none_is_not (sym (ap (tree_page n) e) ∙ has.is))
        with_page (Some page) e = let t = in_tree n page (tag_of has.page)
            (ap map_tag (sym (ap (tree_page n) e) ∙ has.is)) in
            record {
              page = page;
              at = e;
              tree = t.1;
              index = sym (ap (λ z. z.index) t.0) ∙ has.index;
              at_level = sym (ap (λ z. z.level) t.0) ∙ has.at_level;
              low = sym (ap (λ z. p z.low) t.0) ∙ has.low;
              high = sym (ap (λ z. p z.high) t.0) ∙ has.high;
            }

    -- each index's root has each cut
    pub root_cut : IsCut p → (i : ℕ) → i < w.shape.indexes
        → HasCut (forest (pages_of w.shape w.objects)) p i (heights_of w.objects i) i
    root_cut cut i below = pick (forest (pages_of w.shape w.objects) i) refl
      where
        none_is_not : None ≡ Some (root_tag (heights_of w.objects) i) → ⊥
        none_is_not e = absurd cc

        pick : (o : Option Outline) → forest (pages_of w.shape w.objects) i ≡ o
            → HasCut (forest (pages_of w.shape w.objects)) p i (heights_of w.objects i) i
        pick None e = absurd
            (none_is_not (sym (ap map_tag e) ∙ law.objects.pages.shape.roots i below))
        pick (Some page) e = let t = same_some (tag_of page) (root_tag (heights_of w.objects) i)
            (sym (ap map_tag e) ∙ law.objects.pages.shape.roots i below) in
            record {
              page = page;
              is = e;
              index = ap (λ z. z.index) t;
              at_level = ap (λ z. z.level) t;
              low = ap (λ z. p z.low) t ∙ cut.begins;
              high = ap (λ z. p z.high) t ∙ cut.ends;
            }

pub frames_tell_pages : FramesTellPages
frames_tell_pages = frame_tells

pub frames_have_one_page : FramesHaveOnePage
frames_have_one_page w law b c f g p q at that is other same = same_block b c
    (sym (law.objects.placed.named b f p at is)
    ∙ (ap (where_at (places w.objects)) same ∙ law.objects.placed.named c g q that other))

pub cuts_have_pages : CutsHavePages
cuts_have_pages = cut_page

pub roots_have_cuts : RootsHaveCuts
roots_have_cuts w law p cut i below =
    cut_page w law p i (heights_of w.objects i) i (root_cut w law p cut i below)
