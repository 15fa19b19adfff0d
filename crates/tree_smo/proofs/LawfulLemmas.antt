-- What a lawful state tells of the frames that a pass knows.
use Rattle.std.proofs.Common.{◌≡◌, ◌≢◌, ℕ, ◌<◌, ◌^◌, true, sym, ap, ◌∙◌, arith, Some}
use mathlib.Core.Option.{some-injective}
use lib.ListN.{get_elem?}
use Rattle.list_facts.proofs.Places.{same_some}
use Rattle.latch_law.specs.declared.knows.Holding.{Holding}
use Rattle.latch_law.specs.Views.{holding}
use Rattle.index_page.specs.declared.head.PageHead.{PageHead}
use Rattle.index_page.specs.declared.TheConstants.{NO_PAGE}
use Rattle.index_page.specs.Page.{PageRows}
use Rattle.tree_law.specs.Pages.{Page, is_own}
use Rattle.tree_law.proofs.PageRowLemmas.{own_of}
use Rattle.index_law.specs.Shape.{Shape}
use Rattle.forest_law.specs.declared.objects.Frame.{Frame}
use Rattle.forest_law.specs.declared.objects.Object.{Object}
use Rattle.forest_law.specs.declared.objects.Object.TheVariants as object
use Rattle.forest_law.specs.FramePages.{TellsPage}
use Rattle.forest_law.specs.Law.{IsLawful}
use Rattle.forest_law.specs.Numbers.{frame_id}
use Rattle.forest_law.specs.Objects.{IsFrameOf}
use Rattle.forest_law.specs.State.{ForestState, page_within, pages_of}
use Rattle.forest_law.proofs.FramePageLemmas.{frame_tells, frames_have_one_page}
use Rattle.forest_law.proofs.ObjectLemmas.{same_frame}
use Rattle.tree_facts.specs.TreeFrames.{IsTreeFrame}
use Rattle.call_law.specs.Hands.{KnowsFrame}
use Rattle.call_law.specs.Spoken.{View}
use Rattle.buffer_pool.specs.Forests.{FitsTrees}
use Rattle.buffer_pool.specs.NewPages.{outside_page, HasOutsidePage}
use Rattle.buffer_pool.specs.Pages.{HasTreePage}

-- one block has one frame
pub one_frame : (v : View) (b c : ℕ) (f g : Frame) → KnowsFrame v b f → KnowsFrame v c g → b ≡ c
    → f ≡ g
one_frame v b c f g first second e = same_frame f g (ap (λ (h : Holding Object). h.known)
    (same_some (holding first.0 (object.Frame f)) (holding second.0 (object.Frame g))
    (some-injective (Some (holding first.0 (object.Frame f)))
    (Some (holding second.0 (object.Frame g)))
    (sym first.1 ∙ (ap (λ n. get_elem? v.held (frame_id v.terms.shape n)) e ∙ second.1)))))

-- and one page
pub one_page : (v : View) (b c : ℕ) (f g : Frame) (x y : PageRows) → KnowsFrame v b f
    → KnowsFrame v c g → b ≡ c → f.page ≡ Some x → g.page ≡ Some y → x ≡ y
one_page v b c f g x y first second e is this = same_some x y
    (sym is ∙ (ap (λ (h : Frame). h.page) (one_frame v b c f g first second e) ∙ this))

-- the page of a frame is the one that it is known to have
pub that_page : (f : Frame) (x y : PageRows) → f.page ≡ Some x → f.page ≡ Some y → x ≡ y
that_page f x y is this = same_some x y (sym is ∙ this)

-- a page outside the trees is in none
pub outside_own : (head : PageHead) (n : ℕ) → is_own n (outside_page head n).head.prev ≡ true
outside_own head n = own_of n (Some n) (λ i. Some n)

-- so a block with such a page is another than that of a page of the trees
pub outside_apart : (v : View) (b c i level : ℕ) (f g : Frame) (head : PageHead)
    → (n : ℕ) → KnowsFrame v b f → HasOutsidePage f head n → KnowsFrame v c g
    → HasTreePage g i level → b ≢ c
outside_apart v b c i level f g head n knows blank that tree e = absurd (cc (
  outside_own head n,
  tree.tree,
  ap (λ (p : PageRows). is_own p.head.number p.head.prev)
      (one_page v b c f g (outside_page head n) tree.page knows that e blank.page tree.paged),
))

-- pages of two levels are in two blocks
pub levels_apart : (v : View) (b c i j l m : ℕ) (f g : Frame) → KnowsFrame v b f → KnowsFrame v c g
    → HasTreePage f i l → HasTreePage g j m → l ≢ m → b ≢ c
levels_apart v b c i j l m f g knows that tree other differ e = differ (sym tree.at_level
    ∙ (ap (λ (p : PageRows). p.head.level)
    (one_page v b c f g tree.page other.page knows that e tree.paged other.paged) ∙ other.at_level))

module _ (w : ForestState) (law : IsLawful w) (v : View) (fits : FitsTrees w v) where
  -- a known frame is the state's
  pub frame_at : (b : ℕ) (f : Frame) → KnowsFrame v b f → IsFrameOf w.shape w.objects b f
  frame_at b f knows = ap (λ (s : Shape). get_elem? w.objects (frame_id s b)) fits.shape
      ∙ fits.known (frame_id v.terms.shape b) (holding knows.0 (object.Frame f)) knows.1

  pub known_tells : (b : ℕ) (f : Frame) (page : PageRows) → KnowsFrame v b f → f.page ≡ Some page
      → TellsPage w f page
  known_tells b f page knows paged = frame_tells w law b f page (frame_at b f knows) paged

  -- and its page, if it is one of the trees
  pub tree_frame : (b i level : ℕ) (f : Frame) → KnowsFrame v b f → (t : HasTreePage f i level)
      → IsTreeFrame w b f t.page
  tree_frame b i level f knows t =
      record { at = frame_at b f knows; paged = t.paged; tree = t.tree }

  -- what is known of a page by its number is known of the frame that has it
  pub known_page : (b : ℕ) (f : Frame) (page : PageRows) → KnowsFrame v b f → f.page ≡ Some page
      → (n : ℕ) (q : Page) → page.head.number ≡ n → pages_of w.shape w.objects n ≡ Some q
      → page_within page f.low f.high ≡ q
  known_page b f page knows paged n q number is =
      same_some (page_within page f.low f.high) q
      (sym (known_tells b f page knows paged).is
      ∙ (ap (pages_of w.shape w.objects) number ∙ is))

  -- pages of one number are in one block
  pub one_block : (b c : ℕ) (f g : Frame) (x y : PageRows) → KnowsFrame v b f → KnowsFrame v c g
      → f.page ≡ Some x → g.page ≡ Some y → x.head.number ≡ y.head.number → b ≡ c
  one_block b c f g x y knows that paged other = frames_have_one_page w law b c f g x y
      (frame_at b f knows) (frame_at c g that) paged other

  -- a page's number is one of few
  pub page_number : (b : ℕ) (f : Frame) (page : PageRows) → KnowsFrame v b f → f.page ≡ Some page
      → v.terms.shape.pages < 2 ^ 32 → page.head.number ≢ NO_PAGE
  page_number b f page knows paged few e =
      let below = (known_tells b f page knows paged).below in
      let same = ap (λ (s : Shape). s.pages) fits.shape in
      omega (arith, below, same, few, e)
