-- What is known of frames in hand, and of their pages.
use Rattle.std.proofs.Common.{◌≡◌, ◌≢◌, ℕ, suc, Some, None, Option, sym, ap, subst, ◌∙◌, arith}
use mathlib.Core.Option.{some}
use mathlib.Core.Option as maybe
use lib.ListN.{get_elem?}
use Rattle.list_facts.proofs.Places.{none_is_not, same_some}
use Rattle.latch_law.specs.declared.knows.Holding.{Holding}
use Rattle.latch_law.specs.Views.{holding}
use Rattle.latch_space.specs.Passes.{view}
use Rattle.index_page.specs.Page.{PageRows}
use Rattle.index_law.specs.Shape.{Shape}
use Rattle.forest_law.specs.declared.objects.Frame.{Frame}
use Rattle.forest_law.specs.declared.objects.Object.{Object}
use Rattle.forest_law.specs.declared.objects.Object.TheVariants as object
use Rattle.forest_law.specs.FramePages.{TellsPage}
use Rattle.forest_law.specs.Numbers.{frame_id}
use Rattle.forest_law.specs.Objects.{IsFrameOf}
use Rattle.forest_law.proofs.FramePageLemmas.{frame_tells, frames_have_one_page}
use Rattle.forest_world.specs.Held.{TreePass, shape_of_pass}
use Rattle.call_law.specs.Hands.{KnowsFrame}
use Rattle.call_law.specs.Spoken.{View}
use Rattle.buffer_pool.specs.Forests.{IsFittedTree}
use Rattle.buffer_pool.specs.Hands.{LacksFrame}
use Rattle.buffer_pool.specs.Pages.{HasTreePage}
use Rattle.tree_descent.proofs.InnerLemmas.{one_known}

-- the frame that an object is, if it is one
abbrev frame_of : Frame → Object → Frame
frame_of d (object.Frame f) = f
frame_of d (object.Part p) = d
frame_of d (object.Pool p) = d
frame_of d (object.Tree t) = d

abbrev frame_held : Frame → maybe.Option (Option (Holding Object)) → Frame
frame_held d (some (Some h)) = frame_of d h.known
frame_held d (some None) = d
frame_held d maybe.none = d

-- and so is the level of its page
pub level_one : (i j l m : ℕ) (f : Frame) → HasTreePage f i l → HasTreePage f j m → l ≡ m
level_one i j l m f x y =
    sym x.at_level
    ∙ (ap (λ page. page.head.level) (same_some x.page y.page (sym x.paged ∙ y.paged)) ∙ y.at_level)

-- a block whose frame is lacked is another than one whose frame is known
pub lacked_apart : (p : TreePass) (b c : ℕ) (f : Frame) → LacksFrame p c → KnowsFrame (view p) b f
    → b ≢ c
lacked_apart p b c f lacks knows e =
    none_is_not (holding knows.0 (object.Frame f))
    (sym lacks
    ∙ (ap (λ n. get_elem? (view p).held (frame_id (shape_of_pass p) n)) (sym e) ∙ knows.1))

-- pages of two levels are in two blocks
pub levels_apart : (v : View) (b c i l : ℕ) (f g : Frame) → KnowsFrame v b f → KnowsFrame v c g
    → HasTreePage f i (suc l) → HasTreePage g i l → c ≢ b
levels_apart v b c i l f g knows_b knows_c above below e =
    let same : g ≡ f = one_known v b g f (subst (λ n. KnowsFrame v n g) e knows_c) knows_b in
    let one = level_one i i l (suc l) f (subst (λ h. HasTreePage h i l) same below) above in
    absurd (omega (arith, one))

-- in the state in which all that is known is so the frame is there
pub known_at : (v : View) (fitted : IsFittedTree v) (b : ℕ) (f : Frame) → KnowsFrame v b f
    → IsFrameOf fitted.whole.shape fitted.whole.objects b f
known_at v fitted b f knows =
    ap (λ (s : Shape). get_elem? fitted.whole.objects (frame_id s b)) fitted.fits.shape
    ∙ fitted.fits.known (frame_id v.terms.shape b) (holding knows.0 (object.Frame f)) knows.1

-- and this is told of its page
pub known_tells : (v : View) (fitted : IsFittedTree v) (b : ℕ) (f : Frame) (page : PageRows)
    → KnowsFrame v b f → f.page ≡ Some page
    → TellsPage fitted.whole f page
known_tells v fitted b f page knows paged =
    frame_tells fitted.whole fitted.is_lawful b f page (known_at v fitted b f knows) paged

-- frames of two blocks have pages of two numbers
pub numbers_apart : (v : View) (fitted : IsFittedTree v) (b c : ℕ) (f g : Frame) (x y : PageRows)
    → KnowsFrame v b f → KnowsFrame v c g → f.page ≡ Some x → g.page ≡ Some y → b ≢ c
    → x.head.number ≢ y.head.number
numbers_apart v fitted b c f g x y knows_f knows_g has_f has_g apart same =
    apart (frames_have_one_page fitted.whole fitted.is_lawful b c f g x y
    (known_at v fitted b f knows_f) (known_at v fitted c g knows_g) has_f has_g same)
