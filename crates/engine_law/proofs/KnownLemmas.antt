-- What is known of a frame in hand, of its page and of that page's number.
use Rattle.std.proofs.Common.{◌≡◌, ◌≢◌, ◌<◌, ℕ, sym, ap, ◌∙◌, refl, arith, Some}
use mathlib.Core.Option.{some-injective}
use lib.ListN.{get_elem?}
use Rattle.list_facts.proofs.Places.{same_some}
use Rattle.latch_law.specs.declared.knows.Holding.{Holding}
use Rattle.latch_law.specs.declared.knows.Terms.{Terms}
use Rattle.latch_law.specs.Views.{holding}
use Rattle.latch_space.specs.Passes.{view}
use Rattle.index_page.specs.Page.{PageRows}
use Rattle.index_law.specs.Shape.{Shape}
use Rattle.forest_law.specs.declared.objects.Frame.{Frame}
use Rattle.forest_law.specs.declared.objects.Object.{Object}
use Rattle.forest_law.specs.declared.objects.Object.TheVariants as object
use Rattle.forest_law.specs.Numbers.{frame_id, part_id}
use Rattle.forest_law.proofs.ObjectLemmas.{same_frame}
use Rattle.forest_world.specs.Held.{TreePass, shape_of_pass}
use Rattle.call_law.specs.Hands.{KnowsFrame}
use Rattle.call_law.specs.Spoken.{View}
use Rattle.buffer_pool.specs.AsTaken.{WasHeldSo}
use Rattle.buffer_pool.specs.Frames.{GivesFrame}
use Rattle.buffer_pool.specs.Pages.{HasNumber, HasTreePage}

-- one frame is known of a block
pub one_frame : (v : View) (b : ℕ) (f g : Frame) → KnowsFrame v b f → KnowsFrame v b g → f ≡ g
one_frame v b f g first second = same_frame f g
    (ap (λ (h : Holding Object). h.known)
    (same_some (holding first.0 (object.Frame f)) (holding second.0 (object.Frame g))
    (some-injective (Some (holding first.0 (object.Frame f)))
    (Some (holding second.0 (object.Frame g))) (sym first.1 ∙ second.1))))

-- what is given back of a block is the frame that it was known to have
pub gave_known : (p q : TreePass) (b : ℕ) (f : Frame) → KnowsFrame (view p) b f
    → (gave : GivesFrame p b q) → f ≡ gave.frame
gave_known p q b f knows gave =
    one_frame (view p) b f gave.frame knows (gave.taken, gave.held)

-- a frame is known still where no more and no less is held
pub knows_same : (p q : TreePass) (b : ℕ) (f : Frame) → (view q).held ≡ (view p).held
    → (view q).terms ≡ (view p).terms → KnowsFrame (view p) b f → KnowsFrame (view q) b f
knows_same p q b f held terms knows = (
  knows.0,
  ap (λ (t : Terms Shape). get_elem? (view q).held (frame_id t.shape b)) terms
      ∙ (ap (λ hs. get_elem? hs (frame_id (shape_of_pass p) b)) held ∙ knows.1),
)

-- what is given back where no more and no less was held was held so before
pub held_gave : (p q r : TreePass) (b : ℕ) → (view q).held ≡ (view p).held
    → (view q).terms ≡ (view p).terms → (gave : GivesFrame q b r)
    → WasHeldSo (view p) (frame_id (shape_of_pass p) b) gave.taken (object.Frame gave.frame)
held_gave p q r b held terms gave =
    ap (λ hs. get_elem? hs (frame_id (shape_of_pass p) b)) (sym held)
    ∙ (ap (λ (t : Terms Shape). get_elem? (view q).held (frame_id t.shape b)) (sym terms)
    ∙ gave.held)

-- the page that was read is that of the frame
pub same_page : (f g : Frame) (page rows : PageRows) → g ≡ f → f.page ≡ Some page
    → g.page ≡ Some rows → rows ≡ page
same_page f g page rows same is read =
    same_some rows page (sym read ∙ (ap (λ (h : Frame). h.page) same ∙ is))

-- a page of the trees has its number
pub page_number : (f : Frame) (i level : ℕ) → (is : HasTreePage f i level)
    → HasNumber f is.page.head.number
page_number f i level is = record { page = is.page; paged = is.paged; number = refl }

-- a frame has one page, so one number
pub one_number : (f : Frame) (n m : ℕ) → HasNumber f n → HasNumber f m → n ≡ m
one_number f n m first second = sym first.number
    ∙ (ap (λ (r : PageRows). r.head.number)
    (same_some first.page second.page (sym first.paged ∙ second.paged)) ∙ second.number)

-- a partition's number is no frame's
pub part_no_frame : (s : Shape) (k b : ℕ) → k < s.parts → part_id s k ≢ frame_id s b
part_no_frame s k b below e = omega (arith, below, e)
