-- What a frame in hand keeps: its page's number, and that its page is none outside the trees.
use Rattle.std.proofs.Common.{◌≡◌, ℕ, sym, ap, subst, ◌∙◌, refl, Some}
use mathlib.Core.Option.{some-injective}
use lib.ListN.{get_elem?}
use Rattle.list_facts.proofs.Places.{same_some}
use Rattle.key_tuple.specs.Order.{FieldList}
use Rattle.latch_law.specs.declared.knows.Holding.{Holding}
use Rattle.latch_law.specs.declared.knows.Terms.{Terms}
use Rattle.latch_law.specs.Views.{holding}
use Rattle.latch_space.specs.Passes.{view}
use Rattle.map_history.specs.Map.{MapChange}
use Rattle.index_page.specs.declared.head.PageHead.{PageHead}
use Rattle.index_page.specs.Page.{PageRows}
use Rattle.tree_law.specs.Pages.{is_own}
use Rattle.index_law.specs.Shape.{Shape}
use Rattle.forest_law.specs.declared.objects.Frame.{Frame}
use Rattle.forest_law.specs.declared.objects.Object.{Object}
use Rattle.forest_law.specs.declared.objects.Object.TheVariants as object
use Rattle.forest_law.specs.Numbers.{frame_id}
use Rattle.forest_law.specs.Outside.{HasNoOutside}
use Rattle.forest_law.proofs.ObjectLemmas.{same_frame}
use Rattle.forest_world.specs.Held.{TreePass, shape_of_pass}
use Rattle.call_law.specs.Hands.{KnowsFrame}
use Rattle.call_law.specs.Spoken.{View}
use Rattle.buffer_pool.specs.Frames.{GivesFrame}
use Rattle.buffer_pool.specs.Pages.{HasNumber, HasTreePage}
use Rattle.buffer_pool.proofs.PageLemmas.{tree_page_inside}
use Rattle.engine_law.proofs.KnownLemmas.{one_frame, knows_same}
use Rattle.leaf_changes.specs.Commits.{MakesChange}
use Rattle.leaf_changes.specs.Holds.{HoldsLeaf, KeepsNumber}

module _ (v : View) (b : ℕ) (f : Frame) (knows : KnowsFrame v b f) where
  -- a frame that stays keeps its page's number
  pub number_stays : KeepsNumber v b f
  number_stays g n other has = subst (λ z. HasNumber z n) (one_frame v b g f other knows) has

  -- and so does one of whose leaf a change is made
  pub number_made : (shape : Shape) (change : MapChange) (g : Frame)
      → MakesChange shape change f g → KeepsNumber v b g
  number_made shape change g makes h n other has =
      let had = number_stays h n other has in
      let same = same_some makes.page had.page (sym makes.had ∙ had.paged) in
      record {
        page = makes.new;
        paged = makes.has;
        number = ap (λ (z : PageHead). z.number) makes.head
            ∙ (ap (λ (r : PageRows). r.head.number) same ∙ had.number);
      }

-- what keeps the number from a later pass on does so from an earlier one that holds the same
pub number_later : (p q : TreePass) (b : ℕ) (g : Frame) → (view q).held ≡ (view p).held
    → (view q).terms ≡ (view p).terms → KeepsNumber (view q) b g → KeepsNumber (view p) b g
number_later p q b g held terms keeps f n knows has =
    keeps f n (knows_same p q b f held terms knows) has

module _ (p : TreePass) (b i : ℕ) (key : FieldList) (f g : Frame) (holds : HoldsLeaf p b i key f g)
  where
    -- a leaf is no page outside the trees
    pub leaf_inside : HasNoOutside f
    leaf_inside = tree_page_inside f i 0 holds.leaf.page.is

    -- nor is the one that a change makes of it
    pub made_inside : (shape : Shape) (change : MapChange) (h : Frame)
        → MakesChange shape change f h → HasNoOutside h
    made_inside shape change h makes page is =
        ap (λ (z : PageRows). is_own z.head.number z.head.prev)
        (same_some page makes.new (sym is ∙ makes.has))
        ∙ (ap (λ (z : PageHead). is_own z.number z.prev) makes.head
        ∙ leaf_inside makes.page makes.had)
