-- The root in hand.
use Rattle.std.proofs.Common.{◌≡◌, ℕ, ◌<◌, true, [], ◌∷◌, Some, sym, ap, subst, ◌∙◌, arith}
use Rattle.list_facts.proofs.Places.{same_some}
use Rattle.key_tuple.specs.declared.mode.Mode.TheVariants as mode
use Rattle.key_tuple.specs.KeyPlace.{IsCut}
use Rattle.key_tuple.specs.Order.{FieldList}
use Rattle.key_tuple.proofs.PositionLemmas.{positions_part}
use Rattle.latch_law.specs.Views.{holding}
use Rattle.latch_space.specs.Passes.{view}
use Rattle.index_page.specs.Page.{PageRows}
use Rattle.tree_law.specs.Pages.{Page, low_place, high_place, is_own, IsOrderly}
use Rattle.index_law.specs.Shape.{Shape}
use Rattle.forest_law.specs.declared.objects.Frame.{Frame}
use Rattle.forest_law.specs.declared.objects.Tree.{Tree}
use Rattle.forest_law.specs.declared.objects.Object.TheVariants as object
use Rattle.forest_law.specs.FramePages.{HasCutPage, TellsPage}
use Rattle.forest_law.specs.Law.{IsLawful}
use Rattle.forest_law.specs.Numbers.{frame_id}
use Rattle.forest_law.specs.State.{ForestState, page_within, pages_of, fields_for, heights_of}
use Rattle.forest_law.proofs.FramePageLemmas.{roots_have_cuts}
use Rattle.forest_world.specs.Held.{TreePass, shape_of_pass}
use Rattle.call_law.specs.Hands.{KnowsFrame, KnowsTree}
use Rattle.call_law.specs.Spoken.{View}
use Rattle.buffer_pool.specs.Forests.{IsFittedTree}
use Rattle.buffer_pool.specs.Pages.{IsLive, HoldsOtherPages, PagesIn}
use Rattle.buffer_pool.proofs.AddedLemmas.{frame_no_tree, tree_still}
use Rattle.buffer_pool.proofs.CallLemmas.{frame_has}
use Rattle.tree_descent.specs.Leaves.{cut_in}
use Rattle.tree_smo.specs.Raising.{CanRaise}
use Rattle.tree_growth.specs.declared.looking.PageInHand.{PageInHand}
use Rattle.tree_growth.specs.Pages.{TellsRoom, HoldsPagedFrame, HoldsRoot, IsPageInHand}
use Rattle.tree_growth.specs.Ways.{IsGoingDown, GoesOn, ArrivesAt}
use Rattle.tree_growth.proofs.AddLemmas.{goes_silently}
use Rattle.tree_growth.proofs.HandLemmas.{way_more}
use Rattle.tree_growth.proofs.HalvesLemmas.{Looks}
use Rattle.tree_growth.proofs.KnownLemmas.{known_tells}
use Rattle.tree_growth.proofs.PageLemmas.{HasKey, in_hand}
use Rattle.tree_descent.proofs.InnerLemmas.{one_known}

-- the position of a key cuts the keys
pub key_cuts : (s : Shape) (i : ℕ) (key : FieldList) → IsCut (cut_in s i mode.Ge key)
key_cuts s i key = positions_part.cut (fields_for s i) mode.Ge key

-- it is there in each lawful state
pub root_live : (v : View) (i : ℕ) → i < v.terms.shape.indexes → IsLive v i
root_live v i below w law fits =
    let root = roots_have_cuts w law (cut_in w.shape i mode.Ge []) (key_cuts w.shape i []) i
    (subst (λ (s : Shape). i < s.indexes) (sym fits.shape) below) in (root.page, root.at)

module _ (w : ForestState) (law : IsLawful w) (s : Shape) (same : w.shape ≡ s) (i : ℕ)
    (below : i < s.indexes) (key : FieldList) where
  -- the root of an index has each key
  root_there : HasCutPage w (cut_in s i mode.Ge key) i (heights_of w.objects i) i
  root_there = roots_have_cuts w law (cut_in s i mode.Ge key) (key_cuts s i key) i
      (subst (λ (t : Shape). i < t.indexes) (sym same) below)

  -- a frame with the page of the index's number has the root
  pub root_page : (f : Frame) (page : PageRows) → f.page ≡ Some page → page.head.number ≡ i
      → TellsPage w f page → HasKey s i (heights_of w.objects i) key f
  root_page f page paged number tells =
      let root = root_there in
      let is : page_within page f.low f.high ≡ root.page =
      same_some (page_within page f.low f.high) root.page
      (sym tells.is ∙ (ap (pages_of w.shape w.objects) number ∙ root.at)) in record {
        is = search (page, paged, ap (λ n. is_own n page.head.prev) number ∙ (ap (λ (x : Page). is_own i x.prev) is ∙ root.tree), ap (λ (x : Page). x.index) is ∙ root.index, ap (λ (x : Page). x.level) is ∙ root.at_level);
        order = subst (λ (t : Shape). IsOrderly (fields_for t) (page_within page f.low f.high))
            same tells.order;
        within = record {
          low = ap (λ (x : Page). cut_in s i mode.Ge key (low_place x.low)) is ∙ root.low;
          high = ap (λ (x : Page). cut_in s i mode.Ge key (high_place x.high)) is ∙ root.high;
        };
      }

-- no page is in hand before the root
pub no_page : (p : TreePass) (i : ℕ) (key : FieldList) → IsGoingDown p i key [] → (n : ℕ)
    → HoldsOtherPages (view p) n
no_page p i key way n b f page knows paged number =
    way.only (frame_id (shape_of_pass p) b) (holding knows.0 (object.Frame f)) knows.1
    (frame_no_tree (shape_of_pass p) b i way.index) tt

module _ (p q : TreePass) (i : ℕ) (key : FieldList) (way : IsGoingDown p i key []) (b : ℕ)
    (took : PagesIn p i b q) where
  -- the root is in hand
  pub goes_root : GoesOn p q
  goes_root = goes_silently p q (frame_id (shape_of_pass p) b ∷ []) took.silently

  pub way_root : IsGoingDown q i key (b ∷ [])
  way_root =
      let does = took.silently.does in let s = shape_of_pass p in
      let had = way.count in let more = took.count in
      way_more p q i key [] (b ∷ []) way (frame_id s b ∷ []) took.silently.added does.adds
      does.rest does.known (λ k not each. (each, tt)) way.tree
      (tree_still (view p) (view q) (frame_id s b ∷ []) does.rest i
      ((λ e. frame_no_tree s b i way.index (sym e)), tt) way.tree way.knows)
      (omega (arith, had, more))

  module _ (fitted : IsFittedTree (view q)) where
    abbrev pub level : ℕ
    level = heights_of fitted.whole.objects i

    root_has : HasKey (shape_of_pass q) i level key took.frame
    root_has = root_page fitted.whole fitted.is_lawful (shape_of_pass q) fitted.fits.shape i
        way_root.index key took.frame took.has.page took.has.paged took.has.number
        (known_tells (view q) fitted b took.frame took.has.page took.knows took.has.paged)

    pub holds_paged : HoldsPagedFrame q b
    holds_paged = (
      took.frame,
      took.has.page,
      frame_has q took.silently.does.known b took.frame took.knows,
      took.has.paged,
    )

    module _ (need : ℕ) (at : PageInHand) (looks : Looks q b need at) where
      tells : TellsRoom b root_has.is.page need at
      tells = looks took.frame root_has.is.page
          (frame_has q took.silently.does.known b took.frame took.knows) root_has.is.paged

      pub reaches_root : ArrivesAt p i key need at q
      reaches_root = record {
        goes = goes_root;
        way = subst (λ c. IsGoingDown q i key (c ∷ [])) (sym tells.is_block) way_root;
        is = in_hand (view q) i key need b level at took.frame root_has tells took.knows;
      }

      pub holds_root : HoldsRoot (view q) at.block i
      holds_root = record {
        frame = took.frame;
        knows = subst (λ c. KnowsFrame (view q) c took.frame) (sym tells.is_block) took.knows;
        has = took.has;
      }

-- a root without room may be raised
pub can_raise : (v : View) (i : ℕ) (key : FieldList) (need : ℕ) (at : PageInHand)
    → IsPageInHand v i key need at → HoldsRoot v at.block i → (t : Tree) → KnowsTree v i t
    → at.is_full ≡ true → CanRaise v i at.block
can_raise v i key need at is root t knows full =
    let same : is.frame ≡ root.frame = one_known v at.block is.frame root.frame is.knows root.knows in
    let one : is.page.is.page ≡ root.has.page = same_some is.page.is.page root.has.page
    (sym is.page.is.paged ∙ (ap (λ (f : Frame). f.page) same ∙ root.has.paged)) in record {
      tree = t;
      root = is.frame;
      level = at.level;
      knows_tree = knows;
      knows_root = is.knows;
      page = is.page.is;
      number = ap (λ (r : PageRows). r.head.number) one ∙ root.has.number;
      two = is.tells.two full;
    }
