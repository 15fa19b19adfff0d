-- What a lawful state tells of a root that is to rise.
use Rattle.std.proofs.Common.{◌≡◌, ◌≢◌, ℕ, suc, ◌<◌, ◌≤◌, ◌+◌, sym, ap, subst, ◌∙◌, refl, arith, Option, Some, None, length}
use Rattle.key_tuple.specs.declared.key.Key.{Key}
use Rattle.latch_law.specs.Views.{holding}
use Rattle.latch_space.specs.Has.{IsKnown}
use Rattle.latch_space.specs.Passes.{view}
use Rattle.index_page.specs.Page.{PageRows}
use Rattle.tree_law.specs.ShapeLaws.{IsWholeTree}
use Rattle.tree_law.proofs.WholeLemmas.{roots_are_whole}
use Rattle.index_law.specs.Shape.{Shape}
use Rattle.forest_law.specs.declared.objects.Frame.{Frame}
use Rattle.forest_law.specs.declared.objects.Tree.{Tree}
use Rattle.forest_law.specs.declared.objects.Object.TheVariants as object
use Rattle.forest_law.specs.FramePages.{TellsPage}
use Rattle.forest_law.specs.Law.{IsLawful}
use Rattle.forest_law.specs.Numbers.{tree_id}
use Rattle.forest_law.specs.State.{ForestState, bound, page_within, pages_of, heights_of, height_of, maps_of, fields_for}
use Rattle.forest_world.specs.Held.{TreePass, shape_of_pass, HasFrame}
use Rattle.tree_restructure.specs.Raises.{IsRootIn}
use Rattle.tree_facts.proofs.LevelLemmas.{levels_are_few}
use Rattle.buffer_pool.specs.Forests.{FitsTrees, IsFittedTree}
use Rattle.buffer_pool.specs.NewPages.{outside_page}
use Rattle.buffer_pool.proofs.CallLemmas.{frame_has}
use Rattle.tree_smo.specs.PartHeld.{HoldsPartFor, LawsOfMoves}
use Rattle.tree_smo.specs.Storeys.{SuitsStoreys, HoldsStoreys}
use Rattle.tree_smo.proofs.LawfulLemmas.{outside_apart, known_tells}

-- no key bounds where none is seen
pub no_bound : (k : Option Key) → bound k ≡ None → k ≡ None
no_bound None e = refl
no_bound (Some k) e = absurd cc

-- a tree that gets one higher
pub one_higher : (t s : Tree) → s ≡ t
    → record s { height = s.height + 1 } ≡ record t { height = suc t.height }
one_higher t s e = let more : t.height + 1 ≡ suc t.height = omega arith in
    ap (λ (z : Tree). record z { height = z.height + 1 }) e
    ∙ ap (λ n. record t { height = n }) more

-- what is known when a raise is made in hand
pub record RaiseCall (p : TreePass) (i b under : ℕ) : Type 0 where
  pub known : IsKnown p
  pub fitted : IsFittedTree (view p)
  pub below : i < (shape_of_pass p).indexes
  pub few : (shape_of_pass p).pages ≤ 65536
  pub held : HoldsStoreys (view p) i b under
  pub part : Option ℕ
  pub holds : HoldsPartFor (view p) b part
  pub laws : LawsOfMoves

module _ {p : TreePass} {i b under : ℕ} (c : RaiseCall p i b under) where
  abbrev w : ForestState
  w = c.fitted.whole

  abbrev law : IsLawful w
  law = c.fitted.is_lawful

  abbrev fits : FitsTrees w (view p)
  fits = c.fitted.fits

  abbrev h : HoldsStoreys (view p) i b under
  h = c.held

  abbrev known : IsKnown p
  known = c.known

  abbrev root : Frame
  root = h.can.root

  abbrev page : PageRows
  page = h.can.page.page

  abbrev fresh : PageRows
  fresh = outside_page page.head h.number

  pub apart : under ≢ b
  apart = outside_apart (view p) under b i h.can.level h.fresh root page.head h.number h.knows
      h.blank h.can.knows_root h.can.page

  pub has_top : HasFrame p b root root
  has_top = frame_has p known b root h.can.knows_root

  pub has_low : HasFrame p under h.fresh h.fresh
  has_low = frame_has p known under h.fresh h.knows

  below_it : i < w.shape.indexes
  below_it = subst (λ (s : Shape). i < s.indexes) (sym fits.shape) c.below

  pub tells : TellsPage w root page
  tells = known_tells w law (view p) fits b root page h.can.knows_root h.can.page.paged

  -- the root has no neighbours and no bounds, and its level is the tree's height
  whole_root : IsWholeTree i (heights_of w.objects i) (page_within page root.low root.high)
  whole_root = (roots_are_whole w.shape.indexes (fields_for w.shape) (heights_of w.objects)
      (maps_of w.lists) (pages_of w.shape w.objects) law.objects.pages).root i
      (page_within page root.low root.high) below_it
      (ap (pages_of w.shape w.objects) (sym h.can.number) ∙ tells.is)

  height_is : heights_of w.objects i ≡ h.can.tree.height
  height_is = ap height_of (fits.known (tree_id i)
      (holding h.can.knows_tree.0 (object.Tree h.can.tree)) h.can.knows_tree.1)

  -- which leaves room for one level more
  levels : suc (heights_of w.objects i) < 65536
  levels = let more = levels_are_few w law i below_it h.number
      (page_within fresh h.fresh.low h.fresh.high)
      (known_tells w law (view p) fits under h.fresh fresh h.knows h.blank.page).is refl in
      let same = ap (λ (s : Shape). s.pages) fits.shape in
      let few = c.few in omega (arith, more, same, few)

  pub height_fits : (t : Tree) → t ≡ h.can.tree → t.height + 1 < 65536
  height_fits t e = let same = ap (λ (z : Tree). z.height) e in
      omega (arith, levels, height_is, same)

  pub root_in : IsRootIn page root
  root_in = record {
    index = whole_root.index ∙ sym h.can.number;
    prev = whole_root.prev;
    next = whole_root.next;
    low = no_bound root.low whole_root.low;
    high = no_bound root.high whole_root.high;
  }

  -- the frames can be raised
  pub suits_storeys : SuitsStoreys p b under
  suits_storeys = record {
    apart = apart;
    top = root;
    low = h.fresh;
    has_top = has_top;
    has_low = has_low;
    suits = record {
      page = page;
      fresh = fresh;
      has = h.can.page.paged;
      has_fresh = h.blank.page;
      suits = record {
        some = λ e. (let two = h.can.two in
            let none : length page.rows ≡ 0 = ap length e in omega (arith, two, none));
        blank = record { empty = refl; index = refl; level = refl; fields = refl };
        level = (let level = whole_root.level in omega (arith, levels, level));
      };
    };
  }
