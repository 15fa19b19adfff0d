-- What is held and known along a way down.
use Rattle.std.proofs.Common.{◌≡◌, ℕ, suc, zero, ◌-◌, ◌<◌, Bool, Some, None, List, [], ◌∷◌, ◌++◌, sym, ap, subst, ◌∙◌, refl, arith, append-nil}
use Rattle.std.proofs.lemmas.List.Elements.{filter-append}
use mathlib.Core.Option.{some}
use lib.ListN.{get_elem?}
use Rattle.list_facts.proofs.Places.{same_some}
use Rattle.key_tuple.specs.KeyPlace.{KeyPlace}
use Rattle.key_tuple.specs.Position.{position_cut}
use Rattle.key_tuple.specs.declared.mode.Mode.TheVariants.{Le}
use Rattle.key_tuple.proofs.PositionLemmas.{positions_part}
use Rattle.latch_law.specs.declared.knows.Holding.{Holding}
use Rattle.latch_law.specs.declared.knows.Reference.{Reference}
use Rattle.latch_law.specs.declared.knows.Terms.{Terms}
use Rattle.latch_law.specs.Views.{holding}
use Rattle.latch_law.specs.Whole.{reference}
use Rattle.latch_space.specs.Has.{IsKnown}
use Rattle.latch_space.specs.Passes.{view, count}
use Rattle.index_page.specs.Page.{PageRows}
use Rattle.tree_law.specs.Pages.{is_own, IsOrderly}
use Rattle.index_law.specs.Shape.{Shape}
use Rattle.forest_law.specs.declared.objects.Frame.{Frame}
use Rattle.forest_law.specs.declared.objects.Object.{Object}
use Rattle.forest_law.specs.declared.objects.Object.TheVariants as object
use Rattle.forest_law.specs.FramePages.{HasCutPage}
use Rattle.forest_law.specs.Law.{IsLawful}
use Rattle.forest_law.specs.Numbers.{frame_id, frames_of}
use Rattle.forest_law.specs.State.{ForestState, page_within, fields_for, heights_of}
use Rattle.forest_law.proofs.FramePageLemmas.{frames_tell_pages, number_below, roots_have_cuts}
use Rattle.tree_facts.proofs.ChildLemmas.{pointers_bound_children}
use Rattle.forest_world.specs.Held.{TreePass, shape_of_pass}
use Rattle.call_law.specs.Hands.{KnowsFrame, HoldsNoFrameBut, HoldsNoTable}
use Rattle.call_law.specs.Spoken.{View}
use Rattle.call_law.specs.Trace.{Added, is_frame, frame_references}
use Rattle.call_law.proofs.TableLemmas.{tables_lacked}
use Rattle.call_law.proofs.TraceLemmas.{both_added}
use Rattle.buffer_pool.specs.AsTaken.{AreAsTaken, GaveAsTaken}
use Rattle.buffer_pool.specs.Calls.{Does, DoesSilently}
use Rattle.buffer_pool.specs.Forests.{IsFittedTree}
use Rattle.buffer_pool.specs.Frames.{GivesFrame}
use Rattle.buffer_pool.specs.Pages.{IsLive, HasTreePage, PagesIn, FindsPage, FindsNoPage, PointsAt}
use Rattle.buffer_pool.proofs.AddedLemmas.{none_added, only_given, held_adds, none_spares}
use Rattle.buffer_pool.proofs.AsTakenLemmas.{none_as_taken, both_as_taken}
use Rattle.buffer_pool.proofs.CallLemmas.{does_both, does_none, does_again, gave_frame}
use Rattle.buffer_pool.proofs.GaveLemmas.{gave_both}
use Rattle.buffer_pool.proofs.FrameLemmas.{one_held}
use Rattle.tree_descent.specs.Paths.{PicksChild, LeadsTo, LeadDown, LeadFromRoot}
use Rattle.tree_descent.specs.Ways.{HoldsPage, GoesDown, LooksFor}
use Rattle.tree_descent.proofs.PageLemmas.{picked_points, cut_is_for, known_tree_frame, number_is}

-- the references of frames of two calls are one behind the other
pub frames_both : (qs rs : List (Reference Object))
    → frame_references (qs ++ rs) ≡ frame_references qs ++ frame_references rs
frames_both = filter-append (λ (q : Reference Object). is_frame q.released)

-- a path goes on by one page
pub lead_more : (shape : Shape) (cut : KeyPlace → Bool) (i top m : ℕ)
    (qs : List (Reference Object)) (level k n : ℕ) (q : Reference Object)
    → LeadDown shape cut i top m qs (suc level) k → LeadsTo shape cut i level k n q
    → LeadDown shape cut i top m (qs ++ q ∷ []) level n
lead_more shape cut i top m [] level k n q down leads = (
  level,
  n,
  down.0,
  subst (λ j. LeadsTo shape cut i level j n q) (sym down.1) leads,
  (refl, refl),
)
lead_more shape cut i top m (r ∷ qs) level k n q down leads = (
  down.0,
  down.1,
  down.2,
  down.3,
  lead_more shape cut i down.0 down.1 qs level k n q down.4 leads,
)

module _ (v : View) (fitted : IsFittedTree v) (b i : ℕ) (f : Frame)
    (knows : KnowsFrame v b f) where
  -- a row of a known page of the trees points to a number of a page
  points_below : (level : ℕ) → (is : HasTreePage f i level) → 0 < level → (n : ℕ)
      → PointsAt is.page.rows n → n < v.terms.shape.pages
  points_below zero is above n points = absurd (omega (arith, above))
  points_below (suc level) is above n points =
      let w = fitted.whole in
      let law = fitted.is_lawful in
      let has =
      pointers_bound_children w law b f is.page
      (known_tree_frame w law v fitted.fits b i (suc level) f knows is) level is.at_level
      points.fore points.this points.aft points.was n points.child in
      subst (λ (s : Shape). n < s.pages) fitted.fits.shape (number_below w law n has.page has.at)

  -- and is in order by itself
  known_order : (level : ℕ) → (is : HasTreePage f i level)
      → IsOrderly (fields_for v.terms.shape) (page_within is.page f.low f.high)
  known_order level is =
      let w = fitted.whole in
      let law = fitted.is_lawful in
      subst (λ (s : Shape). IsOrderly (fields_for s) (page_within is.page f.low f.high))
      fitted.fits.shape
      (frames_tell_pages w law b f is.page
      (known_tree_frame w law v fitted.fits b i level f knows is).at is.paged).order

-- the root has each cut
root_cut : (w : ForestState) → IsLawful w → (i : ℕ) → i < w.shape.indexes
    → HasCutPage w (position_cut 0 Le []) i (heights_of w.objects i) i
root_cut w law i below =
    roots_have_cuts w law (position_cut 0 Le []) (positions_part.cut 0 Le []) i below

module _ (v : View) (i : ℕ) (below : i < v.terms.shape.indexes) where
  -- there is always a page of the root's number
  pub root_live : IsLive v i
  root_live w law fits = (let has =
      root_cut w law i (subst (λ (s : Shape). i < s.indexes) (sym fits.shape) below) in
      (has.page, has.at))

  pub root_below : IsFittedTree v → i < v.terms.shape.pages
  root_below fitted = let w = fitted.whole in
      let live = root_live w fitted.is_lawful fitted.fits in
      subst (λ (s : Shape). i < s.pages) fitted.fits.shape
      (number_below w fitted.is_lawful i live.0 live.1)

module _ {p : TreePass} {cut : KeyPlace → Bool} {i : ℕ} where
  -- before the root is taken
  pub looks_for_root : (level : ℕ) → IsKnown p → i < (shape_of_pass p).pages
      → LooksFor p cut i level i p
  looks_for_root level known below = record {
    silently = record {
      added = none_added;
      does = record {
        adds = held_adds (view p) (view p) (view p).held refl;
        spares = none_spares (shape_of_pass p);
        rest = λ k apart. refl;
        known = known;
      };
      silent = refl;
    };
    as_taken = tt;
    leads = record { top = level; down = (refl, refl) };
    below = below;
    count = refl;
  }

  module _ {level n : ℕ} {q : TreePass} (looks : LooksFor p cut i level n q) where
    -- what was lacked is lacked
    looks_lacks : (k : ℕ) → get_elem? (view p).held k ≡ some None
        → get_elem? (view q).held k ≡ some None
    looks_lacks k lacks = looks.silently.does.rest k tt ∙ lacks

    pub looks_shape : shape_of_pass q ≡ shape_of_pass p
    looks_shape = ap (λ (t : Terms Shape). t.shape) looks.silently.does.adds.numbers.terms

    -- so no frame is held
    pub looks_frames : HoldsNoFrameBut (view p) [] → HoldsNoFrameBut (view q) []
    looks_frames frames b below apart =
        subst (λ (s : Shape). get_elem? (view q).held (frame_id s b) ≡ some None) (sym looks_shape)
        (looks_lacks (frame_id (shape_of_pass p) b)
        (frames b (subst (λ (s : Shape). b < frames_of s) looks_shape below) tt))

    -- nor the pool, nor a partition
    pub looks_tables : HoldsNoTable (view p) → HoldsNoTable (view q)
    looks_tables = tables_lacked (view p) (view q) looks_shape (λ k table. looks_lacks k)

    -- the page was no page of its level: the way was in vain
    pub ends_in_vain : {r : TreePass} → FindsNoPage q n i level r → GaveAsTaken p r
    ends_in_vain {r} found = gave_both p q r
        (record {
          got = record { silently = looks.silently; count = looks.count };
          as_taken = looks.as_taken;
        })
        (record { got = found.got; as_taken = found.as_taken })

    -- the page is taken: the way goes down to it
    module _ {b : ℕ} {r : TreePass} (took : PagesIn q n b r) (fitted : IsFittedTree (view r))
        (is : HasTreePage took.frame i level) where
      abbrev k : ℕ
      k = frame_id (shape_of_pass p) b

      abbrev more : Added
      more = took.silently.added

      took_does : Does q r (k ∷ []) more
      took_does = subst (λ (s : Shape). Does q r (frame_id s b ∷ []) more) looks_shape
          took.silently.does

      taken_shape : shape_of_pass r ≡ shape_of_pass p
      taken_shape = ap (λ (t : Terms Shape). t.shape) took.silently.does.adds.numbers.terms
          ∙ looks_shape

      -- no frame was given back meanwhile
      same_path : frame_references (looks.silently.added.references ++ more.references)
          ≡ frame_references looks.silently.added.references
      same_path = frames_both looks.silently.added.references more.references
          ∙ (ap (λ z. frame_references looks.silently.added.references ++ z) took.none
          ∙ append-nil (frame_references looks.silently.added.references))

      pub goes_down : GoesDown p cut i level b r
      goes_down = record {
        silently = record {
          added = both_added looks.silently.added more;
          does = does_both p q r (k ∷ []) looks.silently.added more
              (does_none p q looks.silently.added (k ∷ []) looks.silently.does) took_does;
          silent = λ j. looks.silently.silent j ++ took.silently.silent j;
        };
        as_taken = both_as_taken looks.silently.added.references more.references looks.as_taken
            (none_as_taken more.references took.none);
        lacked = sym (looks.silently.does.rest k tt)
            ∙ subst (λ (s : Shape). get_elem? (view q).held (frame_id s b) ≡ some None) looks_shape
            took.lacked;
        frame = took.frame;
        knows = took.knows;
        held_as_taken = took.held_as_taken;
        page = record {
          is = is;
          order = subst
              (λ (s : Shape). IsOrderly (fields_for s)
              (page_within is.page took.frame.low took.frame.high)) taken_shape
              (known_order (view r) fitted b i took.frame took.knows level is);
          below = λ above m points. subst (λ (s : Shape). m < s.pages) taken_shape
              (points_below (view r) fitted b i took.frame took.knows level is above m points);
        };
        leads = subst (λ m. LeadFromRoot (shape_of_pass p) cut i level m
            (frame_references (looks.silently.added.references ++ more.references)))
            (sym (number_is took.frame n i level took.has is))
            (subst (LeadFromRoot (shape_of_pass p) cut i level n) (sym same_path) looks.leads);
        count = (let a = took.count in let b = looks.count in omega (arith, a, b));
      }

  module _ {level b : ℕ} {q : TreePass} (way : GoesDown p cut i level b q) where
    pub way_shape : shape_of_pass q ≡ shape_of_pass p
    way_shape = ap (λ (t : Terms Shape). t.shape) way.silently.does.adds.numbers.terms

    -- its page is in hand
    abbrev pub way_page : HoldsPage (view q) b i level
    way_page = record {
      frame = way.frame;
      knows = way.knows;
      is = way.page.is;
      order = subst
          (λ (s : Shape). IsOrderly (fields_for s)
          (page_within way.page.is.page way.frame.low way.frame.high))
          (sym (ap (λ (t : Terms Shape). t.shape) way.silently.does.adds.numbers.terms))
          way.page.order;
    }

    -- the page is given back as it was taken
    module _ {r : TreePass} (gave : GivesFrame q b r) where
      abbrev l : ℕ
      l = frame_id (shape_of_pass p) b

      abbrev given : Added
      given = only_given l way.knows.0 (object.Frame way.frame)

      same_holding : holding gave.taken (object.Frame gave.frame)
          ≡ holding way.knows.0 (object.Frame way.frame)
      same_holding = one_held q (frame_id (shape_of_pass q) b)
          (holding gave.taken (object.Frame gave.frame))
          (holding way.knows.0 (object.Frame way.frame)) gave.held way.knows.1

      gave_does : Does q r (l ∷ []) given
      gave_does = subst
          (λ (h : Holding Object). Does q r (l ∷ []) (only_given l h.taken h.known)) same_holding
          (subst
          (λ (s : Shape). Does q r (frame_id s b ∷ [])
          (only_given (frame_id s b) gave.taken (object.Frame gave.frame))) way_shape
          (gave_frame q r way.silently.does.known b gave))

      -- then nothing is held besides
      pub gives_way : DoesSilently p r []
      gives_way = record {
        added = both_added way.silently.added given;
        does = does_again p r (both_added way.silently.added given) l []
            (does_both p q r (l ∷ []) way.silently.added given way.silently.does gave_does)
            (subst (λ (s : Shape). get_elem? (view r).held (frame_id s b) ≡ some None)
            (ap (λ (t : Terms Shape). t.shape) gave.hand.terms ∙ way_shape) gave.lacks
            ∙ sym way.lacked);
        silent = append-nil way.silently.added.said ∙ way.silently.silent;
      }

      -- and each frame that kept its page was given back as it was taken
      gives_as_taken : AreAsTaken (way.silently.added.references ++ given.references)
      gives_as_taken = both_as_taken way.silently.added.references given.references way.as_taken (
        way.held_as_taken (holding way.knows.0 (object.Frame way.frame)) way.knows.1,
        tt,
      )

      gives_count : count r ≡ count p
      gives_count = let a = gave.count in let b = way.count in omega (arith, a, b)

      pub turns_back : GaveAsTaken p r
      unfolding gives_way
      turns_back = record {
        got = record { silently = gives_way; count = gives_count };
        as_taken = gives_as_taken;
      }

  -- a level that isn't that of the leaves is above another
  pub way_above : {level b : ℕ} {q : TreePass} → GoesDown p cut i level b q → 0 < level
      → GoesDown p cut i (suc (level - 1)) b q
  way_above {b = b} {q} way above = subst (λ l. GoesDown p cut i l b q) (omega (arith, above)) way

  module _ {level b : ℕ} {q : TreePass} (way : GoesDown p cut i (suc level) b q) {n : ℕ}
      (picks : PicksChild cut way.page.is.page.rows n) where
    abbrev step : Reference Object
    step = reference (frame_id (shape_of_pass p) b) way.knows.0 (object.Frame way.frame)

    -- the path leads on to the picked child
    leads_on : LeadFromRoot (shape_of_pass p) cut i level n
        (frame_references (way.silently.added.references ++ step ∷ []))
    leads_on = record {
      top = way.leads.top;
      down = subst (λ qs. LeadDown (shape_of_pass p) cut i way.leads.top i qs level n)
          (sym (frames_both way.silently.added.references (step ∷ [])))
          (lead_more (shape_of_pass p) cut i way.leads.top i
          (frame_references way.silently.added.references) level way.page.is.page.head.number n step
          way.leads.down
          (record {
            block = b;
            taken = way.knows.0;
            frame = way.frame;
            is = refl;
            page = way.page.is;
            number = refl;
            picks = picks;
          }));
    }

    -- it is left, and the way looks for the picked child
    pub leaves_page : {r : TreePass} → GivesFrame q b r → LooksFor p cut i level n r
    unfolding gives_way
    leaves_page gave = record {
      silently = gives_way way gave;
      as_taken = gives_as_taken way gave;
      leads = leads_on;
      below = way.page.below (omega arith) n (picked_points cut way.page.is.page.rows n picks);
      count = gives_count way gave;
    }

  -- the page that was found is that of its number, and the way goes down to it
  pub finds_way : {level n b : ℕ} {q r : TreePass} → LooksFor p cut i level n q
      → IsFittedTree (view r) → FindsPage q n i level b r → GoesDown p cut i level b r
  finds_way looks fitted found = goes_down looks found.paged fitted found.is

module _ (p q : TreePass) (i b : ℕ) (below : i < (shape_of_pass p).indexes)
    (took : PagesIn p i b q) (fitted : IsFittedTree (view q)) where
  -- as it was taken the root is a page of the trees
  pub root_taken : (level : ℕ) × HasTreePage took.frame i level
  root_taken = (let w = fitted.whole in
      let level = heights_of w.objects i in
      let inside =
      subst (λ (s : Shape). i < s.indexes)
      (sym (fitted.fits.shape
      ∙ ap (λ (t : Terms Shape). t.shape) took.silently.does.adds.numbers.terms)) below in (
        level,
        (cut_is_for w fitted.is_lawful (view q) fitted.fits (position_cut 0 Le []) i level i
            (root_cut w fitted.is_lawful i inside) b took.frame took.knows took.has).is,
      ))

  -- and a way begins there, on the level that was read
  pub begins_down : IsKnown p → IsFittedTree (view p) → (rows : PageRows)
      → took.frame.page ≡ Some rows → (cut : KeyPlace → Bool)
      → GoesDown p cut i rows.head.level b q
  begins_down known before rows paged cut = let root = root_taken in
      goes_down (looks_for_root rows.head.level known (root_below (view p) i below before)) took
      fitted
      (record {
        page = rows;
        paged = paged;
        tree = ap (λ (z : PageRows). is_own z.head.number z.head.prev)
            (same root.1.page root.1.paged) ∙ root.1.tree;
        index = ap (λ (z : PageRows). z.head.index) (same root.1.page root.1.paged) ∙ root.1.index;
        at_level = refl;
      })
    where
      same : (page : PageRows) → took.frame.page ≡ Some page → rows ≡ page
      same page is = same_some rows page (sym paged ∙ is)
