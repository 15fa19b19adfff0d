-- A planned split can be made with the frames that are known.
use Rattle.std.proofs.Common.{◌≡◌, ◌≢◌, ℕ, suc, ◌≤◌, ◌<◌, ◌^◌, ◌+◌, List, [], ◌∷◌, ◌++◌, length, sym, ap, subst, ◌∙◌, refl, arith, Option, Some, None, option_and_then}
use Rattle.key_tuple.specs.Order.{FieldList}
use Rattle.key_tuple.specs.Limits.{IsWithinLimits}
use Rattle.key_tuple.specs.declared.TheConstants.{MAX_FIELDS, MAX_KEY_BYTES}
use Rattle.key_tuple.proofs.SizeLemmas.{pointer_limited}
use Rattle.index_page.specs.declared.TheConstants.{PAGE_ROOM, NO_PAGE}
use Rattle.index_page.specs.declared.head.PageHead.{PageHead}
use Rattle.index_page.specs.Loads.{charge_of, load_of}
use Rattle.index_page.specs.Page.{PageRows}
use Rattle.index_page.specs.Refusals.{insert_refusal, free_of}
use Rattle.index_page.specs.Rows.{Row, Child}
use Rattle.index_page.proofs.RefusalLemmas.{not_refused}
use Rattle.forest_law.specs.declared.objects.Frame.{Frame}
use Rattle.tree_restructure.specs.Charges.{most_for_pointer}
use Rattle.tree_restructure.specs.Cuts.{HalvesAt, IsBlankBeside}
use Rattle.tree_restructure.specs.Pointers.{RangeHas, pointer_refusal}
use Rattle.tree_restructure.specs.SplitCalls.{SuitsSplit, split_refusal}
use Rattle.tree_facts.specs.TreeFrames.{IsTreeFrame}
use Rattle.tree_facts.proofs.CutLemmas.{cuts_are_in_ranges}
use Rattle.tree_facts.proofs.NeighbourLemmas.{next_pages_fit}
use Rattle.forest_law.specs.Law.{IsLawful}
use Rattle.forest_law.specs.State.{ForestState}
use Rattle.call_law.specs.Hands.{KnowsFrame}
use Rattle.call_law.specs.Spoken.{View}
use Rattle.buffer_pool.specs.Forests.{FitsTrees, IsFittedTree}
use Rattle.forest_world.specs.Held.{TreePass, HasFrame}
use Rattle.latch_space.specs.Has.{IsKnown}
use Rattle.latch_space.specs.Passes.{view}
use Rattle.buffer_pool.specs.Hands.{HoldsFrame}
use Rattle.buffer_pool.proofs.CallLemmas.{frame_has}
use Rattle.tree_restructure.specs.Links.{HasAPage}
use Rattle.buffer_pool.specs.NewPages.{outside_page, HasOutsidePage}
use Rattle.tree_smo.specs.declared.halves.SplitHands.{SplitHands}
use Rattle.tree_smo.specs.declared.plans.SplitPlan.{SplitPlan}
use Rattle.tree_smo.specs.Halves.{AreThree}
use Rattle.tree_smo.specs.PartHeld.{HoldsPartFor}
use Rattle.tree_smo.specs.Plans.{HoldsNext, HoldsPlan, blocks_of}
use Rattle.tree_smo.proofs.LawfulLemmas.{one_page, outside_apart, levels_apart, tree_frame, page_number}

-- a page with room for any pointer takes one with a key within the limits
pub takes_pointer : (page : PageRows) (at : FieldList) (n : ℕ) → IsWithinLimits at
    → load_of page.rows + most_for_pointer ≤ PAGE_ROOM → insert_refusal page at (Child n) ≡ None
takes_pointer page at n limits room =
    let size = pointer_limited at MAX_FIELDS MAX_KEY_BYTES limits.few limits.short in
    not_refused (charge_of at (Child n)) (free_of page) (omega (arith, size, room))
    (omega (arith, size, room))

-- the key of a cut that isn't the first row's is in the range of the pointer to the page
pub cut_range : (w : ForestState) → IsLawful w → (b c : ℕ) (f g : Frame) (page child : PageRows)
    → IsTreeFrame w b f page → IsTreeFrame w c g child → (fore : List Row) (row : Row)
    (aft : List Row) → page.rows ≡ fore ++ row ∷ aft → row.body ≡ Child child.head.number
    → (place : ℕ) (at : FieldList) → HalvesAt child.rows place at
    → RangeHas page child.head.number at
cut_range w law b c f g page child is below fore row aft parts body place at cut =
    go cut.half.lower refl
  where
    n : ℕ
    n = child.head.number

    go : (lower : List Row) → cut.half.lower ≡ lower → RangeHas page n at
    go [] e = absurd (let some = cut.half.halves.some_left in
        let none = ap length e in omega (arith, some, none))
    go (x ∷ xs) e = subst (RangeHas page n) cut.key_is
        (cuts_are_in_ranges w law b f page is fore row aft parts n body c g child below refl x xs
        cut.half.row cut.half.above
        (cut.half.was ∙ ap (λ ys. ys ++ cut.half.row ∷ cut.half.above) e))

-- what is known when a planned split is made in hand
pub record SplitCall (p : TreePass) (plan : SplitPlan) (right : ℕ) : Type 0 where
  pub known : IsKnown p
  pub fitted : IsFittedTree (view p)
  pub held : HoldsPlan (view p) plan
  pub fresh : Frame
  pub knows : KnowsFrame (view p) right fresh
  pub number : ℕ
  pub blank : HasOutsidePage fresh plan.head number
  pub part : Option ℕ
  pub holds : HoldsPartFor (view p) plan.child part

abbrev pub split_call : (p : TreePass) (plan : SplitPlan) (right : ℕ) → IsKnown p
    → IsFittedTree (view p) → HoldsPlan (view p) plan
    → (f : Frame) × KnowsFrame (view p) right f × (n : ℕ) × HasOutsidePage f plan.head n
    → (part : Option ℕ) × HoldsPartFor (view p) plan.child part → SplitCall p plan right
split_call p plan right known fitted held blank part = search (known, fitted, held)

module _ (p : TreePass) (plan : SplitPlan) (right : ℕ) (c : SplitCall p plan right) where
  abbrev v : View
  v = view p

  abbrev w : ForestState
  w = c.fitted.whole

  abbrev law : IsLawful w
  law = c.fitted.is_lawful

  abbrev fits : FitsTrees w v
  fits = c.fitted.fits

  abbrev h : HoldsPlan v plan
  h = c.held

  up_frame : IsTreeFrame w plan.parent h.can.up h.can.above.page
  up_frame = tree_frame w law v fits plan.parent plan.head.index (suc h.can.level) h.can.up
      h.can.knows_up h.can.above

  low_frame : IsTreeFrame w plan.child h.can.low h.can.below.page
  low_frame = tree_frame w law v fits plan.child plan.head.index h.can.level h.can.low
      h.can.knows_low h.can.below

  head_is : plan.head ≡ h.can.below.page.head
  head_is = h.is.head h.can.below.page h.can.below.paged

  -- the child is another block than the parent
  pub child_apart : plan.child ≢ plan.parent
  child_apart = levels_apart v plan.child plan.parent plan.head.index plan.head.index h.can.level
      (suc h.can.level) h.can.low h.can.up h.can.knows_low h.can.knows_up h.can.below h.can.above
      (λ e. omega (arith, e))

  -- and the page behind is in another block than both
  module _ (b : ℕ)
      (held : HoldsNext v plan.head.index h.can.level (Some b) plan.head.next) where
    pub next_parent : b ≢ plan.parent
    next_parent = levels_apart v b plan.parent plan.head.index plan.head.index h.can.level
        (suc h.can.level) held.0 h.can.up held.1 h.can.knows_up held.2 h.can.above
        (λ e. omega (arith, e))

    pub next_child : b ≢ plan.child
    next_child e = (next_pages_fit w law plan.child h.can.low h.can.below.page low_frame
        held.2.page.head.number (ap (λ (z : PageHead). z.next) (sym head_is) ∙ held.3)).other
        (ap (λ (z : PageRows). z.head.number) (one_page v b plan.child held.0 h.can.low
        held.2.page h.can.below.page held.1 h.can.knows_low e held.2.paged h.can.below.paged))

  -- the three blocks differ
  pub three : AreThree (blocks_of plan right)
  three = record {
    child = child_apart;
    right = outside_apart v right plan.parent plan.head.index (suc h.can.level) c.fresh h.can.up
        plan.head c.number c.knows c.blank h.can.knows_up h.can.above;
    halves = outside_apart v right plan.child plan.head.index h.can.level c.fresh h.can.low
        plan.head c.number c.knows c.blank h.can.knows_low h.can.below;
  }

  -- the frames are those that are split
  abbrev pub frames_of_plan : SplitHands
  frames_of_plan = record { left = h.can.low; right = c.fresh; up = h.can.up }

  beside : IsBlankBeside h.can.below.page (outside_page plan.head c.number)
  beside = record {
    empty = refl;
    index = ap (λ (z : PageHead). z.index) head_is;
    level = ap (λ (z : PageHead). z.level) head_is;
    fields = ap (λ (z : PageHead). z.fields) head_is;
  }

  -- both pages have numbers of pages
  pub child_number : v.terms.shape.pages < 2 ^ 32 → h.can.below.page.head.number ≢ NO_PAGE
  child_number few = page_number w law v fits plan.child h.can.low h.can.below.page
      h.can.knows_low h.can.below.paged few

  pub right_number : v.terms.shape.pages < 2 ^ 32 → c.number ≢ NO_PAGE
  right_number few = page_number w law v fits right c.fresh (outside_page plan.head c.number)
      c.knows c.blank.page few

  pub suits : v.terms.shape.pages < 2 ^ 32
      → SuitsSplit h.can.low c.fresh h.can.up plan.cut.place plan.cut.key.tuple
  suits few = record {
    frames = record {
      page = h.can.below.page;
      fresh = outside_page plan.head c.number;
      has = h.can.below.paged;
      has_fresh = c.blank.page;
      suits = record {
        cut = h.is.cut h.can.below.page h.can.below.paged;
        blank = beside;
        number = child_number few;
        other = right_number few;
      };
    };
    around = record {
      page = h.can.above.page;
      has = h.can.above.paged;
      range = cut_range w law plan.parent plan.child h.can.up h.can.low h.can.above.page
          h.can.below.page up_frame low_frame h.can.points.fore h.can.points.this
          h.can.points.aft h.can.points.was h.can.points.child plan.cut.place
          plan.cut.key.tuple (h.is.cut h.can.below.page h.can.below.paged);
    };
  }

  -- the parent takes the pointer
  pub taken : split_refusal h.can.up c.fresh plan.cut.key.tuple ≡ None
  taken = ap (λ (o : Option PageRows).
      option_and_then
      (λ (p : PageRows). pointer_refusal h.can.up plan.cut.key.tuple p.head.number) o)
      c.blank.page
      ∙ (ap (λ (o : Option PageRows).
      option_and_then (λ (p : PageRows). insert_refusal p plan.cut.key.tuple (Child c.number)) o)
      h.can.above.paged
      ∙ takes_pointer h.can.above.page plan.cut.key.tuple c.number h.is.limits h.can.room)

  -- the right frame is in hand, and its page is read
  pub right_frame : HoldsFrame p right
  right_frame = (c.fresh, c.fresh, frame_has p c.known right c.fresh c.knows)

  module _ (f : Frame) (read : (x y : Frame) → HasFrame p right x y → f ≡ y) where
    fresh_page : f.page ≡ Some (outside_page plan.head c.number)
    fresh_page = ap (λ (x : Frame). x.page)
        (read c.fresh c.fresh (frame_has p c.known right c.fresh c.knows)) ∙ c.blank.page

    pub right_page : HasAPage f
    right_page = record { page = outside_page plan.head c.number; has = fresh_page }

    pub number_read : (head : PageHead)
        → ((page : PageRows) → f.page ≡ Some page → head ≡ page.head) → head.number ≡ c.number
    number_read head is = ap (λ (z : PageHead). z.number)
        (is (outside_page plan.head c.number) fresh_page)
