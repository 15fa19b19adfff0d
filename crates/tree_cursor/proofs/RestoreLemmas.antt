-- A cursor's block is tried once, and at the clock kept its frame is what the reference says.
use Rattle.std.proofs.Common.{◌≡◌, ◌≢◌, inl, inr, ℕ, ◌<◌, [], ◌∷◌, List, Bool, true, false, sym, ap, ap₂, subst, ◌∙◌, arith, refl, Option, Some, None, length}
use mathlib.Core.Option.{some, some-injective}
use lib.ListN.{get_elem?}
use Rattle.atomic_table.proofs.Lists.{set_here}
use Rattle.list_facts.proofs.Places.{same_some, inside}
use Rattle.key_tuple.specs.KeyPlace.{At, before, within}
use Rattle.key_tuple.specs.Order.{FieldList}
use Rattle.latch_law.specs.declared.knows.Holding.{Holding}
use Rattle.latch_law.specs.declared.knows.Refusal.{Refusal}
use Rattle.latch_law.specs.declared.knows.Terms.{Terms}
use Rattle.latch_law.specs.Views.{holding, with_refused}
use Rattle.latch_space.specs.Has.{IsKnown}
use Rattle.latch_space.specs.Passes.{view, count}
use Rattle.index_page.specs.Page.{PageRows}
use Rattle.clock_law.specs.ModifyClock.{last_clock, NumberedPage, IsLater}
use Rattle.clock_law.specs.LaterMarks.{StillGuards}
use Rattle.clock_law.proofs.LaterLemmas.{equal_clocks}
use Rattle.tree_law.specs.Pages.{is_own, low_place, high_place, IsOrderly}
use Rattle.index_law.specs.Shape.{Shape}
use Rattle.forest_law.specs.declared.objects.Frame.{Frame}
use Rattle.forest_law.specs.declared.objects.Object.{Object}
use Rattle.forest_law.specs.declared.objects.Object.TheVariants as object
use Rattle.forest_law.specs.Clocked.{IsLaterObject}
use Rattle.forest_law.specs.Numbers.{frame_id, frames_of}
use Rattle.forest_law.specs.State.{mark_of, numbered_if, page_within, fields_for}
use Rattle.forest_law.proofs.FramePageLemmas.{frames_tell_pages}
use Rattle.forest_world.specs.Held.{TreePass, shape_of_pass}
use Rattle.call_law.specs.Spoken.{View}
use Rattle.buffer_pool.specs.Calls.{Does}
use Rattle.buffer_pool.specs.Forests.{IsFittedTree}
use Rattle.buffer_pool.specs.Frames.{TakesFrame, RefusesFrame, GivesFrame}
use Rattle.buffer_pool.specs.Hands.{LacksFrame, MayGiveBack}
use Rattle.buffer_pool.specs.Tries.{tries_alone, tries_and_given}
use Rattle.buffer_pool.proofs.AddedLemmas.{only_refused, only_given}
use Rattle.buffer_pool.proofs.AsTakenLemmas.{same_as_taken, took_as_taken}
use Rattle.buffer_pool.proofs.CallLemmas.{does_both, does_again, took_frame, refused_frame, gave_frame}
use Rattle.buffer_pool.proofs.GaveLemmas.{gave_none}
use Rattle.buffer_pool.proofs.InsideLemmas.{taken_inside}
use Rattle.tree_descent.specs.Ways.{HoldsPage}
use Rattle.engine_law.proofs.KnownLemmas.{gave_known}
use Rattle.tree_cursor.specs.declared.cursor.Cursor.{Cursor}
use Rattle.tree_cursor.specs.declared.cursor.Restored.TheVariants.{BySearch}
use Rattle.tree_cursor.specs.declared.cursor.Stale.TheVariants.{Busy, Moved, Last}
use Rattle.tree_cursor.specs.Cursors.{StandsAt, StandsIn, HasCursor, Referred}
use Rattle.tree_cursor.specs.Restoring.{HasSameBounds, HoldsCursor, HoldsAgain, WentBack, Restores, frame_given}

-- a frame that guards a page has it
pub record HasGuard (f : Frame) (x : NumberedPage) : Type 0 where
  pub rows : PageRows
  pub paged : f.page ≡ Some rows
  pub is : record { number = rows.head.number; page = page_within rows f.low f.high } ≡ x

pub guard_of : (f : Frame) (x : NumberedPage) → (mark_of f).guards ≡ Some x → HasGuard f x
guard_of f x guards = go f.page refl guards
  where
    go : (o : Option PageRows) → f.page ≡ o → numbered_if o f.low f.high ≡ Some x → HasGuard f x
    go None is e = absurd (let none = e in cc)
    go (Some rows) is e = record { rows = rows; paged = is; is = same_some _ x e }

-- at an equal clock below the last, a later frame has the cursor too
module _ (f g : Frame) (c : Cursor) (has : HasCursor f c) (later : IsLater (mark_of f) (mark_of g))
    (same : g.clock ≡ c.clock) (below : c.clock < last_clock) where
  still : StillGuards (record { number = c.page; page = has.page }) (mark_of g)
  still = equal_clocks (mark_of f) (mark_of g)
      (record { number = c.page; page = has.page }) later has.guards (same ∙ sym has.clock)
      (subst (λ n. n < last_clock) (sym has.clock) below)

  stands : (place : Option ℕ) (key : FieldList) (after : Bool)
      → StandsAt has.page place key after → StandsAt still.now.page place key after
  stands (Some place) key after s = let k = still.keeps.rows s.row s.among in record {
    row = k.row;
    among = k.among;
    place_is = k.place_is ∙ s.place_is;
    key_is = k.key_is ∙ s.key_is;
  }
  stands None key false s = still.keeps.high ∙ s
  stands None key true s =
      ap₂ (λ low high. within (low_place low) (high_place high) (At key)) still.keeps.low
      still.keeps.high ∙ s

  stands_in : (key : FieldList) (after : Bool) → StandsIn has.page key after
      → StandsIn still.now.page key after
  stands_in key after s = record {
    low = ap (λ low. before (At key) (low_place low)) still.keeps.low ∙ s.low;
    high = elim s.high [
      | inl within ↦ inl (ap (λ high. before (At key) (high_place high)) still.keeps.high ∙ within)
      | inr at ↦ inr (still.keeps.high ∙ at.0, at.1)
    ];
  }

  pub cursor_again : HasCursor g c
  cursor_again = record {
    clock = same;
    page = still.now.page;
    guards = still.guards
        ∙ (λ i. Some (record { number = still.keeps.number i; page = still.now.page }));
    tree = ap (λ n. is_own n still.now.page.prev) (sym still.keeps.number)
        ∙ (still.keeps.own ∙ has.tree);
    leaf = still.keeps.level ∙ has.leaf;
    at = stands c.place c.key.tuple c.after has.at;
    inside = stands_in c.key.tuple c.after has.inside;
  }

  pub bounds_again : HasSameBounds has.page cursor_again.page
  unfolding cursor_again
  bounds_again = record { index = still.keeps.index; low = still.keeps.low; high = still.keeps.high }

-- the block that a reference is of is one of the frames
pub cursor_below : (p : TreePass) (c : Cursor) → Referred (view p) c → IsFittedTree (view p)
    → c.block < frames_of (shape_of_pass p)
cursor_below p c r fitted =
    let w = fitted.whole in let so = fitted.fits.refers_to r.nth r.said r.there in
    let room = inside w.objects r.said.object so.now so.there in
    let all : length w.objects ≡ frame_id (shape_of_pass p) (frames_of (shape_of_pass p)) =
    subst (λ (s : Shape). length w.objects ≡ frame_id s (frames_of s)) fitted.fits.shape
    fitted.is_lawful.objects.counted.objects in
    let is = r.object_is in
    omega (arith, room, all, is)

-- one try took the cursor's block
module _ (p : TreePass) (c : Cursor) (q : TreePass) (took : TakesFrame p c.block q)
    (known : IsKnown p) (lacked : LacksFrame p c.block) (once : took.refused ≡ []) where
  abbrev k : ℕ
  k = frame_id (shape_of_pass p) c.block

  pub took_does : Does p q (k ∷ []) (tries_alone [])
  took_does = subst (λ (fs : List (Refusal Object)). Does p q (k ∷ []) (only_refused fs)) once
      (took_frame p q known c.block took)

  -- what was taken is a later one of what a reference says
  taken_later : (r : Referred (view p) c) → IsLater (mark_of r.frame) (mark_of took.frame)
  taken_later r =
      let w = took.was.whole in
      let so = took.was.fits.refers_to r.nth r.said r.there in
      let now : so.now ≡ object.Frame took.frame =
      some-injective so.now (object.Frame took.frame)
      (sym so.there ∙ (ap (get_elem? w.objects) r.object_is
      ∙ (ap (λ (s : Shape). get_elem? w.objects (frame_id s c.block)) (sym took.was.fits.shape)
      ∙ took.was.at))) in
      subst (λ z. IsLaterObject z (object.Frame took.frame)) r.released
      (subst (IsLaterObject r.said.released) now so.later)

  -- at the clock kept it has the cursor, and is a leaf in hand
  module _ (same : took.frame.clock ≡ c.clock) (below : c.clock < last_clock)
      (r : Referred (view p) c) where
    has_again : HasCursor took.frame c
    has_again = cursor_again r.frame took.frame c r.has (taken_later r) same below

    guard : HasGuard took.frame (record { number = c.page; page = has_again.page })
    guard = guard_of took.frame (record { number = c.page; page = has_again.page })
        has_again.guards

    leaf_held : HoldsPage (view q) c.block r.has.page.index 0
    unfolding has_again cursor_again
    leaf_held =
        let bounds = bounds_again r.frame took.frame c r.has (taken_later r) same below in
        let tells = frames_tell_pages took.was.whole took.was.is_lawful c.block took.frame
        guard.rows took.was.at guard.paged in
        record {
          frame = took.frame;
          knows = took.has.held;
          is = record {
            page = guard.rows;
            paged = guard.paged;
            tree = ap (λ (x : NumberedPage). is_own x.number x.page.prev) guard.is
                ∙ has_again.tree;
            index = ap (λ (x : NumberedPage). x.page.index) guard.is ∙ bounds.index;
            at_level = ap (λ (x : NumberedPage). x.page.level) guard.is ∙ has_again.leaf;
          };
          order = subst (λ (s : Shape). IsOrderly (fields_for s)
              (page_within guard.rows took.frame.low took.frame.high))
              (took.was.fits.shape ∙ sym (ap (λ (t : Terms Shape). t.shape) took.hand.terms))
              tells.order;
        }

    holds_cursor : HoldsCursor (view q) c r.has.page
    unfolding has_again leaf_held
    holds_cursor = record {
      holds = leaf_held;
      has = has_again;
      same = bounds_again r.frame took.frame c r.has (taken_later r) same below;
    }

  pub holds_again : took.frame.clock ≡ c.clock → c.clock < last_clock → HoldsAgain p c q
  holds_again same below = record {
    lacked = lacked;
    does = took_does;
    count = took.count;
    held_as_taken = took_as_taken p q c.block lacked took;
    again = holds_cursor same below;
  }

  -- the frame may be given back
  pub may_go_back : MayGiveBack q c.block
  may_go_back = (
    took.frame,
    took.has,
    taken_inside (with_refused (view p) took.refused) c.block took.frame took.was,
  )

  -- and was given back, as it was taken
  module _ (s : TreePass) (gave : GivesFrame q c.block s) where
    shape : shape_of_pass q ≡ shape_of_pass p
    shape = ap (λ (t : Terms Shape). t.shape) took.hand.terms

    held_is : get_elem? (view q).held k
        ≡ some (Some (holding (object.Frame took.frame) (object.Frame took.frame)))
    held_is = ap (λ (v : View). get_elem? v.held k) took.view
        ∙ set_here (view p).held k
        (Some (holding (object.Frame took.frame) (object.Frame took.frame)))
        (inside (view p).held k None lacked)

    taken_is : gave.taken ≡ object.Frame took.frame
    taken_is = ap (λ (h : Holding Object). h.taken)
        (same_some (holding gave.taken (object.Frame gave.frame))
        (holding (object.Frame took.frame) (object.Frame took.frame))
        (some-injective (Some (holding gave.taken (object.Frame gave.frame)))
        (Some (holding (object.Frame took.frame) (object.Frame took.frame)))
        (sym gave.held
        ∙ (ap (λ (t : Terms Shape). get_elem? (view q).held (frame_id t.shape c.block))
        took.hand.terms ∙ held_is))))

    gives : Does q s (k ∷ []) (only_given k (object.Frame took.frame) (object.Frame took.frame))
    gives = subst (λ (z : Shape). Does q s (frame_id z c.block ∷ [])
        (only_given (frame_id z c.block) (object.Frame took.frame) (object.Frame took.frame)))
        shape
        (subst (λ (f : Frame). Does q s (frame_id (shape_of_pass q) c.block ∷ [])
        (only_given (frame_id (shape_of_pass q) c.block) (object.Frame took.frame)
        (object.Frame f))) (sym (gave_known q s c.block took.frame took.has.held gave))
        (subst (λ (t : Object). Does q s (frame_id (shape_of_pass q) c.block ∷ [])
        (only_given (frame_id (shape_of_pass q) c.block) t (object.Frame gave.frame))) taken_is
        (gave_frame q s took_does.known c.block gave)))

    pub went_back : (found : ℕ) → took.frame.clock ≡ found → found ≢ c.clock
        → WentBack p c.block c.clock found s
    went_back found clock moved = record {
      lacked = lacked;
      frame = took.frame;
      clock = clock;
      moved = moved;
      does = does_again p s _ k []
          (does_both p q s (k ∷ []) (tries_alone [])
          (only_given k (object.Frame took.frame) (object.Frame took.frame)) took_does gives)
          (subst (λ (z : Shape). get_elem? (view s).held (frame_id z c.block) ≡ some None)
          (ap (λ (t : Terms Shape). t.shape) gave.hand.terms ∙ shape) gave.lacks ∙ sym lacked);
    }

    count_same : count s ≡ count p
    count_same = let a = took.count in let b = gave.count in omega (arith, a, b)

    -- so the pass holds what it held
    pub restores_moved : (found : ℕ) → took.frame.clock ≡ found → found ≢ c.clock
        → c.clock < last_clock → Restores p c (BySearch (Moved c.clock found)) s
    restores_moved found clock moved below = let back = went_back found clock moved in (
      record {
        got = record {
          silently = record {
            added = tries_and_given [] (frame_given p c.block back.frame ∷ []);
            does = back.does;
            silent = refl;
          };
          count = count_same;
        };
        as_taken = (same_as_taken (object.Frame back.frame), tt);
      },
      (below, refl, back),
    )

-- nothing was done where the clock kept is the last
pub restores_last : (p : TreePass) (c : Cursor) → IsKnown p → c.clock ≡ last_clock
    → Restores p c (BySearch Last) p
restores_last p c known last =
    (gave_none p known, (last, refl))

-- another pass held the block
pub restores_busy : (p : TreePass) (c : Cursor) (n : ℕ) (q : TreePass) → IsKnown p
    → c.clock < last_clock → RefusesFrame p c.block n q → Restores p c (BySearch (Busy n)) q
restores_busy p c n q known below busy = (
  record {
    got = record {
      silently = record {
        added = only_refused (record {
          object = frame_id (shape_of_pass p) c.block;
          holder = n;
          held = (view p).held;
        } ∷ []);
        does = refused_frame p q known c.block n busy;
        silent = refl;
      };
      count = busy.same.count;
    };
    as_taken = tt;
  },
  (below, busy),
)
