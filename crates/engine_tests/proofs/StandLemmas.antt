-- A leaf in hand, and nothing else, on which a cursor stands.
use Rattle.std.proofs.Common.{◌≡◌, ◌<◌, ℕ, Bool, true, false, ◌⊎◌, Option, Some, None, [], ◌∷◌, length, inl, inr, refl, sym, ap, subst, ◌∙◌, arith}
use Rattle.list_facts.proofs.Places.{same_some}
use Rattle.list_facts.proofs.Each.{each_all}
use Rattle.key_tuple.specs.Order.{FieldList}
use Rattle.key_tuple.specs.KeyPlace.{At, before}
use Rattle.key_tuple.specs.declared.mode.Mode.TheVariants as mode
use Rattle.key_tuple.proofs.PlaceLemmas.{before-itself, before_not_after}
use Rattle.key_tuple.proofs.PositionLemmas.{within_parts}
use Rattle.latch_law.specs.declared.knows.Terms.{Terms}
use Rattle.latch_space.specs.declared.space.SpaceOf.{SpaceOf}
use Rattle.latch_space.specs.Passes.{view, count}
use Rattle.latch_space.specs.Spaces.{IsPassOf}
use Rattle.latch_space.proofs.Pointwise.{none_known}
use Rattle.clock_law.specs.ModifyClock.{last_clock, NumberedPage}
use Rattle.index_page.specs.Rows.{Row}
use Rattle.tree_law.specs.Pages.{Page, HasFields, low_place, high_place}
use Rattle.index_law.specs.Answers.{MadeChange, Saying}
use Rattle.index_law.specs.Shape.{Shape}
use Rattle.forest_law.specs.declared.objects.Frame.{Frame}
use Rattle.forest_law.specs.declared.objects.Object.{Object}
use Rattle.forest_law.specs.Numbers.{frame_id}
use Rattle.forest_law.specs.State.{bound, page_within, numbered_if, fields_for}
use Rattle.forest_world.specs.Held.{TreePass, shape_of_pass}
use Rattle.call_law.specs.Spoken.{View}
use Rattle.buffer_pool.specs.Forests.{IsForest}
use Rattle.buffer_pool.specs.Hands.{MayGiveBack}
use Rattle.buffer_pool.specs.Tries.{tries_alone}
use Rattle.tree_descent.specs.declared.descending.Leaf.{Leaf}
use Rattle.tree_descent.specs.Descents.{Descends}
use Rattle.tree_descent.specs.Ways.{HoldsPage}
use Rattle.tree_descent.proofs.PageLemmas.{may_give_back}
use Rattle.tree_facts.specs.TreeFrames.{low_of, high_of}
use Rattle.tree_neighbours.specs.LeafHands.{HoldsLeavesAlone}
use Rattle.tree_neighbours.proofs.HandLemmas.{only_then, frames_apart}
use Rattle.tree_neighbours.proofs.PairLemmas.{leaf_page, leaf_frames, leaf_tables}
use Rattle.engine_law.proofs.KnownLemmas.{part_no_frame}
use Rattle.leaf_changes.proofs.HoldLemmas.{key_inside}
use Rattle.scan_law.specs.AfterKey.{after_key, place_at}
use Rattle.scan_law.proofs.PlaceLemmas.{after_later, after_upto, End_after}
use Rattle.tree_cursor.specs.declared.cursor.Cursor.{Cursor}
use Rattle.tree_cursor.specs.Cursors.{StandsAt, StandsIn, Referred}
use Rattle.tree_cursor.specs.Pieces.{HoldsStand}
use Rattle.tree_cursor.specs.Restoring.{HoldsAgain, HoldsCursor}
use Rattle.tree_cursor.specs.Starts.{place_of}
use Rattle.engine_tests.specs.Marks.{MayRefill}
use Rattle.engine_tests.proofs.EmptyLemmas.{none_has_frame, none_has_table}

-- who holds nothing holds no leaf
module _ {Q : Type 0} (s : SpaceOf Shape Object MadeChange Saying Q) (p : TreePass)
    (forest : IsForest s) (own : IsPassOf s p) (nothing : count p ≡ 0) where
  pub none_held : HoldsLeavesAlone p []
  none_held = record {
    known = none_known p nothing;
    frames = none_has_frame s p forest own nothing;
    tables = none_has_table s p forest own nothing;
    count = nothing;
  }

-- after a descent the leaf alone is held
pub down_alone : (p q : TreePass) (i : ℕ) (mode : _) (tuple : FieldList) (leaf : Leaf)
    → Descends p i mode tuple leaf q → HoldsLeavesAlone p [] → HoldsLeavesAlone q (leaf.block ∷ [])
down_alone p q i mode tuple leaf down none = record {
  known = down.silently.does.known;
  frames = leaf_frames p q i mode tuple leaf down none.frames;
  tables = leaf_tables p q i mode tuple leaf down none.tables;
  count = (let one = down.count in let was = none.count in omega (arith, one, was));
}

-- and so it is where a cursor's leaf was found again
pub again_alone : (p : TreePass) (c : Cursor) (q : TreePass) → HoldsAgain p c q
    → HoldsLeavesAlone p [] → HoldsLeavesAlone q (c.block ∷ [])
again_alone p c q again none = only_then p q [] (c.block ∷ [])
    (frame_id (shape_of_pass p) c.block ∷ []) none
    (record { added = tries_alone []; does = again.does; silent = refl })
    (λ d apart. (tt, (frames_apart (shape_of_pass p) c.block d apart.0, tt)))
    ((λ e. omega (arith, e)), tt)
    (λ k below. (part_no_frame (shape_of_pass p) k c.block below, tt))
    (let one = again.count in let was = none.count in omega (arith, one, was))

-- and that leaf may be given back
pub again_back : (p : TreePass) (c : Cursor) (q : TreePass) → HoldsAgain p c q → Referred (view p) c
    → (b : ℕ) → b ≡ c.block → MayGiveBack q b
again_back p c q again referred b is = let h = (again.again referred).holds in
    subst (λ n. MayGiveBack q n) (sym is)
    (may_give_back q again.does.known c.block referred.has.page.index 0 h.frame h.knows h.is)

-- where a cursor stands is within the bounds of its leaf
module _ (f : Frame) (fields : ℕ) (high_fits : HasFields fields (bound f.high)) where
  stands_low : (key : FieldList) (after : Bool) → before (At key) (low_of f) ≡ false
      → before (place_at key after) (low_of f) ≡ false
  stands_low key false low = low
  stands_low key true low = after_later key (low_of f) low

  after_high : (key : FieldList) → length key ≡ fields → (o : Option FieldList) → HasFields fields o
      → before (At key) (high_place o) ≡ true → before (high_place o) (after_key key) ≡ false
  after_high key long None has below = End_after key
  after_high key long (Some h) has below = after_upto key h (long ∙ sym has) below

  stands_high : (key : FieldList) (after : Bool) → length key ≡ fields
      → (before (At key) (high_of f) ≡ true) ⊎ ((bound f.high ≡ Some key) × (after ≡ false))
      → before (high_of f) (place_at key after) ≡ false
  stands_high key false long (inl below) = before_not_after (At key) (high_of f) below
  stands_high key false long (inr at) =
      subst (λ o. before (high_place o) (At key) ≡ false) (sym at.0) (before-itself (At key))
  stands_high key true long (inl below) = after_high key long (bound f.high) high_fits below
  stands_high key true long (inr at) = absurd cc

module _ (v : View) (b i : ℕ) (c : Cursor) (h : HoldsPage v b i 0)
    (fields : length c.key.tuple ≡ fields_for v.terms.shape i)
    (room : c.key.room ≡ fields_for v.terms.shape i) where
  abbrev leaf : Page
  leaf = page_within h.is.page h.frame.low h.frame.high

  leaf_fields : leaf.fields ≡ fields_for v.terms.shape i
  leaf_fields = h.order.fields ∙ ap (fields_for v.terms.shape) h.is.index

  -- a cursor stands on the leaf in hand
  pub stands : StandsIn leaf c.key.tuple c.after
      → (b ≡ c.block → h.frame.clock ≡ c.clock → c.clock < last_clock
      → StandsAt leaf c.place c.key.tuple c.after)
      → HoldsStand v b i c (place_of c)
  stands inside at = record {
    holds = h;
    inside = inside;
    at = at;
    low = stands_low h.frame leaf.fields h.order.high c.key.tuple c.after inside.low;
    high = stands_high h.frame leaf.fields h.order.high c.key.tuple c.after
        (fields ∙ sym leaf_fields) inside.high;
    none_between = each_all
        (λ (x : Row). before (At x.key) (place_of c) ≡ before (At x.key) (place_of c)) (λ x. refl)
        h.is.page.rows;
    fields = fields;
    room = room;
  }

-- as it does where its leaf was found again by the clock
module _ (v : View) (c : Cursor) (page : Page) (found : HoldsCursor v c page) where
  abbrev h : HoldsPage v c.block page.index 0
  h = found.holds

  leaf_is : page_within h.is.page h.frame.low h.frame.high ≡ found.has.page
  leaf_is = ap (λ (n : NumberedPage). n.page)
      (same_some (record { number = h.is.page.head.number; page = page_within h.is.page h.frame.low h.frame.high })
      (record { number = c.page; page = found.has.page })
      (sym (ap (λ o. numbered_if o h.frame.low h.frame.high) h.is.paged) ∙ found.has.guards))

  pub stands_again : page.index ≡ 0 → MayRefill v c → HoldsStand v c.block 0 c (place_of c)
  stands_again first fits = subst (λ i. HoldsStand v c.block i c (place_of c)) first
      (stands v c.block page.index c h
      (subst (λ i. length c.key.tuple ≡ fields_for v.terms.shape i) (sym first) fits.fields)
      (subst (λ i. c.key.room ≡ fields_for v.terms.shape i) (sym first) fits.room)
      (subst (λ p. StandsIn p c.key.tuple c.after) (sym leaf_is) found.has.inside)
      (λ same clock below.
      subst (λ p. StandsAt p c.place c.key.tuple c.after) (sym leaf_is) found.has.at))

-- and where its key was searched, if its clock is the last, which guards nothing
module _ (p q : TreePass) (c : Cursor) (leaf : Leaf)
    (down : Descends p 0 mode.Ge c.key.tuple leaf q) (fits : MayRefill (view p) c) where
  same_terms : (view q).terms ≡ (view p).terms
  same_terms = down.silently.does.adds.numbers.terms

  pub stands_searched : c.clock ≡ last_clock → HoldsStand (view q) leaf.block 0 c (place_of c)
  stands_searched last =
      let parts = within_parts (low_of down.frame) (high_of down.frame) (At c.key.tuple)
      (key_inside (shape_of_pass p) 0 c.key.tuple down.frame down.is.page fits.fields) in
      stands (view q) leaf.block 0 c (leaf_page p q 0 mode.Ge c.key.tuple leaf down)
      (fits.fields ∙ sym (ap (λ (t : Terms Shape). fields_for t.shape 0) same_terms))
      (fits.room ∙ sym (ap (λ (t : Terms Shape). fields_for t.shape 0) same_terms))
      (record { low = parts.0; high = inl parts.1 })
      (λ same clock below. absurd (omega (arith, last, below)))
