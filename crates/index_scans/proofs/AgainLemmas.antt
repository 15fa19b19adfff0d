-- The leaf from which a scan goes on: held by its clock, or found by a search.
use Rattle.std.proofs.Common.{◌≡◌, inl, ℕ, ◌<◌, [], ◌∷◌, length, sym, ap, subst, ◌∙◌, refl, arith}
use mathlib.Core.Option.{some-injective}
use lib.ListN.{get_elem?}
use Rattle.key_tuple.specs.Position.{IsOfFields}
use Rattle.key_tuple.specs.declared.mode.Mode.TheVariants.{Ge}
use Rattle.key_tuple.proofs.PositionLemmas.{position-whole}
use Rattle.latch_law.specs.declared.knows.Terms.{Terms}
use Rattle.latch_space.specs.Passes.{view}
use Rattle.clock_law.specs.ModifyClock.{IsLater, last_clock}
use Rattle.tree_law.specs.Pages.{low_place, high_place}
use Rattle.index_law.specs.Shape.{Shape}
use Rattle.forest_law.specs.declared.objects.Frame.{Frame}
use Rattle.forest_law.specs.declared.objects.Object.TheVariants as object
use Rattle.forest_law.specs.Clocked.{IsLaterObject}
use Rattle.forest_law.specs.Numbers.{frame_id}
use Rattle.forest_law.specs.State.{bound, fields_for, mark_of, page_within}
use Rattle.forest_world.specs.Held.{TreePass, shape_of_pass}
use Rattle.call_law.specs.Hands.{KnowsFrame}
use Rattle.call_law.specs.Spoken.{View}
use Rattle.call_law.specs.Trace.{Added, Adds}
use Rattle.call_law.proofs.TraceLemmas.{both_added, adds_both}
use Rattle.buffer_pool.specs.Forests.{IsFittedTree}
use Rattle.tree_descent.specs.declared.descending.Leaf.{Leaf}
use Rattle.tree_descent.specs.Descents.{Descends}
use Rattle.tree_descent.specs.Ways.{HoldsPage}
use Rattle.tree_descent.proofs.PageLemmas.{known_frame}
use Rattle.engine_law.proofs.KnownLemmas.{part_no_frame}
use Rattle.tree_neighbours.specs.LeafHands.{HoldsLeavesAlone}
use Rattle.tree_neighbours.proofs.HandLemmas.{only_then, frames_apart}
use Rattle.tree_neighbours.proofs.PairLemmas.{leaf_page}
use Rattle.tree_cursor.specs.declared.cursor.Cursor.{Cursor}
use Rattle.tree_cursor.specs.declared.cursor.Restored.TheVariants.{ByClock, BySearch}
use Rattle.tree_cursor.specs.declared.cursor.Stale.{Stale}
use Rattle.tree_cursor.specs.Cursors.{StandsAt, StandsIn, HasCursor, Referred}
use Rattle.tree_cursor.specs.Pieces.{HoldsStand}
use Rattle.tree_cursor.specs.Restoring.{HoldsCursor, Restores}
use Rattle.tree_cursor.specs.Starts.{place_of}
use Rattle.tree_cursor.proofs.ReferLemmas.{references_stay}
use Rattle.tree_cursor.proofs.RestoreLemmas.{cursor_again}
use Rattle.index_scans.specs.ScanSteps.{GoesFrom}
use Rattle.index_scans.proofs.FirstLemmas.{low_suits, high_suits}
use Rattle.index_scans.proofs.StandLemmas.{stands_here, inside_here, stands_so}

-- the number of fields and the room of a cursor's key, where the terms are the same
module _ (v w : View) (i : ℕ) (c : Cursor) (goes : GoesFrom v i c) (terms : w.terms ≡ v.terms) where
  pub fields_then : length c.key.tuple ≡ fields_for w.terms.shape i
  fields_then = goes.fields ∙ ap (λ (t : Terms Shape). fields_for t.shape i) (sym terms)

  pub room_then : c.key.room ≡ fields_for w.terms.shape i
  room_then = goes.room ∙ ap (λ (t : Terms Shape). fields_for t.shape i) (sym terms)

-- a frame in hand at the clock kept has the cursor that a reference says of its block
pub held_again : (v : View) (fitted : IsFittedTree v) (c : Cursor) (f : Frame)
    → Referred v c → KnowsFrame v c.block f → f.clock ≡ c.clock → c.clock < last_clock
    → HasCursor f c
held_again v fitted c f r knows same below =
    let w = fitted.whole in let so = fitted.fits.refers_to r.nth r.said r.there in
    let now : so.now ≡ object.Frame f =
    some-injective so.now (object.Frame f)
    (sym so.there ∙ (ap (get_elem? w.objects) r.object_is
    ∙ (ap (λ (s : Shape). get_elem? w.objects (frame_id s c.block)) (sym fitted.fits.shape)
    ∙ known_frame w fitted.is_lawful v fitted.fits c.block f knows))) in
    let later : IsLater (mark_of r.frame) (mark_of f) =
    subst (λ z. IsLaterObject z (object.Frame f)) r.released
    (subst (IsLaterObject r.said.released) now so.later) in
    cursor_again r.frame f c r.has later same below

-- by the clock
module _ (p q : TreePass) (i : ℕ) (c : Cursor) (b : ℕ) (goes : GoesFrom (view p) i c)
    (restored : Restores p c (ByClock b) q) where
  pub clock_adds : (added : Added) × Adds (view p) (view q) added
  clock_adds = (_, restored.2.does.adds)

  again : HoldsCursor (view q) c goes.referred.has.page
  again = restored.2.again goes.referred

  pub clock_stands : HoldsStand (view q) b i c (place_of c)
  clock_stands =
      let terms = restored.2.does.adds.numbers.terms in
      subst (λ n. HoldsStand (view q) n i c (place_of c)) (sym restored.0)
      (subst (λ j. HoldsStand (view q) c.block j c (place_of c)) goes.of_index
      (stands_so (view q) c.block goes.referred.has.page.index again.holds c
      (inside_here (view q) c.block goes.referred.has.page.index again.holds c again.has)
      (λ block clock below. stands_here (view q) c.block goes.referred.has.page.index again.holds c
      again.has)
      (subst (λ j. length c.key.tuple ≡ fields_for (shape_of_pass q) j) (sym goes.of_index)
      (fields_then (view p) (view q) i c goes terms))
      (subst (λ j. c.key.room ≡ fields_for (shape_of_pass q) j) (sym goes.of_index)
      (room_then (view p) (view q) i c goes terms))))

  pub clock_alone : HoldsLeavesAlone p [] → HoldsLeavesAlone q (b ∷ [])
  clock_alone none = subst (λ n. HoldsLeavesAlone q (n ∷ [])) (sym restored.0)
      (only_then p q [] (c.block ∷ []) (frame_id (shape_of_pass p) c.block ∷ []) none
      (record { added = _; does = restored.2.does; silent = refl })
      (λ k apart. (tt, (frames_apart (shape_of_pass p) c.block k apart.0, tt)))
      ((λ e. omega (arith, e)), tt)
      (λ k below. (part_no_frame (shape_of_pass p) k c.block below, tt))
      (let more = restored.2.count in let zero = none.count in omega (arith, more, zero)))

-- a restore that told to search gave back what it took
pub search_adds : (p q : TreePass) (c : Cursor) (cause : Stale)
    → (restored : Restores p c (BySearch cause) q)
    → Adds (view p) (view q) restored.0.got.silently.added
search_adds p q c cause restored = restored.0.got.silently.does.adds

pub search_alone : (p q : TreePass) (c : Cursor) (cause : Stale) → HoldsLeavesAlone p []
    → Restores p c (BySearch cause) q → HoldsLeavesAlone q []
search_alone p q c cause none restored = only_then p q [] [] [] none restored.0.got.silently
    (λ k apart. (tt, tt)) tt (λ k below. tt) (restored.0.got.count ∙ none.count)

-- and then a way led down with the cursor's key
module _ (p r q : TreePass) (i : ℕ) (c : Cursor) (cause : Stale) (way : Leaf)
    (goes : GoesFrom (view p) i c) (restored : Restores p c (BySearch cause) r)
    (went : Descends r i Ge c.key.tuple way q) (fitted : IsFittedTree (view q)) where
  abbrev added : Added
  added = both_added restored.0.got.silently.added went.silently.added

  adds : Adds (view p) (view q) added
  adds = adds_both (view p) (view r) (view q) restored.0.got.silently.added went.silently.added
      restored.0.got.silently.does.adds went.silently.does.adds

  abbrev h : HoldsPage (view q) way.block i 0
  h = leaf_page r q i Ge c.key.tuple way went

  abbrev fields : ℕ
  fields = fields_for (shape_of_pass r) i

  long : length c.key.tuple ≡ fields
  long = fields_then (view p) (view r) i c goes restored.0.got.silently.does.adds.numbers.terms

  fields_are : h.is.page.head.fields ≡ fields
  fields_are = went.is.page.order.fields ∙ ap (fields_for (shape_of_pass r)) went.is.page.is.index

  inside : StandsIn (page_within h.is.page h.frame.low h.frame.high) c.key.tuple c.after
  inside = record {
    low = sym (position-whole fields Ge c.key.tuple (low_place (bound h.frame.low)) long
        (subst (λ n. IsOfFields n (low_place (bound h.frame.low))) fields_are
        (low_suits h.is.page.head.fields (bound h.frame.low) went.is.page.order.low)))
        ∙ went.is.page.within.low;
    high = inl (sym (position-whole fields Ge c.key.tuple (high_place (bound h.frame.high)) long
        (subst (λ n. IsOfFields n (high_place (bound h.frame.high))) fields_are
        (high_suits h.is.page.head.fields (bound h.frame.high) went.is.page.order.high)))
        ∙ went.is.page.within.high);
  }

  at : way.block ≡ c.block → h.frame.clock ≡ c.clock → c.clock < last_clock
      → StandsAt (page_within h.is.page h.frame.low h.frame.high) c.place c.key.tuple c.after
  at block clock below = stands_here (view q) way.block i h c
      (held_again (view q) fitted c h.frame
      (references_stay (view p) (view q) added c adds goes.referred)
      (subst (λ n. KnowsFrame (view q) n h.frame) block h.knows) clock below)

  pub search_stands : HoldsStand (view q) way.block i c (place_of c)
  search_stands = stands_so (view q) way.block i h c inside at
      (fields_then (view p) (view q) i c goes adds.numbers.terms)
      (room_then (view p) (view q) i c goes adds.numbers.terms)
