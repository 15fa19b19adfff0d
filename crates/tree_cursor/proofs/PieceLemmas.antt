-- A piece from the cursor on: of the leaf in hand, or of the one behind it.
use Rattle.std.proofs.Common.{◌≡◌, ◌≢◌, ◌⊎◌, inl, inr, ℕ, ◌<◌, true, false, not, Option, None, List, [], ◌∷◌, ◌++◌, sym, ap, subst, ◌∙◌, refl, IsSome}
use Rattle.std.proofs.lemmas.List.Elements.{filter-append}
use Rattle.std.specs.List.{AllByRecursion}
use lib.ListN.{get_elem?}
use Rattle.list_facts.proofs.Each.{each_both, each_left, each_right, each_weaker, filter_each, filter_none}
use Rattle.key_tuple.specs.Order.{FieldList}
use Rattle.key_tuple.specs.KeyPlace.{KeyPlace, At, before}
use Rattle.latch_law.specs.declared.knows.Terms.{Terms}
use Rattle.latch_law.specs.Whole.{reference}
use Rattle.latch_space.specs.Has.{IsKnown}
use Rattle.latch_space.specs.Passes.{view}
use Rattle.map_history.specs.Map.{Map}
use Rattle.map_history.specs.Operation.{Ask}
use Rattle.map_history.specs.Report.{Columns}
use Rattle.index_page.specs.Page.{PlacesDiffer}
use Rattle.index_page.specs.Rows.{Row, first_of_rows, IsAt}
use Rattle.tree_law.specs.Pages.{row_pairs}
use Rattle.tree_law.proofs.LeafLemmas.{pairs_each}
use Rattle.tree_law.proofs.PageRowLemmas.{row_pairs-append}
use Rattle.index_law.specs.Shape.{Shape}
use Rattle.forest_law.specs.declared.objects.Frame.{Frame}
use Rattle.forest_law.specs.declared.objects.Object.TheVariants as object
use Rattle.forest_law.specs.Numbers.{frame_id}
use Rattle.forest_world.specs.Held.{TreePass, shape_of_pass}
use Rattle.call_law.specs.Hands.{KnowsFrame}
use Rattle.call_law.specs.Spoken.{View}
use Rattle.call_law.specs.Trace.{Added}
use Rattle.call_law.proofs.TraceLemmas.{both_added}
use Rattle.buffer_pool.specs.AsTaken.{KeepsAsHeld}
use Rattle.buffer_pool.specs.Calls.{Does}
use Rattle.buffer_pool.specs.Forests.{IsFittedTree}
use Rattle.buffer_pool.specs.Frames.{GivesFrame}
use Rattle.buffer_pool.specs.Pages.{HasTreePage}
use Rattle.buffer_pool.proofs.AddedLemmas.{only_given, only_said}
use Rattle.buffer_pool.proofs.AsTakenLemmas.{keeps_both, keeps_gave, keeps_same}
use Rattle.buffer_pool.proofs.CallLemmas.{does_both, does_none, gave_frame}
use Rattle.tree_descent.specs.Ways.{HoldsPage}
use Rattle.engine_law.proofs.KnownLemmas.{knows_same}
use Rattle.tree_neighbours.specs.LeafHands.{HoldsLeavesAlone, IsLeafReference}
use Rattle.tree_neighbours.proofs.HandLemmas.{gave_page}
use Rattle.page_view.specs.Taking.{rows_from_place}
use Rattle.said_scans.specs.Ranges.{range_said}
use Rattle.tree_facts.specs.TreeFrames.{high_of}
use Rattle.forest_law.specs.State.{bound}
use Rattle.page_view.proofs.TakingLemmas.{from_place, place_in}
use Rattle.tree_cursor.specs.declared.cursor.Cursor.{Cursor}
use Rattle.tree_cursor.specs.declared.pieces.Step.{Step}
use Rattle.tree_cursor.specs.Pieces.{rows_not_before, HoldsStand, TellsPiece, IsEnd, GoesOn, GivesUp}
use Rattle.tree_cursor.specs.Fills.{StandsBehind}
use Rattle.tree_cursor.specs.MapRows.{AreMapRows}
use Rattle.tree_cursor.specs.Starts.{place_of, BeginsAt}
use Rattle.tree_cursor.specs.Telling.{MayTell, TellsLeaf, TellsAndGives}
use Rattle.tree_cursor.proofs.LeafMapLemmas.{leaf_rows_from}
use Rattle.tree_cursor.proofs.ReferLemmas.{given_frames_refer, given_index}
use Rattle.tree_cursor.proofs.ToldLemmas.{range, is_for, same_terms, told_does, told_least, told_most, told_cause, cause_told, told_ends, onward, onward_has}

-- the rows from where the cursor has them before it
module _ (rows : List Row) (place : KeyPlace) (start : Option ℕ) (begins : BeginsAt rows place start)
    (differ : PlacesDiffer rows) where
  pub rows_begin : rows_from_place start rows ≡ begins.on
  rows_begin = subst (λ (xs : List Row). rows_from_place start xs ≡ begins.on) (sym begins.split)
      (from_place begins.fore begins.on start (subst PlacesDiffer begins.split differ)
      (subst (λ (xs : List Row). IsAt xs start (first_of_rows begins.on)) begins.split begins.at))

  pub rows_kept : rows_not_before place rows ≡ begins.on
  rows_kept =
      ap (rows_not_before place) begins.split
      ∙ (filter-append (λ (x : Row). not (before (At x.key) place)) begins.fore begins.on
      ∙ (λ k. filter_none (λ (x : Row). not (before (At x.key) place)) begins.fore
      (each_weaker _ _ (λ (x : Row) e. ap not e) begins.fore begins.sooner) k
      ++ filter_each (λ (x : Row). not (before (At x.key) place)) begins.on
      (each_weaker _ _ (λ (x : Row) e. ap not e) begins.on begins.later) k))

-- a frame that is known to be a leaf went back, by the shape of another pass of the space
module _ (shape : Shape) (i : ℕ) (r q : TreePass) (b : ℕ) (f : Frame)
    (same : shape_of_pass r ≡ shape) (knows : KnowsFrame (view r) b f) (leaf : HasTreePage f i 0)
    (gave : GivesFrame r b q) where
  abbrev pub given : Added
  given = only_given (frame_id shape b) gave.taken (object.Frame gave.frame)

  pub gives_does : IsKnown r → Does r q (frame_id shape b ∷ []) given
  gives_does known = subst
      (λ s. Does r q (frame_id s b ∷ [])
      (only_given (frame_id s b) gave.taken (object.Frame gave.frame))) same
      (gave_frame r q known b gave)

  pub gives_keeps : KeepsAsHeld (view r) (view q)
      (reference (frame_id shape b) gave.taken (object.Frame gave.frame) ∷ [])
  gives_keeps = subst
      (λ s. KeepsAsHeld (view r) (view q)
      (reference (frame_id s b) gave.taken (object.Frame gave.frame) ∷ [])) same
      (keeps_gave r q b gave)

  pub gives_leaf : IsLeafReference shape i
      (reference (frame_id shape b) gave.taken (object.Frame gave.frame))
  gives_leaf = record {
    block = b;
    taken = gave.taken;
    frame = gave.frame;
    is = refl;
    page = gave_page r q b i f knows leaf gave;
  }

-- of a leaf in hand
module _ (p : TreePass) (b i : ℕ) (c : Cursor) (low : KeyPlace) (start : Option ℕ)
    (stand : HoldsStand (view p) b i c low)
    (begins : BeginsAt stand.holds.is.page.rows (place_of c) start) where
  abbrev h : HoldsPage (view p) b i 0
  h = stand.holds

  pub differ : PlacesDiffer h.is.page.rows
  differ = h.order.places

  abbrev none_between : Row → Type 0
  none_between x = before (At x.key) low ≡ before (At x.key) (place_of c)

  between : AllByRecursion none_between (begins.fore ++ begins.on)
  between = subst (AllByRecursion none_between) begins.split stand.none_between

  pub sooner : AllByRecursion (λ (x : Row). before (At x.key) low ≡ true) begins.fore
  sooner = each_both none_between (λ (x : Row). before (At x.key) (place_of c) ≡ true)
      (λ (x : Row). before (At x.key) low ≡ true) (λ x same is. same ∙ is) begins.fore
      (each_left none_between begins.fore begins.on between) begins.sooner

  pub later : AllByRecursion (λ (x : Row). before (At x.key) low ≡ false) begins.on
  later = each_both none_between (λ (x : Row). before (At x.key) (place_of c) ≡ false)
      (λ (x : Row). before (At x.key) low ≡ false) (λ x same is. same ∙ is) begins.on
      (each_right none_between begins.fore begins.on between) begins.later

  -- its rows may be told
  unfoldable pub may_tell : MayTell (view p) b i start low c
  may_tell =
      let on = rows_begin h.is.page.rows (place_of c) start begins differ in
      record {
        holds = h;
        there = place_in h.is.page.rows begins.on start begins.at;
        map_rows = subst
            (λ (xs : List Row). AreMapRows (view p) i low (high_of h.frame) (row_pairs xs)) (sym on)
            (leaf_rows_from (view p) b i h low (row_pairs begins.fore) (row_pairs begins.on)
            stand.low
            (sym (ap row_pairs begins.split ∙ row_pairs-append begins.fore begins.on))
            (pairs_each (λ (k : FieldList). before (At k) low ≡ true) begins.fore sooner)
            (pairs_each (λ (k : FieldList). before (At k) low ≡ false) begins.on later));
        later = subst (AllByRecursion (λ (x : Row). before (At x.key) low ≡ false)) (sym on) later;
        high = stand.high;
        fields = stand.fields;
        room = stand.room;
      }

  -- they were told, and the leaf went back
  module _ (only : HoldsLeavesAlone p (b ∷ [])) (fitted : IsFittedTree (view p)) (ask : Ask)
      (to : Option FieldList) (left : ℕ) (columns : Columns) (old new : Map) (step : Step)
      (c' : Cursor) (q : TreePass) (some_left : 0 < left)
      (why : IsSome start ⊎ (h.is.page.head.next ≡ None))
      (t : TellsAndGives p b i start low ask to left columns old new step c c' q) where
    abbrev r : TreePass
    r = t.between

    tells : TellsLeaf p b i may_tell.holds start low ask to left columns old new step c c' r
    tells = t.tells may_tell.holds

    knows_then : KnowsFrame (view r) b h.frame
    knows_then = knows_same p r b h.frame tells.kept.held
        (same_terms p b i start low ask to left columns old new step c c' r may_tell some_left tells)
        h.knows

    same_shape : shape_of_pass r ≡ shape_of_pass p
    same_shape = ap (λ (z : Terms Shape). z.shape)
        (same_terms p b i start low ask to left columns old new step c c' r may_tell some_left tells)

    kept_are : rows_not_before (place_of c) h.is.page.rows
        ≡ rows_from_place start h.is.page.rows
    kept_are = rows_kept h.is.page.rows (place_of c) start begins differ
        ∙ sym (rows_begin h.is.page.rows (place_of c) start begins differ)

    some_kept : IsSome start ⊎ (h.is.page.head.next ≡ None)
        → (rows_not_before (place_of c) h.is.page.rows ≢ []) ⊎ (h.is.page.head.next ≡ None)
    some_kept (inr none) = inr none
    some_kept (inl has) = inl (λ e. no_rows begins.on begins.at
        (sym (rows_kept h.is.page.rows (place_of c) start begins differ) ∙ e))
      where
        no_rows : (xs : List Row) → IsAt h.is.page.rows start (first_of_rows xs) → xs ≡ [] → ⊥
        no_rows [] at none = (let some : IsSome {T = ℕ} None = subst IsSome at has in cc)
        no_rows (x ∷ xs) at none = cc

    goes_on : step.end ≡ false → GoesOn (view q) i h.frame tells.fills.took.taken b
        (range p b i start low ask to left columns old new step c c' r may_tell some_left
        tells).high c c'
    unfolding may_tell
    goes_on e =
        let on = onward p b i start low ask to left columns old new step c c' r may_tell some_left
        tells e in
        record {
          block = on.2.block;
          stands = subst (λ (xs : List Row). StandsBehind h.frame xs c') (sym on.1) on.2.behind;
          ends = on.0;
          referred = given_frames_refer r q c' h.frame
              (subst (λ k. KnowsFrame (view r) k h.frame) (sym on.2.block) knows_then)
              (onward_has p b i start low ask to left columns old new step c c' r may_tell some_left
              tells e fitted)
              (subst (λ k. GivesFrame r k q) (sym on.2.block) t.gave);
          of_index = given_index r q i c' h.frame
              (subst (λ k. KnowsFrame (view r) k h.frame) (sym on.2.block) knows_then)
              (onward_has p b i start low ask to left columns old new step c c' r may_tell some_left
              tells e fitted)
              (subst (λ k. GivesFrame r k q) (sym on.2.block) t.gave) h.is;
          fields = on.2.fields;
          room = on.2.room;
        }

    pub tells_held : TellsPiece p b i ask to c low left columns old new step c' q
    unfolding may_tell
    tells_held =
        let told = tells.fills.took in
        let said = told_does p b i start low ask to left columns old new step c c' r may_tell
        some_left tells only.known in
        let gives = gives_does (shape_of_pass p) i r q b h.frame same_shape knows_then h.is t.gave
        said.known in
        record {
          holds = h;
          leaf = record {
            block = b;
            frame = h.frame;
            rows = rows_not_before (place_of c) h.is.page.rows;
            which = inl (record {
              block = refl;
              frame = refl;
              rows_are = refl;
              why = some_kept why;
            });
          };
          stop = tells.fills.stop;
          took = record {
            taken = told.taken;
            rest = told.rest;
            split = kept_are ∙ told.split;
            all = told.all;
            below = told.below;
            why = told.why;
          };
          range = range p b i start low ask to left columns old new step c c' r may_tell some_left
              tells;
          low = refl;
          piece = refl;
          count = tells.count;
          is_for = is_for p b i start low ask to left columns old new step c c' r may_tell some_left
              tells;
          added = both_added
              (only_said (range_said i (view p).low ask
              (range p b i start low ask to left columns old new step c c' r may_tell some_left
              tells)))
              (only_given (frame_id (shape_of_pass p) b) t.gave.taken (object.Frame t.gave.frame));
          does = does_both p r q (frame_id (shape_of_pass p) b ∷ [])
              (only_said (range_said i (view p).low ask
              (range p b i start low ask to left columns old new step c c' r may_tell some_left
              tells)))
              (only_given (frame_id (shape_of_pass p) b) t.gave.taken (object.Frame t.gave.frame))
              (does_none p r
              (only_said (range_said i (view p).low ask
              (range p b i start low ask to left columns old new step c c' r may_tell some_left
              tells)))
              (frame_id (shape_of_pass p) b ∷ []) said)
              gives;
          said = refl;
          leaves = (
            gives_leaf (shape_of_pass p) i r q b h.frame same_shape knows_then h.is t.gave,
            tt,
          );
          keeps = keeps_both (view p) (view r) (view q) []
              (reference (frame_id (shape_of_pass p) b) t.gave.taken (object.Frame t.gave.frame) ∷ [])
              (keeps_same (view p) (view r) tells.kept.held [] refl)
              (gives_keeps (shape_of_pass p) i r q b h.frame same_shape knows_then h.is t.gave);
          least = told_least p b i start low ask to left columns old new step c c' r may_tell
              some_left tells;
          most = λ zs at. told_most p b i start low ask to left columns old new step c c' r may_tell
              some_left tells zs (sym (ap (λ (z : View). get_elem? z.seen i) t.gave.view) ∙ at);
          end_has_cause = λ e. subst
              (λ (xs : List Row). IsEnd to left step.count xs (bound h.frame.high)) (sym kept_are)
              (told_cause p b i start low ask to left columns old new step c c' r may_tell some_left
              tells e);
          cause_ends = λ cause. cause_told p b i start low ask to left columns old new step c c' r
              may_tell some_left tells
              (subst (λ (xs : List Row). IsEnd to left step.count xs (bound h.frame.high)) kept_are
              cause);
          ends = told_ends p b i start low ask to left columns old new step c c' r may_tell some_left
              tells;
          goes_on = goes_on;
        }

-- memory lacked, and the leaf went back
pub gives_up : (p q : TreePass) (b i : ℕ) → HoldsLeavesAlone p (b ∷ [])
    → (h : HoldsPage (view p) b i 0) → GivesFrame p b q → GivesUp p b i q
gives_up p q b i only h gave = record {
  added = only_given (frame_id (shape_of_pass p) b) gave.taken (object.Frame gave.frame);
  does = gives_does (shape_of_pass p) i p q b h.frame refl h.knows h.is gave only.known;
  silent = refl;
  leaves = (gives_leaf (shape_of_pass p) i p q b h.frame refl h.knows h.is gave, tt);
  keeps = gives_keeps (shape_of_pass p) i p q b h.frame refl h.knows h.is gave;
}
