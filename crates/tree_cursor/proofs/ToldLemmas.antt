-- A piece that was told of a leaf in hand: what was said, and how the scan stands.
use Rattle.std.proofs.Common.{◌≡◌, inl, inr, ℕ, ◌-◌, ◌<◌, ◌≤◌, true, false, Option, List, [], length, sym, ap, subst, ◌∙◌, refl, arith}
use Rattle.std.proofs.lemmas.Bool.{both_ways}
use mathlib.Core.Option.{some}
use lib.ListN.{get_elem?}
use Rattle.key_tuple.specs.Order.{FieldList}
use Rattle.key_tuple.specs.KeyPlace.{KeyPlace, At}
use Rattle.latch_space.specs.Has.{IsKnown}
use Rattle.latch_space.specs.Passes.{view}
use Rattle.map_history.specs.Map.{Map}
use Rattle.map_history.specs.Operation.{Ask}
use Rattle.map_history.specs.Report.{Columns}
use Rattle.map_history.specs.Scans.{is_below}
use Rattle.index_page.specs.Page.{PageRows}
use Rattle.index_page.specs.Rows.{Row}
use Rattle.tree_law.specs.Pages.{row_pairs}
use Rattle.tree_law.specs.TreeShape.{In}
use Rattle.tree_law.proofs.LeafLemmas.{pairs_each, each_in}
use Rattle.index_law.specs.State.{Entries}
use Rattle.forest_law.specs.declared.objects.Frame.{Frame}
use Rattle.forest_law.specs.State.{bound}
use Rattle.forest_world.specs.Held.{TreePass}
use Rattle.call_law.specs.Spoken.{View}
use Rattle.buffer_pool.specs.Calls.{Does}
use Rattle.buffer_pool.specs.Forests.{IsFittedTree}
use Rattle.buffer_pool.proofs.AddedLemmas.{only_said}
use Rattle.page_view.specs.Taking.{AreBelow, rows_from_place}
use Rattle.scan_law.specs.ScanLaws.{ReadRange}
use Rattle.scan_law.specs.SaidScans.{IsRangeFor, EndsScan}
use Rattle.said_scans.specs.Ranges.{range_said}
use Rattle.tree_cursor.specs.declared.cursor.Cursor.{Cursor}
use Rattle.tree_cursor.specs.declared.filling.Ending.{Ending}
use Rattle.tree_cursor.specs.declared.filling.Ending.TheVariants.{Full, Past, Onward}
use Rattle.tree_cursor.specs.declared.pieces.Step.{Step}
use Rattle.tree_cursor.specs.Cursors.{HasCursor}
use Rattle.tree_cursor.specs.Fills.{is_past_at, Moves, EndsBy}
use Rattle.tree_cursor.specs.Pieces.{IsEnd}
use Rattle.tree_cursor.specs.Starts.{place_of}
use Rattle.tree_cursor.specs.Telling.{MayTell, end_of, is_end, TellsLeaf}
use Rattle.tree_cursor.proofs.EndingLemmas.{piece_reaches}
use Rattle.tree_cursor.proofs.RangeEndLemmas.{end_ends}
use Rattle.tree_cursor.proofs.SayLemmas.{said_does, said_least, said_most}
use Rattle.tree_cursor.proofs.StoreLemmas.{cursor_with, has_cursor}

-- the end is told where it has a cause, and the cause where the end is told
module _ (f : Frame) (page : PageRows) (b : ℕ) (to : Option FieldList) (left n : ℕ)
    (rows taken : List Row) (c c' : Cursor) (count : n ≡ length taken) where
  end_cause : (ending : Ending) → EndsBy f page b to left rows taken ending c c'
      → is_end ending ≡ true → IsEnd to left n rows (bound f.high)
  end_cause Full ends e = inl (count ∙ ends.0)
  end_cause Past ends e = inr ends.1
  end_cause Onward ends e = absurd cc

  cause_end : (ending : Ending) → EndsBy f page b to left rows taken ending c c'
      → AreBelow to taken → IsEnd to left n rows (bound f.high) → is_end ending ≡ true
  cause_end Full ends below cause = refl
  cause_end Past ends below cause = refl
  cause_end Onward ends below (inl all) =
      let fewer = ends.0 in absurd (omega (arith, all, count, fewer))
  cause_end Onward ends below (inr (inl past)) =
      absurd (both_ways (is_below to (At past.row.key)) past.past
      (each_in (λ (x : Row). is_below to (At x.key) ≡ true) taken below past.row
      (subst (In past.row) (sym ends.1) past.among)))
  cause_end Onward ends below (inr (inr past)) =
      absurd (both_ways (is_past_at to (bound f.high)) ends.2 past)

  scan_ends : (low : KeyPlace) (m : Map) (ending : Ending)
      → EndsBy f page b to left rows taken ending c c' → is_end ending ≡ true
      → EndsScan to (left - n) (end_of to low m c' ending)
  scan_ends low m Full ends e = let all = ends.0 in inl (omega (arith, all, count))
  scan_ends low m Past ends e = end_ends to low (left - n)
  scan_ends low m Onward ends e = absurd cc

  goes_onward : (low : KeyPlace) (m : Map) (ending : Ending)
      → EndsBy f page b to left rows taken ending c c' → is_end ending ≡ false
      → (end_of to low m c' ending ≡ place_of c') × (taken ≡ rows) × Moves f page b rows c c'
  goes_onward low m Full ends e = absurd cc
  goes_onward low m Past ends e = absurd cc
  goes_onward low m Onward ends e = (refl, ends.1, ends.3)

module _ (p : TreePass) (b i : ℕ) (start : Option ℕ) (low : KeyPlace) (ask : Ask)
    (to : Option FieldList) (left : ℕ) (columns : Columns) (old new : Map) (step : Step)
    (c c' : Cursor) (r : TreePass) (may : MayTell (view p) b i start low c) (some_left : 0 < left)
    (tells : TellsLeaf p b i may.holds start low ask to left columns old new step c c' r) where
  abbrev pub taken : List Row
  taken = tells.fills.took.taken

  abbrev pub rows : List Row
  rows = rows_from_place start may.holds.is.page.rows

  -- the range that was said
  abbrev pub range : ReadRange
  range = record {
    low = low;
    high = end_of to low (row_pairs taken) c' tells.ending;
    piece = record { point = step.point; rows = row_pairs taken; columns = columns };
  }

  pub is_for : IsRangeFor to range
  is_for = record {
    in_order = (piece_reaches (view p) b i may.holds start low tells.fills.order may.map_rows
        may.later may.high to left old new tells.ending c c' tells.fills some_left).in_order;
    below = pairs_each (λ (k : FieldList). is_below to (At k) ≡ true) taken
        tells.fills.took.below;
  }

  pub same_terms : (view r).terms ≡ (view p).terms
  same_terms = ap (λ (z : View). z.terms) tells.did.view

  -- this was said alone, and the pass holds what it held
  pub told_does : IsKnown p → Does p r [] (only_said (range_said i (view p).low ask range))
  told_does known = said_does p r i ask range tells.did tells.kept known

  -- at a point no less than what was seen, and seen then
  pub told_least : (ys : Entries) → get_elem? (view p).seen i ≡ some ys → length ys ≤ step.point
  told_least ys at = said_least p r i ask range tells.did tells.kept ys at

  pub told_most : (zs : Entries) → get_elem? (view r).seen i ≡ some zs → step.point ≤ length zs
  told_most zs at = said_most p r i ask range tells.did tells.kept zs at

  pub told_cause : step.end ≡ true → IsEnd to left step.count rows (bound may.holds.frame.high)
  told_cause e = end_cause may.holds.frame may.holds.is.page b to left step.count rows taken c c'
      tells.count tells.ending tells.fills.ends (sym tells.end_is ∙ e)

  pub cause_told : IsEnd to left step.count rows (bound may.holds.frame.high) → step.end ≡ true
  cause_told cause = tells.end_is
      ∙ cause_end may.holds.frame may.holds.is.page b to left step.count rows taken c c' tells.count
      tells.ending tells.fills.ends tells.fills.took.below cause

  pub told_ends : step.end ≡ true → EndsScan to (left - step.count) range.high
  told_ends e = scan_ends may.holds.frame may.holds.is.page b to left step.count rows taken c c'
      tells.count low (row_pairs taken) tells.ending tells.fills.ends (sym tells.end_is ∙ e)

  -- where the scan goes on, the leaf's frame has the cursor
  module _ (e : step.end ≡ false) where
    pub onward : (range.high ≡ place_of c') × (taken ≡ rows)
        × Moves may.holds.frame may.holds.is.page b rows c c'
    onward = goes_onward may.holds.frame may.holds.is.page b to left step.count rows taken c c'
        tells.count low (row_pairs taken) tells.ending tells.fills.ends (sym tells.end_is ∙ e)

    pub onward_has : IsFittedTree (view p) → HasCursor may.holds.frame c'
    onward_has fitted =
        let m = onward.2 in
        subst (λ k. HasCursor may.holds.frame
        (cursor_with k c'.clock c'.page c'.place c'.key c'.after)) (sym m.block)
        (has_cursor fitted.whole fitted.is_lawful (view p) fitted.fits b i may.holds c'.clock c'.page
        c'.place c'.key c'.after m.clock m.number m.at)
