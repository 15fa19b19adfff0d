-- The piece without rows of the last leaf was said, and the leaf went back.
use Rattle.std.proofs.Common.{◌≡◌, ℕ, true, None, [], ◌∷◌, sym, ap, subst, ◌∙◌, refl, append-nil}
use lib.ListN.{get_elem?}
use Rattle.key_tuple.specs.KeyPlace.{KeyPlace, End}
use Rattle.key_tuple.specs.Order.{FieldList}
use Rattle.key_tuple.specs.KeyPlace.{At, before}
use Rattle.latch_law.specs.declared.knows.Terms.{Terms}
use Rattle.latch_law.specs.Fitting.{DidRead}
use Rattle.latch_law.specs.Whole.{reference}
use Rattle.latch_space.specs.Has.{SameHands}
use Rattle.latch_space.specs.Passes.{view}
use Rattle.map_history.specs.Operation.{Ask}
use Rattle.map_history.specs.Report.{Columns}
use Rattle.tree_law.specs.Pages.{row_pairs, high_place}
use Rattle.tree_law.proofs.LeafLemmas.{pairs_each}
use Rattle.index_law.specs.Answers.{Piece}
use Rattle.index_law.specs.Rightness.{IsRight}
use Rattle.index_law.specs.Shape.{Shape}
use Rattle.forest_law.specs.declared.objects.Object.TheVariants as object
use Rattle.forest_law.specs.Law.{IsLawful}
use Rattle.forest_law.specs.Numbers.{frame_id}
use Rattle.forest_law.specs.References.{IsReference}
use Rattle.forest_world.specs.Held.{TreePass, shape_of_pass}
use Rattle.call_law.specs.Hands.{KnowsFrame}
use Rattle.call_law.specs.Spoken.{View}
use Rattle.call_law.specs.Trace.{Added}
use Rattle.call_law.proofs.TraceLemmas.{both_added}
use Rattle.buffer_pool.specs.Frames.{GivesFrame}
use Rattle.buffer_pool.proofs.AddedLemmas.{only_given, only_said}
use Rattle.buffer_pool.proofs.AsTakenLemmas.{keeps_both, keeps_same}
use Rattle.buffer_pool.proofs.CallLemmas.{does_both, does_none}
use Rattle.engine_law.proofs.KnownLemmas.{knows_same}
use Rattle.tree_neighbours.specs.LeafHands.{HoldsLeavesAlone}
use Rattle.said_scans.specs.Ranges.{range_said}
use Rattle.tree_cursor.specs.EmptyPieces.{HoldsEnd, TellsEmpty, empty_range}
use Rattle.tree_cursor.specs.MapRows.{AreMapRows}
use Rattle.tree_cursor.proofs.LeafMapLemmas.{leaf_rows_from}
use Rattle.tree_cursor.proofs.PieceLemmas.{gives_does, gives_keeps, gives_leaf}
use Rattle.tree_cursor.proofs.SayLemmas.{said_does, said_least, said_most}

-- the map has no row from the place on
pub none_from : (p : TreePass) (b i : ℕ) (place : KeyPlace) → HoldsEnd (view p) b i place
    → AreMapRows (view p) i place End []
none_from p b i place ends =
    let h = ends.holds in
    subst (λ high. AreMapRows (view p) i place high []) (ap high_place ends.last)
    (leaf_rows_from (view p) b i h place (row_pairs h.is.page.rows) [] ends.low
    (append-nil (row_pairs h.is.page.rows))
    (pairs_each (λ (k : FieldList). before (At k) place ≡ true) h.is.page.rows ends.none) tt)

module _ (p r q : TreePass) (b i : ℕ) (ask : Ask) (place : KeyPlace) (columns : Columns)
    (point : ℕ) (ends : HoldsEnd (view p) b i place) (only : HoldsLeavesAlone p (b ∷ []))
    (did : DidRead IsLawful IsRight IsReference (view p) i (Piece ask place End [] None columns)
    point (view r)) (kept : SameHands p r) (gave : GivesFrame r b q) where
  same_terms : (view r).terms ≡ (view p).terms
  same_terms = ap (λ (z : View). z.terms) did.view

  same_shape : shape_of_pass r ≡ shape_of_pass p
  same_shape = ap (λ (z : Terms Shape). z.shape) same_terms

  knows_then : KnowsFrame (view r) b ends.holds.frame
  knows_then = knows_same p r b ends.holds.frame kept.held same_terms ends.holds.knows

  abbrev told : Added
  told = only_said (range_said i (view p).low ask (empty_range place point columns))

  pub tells_empty : TellsEmpty p b i ask place columns point q
  tells_empty =
      let said = said_does p r i ask (empty_range place point columns) did kept only.known in
      let given = only_given (frame_id (shape_of_pass p) b) gave.taken (object.Frame gave.frame) in
      record {
        added = both_added told given;
        does = does_both p r q (frame_id (shape_of_pass p) b ∷ []) told given
            (does_none p r told (frame_id (shape_of_pass p) b ∷ []) said)
            (gives_does (shape_of_pass p) i r q b ends.holds.frame same_shape knows_then
            ends.holds.is gave said.known);
        said = refl;
        leaves = (
          gives_leaf (shape_of_pass p) i r q b ends.holds.frame same_shape knows_then
              ends.holds.is gave,
          tt,
        );
        keeps = keeps_both (view p) (view r) (view q) []
            (reference (frame_id (shape_of_pass p) b) gave.taken (object.Frame gave.frame) ∷ [])
            (keeps_same (view p) (view r) kept.held [] refl)
            (gives_keeps (shape_of_pass p) i r q b ends.holds.frame same_shape knows_then
            ends.holds.is gave);
        least = said_least p r i ask (empty_range place point columns) did kept;
        most = λ zs at. said_most p r i ask (empty_range place point columns) did kept zs
            (sym (ap (λ (z : View). get_elem? z.seen i) gave.view) ∙ at);
      }
