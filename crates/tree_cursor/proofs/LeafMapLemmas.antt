-- The rows of a leaf in hand from a place on are the map's, up to the leaf's high end, and so are those
-- of the leaf behind it where it has none from there on.
use Rattle.std.proofs.Common.{◌≡◌, ℕ, true, false, None, [], ◌++◌, sym, ap, subst, ◌∙◌, arith, append-nil}
use Rattle.std.specs.List.{AllByRecursion}
use lib.ListN.{get_elem?}
use Rattle.key_tuple.specs.KeyPlace.{KeyPlace, At, before}
use Rattle.key_tuple.proofs.PlaceLemmas.{before_not_after}
use Rattle.latch_law.specs.Fitting.{MayAnswer}
use Rattle.map_history.specs.Map.{Pair, Map, slice, map_after}
use Rattle.map_history.specs.Operation.{Ask}
use Rattle.map_history.specs.Report.{Columns}
use Rattle.map_history.proofs.HistoryLemmas.{map_after-ascends}
use Rattle.tree_law.specs.Pages.{row_pairs}
use Rattle.tree_law.proofs.SliceLemmas.{slice_join}
use Rattle.index_law.specs.Answers.{Piece}
use Rattle.index_law.specs.Rightness.{IsRight}
use Rattle.index_law.specs.State.{changes}
use Rattle.forest_law.specs.Law.{IsLawful}
use Rattle.forest_law.specs.References.{IsReference}
use Rattle.forest_law.specs.State.{ForestState}
use Rattle.forest_law.proofs.FramePageLemmas.{frames_tell_pages}
use Rattle.tree_facts.specs.TreeFrames.{low_of, high_of}
use Rattle.tree_facts.proofs.LeafLemmas.{leaves_tell_maps}
use Rattle.call_law.specs.Spoken.{View}
use Rattle.buffer_pool.specs.Forests.{FitsTrees}
use Rattle.tree_descent.specs.Ways.{HoldsPage}
use Rattle.tree_descent.proofs.PageLemmas.{known_frame, known_tree_frame}
use Rattle.engine_law.proofs.WordLemmas.{map_at_end}
use Rattle.scan_law.proofs.PlaceLemmas.{rest_slice}
use Rattle.tree_cursor.specs.MapRows.{AreMapRows}

-- rows that are the map's may be said as a piece, at whatever point is read
pub may_say : (v : View) (i : ℕ) (ask : Ask) (columns : Columns) (low high : KeyPlace) (rows : Map)
    → AreMapRows v i low high rows
    → MayAnswer IsLawful IsRight IsReference v i (Piece ask low high rows None columns)
may_say v i ask columns low high rows are w law fits xs there = record {
  list = xs;
  there = there;
  point = omega arith;
  said = λ speaks. are w law fits xs there ∙ ap (slice low high) (sym (map_at_end xs));
}

module _ (v : View) (b i : ℕ) (h : HoldsPage v b i 0) where
  -- the leaf's rows are the map's in its bounds
  leaf_rows : AreMapRows v i (low_of h.frame) (high_of h.frame) (row_pairs h.is.page.rows)
  leaf_rows w law fits xs there = (leaves_tell_maps w law b h.frame h.is.page
      (known_tree_frame w law v fits b i 0 h.frame h.knows h.is) h.is.at_level xs
      (ap (get_elem? w.lists) h.is.index ∙ there)).holds

  -- those from a place in its bounds on are the map's up to its high end
  pub leaf_rows_from : (low : KeyPlace) (fore on : Map) → before low (low_of h.frame) ≡ false
      → fore ++ on ≡ row_pairs h.is.page.rows
      → AllByRecursion (λ (e : Pair). before (At e.key) low ≡ true) fore
      → AllByRecursion (λ (e : Pair). before (At e.key) low ≡ false) on
      → AreMapRows v i low (high_of h.frame) on
  leaf_rows_from low fore on from split is isnt w law fits xs there =
      rest_slice (low_of h.frame) low (high_of h.frame) (map_after (changes xs)) fore on from
      (split ∙ leaf_rows w law fits xs there) is isnt

  pub bounds_rise : (w : ForestState) → IsLawful w → FitsTrees w v
      → before (low_of h.frame) (high_of h.frame) ≡ true
  bounds_rise w law fits = ((frames_tell_pages w law b h.frame h.is.page
      (known_frame w law v fits b h.frame h.knows) h.is.paged).sound h.is.tree).bounds

-- of two leaves in hand the one ends where the other begins: where the one has no row from the place
-- on, the rows of the other are the map's from there on, up to its high end
pub leaf_rows_behind : (v : View) (b c i : ℕ) (h : HoldsPage v b i 0) (g : HoldsPage v c i 0)
    → low_of g.frame ≡ high_of h.frame → (low : KeyPlace) → before low (low_of h.frame) ≡ false
    → before (high_of h.frame) low ≡ false
    → AllByRecursion (λ (e : Pair). before (At e.key) low ≡ true) (row_pairs h.is.page.rows)
    → AreMapRows v i low (high_of g.frame) (row_pairs g.is.page.rows)
leaf_rows_behind v b c i h g meets low from upto none w law fits xs there =
    let m = map_after (changes xs) in
    let first : [] ≡ slice low (high_of h.frame) m =
    leaf_rows_from v b i h low (row_pairs h.is.page.rows) [] from
    (append-nil (row_pairs h.is.page.rows)) none tt w law fits xs there in
    let second : row_pairs g.is.page.rows ≡ slice (high_of h.frame) (high_of g.frame) m =
    leaf_rows v c i g w law fits xs there ∙ ap (λ z. slice z (high_of g.frame) m) meets in
    let join = slice_join low (high_of h.frame) (high_of g.frame) m (map_after-ascends (changes xs))
    upto
    (subst (λ z. before (high_of g.frame) z ≡ false) meets
    (before_not_after (low_of g.frame) (high_of g.frame) (bounds_rise v c i g w law fits))) in
    second ∙ (ap (λ z. z ++ slice (high_of h.frame) (high_of g.frame) m) first ∙ join)
