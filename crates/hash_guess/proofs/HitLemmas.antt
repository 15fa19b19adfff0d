-- The row of a hit, in a lawful state that fits.
use Rattle.std.proofs.Common.{◌≡◌, ◌≢◌, ℕ, Bool, true, false, cond, Some, None, List, [], ◌∷◌, ◌++◌, inl, inr, refl, sym, ap, subst, ◌∙◌}
use Rattle.std.specs.List.{AllByRecursion}
use lib.ListN.{get_elem?}
use Rattle.list_facts.proofs.Places.{same_some}
use Rattle.key_tuple.specs.Order.{FieldList}
use Rattle.key_tuple.specs.declared.mode.Mode.{Mode}
use Rattle.latch_law.specs.Views.{holding}
use Rattle.map_history.proofs.HistoryLemmas.{map_after-ascends}
use Rattle.index_page.specs.Laws.{StandsAt}
use Rattle.index_page.specs.Page.{PlacesDiffer}
use Rattle.index_page.specs.Rows.{Row, find_row}
use Rattle.index_page.proofs.RowLemmas.{find_among}
use Rattle.tree_law.specs.GuessCheck.{IsLeaf, Reaches}
use Rattle.tree_law.specs.Pages.{Page}
use Rattle.tree_law.specs.TreeShape.{In}
use Rattle.tree_law.proofs.SearchLemmas.{guess_reaches}
use Rattle.guess_check.specs.Check.{meets, passes}
use Rattle.guess_check.proofs.CheckLemmas.{checked}
use Rattle.index_law.specs.Shape.{Shape}
use Rattle.index_law.specs.State.{changes}
use Rattle.forest_law.specs.declared.objects.Object.TheVariants as object
use Rattle.forest_law.specs.FramePages.{TellsPage}
use Rattle.forest_law.specs.Law.{IsLawful}
use Rattle.forest_law.specs.Numbers.{frame_id}
use Rattle.forest_law.specs.Objects.{IsFrameOf}
use Rattle.forest_law.specs.State.{ForestState, bound, page_within, pages_of, heights_of, maps_of, list_of, fields_for}
use Rattle.forest_law.proofs.FramePageLemmas.{frames_tell_pages}
use Rattle.call_law.specs.Hands.{HoldsTheRest}
use Rattle.call_law.specs.Spoken.{View}
use Rattle.call_law.specs.Trace.{SameNumbers}
use Rattle.buffer_pool.specs.Forests.{FitsTrees}
use Rattle.buffer_pool.proofs.AddedLemmas.{frame_still}
use Rattle.hash_guess.specs.Hits.{HoldsHit, IsReached, HitsReach}

-- each of some rows is the one at its place, where the places differ
pub stands_among : (rows : List Row) (row : Row) → In row rows → StandsAt rows row.place row
stands_among [] row there = absurd there
stands_among (x ∷ rows) row (inl same) = record {
  left = [];
  right = rows;
  split = ap (λ z. z ∷ rows) (sym same);
  place_is = refl;
}
stands_among (x ∷ rows) row (inr there) = let s = stands_among rows row there in record {
  left = x ∷ s.left;
  right = s.right;
  split = ap (λ zs. x ∷ zs) s.split;
  place_is = refl;
}

pub found_at : (rows left : List Row) (row : Row) (right : List Row) → rows ≡ left ++ row ∷ right
    → PlacesDiffer rows → (place : ℕ) → row.place ≡ place → find_row place rows ≡ Some row
found_at rows left row right split differ place is =
    subst (λ k. find_row k rows ≡ Some row) is
    (subst (λ (zs : List Row). find_row row.place zs ≡ Some row) (sym split)
    (find_among left row right (subst PlacesDiffer split differ)))

-- what is told is whether the tuple meets the key
told_is : (b m found : Bool) → Some found ≡ cond b (Some m) None → found ≡ m
told_is true m found e = cc
told_is false m found e = absurd cc

module _ (w : ForestState) (law : IsLawful w) (v : View) (fits : FitsTrees w v) (index : ℕ)
    (mode : Mode) (tuple : FieldList) (block place : ℕ) (found : Bool)
    (hit : HoldsHit v index mode tuple block place found) where
  at_block : IsFrameOf w.shape w.objects block hit.frame
  at_block = ap (λ (s : Shape). get_elem? w.objects (frame_id s block)) fits.shape
      ∙ fits.known (frame_id v.terms.shape block)
      (holding hit.knows.0 (object.Frame hit.frame)) hit.knows.1

  tells : TellsPage w hit.frame hit.is.page
  tells = frames_tell_pages w law block hit.frame hit.is.page at_block hit.is.paged

  abbrev page_there : Page
  page_there = page_within hit.is.page hit.frame.low hit.frame.high

  leaf : IsLeaf (pages_of w.shape w.objects) index hit.is.page.head.number page_there
  leaf = record {
    is = tells.is;
    tree = hit.is.tree;
    index = hit.is.index;
    leaf = hit.is.at_level;
  }

  reaches_row : Reaches (pages_of w.shape w.objects) index (maps_of w.lists index) mode tuple
      hit.is.page.head.number hit.checks.row.place
  reaches_row = guess_reaches w.shape.indexes (fields_for w.shape) (heights_of w.objects)
      (maps_of w.lists) (pages_of w.shape w.objects) law.objects.pages index
      hit.is.page.head.number page_there leaf
      (λ i. map_after-ascends (changes (list_of (get_elem? w.lists i)))) mode tuple
      hit.checks.left hit.checks.row hit.checks.right hit.checks.split
      (checked.told mode tuple hit.is.page (bound hit.frame.low) (bound hit.frame.high)
      hit.checks.left hit.checks.row hit.checks.right found (sym hit.checks.is))

  reaches_place : Reaches (pages_of w.shape w.objects) index (maps_of w.lists index) mode tuple
      hit.is.page.head.number place
  reaches_place = subst (λ k. Reaches (pages_of w.shape w.objects) index (maps_of w.lists index)
      mode tuple hit.is.page.head.number k) hit.checks.place_is reaches_row

  module _ (r : Reaches (pages_of w.shape w.objects) index (maps_of w.lists index) mode tuple
      hit.is.page.head.number place) where
    same_page : r.page ≡ page_there
    same_page = same_some r.page page_there (sym r.leaf.is ∙ tells.is)

    stands_there : StandsAt hit.is.page.rows r.row.place r.row
    stands_there = stands_among hit.is.page.rows r.row
        (subst (λ (g : Page). In r.row g.rows) same_page r.among)

    row_there : find_row place hit.is.page.rows ≡ Some r.row
    row_there = found_at hit.is.page.rows stands_there.left r.row stands_there.right
        stands_there.split tells.order.places place r.at

    checked_there : find_row place hit.is.page.rows ≡ Some hit.checks.row
    checked_there = found_at hit.is.page.rows hit.checks.left hit.checks.row hit.checks.right
        hit.checks.split tells.order.places place hit.checks.place_is

    same_row : hit.checks.row ≡ r.row
    same_row = same_some hit.checks.row r.row (sym checked_there ∙ row_there)

    reached_by : IsReached w index mode tuple hit.is.page place found
    reached_by = record {
      reaches = r;
      there = row_there;
      found_is = told_is (passes mode tuple hit.is.page.head hit.checks.left hit.checks.row
          hit.checks.right) (meets tuple hit.checks.row.key) found hit.checks.is
          ∙ ap (λ (x : Row). meets tuple x.key) same_row;
    }

pub hits_reach : HitsReach
hits_reach w law v fits index mode tuple block place found hit =
    reached_by w law v fits index mode tuple block place found hit
    (reaches_place w law v fits index mode tuple block place found hit)

-- a hit lasts as long as its frame is held as it is known
pub hit_still : (v v' : View) (ks : List ℕ) → SameNumbers v v' → HoldsTheRest v v' ks
    → (index : ℕ) (mode : Mode) (tuple : FieldList) (block place : ℕ) (found : Bool)
    → AllByRecursion (λ (k : ℕ). frame_id v.terms.shape block ≢ k) ks
    → HoldsHit v index mode tuple block place found
    → HoldsHit v' index mode tuple block place found
hit_still v v' ks same rest index mode tuple block place found apart hit = search (frame_still v v' ks same rest block apart hit.frame hit.knows)
