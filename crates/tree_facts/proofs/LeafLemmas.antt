-- What the frame of a leaf tells of its index's map.
use Rattle.std.proofs.Common.{◌≡◌, ℕ, true, refl, sym, ap, subst, ◌∙◌}
use lib.ListN.{get_elem?}
use Rattle.key_tuple.specs.Order.{FieldList}
use Rattle.key_tuple.specs.KeyPlace.{At, within}
use Rattle.map_history.specs.Map.{Ascends, slice, value_at, key_of, map_after}
use Rattle.map_history.proofs.HistoryLemmas.{allowed-by_value, map_after-ascends}
use Rattle.map_history.proofs.WriteLemmas.{ascends-filter}
use Rattle.index_page.specs.Page.{PageRows}
use Rattle.tree_law.specs.GuessCheck.{IsLeaf}
use Rattle.tree_law.specs.Pages.{row_pairs}
use Rattle.tree_law.specs.SearchLaws.{WalksFrom}
use Rattle.tree_law.proofs.SearchLemmas.{leaf_rows, has_value, walks_find}
use Rattle.index_law.specs.State.{changes}
use Rattle.forest_law.specs.declared.objects.Frame.{Frame}
use Rattle.forest_law.specs.State.{ForestState, page_within, pages_of, heights_of, maps_of, list_of, fields_for}
use Rattle.forest_law.specs.Law.{IsLawful}
use Rattle.tree_facts.specs.TreeFrames.{IsTreeFrame, low_of, high_of}
use Rattle.tree_facts.specs.Leaves.{LeavesTellMaps, LeavesLeadWalks}
use Rattle.tree_facts.proofs.FrameLemmas.{tells_page}

module _ (w : ForestState) (law : IsLawful w) (b : ℕ) (f : Frame) (page : PageRows)
    (is : IsTreeFrame w b f page) (leaf : page.head.level ≡ 0) where
  -- the page is a leaf of the law
  is_leaf : IsLeaf (pages_of w.shape w.objects) page.head.index page.head.number
      (page_within page f.low f.high)
  is_leaf = record {
    is = (tells_page w law b f page is).is;
    tree = is.tree;
    index = refl;
    leaf = leaf;
  }

  -- its rows are a slice of its index's map
  pub slice_is : row_pairs page.rows
      ≡ slice (low_of f) (high_of f) (maps_of w.lists page.head.index)
  slice_is = leaf_rows w.shape.indexes (fields_for w.shape) (heights_of w.objects)
      (maps_of w.lists) (pages_of w.shape w.objects) law.objects.pages page.head.index
      page.head.number (page_within page f.low f.high) is_leaf

  pub value_is : (key : FieldList) → within (low_of f) (high_of f) (At key) ≡ true
      → value_at key (row_pairs page.rows) ≡ value_at key (maps_of w.lists page.head.index)
  value_is = has_value w.shape.indexes (fields_for w.shape) (heights_of w.objects)
      (maps_of w.lists) (pages_of w.shape w.objects) law.objects.pages page.head.index
      page.head.number (page_within page f.low f.high) is_leaf

pub leaves_tell_maps : LeavesTellMaps
leaves_tell_maps w law b f page is leaf xs list =
    let map : maps_of w.lists page.head.index ≡ map_after (changes xs) =
    ap (λ o. map_after (changes (list_of o))) list in
    let rows : row_pairs page.rows ≡ slice (low_of f) (high_of f) (map_after (changes xs)) =
    slice_is w law b f page is leaf ∙ ap (slice (low_of f) (high_of f)) map in
    record {
      holds = rows;
      values = λ key inside. value_is w law b f page is leaf key inside ∙ ap (value_at key) map;
      allows = λ c inside. allowed-by_value (row_pairs page.rows) (map_after (changes xs)) c
          (value_is w law b f page is leaf (key_of c) inside ∙ ap (value_at (key_of c)) map);
      ascend = subst Ascends (sym rows)
          (ascends-filter _ (map_after (changes xs)) (map_after-ascends (changes xs)));
    }

pub leaves_lead_walks : LeavesLeadWalks
leaves_lead_walks w law b f page is leaf xs list = subst
    (λ m. WalksFrom (fields_for w.shape page.head.index) m (page_within page f.low f.high))
    (ap (λ o. map_after (changes (list_of o))) list)
    (walks_find w.shape.indexes (fields_for w.shape) (heights_of w.objects) (maps_of w.lists)
    (pages_of w.shape w.objects) law.objects.pages page.head.index
    page.head.number (page_within page f.low f.high) (is_leaf w law b f page is leaf)
    (λ i. map_after-ascends (changes (list_of (get_elem? w.lists i)))))
