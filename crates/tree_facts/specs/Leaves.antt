-- What the frame of a leaf tells of its index's map.
use Rattle.std.specs.Prelude.{ℕ, ◌≡◌, true}
use mathlib.Core.Option.{some}
use lib.ListN.{get_elem?}
use Rattle.key_tuple.specs.Order.{FieldList}
use Rattle.key_tuple.specs.KeyPlace.{At, within}
use Rattle.map_history.specs.Map.{MapChange, Ascends, slice, value_at, key_of, is_allowed, map_after}
use Rattle.index_page.specs.Page.{PageRows}
use Rattle.tree_law.specs.Pages.{row_pairs}
use Rattle.tree_law.specs.SearchLaws.{WalksFrom}
use Rattle.index_law.specs.State.{Entries, changes}
use Rattle.forest_law.specs.declared.objects.Frame.{Frame}
use Rattle.forest_law.specs.State.{ForestState, fields_for, page_within}
use Rattle.forest_law.specs.Law.{IsLawful}
use Rattle.tree_facts.specs.TreeFrames.{IsTreeFrame, low_of, high_of}

-- the rows of the page are the map's in the frame's bounds: there each key has the map's value, and
-- each change is allowed where the map allows it; and the rows ascend
pub record TellsMap (f : Frame) (page : PageRows) (xs : Entries) : Type 0 where
  pub holds : row_pairs page.rows ≡ slice (low_of f) (high_of f) (map_after (changes xs))
  pub values : (key : FieldList) → within (low_of f) (high_of f) (At key) ≡ true
      → value_at key (row_pairs page.rows) ≡ value_at key (map_after (changes xs))
  pub allows : (c : MapChange) → within (low_of f) (high_of f) (At (key_of c)) ≡ true
      → is_allowed (row_pairs page.rows) c ≡ is_allowed (map_after (changes xs)) c
  pub ascend : Ascends (row_pairs page.rows)

-- so it is with each leaf of the trees, and the list of its index
abbrev pub LeavesTellMaps : Type 0
LeavesTellMaps =
    (w : ForestState) → IsLawful w → (b : ℕ) (f : Frame) (page : PageRows) → IsTreeFrame w b f page
    → page.head.level ≡ 0 → (xs : Entries) → get_elem? w.lists page.head.index ≡ some xs
    → TellsMap f page xs

-- and a walk from a leaf of the trees, over leaves without a row that counts, finds what the map has
abbrev pub LeavesLeadWalks : Type 0
LeavesLeadWalks =
    (w : ForestState) → IsLawful w → (b : ℕ) (f : Frame) (page : PageRows) → IsTreeFrame w b f page
    → page.head.level ≡ 0 → (xs : Entries) → get_elem? w.lists page.head.index ≡ some xs
    → WalksFrom (fields_for w.shape page.head.index) (map_after (changes xs))
    (page_within page f.low f.high)
