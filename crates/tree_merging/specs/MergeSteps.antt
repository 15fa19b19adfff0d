-- A merge of frames in hand, by what was made of each.
use Rattle.std.specs.Prelude.{◌≢◌, ◌≤◌, ◌+◌, false, Option, Some, List, ◌∷◌}
use Rattle.index_page.specs.Loads.{load_of}
use Rattle.tree_law.specs.PageBudget.{short_keys}
use Rattle.index_law.specs.Shape.{Shape}
use Rattle.forest_law.specs.declared.objects.Object.{Object}
use Rattle.forest_law.specs.Outside.{HasNoneOutside}
use Rattle.forest_law.specs.Restructures.{HandsOfHalves, MergesInHand}
use Rattle.tree_restructure.specs.Links.{RelinksNext}
use Rattle.tree_restructure.specs.Parts.{TakesPart, frame_ids, RestBut}
use Rattle.tree_restructure.specs.Splits.{NextTakesPart, next_hands}
use Rattle.tree_merging.specs.FrameMerges.{MergesUnder}

-- the right page was merged into the left one, both being small enough, the parent lost the pointer
-- to it, the page behind names the left one, and all else in hand is at rest; no page outside the
-- trees was in hand
pub record MergesFrames (shape : Shape) (before news : List (Option Object)) : Type 0 where
  pub hands : HandsOfHalves
  pub under : MergesUnder hands.left.old hands.left.new hands.right.old hands.right.new
      hands.up.old hands.up.new
  pub small : load_of under.merge.page.rows + load_of under.merge.other.rows ≤ short_keys.merged
  pub alone : HasNoneOutside shape before
  pub links : RelinksNext under.merge.page.head.number under.merge.other.head.next hands.beyond.old
      hands.beyond.new
  pub left : TakesPart shape before news under.merge.page.head.number false hands.left
  pub right : TakesPart shape before news under.merge.other.head.number false hands.right
  pub up : TakesPart shape before news under.pointer.was.page.head.number false hands.up
  pub beyond : NextTakesPart shape before news under.merge.other.head.next hands.beyond
  pub apart : under.merge.other.head.next ≢ Some under.merge.page.head.number
  pub others : RestBut before news (frame_ids shape
      (hands.left ∷ hands.right ∷ hands.up ∷ next_hands under.merge.other.head.next hands.beyond))

-- frames that were merged so are a merge of the law
abbrev pub MergesAreInHand : Type 0
MergesAreInHand = (shape : Shape) (before news : List (Option Object))
    → MergesFrames shape before news → MergesInHand shape before news
