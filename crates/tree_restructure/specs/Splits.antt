-- A split of frames in hand, by what was made of each.
use Rattle.std.specs.Prelude.{ℕ, ◌≢◌, ◌<◌, ◌+◌, true, false, Option, Some, None, List, [], ◌∷◌}
use Rattle.key_tuple.specs.Order.{FieldList}
use Rattle.index_page.specs.declared.TheConstants.{PAGE_ROOM}
use Rattle.index_page.specs.Loads.{load_of}
use Rattle.index_law.specs.Shape.{Shape}
use Rattle.forest_law.specs.declared.objects.Object.{Object}
use Rattle.forest_law.specs.Steps.{InHand}
use Rattle.forest_law.specs.Restructures.{HandsOfHalves, SplitsInHand}
use Rattle.tree_restructure.specs.Charges.{largest_on}
use Rattle.tree_restructure.specs.FrameCuts.{CutsFrame}
use Rattle.tree_restructure.specs.Pointers.{PutsPointer}
use Rattle.tree_restructure.specs.Links.{RelinksNext}
use Rattle.tree_restructure.specs.Parts.{TakesPart, frame_ids, RestBut}

-- the frame of the page behind takes part, where there is one
abbrev pub NextTakesPart : Shape → List (Option Object) → List (Option Object) → Option ℕ → InHand
    → Type 0
NextTakesPart shape before news None hand = Unit {0}
NextTakesPart shape before news (Some n) hand = TakesPart shape before news n false hand

-- the frame of the page behind, where there is one
abbrev pub next_hands : Option ℕ → InHand → List InHand
next_hands None hand = []
next_hands (Some n) hand = hand ∷ []

-- the left page, which had no room for one row more of the largest charge, was cut into the right
-- one, which was outside the trees; the parent got the pointer to it, the page behind names it, and
-- all else in hand is at rest
pub record SplitsFrames (shape : Shape) (before news : List (Option Object)) : Type 0 where
  pub hands : HandsOfHalves
  pub at : FieldList
  pub cut : CutsFrame hands.left.old hands.left.new hands.right.old hands.right.new at
  pub full : PAGE_ROOM < load_of cut.page.rows + largest_on cut.page.head.level
  pub pointer : PutsPointer cut.page.head.number cut.fresh.head.number hands.up.old hands.up.new at
  pub links : RelinksNext cut.fresh.head.number cut.page.head.next hands.beyond.old hands.beyond.new
  pub left : TakesPart shape before news cut.page.head.number false hands.left
  pub right : TakesPart shape before news cut.fresh.head.number true hands.right
  pub up : TakesPart shape before news pointer.page.head.number false hands.up
  pub beyond : NextTakesPart shape before news cut.page.head.next hands.beyond
  pub apart : cut.page.head.next ≢ Some cut.fresh.head.number
  pub others : RestBut before news (frame_ids shape
      (hands.left ∷ hands.right ∷ hands.up ∷ next_hands cut.page.head.next hands.beyond))

-- frames that were split so are a split of the law
abbrev pub SplitsAreInHand : Type 0
SplitsAreInHand = (shape : Shape) (before news : List (Option Object))
    → SplitsFrames shape before news → SplitsInHand shape before news
