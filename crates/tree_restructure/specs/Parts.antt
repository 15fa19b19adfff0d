-- Frames in hand that take part in a step.
use Rattle.std.specs.Prelude.{ℕ, ◌≡◌, ◌≢◌, Bool, Option, Some, List, map}
use Rattle.std.specs.List.{AllByRecursion}
use Rattle.tree_law.specs.Pages.{Page, is_own, IsOrderly}
use Rattle.index_law.specs.Shape.{Shape}
use Rattle.forest_law.specs.declared.objects.Object.{Object}
use Rattle.forest_law.specs.declared.objects.Object.TheVariants as object
use Rattle.forest_law.specs.Numbers.{frame_id}
use Rattle.forest_law.specs.State.{page_in, fields_for}
use Rattle.forest_law.specs.Objects.{Becomes}
use Rattle.forest_law.specs.Steps.{InHand, Rests}

-- the frame of the page with this number is in hand, and before the step its page is in order by
-- itself, outside the trees or in them
pub record TakesPart (shape : Shape) (before news : List (Option Object)) (n : ℕ) (outside : Bool)
    (hand : InHand) : Type 0 where
  pub becomes : Becomes before news (frame_id shape hand.block) (object.Frame hand.old)
      (object.Frame hand.new)
  pub order : (page : Page) → page_in hand.old ≡ Some page → IsOrderly (fields_for shape) page
  pub tree : (page : Page) → page_in hand.old ≡ Some page → is_own n page.prev ≡ outside

-- the numbers of the frames in hand
abbrev pub frame_ids : Shape → List InHand → List ℕ
frame_ids shape hands = map (λ (h : InHand). frame_id shape h.block) hands

-- each object in hand is at rest but for those of these numbers
abbrev pub RestBut : List (Option Object) → List (Option Object) → List ℕ → Type 0
RestBut before news ks = (k : ℕ) (x y : Object) → Becomes before news k x y
    → AllByRecursion (λ (j : ℕ). k ≢ j) ks → Rests x y
