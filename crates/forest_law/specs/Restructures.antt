-- Splits, merges, raises and lifts in hand: which frames become what, and which clocks rise.
use Rattle.std.specs.Prelude.{ℕ, suc, ◌≡◌, ◌≢◌, ◌≤◌, ◌+◌, Option, Some, None, List, [], ◌∷◌, ◌++◌, length}
use Rattle.index_page.specs.Loads.{charge_of, load_of}
use Rattle.index_page.specs.Rows.{Row, SameRows}
use Rattle.tree_law.specs.PageBudget.{short_keys}
use Rattle.tree_law.specs.BudgetLaws.{SplitIsDue}
use Rattle.tree_law.specs.Pages.{Page}
use Rattle.tree_law.specs.PageMoves.{TwoHalves, whole_page, left_page, right_page, SplitsPage, MergesPages, TwoStoreys, full_page}
use Rattle.index_law.specs.Shape.{Shape}
use Rattle.forest_law.specs.declared.objects.Object.{Object}
use Rattle.forest_law.specs.Outside.{HasNoneOutside}
use Rattle.forest_law.specs.Steps.{InHand, FrameStep, frame_step, TreeStep, ClockStands, FrameClockRises, MakeSteps}

-- the frames of two halves, of their parent, and of the page after them, where there is one
pub record HandsOfHalves : Type 0 where
  pub left : InHand
  pub right : InHand
  pub up : InHand
  pub beyond : InHand

-- the parent with the pointer to the whole page
abbrev pub up_before : (left right parent : ℕ) → TwoHalves left right parent → Page
up_before left right parent h = record h.up { rows = h.fore ++ h.this ∷ h.aft }

-- the parent with the pointers to both halves
abbrev pub up_after : (left right parent : ℕ) → TwoHalves left right parent → Page
up_after left right parent h = record h.up { rows = h.fore ++ h.this ∷ h.new ∷ h.aft }

-- the step of the page after those that split or merge, where there is one
abbrev pub beyond_steps : Option ℕ → InHand → Page → Option ℕ → Option ℕ → List FrameStep
beyond_steps None hand page q r = []
beyond_steps (Some n) hand page q r =
    frame_step hand n (record page { prev = q }) (record page { prev = r }) ∷ []

-- the steps from a whole page to its halves
abbrev pub split_steps : (left right parent : ℕ) → TwoHalves left right parent → HandsOfHalves
    → List FrameStep
split_steps left right parent h hands =
    frame_step hands.left left (whole_page left right parent h) (left_page left right parent h)
    ∷ frame_step hands.right right h.fresh (right_page left right parent h)
    ∷ frame_step hands.up parent (up_before left right parent h) (up_after left right parent h)
    ∷ beyond_steps h.page.next hands.beyond h.beyond h.whole_prev h.cut_prev

-- the steps from two halves to the whole page
abbrev pub merge_steps : (left right parent : ℕ) → TwoHalves left right parent → HandsOfHalves
    → List FrameStep
merge_steps left right parent h hands =
    frame_step hands.left left (left_page left right parent h) (whole_page left right parent h)
    ∷ frame_step hands.right right (right_page left right parent h) h.fresh
    ∷ frame_step hands.up parent (up_after left right parent h) (up_before left right parent h)
    ∷ beyond_steps h.page.next hands.beyond h.beyond h.cut_prev h.whole_prev

-- a split in hand that is due: rows move from the left page to the right one, so both clocks rise;
-- the parent gets a row, and the page after them another neighbour
pub record SplitsInHand (shape : Shape) (before news : List (Option Object)) : Type 0 where
  pub left : ℕ
  pub right : ℕ
  pub parent : ℕ
  pub split : SplitsPage left right parent
  pub due : SplitIsDue short_keys charge_of left right parent split
  pub hands : HandsOfHalves
  pub make : MakeSteps shape before news (split_steps left right parent split.halves hands) []
  pub left_rises : FrameClockRises hands.left
  pub right_rises : FrameClockRises hands.right
  pub up_stands : ClockStands hands.up
  pub beyond_stands : ClockStands hands.beyond

-- a merge in hand of two pages that are small enough, while no page outside the trees is in hand:
-- rows move back and the parent loses one, so all three clocks rise
pub record MergesInHand (shape : Shape) (before news : List (Option Object)) : Type 0 where
  pub left : ℕ
  pub right : ℕ
  pub parent : ℕ
  pub merge : MergesPages left right parent
  pub small : load_of merge.halves.lower + load_of merge.halves.moved ≤ short_keys.merged
  pub alone : HasNoneOutside shape before
  pub hands : HandsOfHalves
  pub make : MakeSteps shape before news (merge_steps left right parent merge.halves hands) []
  pub left_rises : FrameClockRises hands.left
  pub right_rises : FrameClockRises hands.right
  pub up_rises : FrameClockRises hands.up
  pub beyond_stands : ClockStands hands.beyond

-- the steps of a root that rises
abbrev pub raise_steps : (root under : ℕ) → TwoStoreys root under → (top below : InHand)
    → List FrameStep
raise_steps root under s top below =
    frame_step top root (full_page root s.level s.fields s.rows)
    (full_page root (suc s.level) s.fields (s.pointer ∷ []))
    ∷ frame_step below under s.fresh (full_page root s.level s.fields s.moved)
    ∷ []

-- the steps of a root that sinks
abbrev pub lift_steps : (root under : ℕ) → TwoStoreys root under → (top below : InHand)
    → List FrameStep
lift_steps root under s top below =
    frame_step top root (full_page root (suc s.level) s.fields (s.pointer ∷ []))
    (full_page root s.level s.fields s.rows)
    ∷ frame_step below under (full_page root s.level s.fields s.moved) s.fresh
    ∷ []

-- a root's frame, the one of the page under it, and its tree in hand, by these steps; both clocks
-- rise, since all rows move
pub record MovesRoot (shape : Shape) (before news : List (Option Object)) (root under : ℕ)
    (storeys : TwoStoreys root under)
    (steps : (top below : InHand) → List FrameStep) : Type 0 where
  pub top : InHand
  pub below : InHand
  pub tree : TreeStep
  pub index : tree.index ≡ root
  pub make : MakeSteps shape before news (steps top below) (tree ∷ [])
  pub top_rises : FrameClockRises top
  pub below_rises : FrameClockRises below

-- a raise in hand of a leaf, or of a page whose children aren't one: the tree is one higher
pub record RaisesInHand (shape : Shape) (before news : List (Option Object)) : Type 0 where
  pub root : ℕ
  pub under : ℕ
  pub storeys : TwoStoreys root under
  pub two : storeys.level ≢ 0 → length storeys.rows ≢ 1
  pub moves : MovesRoot shape before news root under storeys (raise_steps root under storeys)
  pub height : moves.tree.new.height ≡ suc moves.tree.old.height

-- a lift in hand, while no page outside the trees is: the tree is one lower
pub record LiftsInHand (shape : Shape) (before news : List (Option Object)) : Type 0 where
  pub root : ℕ
  pub under : ℕ
  pub storeys : TwoStoreys root under
  pub alone : HasNoneOutside shape before
  pub moves : MovesRoot shape before news root under storeys (lift_steps root under storeys)
  pub height : moves.tree.old.height ≡ suc moves.tree.new.height

-- a page in hand whose rows become the same at other places, and whose clock rises
pub record RearrangesInHand (shape : Shape) (before news : List (Option Object)) : Type 0 where
  pub number : ℕ
  pub hand : InHand
  pub page : Page
  pub rows : List Row
  pub same : SameRows page.rows rows
  pub make : MakeSteps shape before news
      (frame_step hand number page (record page { rows = rows }) ∷ []) []
  pub rises : FrameClockRises hand
