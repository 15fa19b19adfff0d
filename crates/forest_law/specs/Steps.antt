-- Steps of a holder: what the frames and trees in hand become, and what is at rest.
use Rattle.std.specs.Prelude.{ℕ, ◌≡◌, ◌≢◌, ◌≤◌, ◌⊎◌, Option, List}
use Rattle.std.specs.List.{AllByRecursion}
use Rattle.clock_law.specs.ModifyClock.{PageStays, ClockRises}
use Rattle.tree_law.specs.Pages.{Page, IsOrderly}
use Rattle.index_law.specs.Shape.{Shape}
use Rattle.forest_law.specs.declared.objects.Frame.{Frame}
use Rattle.forest_law.specs.declared.objects.Tree.{Tree}
use Rattle.forest_law.specs.declared.objects.Object.{Object}
use Rattle.forest_law.specs.declared.objects.Object.TheVariants as object
use Rattle.forest_law.specs.Numbers.{tree_id, frame_id}
use Rattle.forest_law.specs.State.{fields_for}
use Rattle.forest_law.specs.Objects.{Becomes}
use Rattle.forest_law.specs.Turns.{HasPage}
use Rattle.forest_law.specs.Placed.{PoolRests}

-- a frame at rest: it has the page that it had, in the same bounds, and its clock doesn't fall;
-- what is kept for the hash may change
pub record FrameRests (x y : Frame) : Type 0 where
  pub page : y.page ≡ x.page
  pub low : y.low ≡ x.low
  pub high : y.high ≡ x.high
  pub clock : x.clock ≤ y.clock

-- an object that plays no part in the pages: a frame or the pool at rest, any partition, or a tree as
-- it was
abbrev pub Rests : Object → Object → Type 0
Rests (object.Frame x) (object.Frame y) = FrameRests x y
Rests (object.Part x) (object.Part y) = Unit {0}
Rests (object.Pool x) (object.Pool y) = PoolRests x y
Rests (object.Tree x) (object.Tree y) = y ≡ x
Rests x y = ⊥

-- a block's frame in hand, as it was and as it is
pub record InHand : Type 0 where
  pub block : ℕ
  pub old : Frame
  pub new : Frame

-- a frame in hand whose page becomes another one of the same number
pub record FrameStep : Type 0 where
  pub hand : InHand
  pub number : ℕ
  pub was : Page
  pub is : Page

-- such a step with its parts
abbrev pub frame_step : InHand → ℕ → Page → Page → FrameStep
frame_step hand n was is = record { hand = hand; number = n; was = was; is = is }

-- an index's tree in hand, as it was and as it is
pub record TreeStep : Type 0 where
  pub index : ℕ
  pub old : Tree
  pub new : Tree

-- the frame's clock doesn't fall
abbrev pub ClockStands : InHand → Type 0
ClockStands hand = hand.old.clock ≤ hand.new.clock

-- the frame's clock rises
abbrev pub FrameClockRises : InHand → Type 0
FrameClockRises hand = ClockRises hand.old.clock hand.new.clock

-- the frame's clock suits the step: it rises, or it doesn't fall and each key keeps its place
abbrev pub ClockSuits : FrameStep → Type 0
ClockSuits s = FrameClockRises s.hand
    ⊎ (ClockStands s.hand
    × PageStays (record { number = s.number; page = s.was })
    (record { number = s.number; page = s.is }))

-- the frame is held and makes this step, and the page that it has then is in order
pub record MakesFrameStep (shape : Shape) (before news : List (Option Object))
    (s : FrameStep) : Type 0 where
  pub becomes : Becomes before news (frame_id shape s.hand.block) (object.Frame s.hand.old)
      (object.Frame s.hand.new)
  pub had : HasPage s.hand.old s.number s.was
  pub has : HasPage s.hand.new s.number s.is
  pub order : IsOrderly (fields_for shape) s.is

-- the tree is held, makes this step, and stays that of its index
pub record MakesTreeStep (before news : List (Option Object)) (t : TreeStep) : Type 0 where
  pub becomes : Becomes before news (tree_id t.index) (object.Tree t.old) (object.Tree t.new)
  pub index : t.new.index ≡ t.old.index
  pub root : t.new.root ≡ t.old.root

-- the number is that of none of these frames
abbrev pub IsNoFrameOf : Shape → ℕ → List FrameStep → Type 0
IsNoFrameOf shape k frames =
    AllByRecursion (λ (s : FrameStep). k ≢ frame_id shape s.hand.block) frames

-- the number is that of none of these trees
abbrev pub IsNoTreeOf : ℕ → List TreeStep → Type 0
IsNoTreeOf k trees = AllByRecursion (λ (t : TreeStep). k ≢ tree_id t.index) trees

-- these frames and trees alone make steps, and all else in hand is at rest
pub record MakeSteps (shape : Shape) (before news : List (Option Object))
    (frames : List FrameStep) (trees : List TreeStep) : Type 0 where
  pub each : AllByRecursion (MakesFrameStep shape before news) frames
  pub tops : AllByRecursion (MakesTreeStep before news) trees
  pub others : (k : ℕ) (x y : Object) → Becomes before news k x y → IsNoFrameOf shape k frames
      → IsNoTreeOf k trees → Rests x y
