-- What a pass has in hand of the trees, and which steps it makes there.
use Rattle.std.specs.Prelude.{ℕ, ◌≡◌, ◌≢◌, ◌<◌, List, [], ◌∷◌, ◌++◌, map}
use Rattle.std.specs.List.{AllByRecursion}
use Rattle.latch_law.specs.declared.knows.Holding.{Holding}
use Rattle.latch_law.specs.Rule.{Holds}
use Rattle.latch_space.specs.declared.pass.PassOf.{PassOf}
use Rattle.latch_space.specs.Has.{Has}
use Rattle.latch_space.specs.Passes.{view, Lacks, Shows}
use Rattle.tree_law.specs.Pages.{IsOrderly}
use Rattle.hash_partition.specs.Part.{Part}
use Rattle.index_law.specs.Answers.{MadeChange, Saying}
use Rattle.index_law.specs.Shape.{Shape}
use Rattle.forest_law.specs.declared.objects.Frame.{Frame}
use Rattle.forest_law.specs.declared.objects.Pool.{Pool}
use Rattle.forest_law.specs.declared.objects.Tree.{Tree}
use Rattle.forest_law.specs.declared.objects.Object.{Object}
use Rattle.forest_law.specs.declared.objects.Object.TheVariants as object
use Rattle.forest_law.specs.Numbers.{pool_id, tree_id, part_id, frame_id, frames_of}
use Rattle.forest_law.specs.State.{fields_for}
use Rattle.forest_law.specs.Counted.{CountsStay}
use Rattle.forest_law.specs.Turns.{HasPage}
use Rattle.forest_law.specs.Placed.{KeepsPlace}
use Rattle.forest_law.specs.Steps.{InHand, FrameStep, TreeStep, Rests}

-- a pass of the trees' space
abbrev pub TreePass : Type 0
TreePass = PassOf Shape Object MadeChange Saying

-- the shape of its space
abbrev pub shape_of_pass : TreePass → Shape
shape_of_pass p = (view p).terms.shape

-- it holds the block's frame, which is known to be f and now is g
abbrev pub HasFrame : TreePass → ℕ → Frame → Frame → Type 0
HasFrame p b f g = Has p (frame_id (shape_of_pass p) b) (object.Frame f) (object.Frame g)

-- it holds the block's frame
abbrev pub HoldsFrame : TreePass → ℕ → Type 0
HoldsFrame p b = (f : Frame) × (g : Frame) × HasFrame p b f g

-- it holds the index's tree, which is known to be t and now is u
abbrev pub HasTree : TreePass → ℕ → Tree → Tree → Type 0
HasTree p i t u = Has p (tree_id i) (object.Tree t) (object.Tree u)

-- it holds partition k, which is known to be x and now is y
abbrev pub HasPart : TreePass → ℕ → Part → Part → Type 0
HasPart p k x y = Has p (part_id (shape_of_pass p) k) (object.Part x) (object.Part y)

-- it holds partition k
abbrev pub HoldsPart : TreePass → ℕ → Type 0
HoldsPart p k = (x : Part) × (y : Part) × HasPart p k x y

-- it holds the pool, which is known to be x and now is y
abbrev pub HasPool : TreePass → Pool → Pool → Type 0
HasPool p x y = Has p pool_id (object.Pool x) (object.Pool y)

-- it holds no frame but that of the block
abbrev pub HoldsNoOther : TreePass → ℕ → Type 0
HoldsNoOther p b = (c : ℕ) → c < frames_of (shape_of_pass p) → c ≢ b
    → Lacks p (frame_id (shape_of_pass p) c)

-- each object that it holds, but for some, is at rest: it is there, and plays no part
abbrev pub RestsBeyond : TreePass → List ℕ → Type 0
RestsBeyond p ks = (j : ℕ) (h : Holding Object) → AllByRecursion (λ (k : ℕ). j ≢ k) ks
    → Holds (view p) j h → (x : Object) × Shows p j x × Rests h.known x

-- each object that it holds, but for some, is what it is known to be
abbrev pub IsKnownBeyond : TreePass → List ℕ → Type 0
IsKnownBeyond p ks = (j : ℕ) (h : Holding Object) → AllByRecursion (λ (k : ℕ). j ≢ k) ks
    → Holds (view p) j h → Shows p j h.known

-- a frame in hand makes a step: its page has the same number and is in order
pub record HandStep (p : TreePass) (s : FrameStep) : Type 0 where
  pub in_hand : HasFrame p s.hand.block s.hand.old s.hand.new
  pub had : HasPage s.hand.old s.number s.was
  pub has : HasPage s.hand.new s.number s.is
  pub order : IsOrderly (fields_for (shape_of_pass p)) s.is

-- a tree in hand makes a step, and stays that of its index
pub record HandTree (p : TreePass) (t : TreeStep) : Type 0 where
  pub in_hand : HasTree p t.index t.old t.new
  pub index : t.new.index ≡ t.old.index
  pub root : t.new.root ≡ t.old.root

-- the numbers of the frames and trees that make steps
abbrev pub ids_of : Shape → List FrameStep → List TreeStep → List ℕ
ids_of shape frames trees = map (λ (s : FrameStep). frame_id shape s.hand.block) frames
    ++ map (λ (t : TreeStep). tree_id t.index) trees

-- these frames and trees in hand make steps, and all else that is held is at rest
pub record HandSteps (p : TreePass) (frames : List FrameStep) (trees : List TreeStep) : Type 0 where
  pub each : AllByRecursion (HandStep p) frames
  pub tops : AllByRecursion (HandTree p) trees
  pub others : RestsBeyond p (ids_of (shape_of_pass p) frames trees)

-- the pool and a frame are in hand; the pool, whose ages and tick may change, keeps the place and
-- the image of each page but that of the number, and all else that is held is at rest
pub record HandPool (p : TreePass) (number : ℕ) (old new : Pool) (hand : InHand) : Type 0 where
  pub pool : HasPool p old new
  pub frame : HasFrame p hand.block hand.old hand.new
  pub counted : CountsStay old new
  pub elsewhere : (n : ℕ) → n ≢ number → KeepsPlace old new n
  pub others : RestsBeyond p (pool_id ∷ frame_id (shape_of_pass p) hand.block ∷ [])
