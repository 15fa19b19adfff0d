-- What the calls on a block's frame do.
use Rattle.std.specs.Prelude.{ℕ, ◌≡◌, ◌+◌, List, [], Some}
use Rattle.latch_law.specs.declared.knows.Refusal.{Refusal}
use Rattle.latch_law.specs.Fitting.{AreTriesOf, WasHeld}
use Rattle.latch_law.specs.Rule.{Holds}
use Rattle.latch_law.specs.Views.{holding, with_held, with_refused, refusing, releasing}
use Rattle.latch_space.specs.declared.taking.Take.{Take}
use Rattle.latch_space.specs.declared.taking.Take.TheVariants.{Taken, Busy}
use Rattle.latch_space.specs.Has.{SameHands}
use Rattle.latch_space.specs.Passes.{view, count}
use Rattle.forest_law.specs.declared.objects.Frame.{Frame}
use Rattle.forest_law.specs.declared.objects.Object.{Object}
use Rattle.forest_law.specs.declared.objects.Object.TheVariants as object
use Rattle.forest_law.specs.Law.{IsLawful}
use Rattle.forest_law.specs.Numbers.{frame_id}
use Rattle.index_law.specs.Rightness.{IsRight}
use Rattle.forest_law.specs.References.{IsReference}
use Rattle.forest_world.specs.Held.{TreePass, shape_of_pass, HasFrame}
use Rattle.buffer_pool.specs.Forests.{WasFrame}
use Rattle.buffer_pool.specs.Hands.{LacksFrame, HasOut, KeepsBeside, KeepsRest, KeepsRestBut}

-- the block's frame was taken after some refused tries of it, and is held as it was then
pub record TakesFrame (p : TreePass) (b : ℕ) (q : TreePass) : Type 0 where
  pub frame : Frame
  pub refused : List (Refusal Object)
  pub tries : AreTriesOf (view p) (frame_id (shape_of_pass p) b) refused
  pub was : WasFrame (with_refused (view p) refused) b frame
  pub view : view q
      ≡ with_held (with_refused (view p) refused) (frame_id (shape_of_pass p) b)
      (Some (holding (object.Frame frame) (object.Frame frame)))
  pub has : HasFrame q b frame frame
  pub hand : KeepsBeside p q b
  pub rest : KeepsRest p q
  pub count : count q ≡ count p + 1

-- the pass n, another one, held the block's frame: one refused try more, and nothing else
pub record RefusesFrame (p : TreePass) (b n : ℕ) (q : TreePass) : Type 0 where
  pub was_held : WasHeld IsLawful IsRight IsReference (view p)
      (frame_id (shape_of_pass p) b) n
  pub view : view q ≡ refusing (view p) (frame_id (shape_of_pass p) b) n
  pub same : SameHands p q

-- what the answer of a try tells: the frame was taken with no refused try, or it is another's
abbrev pub TellsFrame : TreePass → ℕ → Take → TreePass → Type 0
TellsFrame p b Taken q = (took : TakesFrame p b q) × (took.refused ≡ [])
TellsFrame p b (Busy n) q = RefusesFrame p b n q

-- the block's frame went out as it was known, and a reference to it was kept
pub record GivesFrame (p : TreePass) (b : ℕ) (q : TreePass) : Type 0 where
  pub taken : Object
  pub frame : Frame
  pub held : Holds (view p) (frame_id (shape_of_pass p) b) (holding taken (object.Frame frame))
  pub view : view q
      ≡ releasing (view p) (frame_id (shape_of_pass p) b) (holding taken (object.Frame frame))
  pub lacks : LacksFrame q b
  pub hand : KeepsBeside p q b
  pub rest : KeepsRest p q
  pub count : count q + 1 ≡ count p

-- the block's frame was taken out of its place in hand, and all else is as it was
pub record TakesOut (p : TreePass) (b : ℕ) (frame : Frame) (q : TreePass) : Type 0 where
  pub out : (f g : Frame) → HasFrame p b f g → HasOut q b f × (frame ≡ g)
  pub hand : KeepsBeside p q b
  pub rest : KeepsRestBut p q (frame_id (shape_of_pass p) b)
  pub view : view q ≡ view p
  pub count : count q ≡ count p

-- a frame was put there, and all else is as it was
pub record PutsBack (p : TreePass) (b : ℕ) (frame : Frame) (q : TreePass) : Type 0 where
  pub has : (f : Frame) → HasOut p b f → HasFrame q b f frame
  pub hand : KeepsBeside p q b
  pub rest : KeepsRestBut p q (frame_id (shape_of_pass p) b)
  pub view : view q ≡ view p
  pub count : count q ≡ count p
