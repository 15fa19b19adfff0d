-- What a pass ends as, once a `&mut` to a frame in hand has ended.
use Rattle.std.specs.Prelude.{ℕ, ◌≡◌, Option}
use Rattle.std.specs.Borrow.{LendsSo, LendsIf, MutBor, Fml, RattleType}
use Rattle.latch_space.specs.contracts.fitted.Pass as pass
use Rattle.latch_space.specs.Passes.{count}
use Rattle.index_law.specs.contracts.marker.AsMadeChange as change
use Rattle.index_law.specs.contracts.marker.AsSaying as saying
use Rattle.forest_law.specs.contracts.layout.ForestLayout as layout
use Rattle.forest_law.specs.contracts.objects.Frame as frame
use Rattle.forest_law.specs.contracts.objects.Object as object
use Rattle.forest_law.specs.declared.objects.Frame.{Frame}
use Rattle.forest_law.specs.declared.objects.Object.{Object}
use Rattle.forest_law.specs.declared.objects.Object.TheVariants as kind
use Rattle.forest_law.specs.Numbers.{frame_id}
use Rattle.forest_world.specs.contracts.world.ForestWorld as world
use Rattle.forest_world.specs.contracts.world.ForestWorldWorld.TheImpl as law
use Rattle.forest_world.specs.Held.{TreePass, shape_of_pass, HasFrame}
use Rattle.buffer_pool.specs.Hands.{KeepsBeside, KeepsRestBut}

-- the block's frame in hand has become this one, and all else is as it was
pub record ChangesFrame (p : TreePass) (b : ℕ) (q : TreePass) (frame : Frame) : Type 0 where
  pub has : (f g : Frame) → HasFrame p b f g → HasFrame q b f frame
  pub hand : KeepsBeside p q b
  pub rest : KeepsRestBut p q (frame_id (shape_of_pass p) b)
  pub seat : q.seat ≡ p.seat
  pub count : count q ≡ count p

-- a pass of the trees' space, as the logic holds it
abbrev pub pass_row : RattleType
pass_row =
    pass.the_row world.the_row layout.the_row object.the_row change.the_row saying.the_row
    law.ghosts

-- r lends the block's frame in the hand of the pass p, which ends with the last frame written
abbrev pub LendsFrame : MutBor TreePass → ℕ → Option (MutBor Frame) → Fml
LendsFrame p b r = LendsSo pass_row frame.the_row p r (ChangesFrame p.now b) (λ _. Unit {0})

-- r lends the frame that an object is
abbrev pub LendsWithin : MutBor Object → Option (MutBor Frame) → Fml
LendsWithin s r = LendsIf object.the_row frame.the_row s r kind.Frame s.now
