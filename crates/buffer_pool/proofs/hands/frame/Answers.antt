use Rattle.std.proofs.Common.{sym, subst, ◌∙◌}
use Rattle.latch_space.specs.Passes.{Shows}
use Rattle.forest_law.specs.declared.objects.Object.{Object}
use Rattle.forest_law.specs.declared.objects.Object.TheVariants as object
use Rattle.forest_law.proofs.ObjectLemmas.{same_frame}
use Rattle.forest_world.specs.Held.{shape_of_pass}
use Rattle.forest_law.specs.Numbers.{frame_id}
use Rattle.buffer_pool.proofs.FrameLemmas.{one_shown}
use Rattle.buffer_pool.proofs.SpaceLemmas.{objects_of, held_below}
use Rattle.buffer_pool.proofs.hands.frame.Goals as goal

pub frame_number-requires-clause-there : goal.frame_number-requires-clause-there
frame_number-requires-clause-there c = let h = c.requires.held in
    held_below c.args.pass.now c.args.block (object.Frame h.0) (object.Frame h.1) h.2
    (objects_of c.args.space.now c.args.pass.now c.requires.own.0 c.requires.own.1)

pub look-requires : goal.look-requires
look-requires c = let h = c.requires.held in
    subst (λ k. (x : Object) × Shows c.args.pass.now k x) (sym c.frame_number.ensures)
    (object.Frame h.1, h.2.value)

pub as_frame-requires : goal.as_frame-requires
as_frame-requires c = let h = c.requires.held in let p = c.args.pass.now in (
  h.1,
  one_shown p (frame_id (shape_of_pass p) c.args.block) c.look.result.now (object.Frame h.1)
      (subst (λ k. Shows p k c.look.result.now) c.frame_number.ensures c.look.ensures) h.2.value,
)

pub returns : goal.returns
returns c = λ f g has. let p = c.args.pass.now in
    same_frame c.as_frame.result.now g
    (sym c.as_frame.ensures
    ∙ one_shown p (frame_id (shape_of_pass p) c.args.block) c.look.result.now (object.Frame g)
    (subst (λ k. Shows p k c.look.result.now) c.frame_number.ensures c.look.ensures) has.value)
