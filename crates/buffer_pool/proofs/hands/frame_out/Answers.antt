use Rattle.std.proofs.Common.{sym, subst, ap, refl, ◌∙◌, set, None}
use Rattle.latch_space.specs.Passes.{Shows, values}
use Rattle.forest_law.specs.declared.objects.Object.{Object}
use Rattle.forest_law.specs.declared.objects.Object.TheVariants as object
use Rattle.forest_world.specs.Held.{shape_of_pass}
use Rattle.forest_law.specs.Numbers.{frame_id}
use Rattle.buffer_pool.proofs.FrameLemmas.{one_shown, takes_out}
use Rattle.buffer_pool.proofs.SpaceLemmas.{objects_of, held_below}
use Rattle.buffer_pool.proofs.hands.frame_out.Goals as goal

pub frame_number-number-requires-clause-there : goal.frame_number-number-requires-clause-there
frame_number-number-requires-clause-there c = let h = c.requires.held in
    held_below c.args.pass.now c.args.block (object.Frame h.0) (object.Frame h.1) h.2
    (objects_of c.args.space.now c.args.pass.now c.requires.own.0 c.requires.own.1)

pub take_out-requires : goal.take_out-requires
take_out-requires c = let h = c.requires.held in
    subst (λ k. (x : Object) × Shows c.args.pass.now k x) (sym c.frame_number-number.ensures)
    (object.Frame h.1, h.2.value)

pub into_frame-requires : goal.into_frame-requires
into_frame-requires c = let h = c.requires.held in let p = c.args.pass.now in (
  h.1,
  one_shown p (frame_id (shape_of_pass p) c.args.block) c.take_out.result (object.Frame h.1)
      (subst (λ k. Shows p k c.take_out.result) c.frame_number-number.ensures
      c.take_out.ensures.value) h.2.value,
)

pub returns-clause-out : goal.returns-clause-out
returns-clause-out c = let p = c.args.pass.now in let number = c.frame_number-number.ensures in
    takes_out p c.take_out.new.self c.args.block c.take_out.ensures.seat None
    (c.take_out.ensures.values ∙ ap (λ k. set (values p) k None) number) c.into_frame.result refl
    (subst (Shows p (frame_id (shape_of_pass p) c.args.block)) c.into_frame.ensures
    (subst (λ k. Shows p k c.take_out.result) number c.take_out.ensures.value))
