use Rattle.std.proofs.Common.{sym, subst}
use Rattle.latch_law.specs.declared.knows.Holding.{Holding}
use Rattle.latch_law.specs.Rule.{Holds}
use Rattle.latch_law.specs.Views.{holding}
use Rattle.latch_space.specs.Has.{DidRelease}
use Rattle.latch_space.specs.Passes.{view, Shows}
use Rattle.forest_law.specs.declared.objects.Object.{Object}
use Rattle.forest_law.specs.declared.objects.Object.TheVariants as object
use Rattle.forest_law.specs.Numbers.{frame_id}
use Rattle.forest_world.specs.Held.{shape_of_pass}
use Rattle.buffer_pool.proofs.FrameLemmas.{gives_frame}
use Rattle.buffer_pool.proofs.SpaceLemmas.{objects_of, held_below, may_release}
use Rattle.buffer_pool.proofs.frames.give_back.Goals as goal

pub frame_number-number-requires-clause-there : goal.frame_number-number-requires-clause-there
frame_number-number-requires-clause-there c = let h = c.requires.held in
    held_below c.args.pass.now c.args.block (object.Frame h.0) (object.Frame h.0) h.1
    (objects_of c.args.space.now c.args.pass.now c.requires.own.0 c.requires.own.1)

pub release-requires-clause-known : goal.release-requires-clause-known
release-requires-clause-known c = let p = c.args.pass.now in let h = c.requires.held in
    subst (λ k. (x : Holding Object) × Holds (view p) k x × Shows p k x.known)
    (sym c.frame_number-number.ensures)
    (holding h.1.held.0 (object.Frame h.0), h.1.held.1, h.1.value)

pub release-requires-clause-rule : goal.release-requires-clause-rule
release-requires-clause-rule c = let p = c.args.pass.now in let h = c.requires.held in
    may_release (view p) (frame_id (shape_of_pass p) c.args.block) c.frame_number-number.result
    (holding h.1.held.0 (object.Frame h.0)) c.frame_number-number.ensures h.1.held.1 h.2

pub returns-clause-gave : goal.returns-clause-gave
returns-clause-gave c = let h = c.requires.held in
    gives_frame c.args.pass.now c.release.new.pass c.args.block h.0 h.1
    (subst (λ k. DidRelease c.args.pass.now k c.release.new.pass) c.frame_number-number.ensures
    c.release.ensures.did)
