use Rattle.std.proofs.Common.{◌∙◌, ◌<◌, ◌^◌, sym, subst}
use Rattle.std.proofs.lemmas.Result.{on_ok_weaker}
use Rattle.latch_space.specs.Passes.{view}
use Rattle.forest_world.specs.Held.{shape_of_pass}
use Rattle.buffer_pool.proofs.CallLemmas.{frame_has}
use Rattle.latch_law.specs.declared.knows.Terms.{Terms}
use Rattle.index_law.specs.Shape.{Shape}
use Rattle.buffer_pool.proofs.AgainLemmas.{passes_both}
use Rattle.tree_smo.proofs.HashedLemmas.{plan_beside, frame_beside, nothing_held, makes_hashed, either_way, on_error, part_known}
use Rattle.tree_smo.proofs.HeldLemmas.{IsThere, part_there, held_silently, holds_for}
use Rattle.tree_smo.proofs.PartHeldLemmas.{suits}
use Rattle.tree_smo.proofs.splitting.split_hashed.Goals as goal

pub frame-requires-clause-held : goal.frame-requires-clause-held
frame-requires-clause-held g c = let can = c.requires.held.can in
    (can.low, can.low, frame_has c.args.pass.now c.requires.known c.args.plan.child can.low can.knows_low)

pub make_split-made-requires-clause-held : goal.make_split-made-requires-clause-held
make_split-made-requires-clause-held g c = let p = c.args.pass.now in let m = c.hold_part_for-part.new.pass in
    let part = c.hold_part_for-part.result in
    let there = subst (IsThere (shape_of_pass p)) (sym c.hold_part_for-part.ensures.named)
    (part_there (shape_of_pass p) c.frame.result.now.hashed (suits p c.fits.ensures).parts) in
    plan_beside p m part c.requires.known c.hold_part_for-part.ensures.held there c.args.plan c.requires.held

pub make_split-made-requires-clause-blank : goal.make_split-made-requires-clause-blank
make_split-made-requires-clause-blank g c = let p = c.args.pass.now in let m = c.hold_part_for-part.new.pass in
    let part = c.hold_part_for-part.result in
    let there = subst (IsThere (shape_of_pass p)) (sym c.hold_part_for-part.ensures.named)
    (part_there (shape_of_pass p) c.frame.result.now.hashed (suits p c.fits.ensures).parts) in
    let blank = c.requires.blank in (
      blank.0,
      frame_beside p m part c.requires.known c.hold_part_for-part.ensures.held there c.args.right
          blank.0 blank.1,
      blank.2,
      blank.3,
    )

pub make_split-made-requires-clause-known : goal.make_split-made-requires-clause-known
make_split-made-requires-clause-known g c = (held_silently c.args.pass.now c.hold_part_for-part.new.pass
    c.requires.known c.hold_part_for-part.result c.hold_part_for-part.ensures.held).does.known

pub make_split-made-requires-clause-part : goal.make_split-made-requires-clause-part
make_split-made-requires-clause-part g c = let p = c.args.pass.now in let m = c.hold_part_for-part.new.pass in
    let part = c.hold_part_for-part.result in (
      part,
      holds_for p m c.requires.known part c.args.plan.child c.frame.result.now (suits p c.fits.ensures).parts
          c.frame.ensures c.hold_part_for-part.ensures.named c.hold_part_for-part.ensures.held,
    )

pub give_part_if-requires-clause-known : goal.give_part_if-requires-clause-known
give_part_if-requires-clause-known g c = let p = c.args.pass.now in let m = c.hold_part_for-part.new.pass in
    let part = c.hold_part_for-part.result in
    let holds = holds_for p m c.requires.known part c.args.plan.child c.frame.result.now (suits p c.fits.ensures).parts
    c.frame.ensures c.hold_part_for-part.ensures.named c.hold_part_for-part.ensures.held in
    either_way c.make_split-made.result c.make_split-made.ensures.ok c.make_split-made.ensures.err
    (λ makes. (makes part holds).silently.does.known) (λ same. same.known)

pub give_part_if-requires-clause-held : goal.give_part_if-requires-clause-held
give_part_if-requires-clause-held g c = let p = c.args.pass.now in let m = c.hold_part_for-part.new.pass in
    let part = c.hold_part_for-part.result in
    let holds = holds_for p m c.requires.known part c.args.plan.child c.frame.result.now (suits p c.fits.ensures).parts
    c.frame.ensures c.hold_part_for-part.ensures.named c.hold_part_for-part.ensures.held in
    either_way c.make_split-made.result c.make_split-made.ensures.ok c.make_split-made.ensures.err
    (λ makes. (makes part holds).still)
    (λ same. part_known (view m) (view c.make_split-made.new.pass) part same.same_view holds.held)

pub returns-clause-ok : goal.returns-clause-ok
returns-clause-ok g c = let p = c.args.pass.now in let m = c.hold_part_for-part.new.pass in
    let part = c.hold_part_for-part.result in
    let there = subst (IsThere (shape_of_pass p)) (sym c.hold_part_for-part.ensures.named)
    (part_there (shape_of_pass p) c.frame.result.now.hashed (suits p c.fits.ensures).parts) in
    let holds = holds_for p m c.requires.known part c.args.plan.child c.frame.result.now (suits p c.fits.ensures).parts
    c.frame.ensures c.hold_part_for-part.ensures.named c.hold_part_for-part.ensures.held in
    on_ok_weaker c.make_split-made.result (λ makes. makes_hashed p m part c.requires.known
    c.hold_part_for-part.ensures.held there c.make_split-made.new.pass c.give_part_if.new.pass
    c.give_part_if.ensures.gave c.requires.parts c.args.plan c.args.right (makes part holds)) c.make_split-made.ensures.ok

pub returns-clause-err : goal.returns-clause-err
returns-clause-err g c = let p = c.args.pass.now in let m = c.hold_part_for-part.new.pass in
    let part = c.hold_part_for-part.result in
    let there = subst (IsThere (shape_of_pass p)) (sym c.hold_part_for-part.ensures.named)
    (part_there (shape_of_pass p) c.frame.result.now.hashed (suits p c.fits.ensures).parts) in
    on_error c.make_split-made.result (λ same. nothing_held p m part c.requires.known
    c.hold_part_for-part.ensures.held there c.make_split-made.new.pass c.give_part_if.new.pass
    c.give_part_if.ensures.gave c.requires.parts same) c.make_split-made.ensures.err

pub make_split-made-requires-clause-few : goal.make_split-made-requires-clause-few
make_split-made-requires-clause-few g c = subst (λ (t : Terms Shape). t.shape.pages < 2 ^ 32)
    (c.requires.own.1.1 ∙ sym c.hold_part_for-part.ensures.own.1.1) c.requires.few

pub returns-clause-own : goal.returns-clause-own
returns-clause-own g c = let p = c.args.pass.now in let m = c.hold_part_for-part.new.pass in
    let q = c.make_split-made.new.pass in let r = c.give_part_if.new.pass in (
      passes_both p m r c.hold_part_for-part.ensures.own.0
          (passes_both m q r c.make_split-made.ensures.own.0 c.give_part_if.ensures.own.0),
      c.give_part_if.ensures.own.1,
    )
