use Rattle.std.proofs.Common.{ap, refl, ◌∙◌, set, Some}
use lib.ListN.{get_elem?}
use Rattle.latch_space.specs.Hands.{has_value, is_held}
use Rattle.latch_space.specs.Passes.{view, values}
use Rattle.forest_law.specs.declared.objects.Object.TheVariants as object
use Rattle.buffer_pool.proofs.FrameLemmas.{puts_back}
use Rattle.buffer_pool.proofs.SpaceLemmas.{objects_of, known_below}
use Rattle.buffer_pool.proofs.hands.frame_back.Goals as goal

pub frame_number-number-requires-clause-there : goal.frame_number-number-requires-clause-there
frame_number-number-requires-clause-there c = let h = c.requires.out in
    known_below c.args.pass.now c.args.block h.1.held.0 (object.Frame h.0) h.1.held.1
    (objects_of c.args.space.now c.args.pass.now c.requires.own.0 c.requires.own.1)

pub put_back-requires-clause-held : goal.put_back-requires-clause-held
put_back-requires-clause-held c =
    ap (λ k. is_held (view c.args.pass.now).held k) c.frame_number-number.ensures
    ∙ ap has_value c.requires.out.1.held.1

pub put_back-requires-clause-out : goal.put_back-requires-clause-out
put_back-requires-clause-out c =
    ap (get_elem? (values c.args.pass.now)) c.frame_number-number.ensures ∙ c.requires.out.1.out

pub returns-clause-back : goal.returns-clause-back
returns-clause-back c = let p = c.args.pass.now in
    puts_back p c.put_back.new.self c.args.block c.put_back.ensures.seat
    (Some (object.Frame c.args.frame))
    (c.put_back.ensures.values
    ∙ ap (λ k. set (values p) k (Some (object.Frame c.args.frame))) c.frame_number-number.ensures)
    c.args.frame refl
