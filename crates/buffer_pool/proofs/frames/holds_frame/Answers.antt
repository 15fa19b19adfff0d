use Rattle.std.proofs.Common.{sym, ap, ◌∙◌, arith}
use Rattle.latch_space.specs.Hands.{is_held}
use Rattle.latch_space.specs.Passes.{view}
use Rattle.forest_law.specs.Numbers.{frame_id}
use Rattle.forest_world.specs.Held.{shape_of_pass}
use Rattle.buffer_pool.proofs.SpaceLemmas.{objects_of}
use Rattle.buffer_pool.proofs.VictimLemmas.{unheld_lacks, held_not_lacked}
use Rattle.buffer_pool.proofs.frames.holds_frame.Goals as goal

pub returns-clause-lacks : goal.returns-clause-lacks
returns-clause-lacks c = λ no. let p = c.args.pass.now in
    let k = frame_id (shape_of_pass p) c.args.block in
    let objects = objects_of c.args.space.now p c.requires.own.0 c.requires.own.1 in
    let all = p.all in let there = c.requires.there in
    unheld_lacks (view p).held k (omega (arith, all.0, objects, there))
    (sym (c.holds.ensures ∙ ap (is_held (view p).held) c.frame_number.ensures) ∙ no)

pub returns-clause-held : goal.returns-clause-held
returns-clause-held c = λ yes lacks. let p = c.args.pass.now in
    held_not_lacked (view p).held (frame_id (shape_of_pass p) c.args.block)
    (sym (c.holds.ensures ∙ ap (is_held (view p).held) c.frame_number.ensures) ∙ yes) lacks
