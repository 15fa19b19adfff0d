use Rattle.tree_smo.proofs.RelinkLemmas.{held_next, out_page, out_next, relinks_behind}
use Rattle.tree_smo.proofs.relinking.relink_behind.Goals as goal

pub frame_out-frame-requires-clause-held : goal.frame_out-frame-requires-clause-held
frame_out-frame-requires-clause-held c =
    let held = held_next c.args.pass.now c.args.next c.in-Some.block c.in-Some.is c.requires.held in
    (held.0, held.0, held.1)

pub relink_next-requires-clause-page : goal.relink_next-requires-clause-page
relink_next-requires-clause-page c =
    out_page c.args.pass.now c.frame_out-frame.new.pass c.args.next c.in-Some.block c.in-Some.is
    c.requires.held c.frame_out-frame.result c.frame_out-frame.ensures.out

pub frame_back-requires-clause-out : goal.frame_back-requires-clause-out
frame_back-requires-clause-out c =
    out_next c.args.pass.now c.frame_out-frame.new.pass c.args.next c.in-Some.block c.in-Some.is
    c.requires.held c.frame_out-frame.result c.frame_out-frame.ensures.out

pub returns-in-Some-clause-relinks : goal.returns-in-Some-clause-relinks
returns-in-Some-clause-relinks c =
    relinks_behind c.args.pass.now c.frame_out-frame.new.pass c.args.next c.in-Some.block
    c.in-Some.is c.requires.held c.frame_out-frame.result c.frame_out-frame.ensures.out
    c.frame_back.new.pass c.args.right c.relink_next.new.next c.relink_next.ensures
    c.frame_back.ensures.back
