use Rattle.tree_merging.proofs.FrameLemmas.{lifts_frame}
use Rattle.tree_merging.proofs.lift.lift_frames.Goals as goal

pub returns-clause-ok : goal.returns-clause-ok
returns-clause-ok c = lifts_frame c.args.root.now c.lift_in.new.root c.rise.new.frame
    c.args.child.now c.lift_in.new.child c.rise-2.new.frame c.in_ok-lift_in.ensures.ok
    c.rise.ensures.kept c.rise-2.ensures.kept c.rise.ensures.rises c.rise-2.ensures.rises
