use Rattle.tree_smo.proofs.HalvesLemmas.{second_held, third_held, takes_out_three}
use Rattle.tree_smo.proofs.halves.halves_out.Goals as goal

pub frame_out-left-requires-clause-held : goal.frame_out-left-requires-clause-held
frame_out-left-requires-clause-held c =
    second_held c.args.at c.args.pass.now c.frame_out-up.new.pass c.requires.held
    c.frame_out-up.result c.frame_out-up.ensures.out

pub frame_out-right-requires-clause-held : goal.frame_out-right-requires-clause-held
frame_out-right-requires-clause-held c =
    third_held c.args.at c.args.pass.now c.frame_out-up.new.pass c.frame_out-left.new.pass
    c.requires.held c.frame_out-up.result c.frame_out-left.result c.frame_out-up.ensures.out
    c.frame_out-left.ensures.out

pub returns-clause-out : goal.returns-clause-out
returns-clause-out c =
    takes_out_three c.args.at c.args.pass.now c.frame_out-up.new.pass c.frame_out-left.new.pass
    c.frame_out-right.new.pass c.requires.held.three c.frame_out-up.result c.frame_out-left.result
    c.frame_out-right.result c.frame_out-up.ensures.out c.frame_out-left.ensures.out
    c.frame_out-right.ensures.out
