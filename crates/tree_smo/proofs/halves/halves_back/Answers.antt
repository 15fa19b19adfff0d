use Rattle.tree_smo.proofs.HalvesLemmas.{puts_back_three}
use Rattle.tree_smo.proofs.halves.halves_back.Goals as goal

pub frame_back-requires-2-clause-out : goal.frame_back-requires-2-clause-out
frame_back-requires-2-clause-out c = let held = c.requires.out in (
  held.was.left,
  c.frame_back.ensures.back.hand.outs c.args.at.child held.was.left held.three.child held.out.left,
)

pub frame_back-requires-3-clause-out : goal.frame_back-requires-3-clause-out
frame_back-requires-3-clause-out c = let held = c.requires.out in (
  held.was.right,
  c.frame_back-2.ensures.back.hand.outs c.args.at.right held.was.right held.three.halves
      (c.frame_back.ensures.back.hand.outs c.args.at.right held.was.right held.three.right
      held.out.right),
)

pub returns-clause-back : goal.returns-clause-back
returns-clause-back c =
    puts_back_three c.args.at c.args.pass.now c.frame_back.new.pass c.frame_back-2.new.pass
    c.frame_back-3.new.pass c.requires.out.three c.args.hands c.frame_back.ensures.back
    c.frame_back-2.ensures.back c.frame_back-3.ensures.back
