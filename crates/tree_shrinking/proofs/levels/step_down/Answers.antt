use Rattle.std.proofs.Common.{[], ◌∷◌}
use Rattle.latch_space.specs.Passes.{view}
use Rattle.tree_growth.proofs.ChildLemmas.{holds_inner}
use Rattle.tree_growth.proofs.HandLemmas.{no_frame_but, no_table}
use Rattle.buffer_pool.proofs.AgainLemmas.{passes_both}
use Rattle.tree_shrinking.proofs.StepLemmas.{parent_may_go, child_held, steps_down, step_lower}
use Rattle.tree_shrinking.proofs.levels.step_down.Goals as goal

pub child_for-child-requires-clause-held : goal.child_for-child-requires-clause-held
child_for-child-requires-clause-held g c =
    holds_inner (view c.args.pass.now) c.args.index c.args.key.now.tuple 0 c.args.at
    c.requires.held c.requires.inner

pub child_for-child-requires-clause-frames : goal.child_for-child-requires-clause-frames
child_for-child-requires-clause-frames g c =
    no_frame_but c.args.space.now c.args.pass.now c.requires.own.0 c.requires.own.1 c.args.index
    c.args.key.now.tuple (c.args.at.block ∷ []) c.requires.way

pub child_for-child-requires-clause-tables : goal.child_for-child-requires-clause-tables
child_for-child-requires-clause-tables g c =
    no_table c.args.space.now c.args.pass.now c.requires.own.0 c.requires.own.1 c.args.index
    c.args.key.now.tuple (c.args.at.block ∷ []) c.requires.way

pub give_back-requires-clause-held : goal.give_back-requires-clause-held
give_back-requires-clause-held g c =
    parent_may_go c.requires.way c.requires.held c.requires.inner c.child_for-child.ensures.took

pub page_in_hand-requires-clause-held : goal.page_in_hand-requires-clause-held
page_in_hand-requires-clause-held g c =
    child_held c.requires.way c.requires.held c.requires.inner c.child_for-child.ensures.took
    c.give_back.ensures.gave

pub returns-clause-reaches : goal.returns-clause-reaches
returns-clause-reaches g c =
    steps_down c.requires.way c.requires.held c.requires.inner c.child_for-child.ensures.took
    c.give_back.ensures.gave c.page_in_hand.result c.page_in_hand.ensures

pub returns-clause-lower : goal.returns-clause-lower
returns-clause-lower g c =
    step_lower c.requires.way c.requires.held c.requires.inner c.child_for-child.ensures.took
    c.give_back.ensures.gave c.page_in_hand.result c.page_in_hand.ensures

pub returns-clause-own : goal.returns-clause-own
returns-clause-own g c = (
  passes_both c.args.pass.now c.child_for-child.new.pass c.give_back.new.pass
      c.child_for-child.ensures.own.0 c.give_back.ensures.own.0,
  c.give_back.ensures.own.1,
)
