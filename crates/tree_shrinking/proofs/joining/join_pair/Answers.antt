use Rattle.std.proofs.Common.{[], ◌∷◌, refl}
use Rattle.buffer_pool.proofs.CallLemmas.{frame_has}
use Rattle.tree_growth.proofs.HandLemmas.{no_frame_but, no_table}
use Rattle.buffer_pool.proofs.AgainLemmas.{passes_both}
use Rattle.tree_shrinking.proofs.JoinedLemmas.{way_joined, holds_joined}
use Rattle.tree_shrinking.proofs.JoinLemmas.{back_after, pair_still, taken_back, failed_back, merged_or_not, refused_or_not}
use Rattle.tree_shrinking.proofs.LeaveLemmas.{leaves_pair, frees_pair}
use Rattle.tree_shrinking.proofs.TakenLemmas.{paged_frame, can_merge}
use Rattle.tree_shrinking.proofs.WayLemmas.{to_both, way_nothing}
use Rattle.tree_shrinking.proofs.joining.join_pair.Goals as goal

pub are_to_join-requires-clause-left : goal.are_to_join-requires-clause-left
are_to_join-requires-clause-left g c = let took = c.take_pair-left.ensures.took in
    let h = took.held in
    paged_frame c.take_pair-left.new.pass took.to.way.known c.take_pair-left.result.0 c.args.index h.level h.lower
    h.knows_left h.is_left

pub are_to_join-requires-clause-right : goal.are_to_join-requires-clause-right
are_to_join-requires-clause-right g c = let took = c.take_pair-left.ensures.took in
    let h = took.held in
    paged_frame c.take_pair-left.new.pass took.to.way.known c.take_pair-left.result.1 c.args.index h.level
    h.upper h.knows_right h.is_right

pub returns-then-not-are_to_join-clause-back : goal.returns-then-not-are_to_join-clause-back
returns-then-not-are_to_join-clause-back g c = let gave = c.give_pair_back.ensures.gave in
    taken_back c.take_pair-left.ensures.took gave.to gave.still

pub returns-then-not-are_to_join-clause-apart : goal.returns-then-not-are_to_join-clause-apart
returns-then-not-are_to_join-clause-apart g c e =
    let took = c.take_pair-left.ensures.took in let h = took.held in let q = c.take_pair-left.new.pass in
    leaves_pair took c.give_pair_back.ensures.gave
    (c.are_to_join.ensures.no h.lower h.upper h.is_left.page h.is_right.page
    (frame_has q took.to.way.known c.take_pair-left.result.0 h.lower h.knows_left)
    (frame_has q took.to.way.known c.take_pair-left.result.1 h.upper h.knows_right) h.is_left.paged
    h.is_right.paged c.if-not-are_to_join.true)

pub returns-then-not-are_to_join-clause-freed : goal.returns-then-not-are_to_join-clause-freed
returns-then-not-are_to_join-clause-freed g c e = absurd (merged_or_not _ e refl)

pub merge_children-requires-clause-held : goal.merge_children-requires-clause-held
merge_children-requires-clause-held g c = let took = c.take_pair-left.ensures.took in
    let h = took.held in let q = c.take_pair-left.new.pass in
    can_merge h
    (c.are_to_join.ensures.yes h.lower h.upper h.is_left.page h.is_right.page
    (frame_has q took.to.way.known c.take_pair-left.result.0 h.lower h.knows_left)
    (frame_has q took.to.way.known c.take_pair-left.result.1 h.upper h.knows_right) h.is_left.paged
    h.is_right.paged c.if-not-are_to_join.false)

pub merge_children-requires-clause-frames : goal.merge_children-requires-clause-frames
merge_children-requires-clause-frames g c =
    no_frame_but c.args.space.now c.take_pair-left.new.pass c.requires.own.0
    c.take_pair-left.ensures.own.1 c.args.index c.args.key.now.tuple
    (c.args.parent ∷ c.take_pair-left.result.0 ∷ c.take_pair-left.result.1 ∷ [])
    c.take_pair-left.ensures.took.to.way

pub merge_children-requires-clause-tables : goal.merge_children-requires-clause-tables
merge_children-requires-clause-tables g c =
    no_table c.args.space.now c.take_pair-left.new.pass c.requires.own.0
    c.take_pair-left.ensures.own.1 c.args.index c.args.key.now.tuple
    (c.args.parent ∷ c.take_pair-left.result.0 ∷ c.take_pair-left.result.1 ∷ [])
    c.take_pair-left.ensures.took.to.way

pub lift_only-requires-clause-way : goal.lift_only-requires-clause-way
lift_only-requires-clause-way g c =
    (way_joined c.take_pair-left.ensures.fits c.take_pair-left.ensures.took.to.way
    c.in-Ok.ensures.ok).way

pub lift_only-requires-clause-held : goal.lift_only-requires-clause-held
lift_only-requires-clause-held g c =
    holds_joined c.take_pair-left.ensures.fits c.take_pair-left.ensures.took.to.way
    c.in-Ok.ensures.ok c.loads_add_up.ensures

pub give_pair_back-requires-in-Err-clause-way : goal.give_pair_back-requires-in-Err-clause-way
give_pair_back-requires-in-Err-clause-way g c =
    (way_nothing c.in-Err.ensures.memory c.take_pair-left.ensures.took.to.way).way

pub give_pair_back-requires-in-Err-clause-held : goal.give_pair_back-requires-in-Err-clause-held
give_pair_back-requires-in-Err-clause-held g c =
    pair_still c.in-Err.ensures.memory c.take_pair-left.ensures.took.held

pub returns-in-Ok-clause-back : goal.returns-in-Ok-clause-back
returns-in-Ok-clause-back g c = let took = c.take_pair-left.ensures.took in
    back_after (to_both took.to
    (way_joined c.take_pair-left.ensures.fits took.to.way c.in-Ok.ensures.ok))
    c.lift_only.ensures.back

pub returns-in-Err-clause-back : goal.returns-in-Err-clause-back
returns-in-Err-clause-back g c = let gave = c.give_pair_back-in-Err.ensures.gave in
    failed_back c.take_pair-left.ensures.took c.in-Err.ensures.memory gave.to gave.still

pub returns-in-Ok-clause-apart : goal.returns-in-Ok-clause-apart
returns-in-Ok-clause-apart g c e = absurd (c.lift_only.ensures.merged e)

pub returns-in-Ok-clause-freed : goal.returns-in-Ok-clause-freed
returns-in-Ok-clause-freed g c e =
    frees_pair c.take_pair-left.ensures.fits c.take_pair-left.ensures.took c.in-Ok.ensures.ok
    c.lift_only.ensures.back

pub returns-in-Err-clause-apart : goal.returns-in-Err-clause-apart
returns-in-Err-clause-apart g c e = absurd (refused_or_not _ _ _ refl e)

pub returns-in-Err-clause-freed : goal.returns-in-Err-clause-freed
returns-in-Err-clause-freed g c e = absurd (refused_or_not _ _ _ refl e)

pub returns-then-not-are_to_join-clause-own : goal.returns-then-not-are_to_join-clause-own
returns-then-not-are_to_join-clause-own g c = (
  passes_both c.args.pass.now c.take_pair-left.new.pass c.give_pair_back.new.pass
      c.take_pair-left.ensures.own.0 c.give_pair_back.ensures.own.0,
  c.give_pair_back.ensures.own.1,
)

pub returns-in-Ok-clause-own : goal.returns-in-Ok-clause-own
returns-in-Ok-clause-own g c = (
  passes_both c.args.pass.now c.take_pair-left.new.pass c.lift_only.new.pass
      c.take_pair-left.ensures.own.0 (passes_both c.take_pair-left.new.pass
      c.merge_children.new.pass c.lift_only.new.pass c.merge_children.ensures.own.0
      c.lift_only.ensures.own.0),
  c.lift_only.ensures.own.1,
)

pub returns-in-Err-clause-own : goal.returns-in-Err-clause-own
returns-in-Err-clause-own g c = (
  passes_both c.args.pass.now c.take_pair-left.new.pass c.give_pair_back-in-Err.new.pass
      c.take_pair-left.ensures.own.0 (passes_both c.take_pair-left.new.pass
      c.merge_children.new.pass c.give_pair_back-in-Err.new.pass c.merge_children.ensures.own.0
      c.give_pair_back-in-Err.ensures.own.0),
  c.give_pair_back-in-Err.ensures.own.1,
)
