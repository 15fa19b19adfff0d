use Rattle.std.proofs.Common.{sym, subst}
use Rattle.std.proofs.lemmas.Result.{on_ok_weaker, on_err_weaker}
use Rattle.tree_merging.specs.FrameMerges.{SuitsMerge}
use Rattle.tree_smo.specs.declared.halves.SplitHands.{SplitHands}
use Rattle.tree_smo.proofs.HalvesLemmas.{halves_kept}
use Rattle.tree_shrinking.proofs.MergeHandLemmas.{halves_joined}
use Rattle.tree_shrinking.proofs.hands.join_halves.Goals as goal

pub merge_frames-outcome-requires : goal.merge_frames-outcome-requires
merge_frames-outcome-requires c = let suits = c.requires.suits in
    subst (λ (h : SplitHands). SuitsMerge h.left h.right h.up)
    (sym (c.halves_out-hands.ensures.out.out suits.held.was suits.held.has).1) suits.suits

pub halves_back-requires-clause-out : goal.halves_back-requires-clause-out
halves_back-requires-clause-out c = let held = c.requires.suits.held in record {
  three = held.three;
  was = held.was;
  out = (c.halves_out-hands.ensures.out.out held.was held.has).0;
}

pub returns-clause-ok : goal.returns-clause-ok
returns-clause-ok c =
    let new : SplitHands = record {
      left = c.merge_frames-outcome.new.left;
      right = c.merge_frames-outcome.new.right;
      up = c.merge_frames-outcome.new.parent;
    } in
    on_ok_weaker c.merge_frames-outcome.result
    (halves_joined c.args.at c.args.pass.now c.halves_out-hands.new.pass c.halves_back.new.pass
    c.halves_out-hands.result new c.halves_out-hands.ensures.out c.halves_back.ensures.back
    c.merge_frames-outcome.ensures.hash) c.merge_frames-outcome.ensures.ok

pub returns-clause-err : goal.returns-clause-err
returns-clause-err c =
    let new : SplitHands = record {
      left = c.merge_frames-outcome.new.left;
      right = c.merge_frames-outcome.new.right;
      up = c.merge_frames-outcome.new.parent;
    } in
    on_err_weaker c.merge_frames-outcome.result
    (λ e. halves_kept c.args.at c.args.pass.now c.halves_out-hands.new.pass
    c.halves_back.new.pass c.halves_out-hands.result new c.halves_out-hands.ensures.out
    c.halves_back.ensures.back c.requires.known c.requires.suits.held
    (λ i. record { left = e.0 i; right = e.1 i; up = e.2 i }))
    c.merge_frames-outcome.ensures.err
