use Rattle.std.proofs.Common.{Result, Ok, Err, OnErr}
use Rattle.std.proofs.lemmas.Result.{on_ok_weaker}
use Rattle.tree_smo.proofs.StoreyLemmas.{low_held}
use Rattle.tree_shrinking.proofs.SinkHandLemmas.{TakesBothOut, top_was, low_there, suits_sinking, storeys_sunk, sinking_kept}
use Rattle.tree_shrinking.proofs.sinking.sink_storeys.Goals as goal
use Rattle.tree_shrinking.proofs.sinking.sink_storeys.Goals.{After-frame_out-low}

-- both frames are out of their places
out : (c : After-frame_out-low)
    → TakesBothOut c.args.root c.args.child c.args.pass.now c.frame_out-low.new.pass
    c.frame_out-top.result c.frame_out-low.result
out c = record {
  apart = c.requires.suits.apart;
  between = c.frame_out-top.new.pass;
  first = c.frame_out-top.ensures.out;
  second = c.frame_out-low.ensures.out;
}

pub frame_out-low-requires-clause-held : goal.frame_out-low-requires-clause-held
frame_out-low-requires-clause-held c = let s = c.requires.suits in
    low_held c.args.root c.args.child s.apart c.args.pass.now c.frame_out-top.new.pass
    c.frame_out-top.new.pass c.frame_out-top.result c.frame_out-top.result
    c.frame_out-top.ensures.out s.low s.has_low

pub lift_frames-outcome-requires : goal.lift_frames-outcome-requires
lift_frames-outcome-requires c =
    suits_sinking (out (goal.at.lift_frames-outcome-requires c).After-frame_out-low) c.requires.suits

pub frame_back-requires-clause-out : goal.frame_back-requires-clause-out
frame_back-requires-clause-out c = let s = c.requires.suits in
    let o = out (goal.at.frame_back-requires-clause-out c).After-frame_out-low in
    (s.top, (top_was o s.top s.has_top).0)

pub frame_back-requires-2-clause-out : goal.frame_back-requires-2-clause-out
frame_back-requires-2-clause-out c = let s = c.requires.suits in
    let o = out (goal.at.frame_back-requires-2-clause-out c).After-frame_out-low in (
      s.low,
      low_there o c.frame_back.new.pass c.lift_frames-outcome.new.root c.frame_back.ensures.back
          s.low s.has_low,
    )

pub returns-clause-ok : goal.returns-clause-ok
returns-clause-ok c = let lift = c.lift_frames-outcome in
    on_ok_weaker lift.result
    (storeys_sunk (out (goal.at.returns-clause-ok c).After-frame_out-low) c.frame_back.new.pass
    c.frame_back-2.new.pass lift.new.root lift.new.child c.frame_back.ensures.back
    c.frame_back-2.ensures.back lift.ensures.hash) lift.ensures.ok

-- two facts of an error give a third
both_errors : {A E X Y Z : Type 0} (r : Result A E) → (X → Y → Z) → OnErr r X → OnErr r Y
    → OnErr r Z
both_errors (Ok a) f x y = x
both_errors (Err e) f x y = f x y

pub returns-clause-err : goal.returns-clause-err
returns-clause-err c = let lift = c.lift_frames-outcome in
    both_errors lift.result
    (sinking_kept (out (goal.at.returns-clause-err c).After-frame_out-low) c.frame_back.new.pass
    c.frame_back-2.new.pass lift.new.root lift.new.child c.frame_back.ensures.back
    c.frame_back-2.ensures.back c.requires.known c.requires.suits) lift.ensures.err
    lift.ensures.child_err
