use Rattle.std.proofs.Common.{[], ◌∷◌, ap, suc, sym, Err}
use Rattle.latch_space.specs.Passes.{view}
use Rattle.buffer_pool.proofs.PageLemmas.{tree_page_inside}
use Rattle.tree_descent.proofs.PageLemmas.{may_give_back}
use Rattle.buffer_pool.proofs.AgainLemmas.{passes_both}
use Rattle.tree_growth.proofs.HandLemmas.{no_frame_but, no_table}
use Rattle.tree_growth.proofs.RefusalLemmas.{is_refused, holds_second, stops_two}
use Rattle.tree_growth.proofs.SplitLemmas.{may_give_up, way_halves, halves_held, grows_halved}
use Rattle.tree_growth.proofs.growing.halve_child.Goals as goal
use Rattle.tree_growth.proofs.KnownLemmas.{levels_apart}

pub split_child-requires-clause-frames : goal.split_child-requires-clause-frames
split_child-requires-clause-frames g c =
    no_frame_but c.args.space.now c.args.pass.now c.requires.own.0 c.requires.own.1 c.args.index
    c.args.key.now.tuple (c.args.parent ∷ c.args.child ∷ []) c.requires.way

pub split_child-requires-clause-tables : goal.split_child-requires-clause-tables
split_child-requires-clause-tables g c =
    no_table c.args.space.now c.args.pass.now c.requires.own.0 c.requires.own.1 c.args.index
    c.args.key.now.tuple (c.args.parent ∷ c.args.child ∷ []) c.requires.way

pub give_back-requires-clause-held : goal.give_back-requires-clause-held
give_back-requires-clause-held g c =
    may_give_up c.args.pass.now c.split_child.new.pass c.args.index c.args.key.now.tuple
    c.args.parent c.args.child c.in-Ok.right c.requires.way c.in-Ok.ensures.ok

pub keep_half-requires-clause-way : goal.keep_half-requires-clause-way
keep_half-requires-clause-way g c =
    way_halves c.args.pass.now c.split_child.new.pass c.args.index c.args.key.now.tuple
    c.args.parent c.args.child c.in-Ok.right c.requires.way c.in-Ok.ensures.ok c.requires.held
    c.in-Ok.ensures.fits c.give_back.new.pass c.give_back.ensures.gave

pub keep_half-requires-clause-held : goal.keep_half-requires-clause-held
keep_half-requires-clause-held g c =
    halves_held c.args.pass.now c.split_child.new.pass c.args.index c.args.key.now.tuple
    c.args.parent c.args.child c.in-Ok.right c.requires.way c.in-Ok.ensures.ok c.requires.held
    c.in-Ok.ensures.fits c.give_back.new.pass c.give_back.ensures.gave

pub returns-in-Ok-clause-ok : goal.returns-in-Ok-clause-ok
returns-in-Ok-clause-ok g c =
    grows_halved c.args.pass.now c.split_child.new.pass c.give_back.new.pass c.keep_half.new.pass
    c.args.index c.args.key.now.tuple c.args.need c.args.parent c.args.child c.in-Ok.right
    c.requires.way c.in-Ok.ensures.ok c.requires.held c.in-Ok.ensures.fits c.give_back.ensures.gave
    c.requires.order c.keep_half.result c.keep_half.ensures.kept

pub give_back-requires-in-Err-clause-held : goal.give_back-requires-in-Err-clause-held
give_back-requires-in-Err-clause-held g c =
    let p = c.args.pass.now in let q = c.split_child.new.pass in let held = c.requires.held in
    let refused = is_refused p q c.args.index c.args.key.now.tuple
    (c.args.parent ∷ c.args.child ∷ []) c.requires.way c.in-Err.error
    (λ e. c.in-Err.ensures.full (ap Err e)) (λ e. c.in-Err.ensures.memory (ap Err e)) in
    may_give_back q refused.way.known c.args.child c.args.index held.level held.low
    (refused.frames c.args.child held.low held.knows_low) held.below.is

pub give_back-requires-in-Err-2-clause-held : goal.give_back-requires-in-Err-2-clause-held
give_back-requires-in-Err-2-clause-held g c =
    let p = c.args.pass.now in let q = c.split_child.new.pass in let held = c.requires.held in
    let i = c.args.index in let key = c.args.key.now.tuple in
    let refused = is_refused p q i key (c.args.parent ∷ c.args.child ∷ []) c.requires.way
    c.in-Err.error (λ e. c.in-Err.ensures.full (ap Err e)) (λ e. c.in-Err.ensures.memory (ap Err e))
    in
    holds_second p q c.give_back-in-Err.new.pass i key c.args.parent c.args.child c.in-Err.error
    refused c.give_back-in-Err.ensures.gave held.up
    (tree_page_inside held.up i (suc held.level) held.above)
    (λ e. levels_apart (view p) c.args.parent c.args.child i held.level held.up held.low
    held.knows_up held.knows_low held.above held.below.is (sym e)) held.knows_up

pub returns-in-Err-clause-err : goal.returns-in-Err-clause-err
returns-in-Err-clause-err g c =
    let p = c.args.pass.now in let q = c.split_child.new.pass in
    let i = c.args.index in let key = c.args.key.now.tuple in
    let refused = is_refused p q i key (c.args.parent ∷ c.args.child ∷ []) c.requires.way
    c.in-Err.error (λ e. c.in-Err.ensures.full (ap Err e)) (λ e. c.in-Err.ensures.memory (ap Err e))
    in
    stops_two p q c.give_back-in-Err.new.pass i key c.args.parent c.args.child c.in-Err.error refused
    c.give_back-in-Err.ensures.gave c.give_back-in-Err-2.new.pass c.give_back-in-Err-2.ensures.gave

pub returns-in-Ok-clause-own : goal.returns-in-Ok-clause-own
returns-in-Ok-clause-own g c = (
  passes_both c.args.pass.now c.split_child.new.pass c.keep_half.new.pass
      c.split_child.ensures.own.0 (passes_both c.split_child.new.pass c.give_back.new.pass
      c.keep_half.new.pass c.give_back.ensures.own.0 c.keep_half.ensures.own.0),
  c.keep_half.ensures.own.1,
)

pub returns-in-Err-clause-own : goal.returns-in-Err-clause-own
returns-in-Err-clause-own g c = (
  passes_both c.args.pass.now c.split_child.new.pass c.give_back-in-Err-2.new.pass
      c.split_child.ensures.own.0 (passes_both c.split_child.new.pass c.give_back-in-Err.new.pass
      c.give_back-in-Err-2.new.pass c.give_back-in-Err.ensures.own.0
      c.give_back-in-Err-2.ensures.own.0),
  c.give_back-in-Err-2.ensures.own.1,
)
