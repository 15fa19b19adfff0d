use Rattle.std.proofs.Common.{[], ◌∷◌, ap, Err}
use Rattle.std.proofs.lemmas.Bool.{not-true, not-false}
use Rattle.latch_space.specs.Passes.{view}
use Rattle.tree_descent.proofs.PageLemmas.{may_give_back}
use Rattle.buffer_pool.proofs.AgainLemmas.{passes_both}
use Rattle.tree_growth.specs.Ways.{ArrivesWithRoom, StopsOnWay, GrowsChild}
use Rattle.tree_growth.proofs.AddLemmas.{goes_nowhere, stops_after}
use Rattle.tree_growth.proofs.HandLemmas.{no_frame_but, no_table}
use Rattle.tree_growth.proofs.RefusalLemmas.{is_refused, stops_one}
use Rattle.tree_growth.proofs.RootLemmas.{can_raise}
use Rattle.tree_growth.proofs.AnswerLemmas.{ok_more, err_more}
use Rattle.tree_growth.proofs.RaiseLemmas.{goes_raised, way_raised, under_held, grows_raised}
use Rattle.tree_growth.proofs.growing.grow_root.Goals as goal

pub returns-then-not-root-clause-ok : goal.returns-then-not-root-clause-ok
returns-then-not-root-clause-ok g c =
    record {
      reaches = assumption (goes_nowhere c.args.pass.now);
      fits = not-true c.args.root.is_full c.if-not-root.true;
    }

pub raise_root-requires-clause-held : goal.raise_root-requires-clause-held
raise_root-requires-clause-held g c =
    can_raise (view c.args.pass.now) c.args.index c.args.key.now.tuple c.args.need c.args.root
    c.requires.held c.requires.root c.requires.way.tree c.requires.way.knows
    (not-false c.args.root.is_full c.if-not-root.false)

pub raise_root-requires-clause-frames : goal.raise_root-requires-clause-frames
raise_root-requires-clause-frames g c =
    no_frame_but c.args.space.now c.args.pass.now c.requires.own.0 c.requires.own.1 c.args.index
    c.args.key.now.tuple (c.args.root.block ∷ []) c.requires.way

pub raise_root-requires-clause-tables : goal.raise_root-requires-clause-tables
raise_root-requires-clause-tables g c =
    no_table c.args.space.now c.args.pass.now c.requires.own.0 c.requires.own.1 c.args.index
    c.args.key.now.tuple (c.args.root.block ∷ []) c.requires.way

pub grow_child-requires-clause-way : goal.grow_child-requires-clause-way
grow_child-requires-clause-way g c =
    way_raised c.args.pass.now c.raise_root.new.pass c.args.index c.args.key.now.tuple
    c.args.root.block c.in-Ok.under c.requires.way c.in-Ok.ensures.ok

pub grow_child-requires-clause-held : goal.grow_child-requires-clause-held
grow_child-requires-clause-held g c =
    under_held c.args.pass.now c.raise_root.new.pass c.args.index c.args.key.now.tuple
    c.args.root.block c.in-Ok.under c.requires.way c.in-Ok.ensures.ok c.in-Ok.ensures.fits

pub give_back-requires-clause-held : goal.give_back-requires-clause-held
give_back-requires-clause-held g c =
    let p = c.args.pass.now in let q = c.raise_root.new.pass in let held = c.requires.held in
    let refused = is_refused p q c.args.index c.args.key.now.tuple
    (c.args.root.block ∷ []) c.requires.way c.in-Err.error
    (λ e. c.in-Err.ensures.full (ap Err e)) (λ e. c.in-Err.ensures.memory (ap Err e)) in
    may_give_back q refused.way.known c.args.root.block c.args.index c.args.root.level held.frame
    (refused.frames c.args.root.block held.frame held.knows) held.page.is

pub returns-in-Ok-clause-ok : goal.returns-in-Ok-clause-ok
returns-in-Ok-clause-ok g c =
    let p = c.args.pass.now in let q = c.raise_root.new.pass in let r = c.grow_child.new.pass in
    let i = c.args.index in let key = c.args.key.now.tuple in let need = c.args.need in
    let way = c.requires.way in let b = c.args.root.block in
    ok_more (λ at. GrowsChild q b c.in-Ok.under i key need at r)
    (λ at. ArrivesWithRoom p i key need at r) c.grow_child.result
    (λ at. grows_raised p q r i key need b c.in-Ok.under way c.in-Ok.ensures.ok at)
    c.grow_child.ensures.ok

pub returns-in-Ok-clause-err : goal.returns-in-Ok-clause-err
returns-in-Ok-clause-err g c =
    let p = c.args.pass.now in let q = c.raise_root.new.pass in let r = c.grow_child.new.pass in
    let i = c.args.index in let key = c.args.key.now.tuple in
    let way = c.requires.way in let b = c.args.root.block in
    err_more (λ e. StopsOnWay q i key e r) (λ e. StopsOnWay p i key e r) c.grow_child.result
    (λ e. stops_after p q r i key e
    (goes_raised p q i key b c.in-Ok.under way c.in-Ok.ensures.ok)) c.grow_child.ensures.err

pub returns-in-Err-clause-err : goal.returns-in-Err-clause-err
returns-in-Err-clause-err g c =
    let p = c.args.pass.now in let q = c.raise_root.new.pass in let r = c.give_back.new.pass in
    let i = c.args.index in let key = c.args.key.now.tuple in
    let way = c.requires.way in let b = c.args.root.block in
    let refused = is_refused p q i key (b ∷ []) way c.in-Err.error
    (λ e. c.in-Err.ensures.full (ap Err e)) (λ e. c.in-Err.ensures.memory (ap Err e)) in
    stops_one p q r i key b c.in-Err.error refused c.give_back.ensures.gave

pub returns-in-Ok-clause-own : goal.returns-in-Ok-clause-own
returns-in-Ok-clause-own g c = (
  passes_both c.args.pass.now c.raise_root.new.pass c.grow_child.new.pass c.raise_root.ensures.own.0
      c.grow_child.ensures.own.0,
  c.grow_child.ensures.own.1,
)

pub returns-in-Err-clause-own : goal.returns-in-Err-clause-own
returns-in-Err-clause-own g c = (
  passes_both c.args.pass.now c.raise_root.new.pass c.give_back.new.pass c.raise_root.ensures.own.0
      c.give_back.ensures.own.0,
  c.give_back.ensures.own.1,
)
