use Rattle.hash_maintain.proofs.PassLemmas.{knows_forest}
use Rattle.buffer_pool.proofs.AgainLemmas.{passes_both}
use Rattle.tree_smo.proofs.KeepingLemmas.{took_held, moved_since, in_place, gave_still, took_later, keeps_moved}
use Rattle.tree_smo.proofs.keeping.keep_up_between.Goals as goal

pub frame_out-took-requires-clause-held : goal.frame_out-took-requires-clause-held
frame_out-took-requires-clause-held g c = took_held c.moves_keep_the_hash.ensures c.args.pass.now
    c.args.from c.args.to c.requires.moved (knows_forest c.args.pass.now c.fits.ensures).hash
    c.frame_out-gave.new.pass c.frame_out-gave.new.pass c.frame_out-gave.result
    c.frame_out-gave.result c.frame_out-gave.ensures.out

pub move_between-requires-clause-moved : goal.move_between-requires-clause-moved
move_between-requires-clause-moved g c = moved_since c.moves_keep_the_hash.ensures c.args.pass.now
    c.args.from c.args.to c.requires.moved (knows_forest c.args.pass.now c.fits.ensures).hash
    c.frame_out-gave.new.pass c.frame_out-took.new.pass c.frame_out-gave.result
    c.frame_out-took.result c.frame_out-gave.ensures.out c.frame_out-took.ensures.out

pub move_between-requires-clause-place : goal.move_between-requires-clause-place
move_between-requires-clause-place g c = in_place c.moves_keep_the_hash.ensures c.args.pass.now
    c.args.from c.args.to c.requires.moved (knows_forest c.args.pass.now c.fits.ensures).hash
    c.frame_out-gave.new.pass c.frame_out-took.new.pass c.frame_out-gave.result
    c.frame_out-took.result c.frame_out-gave.ensures.out c.frame_out-took.ensures.out
    c.requires.place

pub frame_back-requires-clause-out : goal.frame_back-requires-clause-out
frame_back-requires-clause-out g c = (
  c.requires.moved.gave_old,
  gave_still c.moves_keep_the_hash.ensures c.args.pass.now
      c.args.from c.args.to c.requires.moved (knows_forest c.args.pass.now c.fits.ensures).hash
      c.frame_out-gave.new.pass c.frame_out-took.new.pass c.frame_out-gave.result
      c.frame_out-took.result c.frame_out-gave.ensures.out c.frame_out-took.ensures.out
      c.move_between.new.pass c.move_between.new.from c.move_between.new.to c.move_between.result
      c.move_between.ensures.rests c.move_between.ensures.moves,
)

pub frame_back-requires-2-clause-out : goal.frame_back-requires-2-clause-out
frame_back-requires-2-clause-out g c = (
  c.requires.moved.took_old,
  took_later c.moves_keep_the_hash.ensures c.args.pass.now
      c.args.from c.args.to c.requires.moved (knows_forest c.args.pass.now c.fits.ensures).hash
      c.frame_out-gave.new.pass c.frame_out-took.new.pass c.frame_out-gave.result
      c.frame_out-took.result c.frame_out-gave.ensures.out c.frame_out-took.ensures.out
      c.move_between.new.pass c.move_between.new.from c.move_between.new.to c.move_between.result
      c.move_between.ensures.rests c.move_between.ensures.moves c.frame_back.new.pass
      c.frame_back.ensures.back,
)

pub returns-clause-kept : goal.returns-clause-kept
returns-clause-kept g c = λ m. keeps_moved c.moves_keep_the_hash.ensures c.args.pass.now
    c.args.from c.args.to m (knows_forest c.args.pass.now c.fits.ensures).hash
    c.frame_out-gave.new.pass c.frame_out-took.new.pass c.frame_out-gave.result
    c.frame_out-took.result c.frame_out-gave.ensures.out c.frame_out-took.ensures.out
    c.move_between.new.pass c.move_between.new.from c.move_between.new.to c.move_between.result
    c.move_between.ensures.rests c.move_between.ensures.moves c.frame_back.new.pass
    c.frame_back.ensures.back c.frame_back-2.new.pass c.frame_back-2.ensures.back

pub returns-clause-own : goal.returns-clause-own
returns-clause-own g c = let p = c.args.pass.now in let gave = c.frame_out-gave.new.pass in
    let took = c.frame_out-took.new.pass in let moved = c.move_between.new.pass in
    let back = c.frame_back.new.pass in let last = c.frame_back-2.new.pass in (
      passes_both p gave last c.frame_out-gave.ensures.own.0
          (passes_both gave took last c.frame_out-took.ensures.own.0
          (passes_both took moved last c.move_between.ensures.own.0
          (passes_both moved back last c.frame_back.ensures.own.0 c.frame_back-2.ensures.own.0))),
      c.frame_back-2.ensures.own.1,
    )
