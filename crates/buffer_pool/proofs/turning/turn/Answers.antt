use Rattle.buffer_pool.proofs.TurnLemmas.{pool_waits, turn_whole, turn_follows, turns_back}
use Rattle.buffer_pool.proofs.turning.turn.Goals as goal

pub frame_back-requires-clause-out : goal.frame_back-requires-clause-out
frame_back-requires-clause-out c = let m = c.requires.may in (m.old, m.out)

pub pool_back-requires-clause-out : goal.pool_back-requires-clause-out
pool_back-requires-clause-out c = (
  c.requires.may.pool,
  pool_waits c.args.pass.now c.frame_back.new.pass c.args.block
      c.args.frame c.args.pool c.requires.may c.frame_back.ensures.back,
)

pub settle-requires-clause-whole : goal.settle-requires-clause-whole
settle-requires-clause-whole c =
    turn_whole c.args.pass.now c.frame_back.new.pass c.args.block c.args.frame c.args.pool
    c.requires.may c.frame_back.ensures.back c.pool_back.new.pass c.pool_back.ensures.back

pub settle-requires-clause-rule : goal.settle-requires-clause-rule
settle-requires-clause-rule c =
    turn_follows c.args.pass.now c.frame_back.new.pass c.args.block c.args.frame c.args.pool
    c.requires.may c.frame_back.ensures.back c.pool_back.new.pass c.pool_back.ensures.back
    c.hands_keep_the_hash.ensures

pub returns-clause-turned : goal.returns-clause-turned
returns-clause-turned c =
    turns_back c.args.pass.now c.frame_back.new.pass c.args.block c.args.frame c.args.pool
    c.requires.may c.frame_back.ensures.back c.pool_back.new.pass c.pool_back.ensures.back
    c.settle.new.pass c.settle.ensures.did
