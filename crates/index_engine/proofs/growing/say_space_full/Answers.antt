use Rattle.std.proofs.Common.{sym, subst}
use Rattle.latch_space.specs.Passes.{view}
use Rattle.map_history.specs.Operation.{operation_by}
use Rattle.index_law.specs.Rightness.{AsksToWrite}
use Rattle.engine_law.specs.Says.{columns_by}
use Rattle.index_engine.specs.Writes.{SaysNoRoom}
use Rattle.index_engine.proofs.RoomLemmas.{says_no_room, may_say_full, write_asks}
use Rattle.index_engine.proofs.growing.say_space_full.Goals as goal

pub read_point-requires-clause-rule : goal.read_point-requires-clause-rule
read_point-requires-clause-rule g c = let call = c.args.call.now in
    may_say_full c.args.pass.now call.index (operation_by c.write_op-op.result).ask
    (columns_by call.found) c.requires.short
    (subst AsksToWrite (sym c.write_op-op.ensures)
    (write_asks c.args.write call.key.now.tuple c.args.value.now).writes)

pub returns-clause-did : goal.returns-clause-did
returns-clause-did g c = let call = c.args.call.now in
    subst (λ ask. SaysNoRoom (view c.args.pass.now) (view c.read_point.new.pass) call.index ask
    (columns_by call.found)) c.write_op-op.ensures
    (says_no_room c.args.pass.now c.read_point.new.pass call.index c.read_point.result
    (operation_by c.write_op-op.result).ask (columns_by call.found) c.read_point.ensures.did)
