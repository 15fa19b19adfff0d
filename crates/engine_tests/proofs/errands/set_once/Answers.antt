use Rattle.std.proofs.Common.{None}
use Rattle.map_history.specs.Map as map
use Rattle.map_history.specs.Operation.{Make}
use Rattle.index_law.specs.Meanings.{lent_row}
use Rattle.index_engine.proofs.HeldLemmas.{held_then}
use Rattle.engine_tests.proofs.errands.set_once.Goals as goal

pub let_both_go-requires-clause-held : goal.let_both_go-requires-clause-held
let_both_go-requires-clause-held g c = let call = c.args.call.now in
    let key = call.key.now.tuple in let value = c.args.value.now in
    held_then c.hold_leaf-leaf.new.pass c.hold_to_change-part.new.pass c.set_held-told.new.pass
    call.index key c.hold_leaf-leaf.result c.hold_to_change-part.result
    c.hold_to_change-part.ensures.took value (Make (map.Set key value)) (lent_row None)
    c.set_held-told.result c.set_held-told.ensures.ok c.set_held-told.ensures.err
