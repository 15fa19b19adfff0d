use Rattle.std.proofs.Common.{None}
use Rattle.map_history.specs.Map as map
use Rattle.map_history.specs.Operation.{Make}
use Rattle.index_law.specs.Meanings.{lent_row}
use Rattle.index_engine.proofs.HeldLemmas.{held_then}
use Rattle.engine_tests.proofs.plot.put_once.Goals as goal

pub let_both_go-requires-clause-held : goal.let_both_go-requires-clause-held
let_both_go-requires-clause-held g c = let call = c.args.call.now in
    let key = call.key.now.tuple in let value = c.args.value.now in
    held_then c.hold_leaf-leaf.new.pass c.hold_to_change-part.new.pass c.put_held-told.new.pass
    call.index key c.hold_leaf-leaf.result c.hold_to_change-part.result
    c.hold_to_change-part.ensures.took value (Make (map.Put key value)) (lent_row None)
    c.put_held-told.result c.put_held-told.ensures.ok c.put_held-told.ensures.err
