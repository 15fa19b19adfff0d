use Rattle.std.proofs.Common.{None, IfOk, sym, subst}
use Rattle.std.specs.Prelude.{OnErr}
use Rattle.map_history.specs.Map as map
use Rattle.map_history.specs.Operation.{operation_of}
use Rattle.map_history.specs.declared.op.Op.{Op}
use Rattle.call_law.specs.Once.{IsQuiet}
use Rattle.index_law.specs.Meanings.{lent_row}
use Rattle.index_engine.specs.Engines.{known, lessons_of}
use Rattle.engine_law.specs.Tells.{TellsOnce}
use Rattle.search_info.specs.Tries.{TriesAfter}
use Rattle.lane_threads.specs.Workable.{IsWorkableOp}
use Rattle.lane_threads.proofs.RowLemmas.{shows_no_row, result_shows_no_row, gave_up_quiet}
use Rattle.lane_threads.proofs.line.work_line.Goals as goal

pub returns-in-Put-clause-ok : goal.returns-in-Put-clause-ok
returns-in-Put-clause-ok g c =
    let v = known c.args.pass.now in
    let w = known c.put.new.pass in
    subst (λ (o : Op). IfOk c.put.result (λ told. TellsOnce v w (operation_of o).index
    (operation_of o).ask told c.args.row.now)) (sym c.in-Put.is)
    (result_shows_no_row c.put.result v w c.in-Put.index c.in-Put.key.tuple c.in-Put.value
    (map.Put c.in-Put.key.tuple c.in-Put.value) (lent_row None) c.args.row.now c.put.ensures.ok)

pub returns-in-Set-clause-ok : goal.returns-in-Set-clause-ok
returns-in-Set-clause-ok g c =
    let v = known c.args.pass.now in
    let w = known c.set.new.pass in
    subst (λ (o : Op). IfOk c.set.result (λ told. TellsOnce v w (operation_of o).index
    (operation_of o).ask told c.args.row.now)) (sym c.in-Set.is)
    (result_shows_no_row c.set.result v w c.in-Set.index c.in-Set.key.tuple c.in-Set.value
    (map.Set c.in-Set.key.tuple c.in-Set.value) (lent_row None) c.args.row.now c.set.ensures.ok)

pub returns-in-Seek-clause-ok : goal.returns-in-Seek-clause-ok
returns-in-Seek-clause-ok g c =
    let v = known c.args.pass.now in
    let w = known c.seek.new.pass in
    subst (λ (o : Op). TellsOnce v w (operation_of o).index (operation_of o).ask c.seek.result
    c.seek.new.out) (sym c.in-Seek.is) c.seek.ensures.told.tells

pub get-requires-clause-index : goal.get-requires-clause-index
get-requires-clause-index g c =
    (subst (IsWorkableOp c.args.engine.now) c.in-Get.is c.requires.line).0

pub get-requires-clause-key : goal.get-requires-clause-key
get-requires-clause-key g c =
    (subst (IsWorkableOp c.args.engine.now) c.in-Get.is c.requires.line).1

pub returns-in-Get-clause-own : goal.returns-in-Get-clause-own
returns-in-Get-clause-own g c = c.get.ensures.own

pub returns-in-Get-clause-tried : goal.returns-in-Get-clause-tried
returns-in-Get-clause-tried g c =
    subst (λ (o : Op). TriesAfter (lessons_of c.args.pass.now) (operation_of o).index c.get.result.how
    (lessons_of c.get.new.pass)) (sym c.in-Get.is) c.get.ensures.tried

pub returns-in-Get-clause-ok : goal.returns-in-Get-clause-ok
returns-in-Get-clause-ok g c =
    let v = known c.args.pass.now in
    let w = known c.get.new.pass in
    subst (λ (o : Op). TellsOnce v w (operation_of o).index (operation_of o).ask c.get.result
    c.get.new.out) (sym c.in-Get.is) c.get.ensures.told.tells

pub put-requires-clause-index : goal.put-requires-clause-index
put-requires-clause-index g c =
    (subst (IsWorkableOp c.args.engine.now) c.in-Put.is c.requires.line).0

pub put-requires-clause-key : goal.put-requires-clause-key
put-requires-clause-key g c =
    (subst (IsWorkableOp c.args.engine.now) c.in-Put.is c.requires.line).1

pub returns-in-Put-clause-own : goal.returns-in-Put-clause-own
returns-in-Put-clause-own g c = c.put.ensures.own

pub returns-in-Put-clause-tried : goal.returns-in-Put-clause-tried
returns-in-Put-clause-tried g c =
    subst (λ (o : Op). IfOk c.put.result (λ told. TriesAfter (lessons_of c.args.pass.now) (operation_of o).index
    told.how (lessons_of c.put.new.pass))) (sym c.in-Put.is) c.put.ensures.tried

pub returns-in-Put-clause-err : goal.returns-in-Put-clause-err
returns-in-Put-clause-err g c =
    let v = known c.args.pass.now in
    let w = known c.put.new.pass in
    subst (λ (o : Op). OnErr c.put.result (IsQuiet v w (operation_of o).index)) (sym c.in-Put.is)
    (gave_up_quiet c.put.result v w (lessons_of c.args.pass.now) (lessons_of c.put.new.pass)
    c.in-Put.index c.in-Put.key.tuple c.in-Put.value c.put.ensures.err)

pub set-requires-clause-index : goal.set-requires-clause-index
set-requires-clause-index g c =
    (subst (IsWorkableOp c.args.engine.now) c.in-Set.is c.requires.line).0

pub set-requires-clause-key : goal.set-requires-clause-key
set-requires-clause-key g c =
    (subst (IsWorkableOp c.args.engine.now) c.in-Set.is c.requires.line).1

pub returns-in-Set-clause-own : goal.returns-in-Set-clause-own
returns-in-Set-clause-own g c = c.set.ensures.own

pub returns-in-Set-clause-tried : goal.returns-in-Set-clause-tried
returns-in-Set-clause-tried g c =
    subst (λ (o : Op). IfOk c.set.result (λ told. TriesAfter (lessons_of c.args.pass.now) (operation_of o).index
    told.how (lessons_of c.set.new.pass))) (sym c.in-Set.is) c.set.ensures.tried

pub returns-in-Set-clause-err : goal.returns-in-Set-clause-err
returns-in-Set-clause-err g c =
    let v = known c.args.pass.now in
    let w = known c.set.new.pass in
    subst (λ (o : Op). OnErr c.set.result (IsQuiet v w (operation_of o).index)) (sym c.in-Set.is)
    (gave_up_quiet c.set.result v w (lessons_of c.args.pass.now) (lessons_of c.set.new.pass)
    c.in-Set.index c.in-Set.key.tuple c.in-Set.value c.set.ensures.err)

pub del-requires-clause-index : goal.del-requires-clause-index
del-requires-clause-index g c =
    (subst (IsWorkableOp c.args.engine.now) c.in-Del.is c.requires.line).0

pub del-requires-clause-key : goal.del-requires-clause-key
del-requires-clause-key g c =
    (subst (IsWorkableOp c.args.engine.now) c.in-Del.is c.requires.line).1

pub returns-in-Del-clause-own : goal.returns-in-Del-clause-own
returns-in-Del-clause-own g c = c.del.ensures.own

pub returns-in-Del-clause-tried : goal.returns-in-Del-clause-tried
returns-in-Del-clause-tried g c =
    subst (λ (o : Op). TriesAfter (lessons_of c.args.pass.now) (operation_of o).index c.del.result.how
    (lessons_of c.del.new.pass)) (sym c.in-Del.is) c.del.ensures.tried

pub returns-in-Del-clause-ok : goal.returns-in-Del-clause-ok
returns-in-Del-clause-ok g c =
    let v = known c.args.pass.now in
    let w = known c.del.new.pass in
    subst (λ (o : Op). TellsOnce v w (operation_of o).index (operation_of o).ask c.del.result
    c.args.row.now) (sym c.in-Del.is)
    (shows_no_row c.del.result v w c.in-Del.index (map.Del c.in-Del.key.tuple) (lent_row None)
    c.args.row.now c.del.ensures.told.tells)

pub seek-requires-clause-index : goal.seek-requires-clause-index
seek-requires-clause-index g c =
    (subst (IsWorkableOp c.args.engine.now) c.in-Seek.is c.requires.line).0

pub seek-requires-clause-tuple : goal.seek-requires-clause-tuple
seek-requires-clause-tuple g c =
    (subst (IsWorkableOp c.args.engine.now) c.in-Seek.is c.requires.line).1

pub returns-in-Seek-clause-own : goal.returns-in-Seek-clause-own
returns-in-Seek-clause-own g c = c.seek.ensures.own

pub returns-in-Seek-clause-tried : goal.returns-in-Seek-clause-tried
returns-in-Seek-clause-tried g c =
    subst (λ (o : Op). TriesAfter (lessons_of c.args.pass.now) (operation_of o).index c.seek.result.how
    (lessons_of c.seek.new.pass)) (sym c.in-Seek.is) c.seek.ensures.tried
