use Rattle.std.proofs.Common.{[], ◌∷◌, ap}
use Rattle.std.specs.Prelude.{codes}
use Rattle.change_log.specs.Log.{note_of}
use Rattle.map_history.specs.Text.{field_text, key_text}
use Rattle.report_text.proofs.ChangeLemmas.{asked_text, change_put}
use Rattle.report_text.proofs.changes.change.Goals as goal

pub returns-in-Put-clause-ok : goal.returns-in-Put-clause-ok
returns-in-Put-clause-ok c =
    let change = c.args.change.now in
    change_put c.put_row.result (note_of change) (codes "put" ∷ key_text c.in-Put.key.tuple ∷ field_text c.in-Put.value ∷ []) c.args.out.now.items c.put_row.new.out.items
    (ap (asked_text change.number change.lane change.line.now.line) c.in-Put.is) c.put_row.ensures.ok

pub returns-in-Set-clause-ok : goal.returns-in-Set-clause-ok
returns-in-Set-clause-ok c =
    let change = c.args.change.now in
    change_put c.put_row-in-Set.result (note_of change) (codes "set" ∷ key_text c.in-Set.key.tuple ∷ field_text c.in-Set.value ∷ []) c.args.out.now.items c.put_row-in-Set.new.out.items
    (ap (asked_text change.number change.lane change.line.now.line) c.in-Set.is) c.put_row-in-Set.ensures.ok

pub returns-in-Del-clause-ok : goal.returns-in-Del-clause-ok
returns-in-Del-clause-ok c =
    let change = c.args.change.now in
    change_put c.put_del.result (note_of change) (codes "del" ∷ key_text c.in-Del.key.tuple ∷ []) c.args.out.now.items c.put_del.new.out.items
    (ap (asked_text change.number change.lane change.line.now.line) c.in-Del.is) c.put_del.ensures.ok

pub returns-in-Put-clause-err : goal.returns-in-Put-clause-err
returns-in-Put-clause-err c = c.put_row.ensures.err

pub returns-in-Set-clause-err : goal.returns-in-Set-clause-err
returns-in-Set-clause-err c = c.put_row-in-Set.ensures.err

pub returns-in-Del-clause-err : goal.returns-in-Del-clause-err
returns-in-Del-clause-err c = c.put_del.ensures.err
