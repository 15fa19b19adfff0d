use Rattle.std.proofs.Common.{length, map, Ok, Err}
use Rattle.std.proofs.lemmas.Result.{err_from_is_err_and}
use Rattle.std.specs.List.{flat_map}
use Rattle.change_log.specs.Log.{note_of}
use Rattle.report_text.specs.Printed.{noted_text}
use Rattle.report_print.specs.Texts.{changes_line}
use Rattle.report_print.proofs.PlaceLemmas.{counted_line}
use Rattle.report_print.proofs.PrintLemmas.{then_put, halted}
use Rattle.report_print.proofs.indexes.put_index.Goals as goal

pub returns-in_err-put_changes_line : goal.returns-in_err-put_changes_line
returns-in_err-put_changes_line g c =
    let p = err_from_is_err_and c.from_residual.result c.from_residual.ensures.1 in
    let notes = map note_of c.args.changes.now in
    let error = c.in_err-put_changes_line.field-0.0 in
    rw (p.1, p.2) (halted g.K.Sink _ _ (changes_line c.args.name.now (length notes)) (flat_map noted_text notes) error
    (counted_line g.K.Sink _ _ c.args.name.now c.args.changes.now (Err error) c.in_err-put_changes_line.ensures))

pub returns : goal.returns
returns g c =
    let notes = map note_of c.args.changes.now in
    let put = counted_line g.K.Sink c.args.sink.now c.put_changes_line.new.sink c.args.name.now c.args.changes.now (Ok tt) c.in_ok-put_changes_line.ensures in
    then_put g.K.Sink _ _ _ (changes_line c.args.name.now (length notes)) (flat_map noted_text notes) c.put_changes.result put c.put_changes.ensures
