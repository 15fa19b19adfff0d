use Rattle.std.proofs.Common.{ℕ, List, ◌++◌, ap, subst, ◌∙◌}
use Rattle.change_log.specs.Log.{note_of}
use Rattle.report_text.specs.Printed.{noted_text}
use Rattle.report_print.specs.Prints.{PrintsTo}
use Rattle.report_print.proofs.indexes.put_change.Goals as goal

pub returns : goal.returns
returns g c =
    let line = c.deref.ensures.value ∙ (c.in_ok-change.ensures.ok ∙ ap (λ (bytes : List ℕ). bytes ++ noted_text (note_of c.args.change.now)) c.clear.ensures.items) in
    subst (λ (text : List ℕ). PrintsTo g.K.Sink c.args.sink.now c.put_line.new.sink text c.put_line.result) line c.put_line.ensures
