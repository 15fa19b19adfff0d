use Rattle.std.proofs.Common.{ℕ, List, ◌++◌, ap, subst, ◌∙◌}
use Rattle.report_print.specs.Prints.{PrintsTo}
use Rattle.report_print.specs.Texts.{end_line}
use Rattle.report_print.proofs.report.put_end.Goals as goal

pub returns : goal.returns
returns g c =
    let line = c.deref.ensures.value ∙ (c.in_ok-report_end.ensures.ok ∙ ap (λ (bytes : List ℕ). bytes ++ end_line) c.clear.ensures.items) in
    subst (λ (text : List ℕ). PrintsTo g.K.Sink c.args.sink.now c.put_line.new.sink text c.put_line.result) line c.put_line.ensures
