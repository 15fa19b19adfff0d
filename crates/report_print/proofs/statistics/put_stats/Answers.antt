use Rattle.std.proofs.Common.{ℕ, List, ◌++◌, ap, subst, ◌∙◌}
use Rattle.map_history.specs.Spelling.{stats_text}
use Rattle.report_print.specs.Prints.{PrintsTo}
use Rattle.report_print.proofs.statistics.put_stats.Goals as goal

pub returns : goal.returns
returns g c =
    let line = c.deref.ensures.value ∙ (c.in_ok-stats.ensures.ok ∙ ap (λ (bytes : List ℕ). bytes ++ stats_text c.args.name.now c.args.counts.now) c.clear.ensures.items) in
    subst (λ (text : List ℕ). PrintsTo g.K.Sink c.args.sink.now c.put_line.new.sink text c.put_line.result) line c.put_line.ensures
