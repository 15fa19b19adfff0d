use Rattle.std.proofs.Common.{◌≡◌, length, map, ap, ◌∙◌, sym, refl, subst, Ok, Err}
use Rattle.std.specs.String.{string_bytes}
use Rattle.script.specs.Views.{schema_text}
use Rattle.change_log.specs.Merge.{note_lists}
use Rattle.report_print.specs.Prints.{PrintsTo}
use Rattle.report_print.specs.Texts.{report_text_of}
use Rattle.ahi_cli.specs.declared.status.Status.TheVariants.{Done}
use Rattle.ahi_cli.specs.Ends.{output_of}
use Rattle.ahi_cli.specs.Run.{IsReportOf, IsReportBy}
use Rattle.ahi_cli.specs.Scripts.{TellsScript, RefusesSizes}
use Rattle.ahi_cli.proofs.EndsLemmas.{done_ends, halted_ends, halted_other, leaves_none, leaves_pass, lacked_ends, lacked_leaves}
use Rattle.ahi_cli.proofs.ReportLemmas.{tells_script, as_many_lists}
use Rattle.ahi_cli.proofs.script_run.put_work.Goals as goal

pub returns-in-Ok-put_report-clause-ends : goal.returns-in-Ok-put_report-clause-ends
returns-in-Ok-put_report-clause-ends g c =
    let script = c.args.script.now in
    let count : c.len.result ≡ length script.schema.names.items = c.len.ensures ∙ script.schema.names.ok.0 in
    let work = c.args.work in
    let told = tells_script script c.requires.script c.requires.allowed work.answers.items work.logs.items work.counts.items work.pass c.requires.ran c.len.result c.deref.result.now (note_lists c.in-Ok.changes.items) count c.deref.ensures.value c.in-Ok.ensures in
    let text = report_text_of (schema_text script.schema).names work.answers.items (note_lists c.in-Ok.changes.items) work.counts.items in
    let put : PrintsTo g.K.Sink c.args.sink.now c.put_report.new.sink text (Ok tt) = subst (λ t. PrintsTo g.K.Sink c.args.sink.now c.put_report.new.sink t (Ok tt)) (λ i. report_text_of (map string_bytes (c.deref-2.ensures.value i)) (c.deref-3.ensures.value i) (note_lists (c.deref-4.ensures.value i)) (c.deref-5.ensures.value i)) c.in-Ok-put_report.ensures in
    done_ends (TellsScript IsReportOf script) (RefusesSizes script) (output_of g.K.Sink c.args.sink.now c.put_report.new.sink) text Done (record { sizes = told.sizes; told = told.told.report }) (refl, put.0, put.1)

pub returns-in-Ok-put_report-clause-trail : goal.returns-in-Ok-put_report-clause-trail
returns-in-Ok-put_report-clause-trail g c =
    let script = c.args.script.now in
    let count : c.len.result ≡ length script.schema.names.items = c.len.ensures ∙ script.schema.names.ok.0 in
    let work = c.args.work in
    let told = tells_script script c.requires.script c.requires.allowed work.answers.items work.logs.items work.counts.items work.pass c.requires.ran c.len.result c.deref.result.now (note_lists c.in-Ok.changes.items) count c.deref.ensures.value c.in-Ok.ensures in
    let text = report_text_of (schema_text script.schema).names work.answers.items (note_lists c.in-Ok.changes.items) work.counts.items in
    let put : PrintsTo g.K.Sink c.args.sink.now c.put_report.new.sink text (Ok tt) = subst (λ t. PrintsTo g.K.Sink c.args.sink.now c.put_report.new.sink t (Ok tt)) (λ i. report_text_of (map string_bytes (c.deref-2.ensures.value i)) (c.deref-3.ensures.value i) (note_lists (c.deref-4.ensures.value i)) (c.deref-5.ensures.value i)) c.in-Ok-put_report.ensures in
    leaves_pass (λ pass. TellsScript (IsReportBy pass) script) (output_of g.K.Sink c.args.sink.now c.put_report.new.sink) work.pass text told put.0 put.1

pub returns-clause-ends : goal.returns-clause-ends
returns-clause-ends g c =
    let script = c.args.script.now in
    let count : c.len.result ≡ length script.schema.names.items = c.len.ensures ∙ script.schema.names.ok.0 in
    let work = c.args.work in
    let told = tells_script script c.requires.script c.requires.allowed work.answers.items work.logs.items work.counts.items work.pass c.requires.ran c.len.result c.deref.result.now (note_lists c.in-Ok.changes.items) count c.deref.ensures.value c.in-Ok.ensures in
    let text = report_text_of (schema_text script.schema).names work.answers.items (note_lists c.in-Ok.changes.items) work.counts.items in
    let put : PrintsTo g.K.Sink c.args.sink.now c.put_report.new.sink text (Err c.in-Err.halt) = subst (λ t. PrintsTo g.K.Sink c.args.sink.now c.put_report.new.sink t (Err c.in-Err.halt)) (λ i. report_text_of (map string_bytes (c.deref-2.ensures.value i)) (c.deref-3.ensures.value i) (note_lists (c.deref-4.ensures.value i)) (c.deref-5.ensures.value i)) c.in-Err.ensures in
    halted_ends (TellsScript IsReportOf script) (RefusesSizes script) (output_of g.K.Sink c.args.sink.now c.put_report.new.sink) text c.in-Err.halt c.halted.result c.halted.ensures (record { sizes = told.sizes; told = told.told.report }) put

pub returns-clause-trail : goal.returns-clause-trail
returns-clause-trail g c = leaves_none (λ pass. TellsScript (IsReportBy pass) c.args.script.now) (output_of g.K.Sink c.args.sink.now c.put_report.new.sink) c.args.trail.now c.halted.result c.requires.trail (λ is. halted_other c.in-Err.halt (sym c.halted.ensures ∙ is))

pub put_report-requires-clause-changes : goal.put_report-requires-clause-changes
put_report-requires-clause-changes g c =
    let names = c.args.script.now.schema.names in
    let count : c.len.result ≡ length names.items = c.len.ensures ∙ names.ok.0 in
    as_many_lists c.deref-4.result.now c.in-Ok.changes.items c.deref-2.result.now names.items c.len.result c.deref-4.ensures.value c.deref-2.ensures.value count c.in-Ok.ensures.count

pub put_report-requires-clause-counts : goal.put_report-requires-clause-counts
put_report-requires-clause-counts g c = ap length c.deref-5.ensures.value ∙ (c.requires.ran.counted.long ∙ (c.requires.script.fields ∙ ap length (sym c.deref-2.ensures.value)))

pub returns-in_default-clause-ends : goal.returns-in_default-clause-ends
returns-in_default-clause-ends g c = lacked_ends (TellsScript IsReportOf c.args.script.now) (RefusesSizes c.args.script.now) (output_of g.K.Sink c.args.sink.now c.args.sink.now) refl

pub returns-in_default-clause-trail : goal.returns-in_default-clause-trail
returns-in_default-clause-trail g c = lacked_leaves (λ pass. TellsScript (IsReportBy pass) c.args.script.now) (output_of g.K.Sink c.args.sink.now c.args.sink.now) c.args.trail.now c.requires.trail
