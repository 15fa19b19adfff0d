use Rattle.std.proofs.Common.{◌≡◌, Some, None, length, refl, ap, ◌∙◌, sym, subst}
use Rattle.std.proofs.lemmas.List.{length-map}
use Rattle.std.specs.String.{string_bytes}
use Rattle.script.specs.Views.{schema_text}
use Rattle.lane_threads.specs.Together.{lane_texts, AllAreLinesOf, RanTogether}
use Rattle.ahi_cli.specs.declared.stop.Stop.TheVariants as stop
use Rattle.ahi_cli.specs.Ends.{output_of}
use Rattle.ahi_cli.specs.FirstRefusal.{sizes_stop}
use Rattle.ahi_cli.specs.Run.{IsReportOf, IsReportBy}
use Rattle.ahi_cli.specs.Scripts.{TellsScript, RefusesSizes}
use Rattle.ahi_cli.proofs.ScriptLemmas.{broken_sizes, opened_sizes}
use Rattle.ahi_cli.proofs.EndsLemmas.{refused_ends, leaves_none, lacked_ends, lacked_leaves}
use Rattle.ahi_cli.proofs.script_run.run_script.Goals as goal

pub put_work-requires-clause-allowed : goal.put_work-requires-clause-allowed
put_work-requires-clause-allowed g c =
    let script = c.args.script.now in
    let count : length c.deref.result.now ≡ length (schema_text script.schema).names = ap length c.deref.ensures.value ∙ (c.requires.script.fields ∙ sym (length-map script.schema.names.items string_bytes)) in
    let opened : sizes_stop (schema_text script.schema) (length c.deref-2.result.now) ≡ None = opened_sizes (schema_text script.schema) (length c.deref.result.now) (length c.deref-2.result.now) c.in-Ok.work count c.in-Ok.ensures.refused in
    subst (λ lanes. sizes_stop (schema_text script.schema) (length lanes) ≡ None) c.deref-2.ensures.value opened

pub put_work-requires-clause-ran : goal.put_work-requires-clause-ran
put_work-requires-clause-ran g c =
    let sizes = c.args.script.now.schema.sizes in
    let work = c.in-Ok.work in
    let ran = subst (λ fields. RanTogether sizes fields (lane_texts c.deref-2.result.now) work.answers.items work.logs.items work.counts.items work.pass) c.deref.ensures.value c.in-Ok.ensures.ok in
    subst (λ lanes. RanTogether sizes c.args.script.now.schema.fields.items (lane_texts lanes) work.answers.items work.logs.items work.counts.items work.pass) c.deref-2.ensures.value ran

pub returns-in-Err-BadSize-clause-ends : goal.returns-in-Err-BadSize-clause-ends
returns-in-Err-BadSize-clause-ends g c =
    let script = c.args.script.now in
    let count : length c.deref.result.now ≡ length (schema_text script.schema).names = ap length c.deref.ensures.value ∙ (c.requires.script.fields ∙ sym (length-map script.schema.names.items string_bytes)) in
    let broken : sizes_stop (schema_text script.schema) (length c.deref-2.result.now) ≡ Some (stop.Sizes c.in-Err-BadSize.setting) = broken_sizes (schema_text script.schema) (length c.deref.result.now) (length c.deref-2.result.now) c.in-Err-BadSize.field-0 c.in-Err-BadSize.setting c.in-Err-BadSize.field-0-is count c.in-Err-BadSize.ensures.cause in
    let cause : RefusesSizes script (stop.Sizes c.in-Err-BadSize.setting) = subst (λ lanes. sizes_stop (schema_text script.schema) (length lanes) ≡ Some (stop.Sizes c.in-Err-BadSize.setting)) c.deref-2.ensures.value broken in
    refused_ends (TellsScript IsReportOf script) (RefusesSizes script) (output_of g.K.Sink c.args.sink.now c.refuse.new.sink) (stop.Sizes c.in-Err-BadSize.setting) c.refuse.result (λ other. cause) c.refuse.ensures.ends

pub returns-in-Err-NoMemory-clause-ends : goal.returns-in-Err-NoMemory-clause-ends
returns-in-Err-NoMemory-clause-ends g c = lacked_ends (TellsScript IsReportOf c.args.script.now) (RefusesSizes c.args.script.now) (output_of g.K.Sink c.args.sink.now c.args.sink.now) refl

pub returns-in-Err-NoMemory-clause-trail : goal.returns-in-Err-NoMemory-clause-trail
returns-in-Err-NoMemory-clause-trail g c = lacked_leaves (λ pass. TellsScript (IsReportBy pass) c.args.script.now) (output_of g.K.Sink c.args.sink.now c.args.sink.now) c.args.trail.now c.requires.trail

pub returns-in-Err-BadSize-clause-trail : goal.returns-in-Err-BadSize-clause-trail
returns-in-Err-BadSize-clause-trail g c = leaves_none (λ pass. TellsScript (IsReportBy pass) c.args.script.now) (output_of g.K.Sink c.args.sink.now c.refuse.new.sink) c.args.trail.now c.refuse.result c.requires.trail c.refuse.ensures.other

pub work_lanes-requires-clause-lines : goal.work_lanes-requires-clause-lines
work_lanes-requires-clause-lines g c κs lives =
    subst (λ fields. AllAreLinesOf fields c.deref-2.result.now) (sym c.deref.ensures.value)
    (subst (AllAreLinesOf c.args.script.now.schema.fields.items) (sym c.deref-2.ensures.value) c.requires.script.lines)
