-- What is put of lanes that were run is a legal report, and their pass did what it tells.
use Rattle.std.proofs.Common.{◌≡◌, ℕ, None, List, length, map, ap, ◌∙◌, sym, subst, String, Vec}
use Rattle.std.proofs.lemmas.List.{length-map}
use Rattle.std.specs.String.{string_bytes}
use Rattle.std.specs.declared.alloc.Global.{Global}
use Rattle.change_log.specs.declared.change.LaneChange.{LaneChange}
use Rattle.change_log.specs.Log.{ChangeNote, note_of, Log}
use Rattle.change_log.specs.Merge.{AreMerges, note_lists}
use Rattle.change_log.specs.Entries.{printed_entries}
use Rattle.map_history.specs.LegalReport.{Line}
use Rattle.map_history.specs.declared.counts.Counts.{Counts}
use Rattle.map_history.specs.Report.{ChangeLine, Report}
use Rattle.map_history.specs.Spelling.{spell}
use Rattle.script.specs.Schema.{SchemaText}
use Rattle.script.specs.Views.{schema_text}
use Rattle.lane_threads.specs.Engine.{EnginePass}
use Rattle.lane_law.specs.Reports.{report_with}
use Rattle.lane_threads.specs.Together.{lane_texts, RanTogether, AreReported}
use Rattle.lane_threads.proofs.LegalLemmas.{reported}
use Rattle.report_print.specs.Texts.{report_text_of}
use Rattle.report_print.proofs.SpellLemmas.{report_spelled}
use Rattle.ahi_cli.specs.declared.files.Script.{Script}
use Rattle.ahi_cli.specs.Run.{run_over, IsReportBy}
use Rattle.ahi_cli.specs.FirstRefusal.{sizes_stop}
use Rattle.ahi_cli.specs.Scripts.{IsScript, TellsScript}

-- what is merged of what a call was handed is merged of the same
merged_for : (n n' : ℕ) (logs logs' : List Log) (changes : List (List ChangeNote)) → n' ≡ n → logs' ≡ logs → AreMerges n' logs' changes → AreMerges n logs changes
merged_for n n' logs logs' changes count same merged = subst (λ (z : ℕ × List Log). AreMerges z.0 z.1 changes) (λ i. (count i, same i)) merged

module _ (script : Script) (is : IsScript script) (texts : List (List (List ℕ))) (logs : List Log) (counts : List Counts) (pass : EnginePass)
    (ran : RanTogether script.schema.sizes script.schema.fields.items (lane_texts script.lanes.items) texts logs counts pass)
    (changes : List (List ChangeNote)) (merged : AreMerges (length script.schema.names.items) logs changes) where
  abbrev schema : SchemaText
  schema = schema_text script.schema

  abbrev lanes : List (List Line)
  lanes = lane_texts script.lanes.items

  abbrev entries : List (List ChangeLine)
  entries = map printed_entries changes

  abbrev report : Report
  report = report_with ran.answers schema.names entries counts

  -- there is a list for each name
  pub counted : length changes ≡ length schema.names
  counted = merged.count ∙ sym (length-map script.schema.names.items string_bytes)

  paired : length schema.names ≡ length schema.fields
  paired = length-map script.schema.names.items string_bytes ∙ sym is.fields

  all_reported : AreReported (run_over schema lanes) report pass changes entries
  all_reported = reported schema.sizes schema.fields schema.names script.lanes.items texts logs counts pass changes paired is.lines
      (subst (λ n. AreMerges n logs changes) (sym (length-map script.schema.names.items string_bytes)) merged) ran

  spelled : report_text_of schema.names texts changes counts ≡ spell report
  spelled = ap (λ t. report_text_of schema.names t changes counts) ran.printed
      ∙ report_spelled schema.names ran.answers changes entries counts counted (ran.counted.long ∙ sym paired) all_reported.printed all_reported.counted

  -- what is put is a legal report, and the pass did what it tells
  told_by : IsReportBy pass schema lanes (report_text_of schema.names texts changes counts)
  told_by = record {
    report = record { report = report; spelled = spelled; legal = all_reported.legal };
    sizes = ran.sizes_are;
    trail = all_reported.trail;
    tries = all_reported.taught;
  }

-- so what is put, once their changes are merged, tells of the script
pub tells_script : (script : Script) → IsScript script → sizes_stop (schema_text script.schema) (length script.lanes.items) ≡ None
    → (texts : List (List (List ℕ))) (logs : List Log) (counts : List Counts) (pass : EnginePass) → RanTogether script.schema.sizes script.schema.fields.items (lane_texts script.lanes.items) texts logs counts pass
    → (n : ℕ) (logs' : List Log) (changes : List (List ChangeNote)) → n ≡ length script.schema.names.items → logs' ≡ logs → AreMerges n logs' changes
    → TellsScript (IsReportBy pass) script (report_text_of (schema_text script.schema).names texts changes counts)
tells_script script is allowed texts logs counts pass ran n logs' changes count same merged = record {
  sizes = allowed;
  told = told_by script is texts logs counts pass ran changes (merged_for (length script.schema.names.items) n logs logs' changes count same merged);
}

-- there is a list of merged changes for each name
pub as_many_lists : (shown lists : List (Vec LaneChange Global)) (named names : List (String Global)) (n : ℕ) → shown ≡ lists → named ≡ names → n ≡ length names → length (note_lists lists) ≡ n → length shown ≡ length named
as_many_lists shown lists named names n is is' count merged =
    ap length is ∙ (sym (length-map lists (λ (list : Vec LaneChange Global). map note_of list.items)) ∙ (merged ∙ (count ∙ ap length (sym is'))))
