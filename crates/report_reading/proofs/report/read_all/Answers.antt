-- The parts of a report, one after another.
use Rattle.std.proofs.Common.{◌≡◌, ℕ, List, Vec, String, map, Ok, subst, arith}
use Rattle.std.specs.Prelude.{string_bytes}
use Rattle.std.specs.List.{enumerate_from, zip}
use Rattle.std.specs.declared.alloc.Global.{Global}
use Rattle.std.proofs.lemmas.List.{length-map}
use Rattle.std.proofs.lemmas.Result.{err_from_is_err_and}
use Rattle.column_counts.specs.Counted.{AreCounts}
use Rattle.map_history.specs.declared.counts.Counts.{Counts}
use Rattle.report_forms.specs.Lists.{read_each}
use Rattle.report_forms.specs.Reports.{read_lane}
use Rattle.report_reading.specs.declared.told.ReadLine.{ReadLine}
use Rattle.report_reading.specs.Counts.{columns_among}
use Rattle.report_reading.specs.Entries.{entries_seen, read_part}
use Rattle.report_reading.specs.Reads.{Stops, without_things}
use Rattle.report_reading.specs.Report.{read_stat, run_asked}
use Rattle.report_reading.specs.Told.{lines_seen}
use Rattle.report_reading.proofs.ReportLemmas.{parts_stop, stats_stop, end_stops, all_read}
use Rattle.report_reading.proofs.report.read_all.Goals as goal

pub returns-in_err-parts : goal.returns-in_err-parts
returns-in_err-parts c =
    let p = err_from_is_err_and c.from_residual-in_err-parts.result c.from_residual-in_err-parts.ensures.1 in
    let run = run_asked c.args.schema.now c.args.lanes.now in
    let fields = c.args.schema.now.fields.items in
    let told = map lines_seen c.in_ok-told.told.items in
    let answered = subst (λ (fs : List ℕ). read_each (read_lane fs) (enumerate_from 0 run.lanes) c.expect_head.new.text ≡ Ok (told, c.read_lanes.new.text)) c.deref.ensures.value c.in_ok-told.ensures in
    let stops = subst (λ (ns : List (String Global)). Stops c.in_err-parts.field-0.0 c.read_parts.new.text (read_each read_part (zip (map string_bytes ns) fields) c.read_lanes.new.text)) c.deref-2.ensures.value
    (subst (λ (fs : List ℕ). Stops c.in_err-parts.field-0.0 c.read_parts.new.text (read_each read_part (zip (map string_bytes c.deref-2.result.now) fs) c.read_lanes.new.text)) c.deref-3.ensures.value c.in_err-parts.ensures) in
    rw (p.1, p.2) (parts_stop run fields told c.args.text.now c.expect_head.new.text c.in_ok-expect_head.ensures c.read_lanes.new.text answered c.in_err-parts.field-0.0 c.read_parts.new.text stops)

pub returns-in_err-expect_stats : goal.returns-in_err-expect_stats
returns-in_err-expect_stats c =
    let p = err_from_is_err_and c.from_residual-in_err-expect_stats.result c.from_residual-in_err-expect_stats.ensures.1 in
    let run = run_asked c.args.schema.now c.args.lanes.now in
    let fields = c.args.schema.now.fields.items in
    let told = map lines_seen c.in_ok-told.told.items in
    let lists = map entries_seen c.in_ok-parts.parts.items in
    let counts = c.in_ok-counts.counts.items in
    let answered = subst (λ (fs : List ℕ). read_each (read_lane fs) (enumerate_from 0 run.lanes) c.expect_head.new.text ≡ Ok (told, c.read_lanes.new.text)) c.deref.ensures.value c.in_ok-told.ensures in
    let listed = subst (λ (ns : List (String Global)). read_each read_part (zip (map string_bytes ns) fields) c.read_lanes.new.text ≡ Ok (lists, c.read_parts.new.text)) c.deref-2.ensures.value
    (subst (λ (fs : List ℕ). read_each read_part (zip (map string_bytes c.deref-2.result.now) fs) c.read_lanes.new.text ≡ Ok (lists, c.read_parts.new.text)) c.deref-3.ensures.value c.in_ok-parts.ensures) in
    let counted = subst (λ (ts : List (Vec ReadLine Global)). AreCounts c.len.result (columns_among run.lanes (map lines_seen ts)) counts) c.deref-4.ensures.value c.in_ok-counts.ensures in
    let stops = subst (λ (ns : List (String Global)). Stops c.in_err-expect_stats.field-0.0 c.expect_stats.new.text (without_things (read_each read_stat (zip (map string_bytes ns) counts) c.read_parts.new.text))) c.deref-5.ensures.value
    (subst (λ (cs : List Counts). Stops c.in_err-expect_stats.field-0.0 c.expect_stats.new.text (without_things (read_each read_stat (zip (map string_bytes c.deref-5.result.now) cs) c.read_parts.new.text))) c.deref-6.ensures.value c.in_err-expect_stats.ensures) in
    rw (p.1, p.2) (stats_stop run fields told c.args.text.now c.expect_head.new.text c.in_ok-expect_head.ensures c.read_lanes.new.text answered lists c.read_parts.new.text listed counts c.len.result (omega (arith, c.len.ensures, c.args.schema.now.names.ok.0, length-map c.args.schema.now.names.items string_bytes)) counted
    c.in_err-expect_stats.field-0.0 c.expect_stats.new.text stops)

pub returns-in_err-expect_end : goal.returns-in_err-expect_end
returns-in_err-expect_end c =
    let p = err_from_is_err_and c.from_residual-in_err-expect_end.result c.from_residual-in_err-expect_end.ensures.1 in
    let run = run_asked c.args.schema.now c.args.lanes.now in
    let fields = c.args.schema.now.fields.items in
    let told = map lines_seen c.in_ok-told.told.items in
    let lists = map entries_seen c.in_ok-parts.parts.items in
    let counts = c.in_ok-counts.counts.items in
    let answered = subst (λ (fs : List ℕ). read_each (read_lane fs) (enumerate_from 0 run.lanes) c.expect_head.new.text ≡ Ok (told, c.read_lanes.new.text)) c.deref.ensures.value c.in_ok-told.ensures in
    let listed = subst (λ (ns : List (String Global)). read_each read_part (zip (map string_bytes ns) fields) c.read_lanes.new.text ≡ Ok (lists, c.read_parts.new.text)) c.deref-2.ensures.value
    (subst (λ (fs : List ℕ). read_each read_part (zip (map string_bytes c.deref-2.result.now) fs) c.read_lanes.new.text ≡ Ok (lists, c.read_parts.new.text)) c.deref-3.ensures.value c.in_ok-parts.ensures) in
    let counted = subst (λ (ts : List (Vec ReadLine Global)). AreCounts c.len.result (columns_among run.lanes (map lines_seen ts)) counts) c.deref-4.ensures.value c.in_ok-counts.ensures in
    let told_stats = subst (λ (ns : List (String Global)). without_things (read_each read_stat (zip (map string_bytes ns) counts) c.read_parts.new.text) ≡ Ok (tt, c.expect_stats.new.text)) c.deref-5.ensures.value
    (subst (λ (cs : List Counts). without_things (read_each read_stat (zip (map string_bytes c.deref-5.result.now) cs) c.read_parts.new.text) ≡ Ok (tt, c.expect_stats.new.text)) c.deref-6.ensures.value c.in_ok-expect_stats.ensures) in
    rw (p.1, p.2) (end_stops run fields told c.args.text.now c.expect_head.new.text c.in_ok-expect_head.ensures c.read_lanes.new.text answered lists c.read_parts.new.text listed counts c.len.result (omega (arith, c.len.ensures, c.args.schema.now.names.ok.0, length-map c.args.schema.now.names.items string_bytes)) counted
    c.expect_stats.new.text c.expect_end.new.text c.in_err-expect_end.field-0.0 told_stats c.in_err-expect_end.ensures)

pub returns : goal.returns
returns c =
    let run = run_asked c.args.schema.now c.args.lanes.now in
    let fields = c.args.schema.now.fields.items in
    let told = map lines_seen c.in_ok-told.told.items in
    let lists = map entries_seen c.in_ok-parts.parts.items in
    let counts = c.in_ok-counts.counts.items in
    let answered = subst (λ (fs : List ℕ). read_each (read_lane fs) (enumerate_from 0 run.lanes) c.expect_head.new.text ≡ Ok (told, c.read_lanes.new.text)) c.deref.ensures.value c.in_ok-told.ensures in
    let listed = subst (λ (ns : List (String Global)). read_each read_part (zip (map string_bytes ns) fields) c.read_lanes.new.text ≡ Ok (lists, c.read_parts.new.text)) c.deref-2.ensures.value
    (subst (λ (fs : List ℕ). read_each read_part (zip (map string_bytes c.deref-2.result.now) fs) c.read_lanes.new.text ≡ Ok (lists, c.read_parts.new.text)) c.deref-3.ensures.value c.in_ok-parts.ensures) in
    let counted = subst (λ (ts : List (Vec ReadLine Global)). AreCounts c.len.result (columns_among run.lanes (map lines_seen ts)) counts) c.deref-4.ensures.value c.in_ok-counts.ensures in
    let told_stats = subst (λ (ns : List (String Global)). without_things (read_each read_stat (zip (map string_bytes ns) counts) c.read_parts.new.text) ≡ Ok (tt, c.expect_stats.new.text)) c.deref-5.ensures.value
    (subst (λ (cs : List Counts). without_things (read_each read_stat (zip (map string_bytes c.deref-5.result.now) cs) c.read_parts.new.text) ≡ Ok (tt, c.expect_stats.new.text)) c.deref-6.ensures.value c.in_ok-expect_stats.ensures) in
    all_read run fields told c.args.text.now c.expect_head.new.text c.in_ok-expect_head.ensures c.read_lanes.new.text answered lists c.read_parts.new.text listed counts c.len.result (omega (arith, c.len.ensures, c.args.schema.now.names.ok.0, length-map c.args.schema.now.names.items string_bytes)) counted
    c.expect_stats.new.text c.expect_end.new.text told_stats c.in_ok-expect_end.ensures
