-- What is read is told by the bytes, and the line that is told is the first that can't stand.
use Rattle.std.proofs.Common.{ℕ, List, Result, Ok, Err, refl, ◌∙◌, arith}
use Rattle.audit_law.specs.TextLines.{ended_lines}
use Rattle.line_forms.specs.LineForms.{read_whole}
use Rattle.map_history.specs.LegalReport.{Run}
use Rattle.report_forms.specs.Reports.{IsReadRun, read_report}
use Rattle.report_forms.proofs.ReportLemmas.{reports_are_judged}
use Rattle.report_reading.specs.declared.report.ReadReport.{ReadReport}
use Rattle.report_reading.specs.declared.report.ReportError.{ReportError}
use Rattle.report_reading.specs.declared.report.ReportError.TheVariants as error
use Rattle.report_reading.specs.Report.{IsJudged, ReadsWhole, report_seen}

pub judged : (run : Run) (fields bytes : List ℕ) (result : Result ReadReport ReportError) → IsReadRun run fields
    → ReadsWhole run result (ended_lines bytes) (read_whole (read_report run fields (ended_lines bytes))) → IsJudged run fields bytes result
judged run fields bytes (Ok x) is h = reports_are_judged.reads run fields bytes (report_seen run x) is h
judged run fields bytes (Err error.NoMemory) is h = tt
judged run fields bytes (Err (error.BadLine line)) is h =
    let stops = reports_are_judged.stops run fields bytes h.0 is h.1 in
    record {
      is_point = refl;
      n = stops.0;
      is_line = h.2 ∙ omega (arith, stops.1);
      loses = stops.2;
    }
