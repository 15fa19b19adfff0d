-- A report that is read.
use Rattle.std.specs.Prelude.{ℕ, ◌≡◌, ◌+◌, ◌-◌, List, Vec, length, map, Result, Ok, Err, string_bytes}
use Rattle.std.specs.declared.alloc.Global.{Global}
use Rattle.map_history.specs.declared.counts.Counts.{Counts}
use Rattle.map_history.specs.declared.line.Line.{Line}
use Rattle.map_history.specs.LegalReport.{Run}
use Rattle.map_history.specs.Report.{Report}
use Rattle.map_history.specs.Spelling.{stats_text}
use Rattle.audit_law.specs.Verdicts.{TellsReport, HasNoForm}
use Rattle.line_forms.specs.Anew.{exactly}
use Rattle.line_forms.specs.LineForms.{Lines, Reading, read_line}
use Rattle.report_forms.specs.Reports.{parts_from}
use Rattle.script.specs.declared.schema.Schema.{Schema}
use Rattle.report_reading.specs.declared.report.ReadReport.{ReadReport}
use Rattle.report_reading.specs.declared.report.ReportError.{ReportError}
use Rattle.report_reading.specs.declared.report.ReportError.TheVariants as error
use Rattle.report_reading.specs.Entries.{entries_seen}
use Rattle.report_reading.specs.Told.{lines_seen, lane_asked}

-- how the statistics of an index are read, by its name and its counts
abbrev pub read_stat : List ℕ × Counts → Lines → Reading (Unit {0})
read_stat index = read_line (exactly (stats_text index.0 index.1))

-- the run that a schema and lanes ask for
abbrev pub run_asked : Schema → List (Vec Line Global) → Run
run_asked schema lanes = record {
  sizes = schema.sizes;
  names = map string_bytes schema.names.items;
  lanes = map lane_asked lanes;
}

-- a report of a run, with the statistics that its answers tell
abbrev pub report_seen : Run → ReadReport → Report
report_seen run read = record {
  lanes = map lines_seen read.lanes.items;
  indexes = parts_from run (map lines_seen read.lanes.items) 0 run.names
      (map entries_seen read.parts.items);
}

-- no report is read: reading stops at the line with this number, from 1, unless memory ran out
abbrev pub StopsAtLine : ReportError → Lines → Result Report Lines → Type 0
StopsAtLine (error.BadLine line) lines read = (rest : Lines) × (read ≡ Err rest)
    × (line ≡ length lines - length rest + 1)
StopsAtLine error.NoMemory lines read = Unit {0}

-- what the program read is what reading all lines gives
abbrev pub ReadsWhole : Run → Result ReadReport ReportError → Lines → Result Report Lines → Type 0
ReadsWhole run (Ok x) lines read = read ≡ Ok (report_seen run x)
ReadsWhole run (Err e) lines read = StopsAtLine e lines read

-- what is read is the report that the bytes tell, and the line that is told is the first at which no
-- report can stand, unless memory ran out
abbrev pub IsJudged : Run → List ℕ → List ℕ → Result ReadReport ReportError → Type 0
IsJudged run fields bytes (Ok x) = TellsReport run fields bytes (report_seen run x)
IsJudged run fields bytes (Err (error.BadLine line)) =
    HasNoForm run fields bytes (record { line = line; point = 1 })
IsJudged run fields bytes (Err error.NoMemory) = Unit {0}
