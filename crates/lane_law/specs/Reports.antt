-- A report, from what its lanes were answered, and the entries and statistics of its indexes.
use Rattle.std.specs.Prelude.{ℕ, List, map}
use Rattle.std.specs.List.{zip}
use Rattle.map_history.specs.declared.counts.Counts.{Counts}
use Rattle.map_history.specs.Report.{AnswerLine, ChangeLine, IndexPart, Report}

-- an index's part of the report: its name, its entries, its statistics
abbrev pub part_with : List ℕ × (List ChangeLine × Counts) → IndexPart
part_with part = record { name = part.0; entries = part.1.0; counts = part.1.1 }

-- the report of lanes with these answers over indexes of these names, entries and statistics
abbrev pub report_with : List (List AnswerLine) → List (List ℕ) → List (List ChangeLine)
    → List Counts → Report
report_with answers names entries counts =
    record { lanes = answers; indexes = map part_with (zip names (zip entries counts)) }
