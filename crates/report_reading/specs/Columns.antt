-- Columns that are read.
use Rattle.std.specs.Prelude.{List, ◌∷◌}
use Rattle.map_history.specs.declared.columns.Note.{Note}
use Rattle.map_history.specs.declared.columns.Note.TheVariants as note
use Rattle.map_history.specs.Report.{Columns}
use Rattle.map_history.specs.Words.{counted_notes}
use Rattle.report_reading.specs.declared.columns.ReadColumns.{ReadColumns}

-- as a report has them
abbrev pub columns_seen : ReadColumns → Columns
columns_seen columns = record { how = columns.how; note = columns.note }

-- the words that tell of learning
abbrev pub telling_notes : List Note
telling_notes = note.No ∷ counted_notes
