-- The columns that the statistics count.
use Rattle.std.specs.Prelude.{ℕ, ◌++◌, List}
use Rattle.std.specs.List.{flat_map, zip}
use Rattle.column_counts.specs.Counted.{AreCounts}
use Rattle.map_history.specs.declared.counts.Counts.{Counts}
use Rattle.map_history.specs.LegalReport.{Line, columns_in}
use Rattle.map_history.specs.Report.{Columns, AnswerLine}
use Rattle.report_reading.specs.declared.pieces.ReadPiece.{ReadPiece}
use Rattle.report_reading.specs.Columns.{columns_seen}

-- the columns of an index in the answers of all lanes
abbrev pub columns_among : List (List Line) → List (List AnswerLine) → ℕ → List Columns
columns_among lanes told i =
    flat_map (λ (x : List Line × List AnswerLine). columns_in i (zip x.0 x.1)) (zip lanes told)

-- the columns of a piece
abbrev pub piece_columns : ReadPiece → Columns
piece_columns piece = columns_seen piece.columns

-- where `old` counts some columns of each index, `new` counts these too
abbrev pub CountsMore : List Counts → List Counts → (ℕ → List Columns) → Type 0
CountsMore old new columns = (indexes : ℕ) (before : ℕ → List Columns)
    → AreCounts indexes before old → AreCounts indexes (λ i. before i ++ columns i) new
