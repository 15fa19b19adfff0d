-- The text of a report, from the texts of its answers, and the changes and counts of its indexes.
use Rattle.std.specs.Prelude.{ℕ, List, [], ◌∷◌, ◌++◌, length, codes, decimal}
use Rattle.std.specs.List.{concat, flat_map, enumerate_from, zip}
use Rattle.map_history.specs.declared.counts.Counts.{Counts}
use Rattle.map_history.specs.Spelling.{stats_text}
use Rattle.map_history.specs.Text.{line_of}
use Rattle.change_log.specs.Log.{ChangeNote}
use Rattle.report_text.specs.Printed.{noted_text}

-- the first line of a report
abbrev pub first_line : List ℕ
first_line = line_of (codes "ahi" ∷ codes "run" ∷ [])

-- the last line of a report
abbrev pub end_line : List ℕ
end_line = line_of (codes "end" ∷ [])

-- the line before the answers of a lane
abbrev pub lane_line : ℕ → List ℕ
lane_line number = line_of (codes "lane" ∷ decimal number ∷ [])

-- the answers of a lane, behind the line with its number
abbrev pub lane_answers : ℕ × List (List ℕ) → List ℕ
lane_answers lane = lane_line lane.0 ++ concat lane.1

-- the answers of all lanes, which are numbered from 1
abbrev pub lanes_text : List (List (List ℕ)) → List ℕ
lanes_text answers = flat_map lane_answers (enumerate_from 1 answers)

-- the line before the changes of an index
abbrev pub changes_line : List ℕ → ℕ → List ℕ
changes_line name count = line_of (codes "changes" ∷ name ∷ decimal count ∷ [])

-- the changes of an index, behind the line that counts them
abbrev pub index_text : List ℕ × List ChangeNote → List ℕ
index_text part = changes_line part.0 (length part.1) ++ flat_map noted_text part.1

-- the changes of all indexes
abbrev pub indexes_text : List (List ℕ) → List (List ChangeNote) → List ℕ
indexes_text names changes = flat_map index_text (zip names changes)

-- the statistics of an index of this name
abbrev pub index_stats : List ℕ × Counts → List ℕ
index_stats index = stats_text index.0 index.1

-- the statistics of all indexes
abbrev pub statistics_text : List (List ℕ) → List Counts → List ℕ
statistics_text names counts = flat_map index_stats (zip names counts)

-- the report of some lanes over indexes of these names
abbrev pub report_text_of : List (List ℕ) → List (List (List ℕ)) → List (List ChangeNote)
    → List Counts → List ℕ
report_text_of names answers changes counts = first_line ++ lanes_text answers
    ++ indexes_text names changes ++ statistics_text names counts ++ end_line
