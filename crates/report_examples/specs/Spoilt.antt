-- Reports of a run that are wrong in one place.
use Rattle.std.specs.Prelude.{List, [], ◌∷◌}
use Rattle.map_history.specs.Map.{Put, Del}
use Rattle.map_history.specs.Reply.{Value, Done, Absent}
use Rattle.map_history.specs.declared.columns.How.TheVariants as how
use Rattle.map_history.specs.declared.columns.Note.TheVariants as note
use Rattle.map_history.specs.Report.{AnswerLine, ChangeLine, Columns, Replied}
use Rattle.report_examples.specs.Samples.{answer_line, told, made, a_key, value_x, value_y}

-- the get after the put is told the point before it
abbrev pub early_point : List AnswerLine
early_point = told 1 Done 1 ∷ told 2 (Value value_x) 0 ∷ told 3 Done 2 ∷ told 4 Absent 2 ∷ []

-- the second get is told a point that no change has
abbrev pub late_point : List AnswerLine
late_point = told 1 Done 1 ∷ told 2 (Value value_x) 1 ∷ told 3 Done 2 ∷ told 4 Absent 3 ∷ []

-- the get is told another value
abbrev pub other_value : List AnswerLine
other_value = told 1 Done 1 ∷ told 2 (Value value_y) 1 ∷ told 3 Done 2 ∷ told 4 Absent 2 ∷ []

-- two dashes
abbrev pub dashes : Columns
dashes = record { how = how.Dash; note = note.Dash }

-- the first get tells nothing of its search
abbrev pub untold_search : List AnswerLine
untold_search = told 1 Done 1 ∷ answer_line 2 (Replied (Value value_x) 1 dashes)
    ∷ told 3 Done 2 ∷ told 4 Absent 2 ∷ []

-- the put's entry has another value
abbrev pub other_change : List ChangeLine
other_change = made 1 (Put a_key value_y) ∷ made 3 (Del a_key) ∷ []

-- the del has no entry
abbrev pub missing_change : List ChangeLine
missing_change = made 1 (Put a_key value_x) ∷ []

-- an entry that no line made
abbrev pub extra_change : List ChangeLine
extra_change = made 1 (Put a_key value_x) ∷ made 3 (Del a_key) ∷ made 3 (Put a_key value_x) ∷ []
