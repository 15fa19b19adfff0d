-- Small runs of one lane on one index, and what is to be reported of them.
use Rattle.std.specs.Prelude.{ℕ, List, [], ◌∷◌, codes}
use Rattle.std.specs.List.{flat_map}
use Rattle.key_tuple.specs.Order.{FieldList}
use Rattle.map_history.specs.declared.counts.Counts.{Counts}
use Rattle.map_history.specs.declared.sizes.Sizes.{Sizes}
use Rattle.map_history.specs.Map.{MapChange, Put, Set, Del}
use Rattle.map_history.specs.Operation.{Ask, Get, Make}
use Rattle.map_history.specs.Reply.{MapReply, Value, Done, Absent, Duplicate}
use Rattle.map_history.specs.Report.{Answer, Replied, AnswerLine, ChangeLine, Report, unlearnt}
use Rattle.map_history.specs.Statistics.{counts_of}
use Rattle.map_history.specs.LegalReport.{Line, Run, columns_of, IsLegalButRoom, IsLegalReport}

-- the statistics of some answers
abbrev pub counts_told : List AnswerLine → Counts
counts_told answers = counts_of (flat_map (λ (a : AnswerLine). columns_of a.answer) answers)

-- a line of the index 0
abbrev pub line : ℕ → Ask → Line
line n ask = record { line = n; op = record { index = 0; ask = ask } }

-- the answer of a line
abbrev pub answer_line : ℕ → Answer → AnswerLine
answer_line n answer = record { line = n; answer = answer }

-- a reply at a point, found by a descent, as the answer of a line
abbrev pub told : ℕ → MapReply → ℕ → AnswerLine
told n reply point = answer_line n (Replied reply point unlearnt)

-- the entry of a change that a line made
abbrev pub made : ℕ → MapChange → ChangeLine
made n change = record { lane = 1; line = n; change = change }

-- the run of one lane on the index `t`
abbrev pub one_lane_run : Sizes → List Line → Run
one_lane_run sizes lines = record { sizes = sizes; names = codes "t" ∷ []; lanes = lines ∷ [] }

-- the report with these answers and these entries; its statistics count the answers
abbrev pub one_lane_report : List AnswerLine → List ChangeLine → Report
one_lane_report answers entries = record {
  lanes = answers ∷ [];
  indexes = record { name = codes "t"; entries = entries; counts = counts_told answers } ∷ [];
}

-- the report of this lane is legal, whatever the sizes
abbrev pub IsLegal : List Line → List AnswerLine → List ChangeLine → Type 0
IsLegal lines answers entries = (sizes : Sizes)
    → IsLegalReport (one_lane_run sizes lines) (one_lane_report answers entries)

-- it isn't, whatever the sizes and however much room there is
abbrev pub IsIllegal : List Line → List AnswerLine → List ChangeLine → Type 0
IsIllegal lines answers entries = (sizes : Sizes)
    → ¬ IsLegalButRoom (one_lane_run sizes lines) (one_lane_report answers entries)

-- the key `a` of one field
abbrev pub a_key : FieldList
a_key = codes "a" ∷ []

-- the key `b`
abbrev pub b_key : FieldList
b_key = codes "b" ∷ []

-- the key `c`
abbrev pub c_key : FieldList
c_key = codes "c" ∷ []

-- a value
abbrev pub value_x : List ℕ
value_x = codes "x"

-- another value
abbrev pub value_y : List ℕ
value_y = codes "y"

-- put t a x, get t a, del t a, get t a
abbrev pub row_life : List Line
row_life = line 1 (Make (Put a_key value_x)) ∷ line 2 (Get a_key) ∷ line 3 (Make (Del a_key))
    ∷ line 4 (Get a_key) ∷ []

-- its answers
abbrev pub row_life_told : List AnswerLine
row_life_told = told 1 Done 1 ∷ told 2 (Value value_x) 1 ∷ told 3 Done 2 ∷ told 4 Absent 2 ∷ []

-- its changes
abbrev pub row_life_made : List ChangeLine
row_life_made = made 1 (Put a_key value_x) ∷ made 3 (Del a_key) ∷ []

-- put t a x, put t a y
abbrev pub second_put : List Line
second_put = line 1 (Make (Put a_key value_x)) ∷ line 2 (Make (Put a_key value_y)) ∷ []

-- its answers
abbrev pub second_put_told : List AnswerLine
second_put_told = told 1 Done 1 ∷ told 2 Duplicate 1 ∷ []

-- its change
abbrev pub second_put_made : List ChangeLine
second_put_made = made 1 (Put a_key value_x) ∷ []

-- del t a of an empty index
abbrev pub lone_del : List Line
lone_del = line 1 (Make (Del a_key)) ∷ []

-- set t a x of an empty index
abbrev pub lone_set : List Line
lone_set = line 1 (Make (Set a_key value_x)) ∷ []

-- the answer to either
abbrev pub lone_told : List AnswerLine
lone_told = told 1 Absent 0 ∷ []
