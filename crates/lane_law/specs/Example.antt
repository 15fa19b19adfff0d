-- A worked example: line 2 of a lane puts a row, and line 1 of another lane finds it.
use Rattle.std.specs.Prelude.{ℕ, ◌≡◌, ◌≤◌, None, List, [], ◌∷◌, length, replicate}
use Rattle.key_tuple.specs.Order.{FieldList}
use Rattle.latch_law.specs.declared.knows.Statement.TheVariants as what
use Rattle.change_log.specs.Log.{Log}
use Rattle.map_history.specs.declared.sizes.Sizes.{Sizes}
use Rattle.map_history.specs.Map.{MapChange, Put}
use Rattle.map_history.specs.Operation.{Get, Make}
use Rattle.map_history.specs.Reply.{Value, Done}
use Rattle.map_history.specs.Report.{AnswerLine, Replied, Report, unlearnt}
use Rattle.map_history.specs.Statistics.{counts_of}
use Rattle.map_history.specs.LegalReport.{Line, Run, IsLegalReport}
use Rattle.index_law.specs.Answers.{MadeChange, Gives, Replies}
use Rattle.forest_law.specs.declared.objects.Pool.{Pool}
use Rattle.forest_law.specs.State.{ForestState}
use Rattle.forest_law.specs.Law.{IsLawful}
use Rattle.forest_law.specs.Opening.{IsFirstPool}
use Rattle.forest_law.specs.OnePut.{one_index, state_after}
use Rattle.call_law.specs.Spoken.{View}
use Rattle.lane_law.specs.Worked.{answered}
use Rattle.lane_law.specs.Trail.{IsTrail}
use Rattle.lane_law.specs.Runs.{HasNoScan, RunsAll}
use Rattle.lane_law.specs.Merged.{note_at, HasNotes, HasMerged}

-- the key `a`
abbrev pub key : FieldList
key = (97 ∷ []) ∷ []

-- the value `b`
abbrev pub value : List ℕ
value = 98 ∷ []

-- the row that is put
abbrev pub put_row : MapChange
put_row = Put key value

-- the same, as an entry of the list has it
abbrev pub row_made : MadeChange
row_made = record { change = put_row; columns = unlearnt }

-- the first lane's line
abbrev pub line_of_put : Line
line_of_put = record { line = 2; op = record { index = 0; ask = Make put_row } }

-- the second lane's line
abbrev pub line_of_get : Line
line_of_get = record { line = 1; op = record { index = 0; ask = Get key } }

-- the index `i`, and the two lanes
abbrev pub example_run : Sizes → Run
example_run sizes = record {
  sizes = sizes;
  names = (105 ∷ []) ∷ [];
  lanes = (line_of_put ∷ []) ∷ (line_of_get ∷ []) ∷ [];
}

-- what the put is told, and what the get
abbrev pub told_put : AnswerLine
told_put = answered line_of_put (Replied Done 1 unlearnt)

-- it finds the row at the point of the put
abbrev pub told_get : AnswerLine
told_get = answered line_of_get (Replied (Value value) 1 unlearnt)

-- the report of the two lanes
abbrev pub example_report : Report
example_report = record {
  lanes = (told_put ∷ []) ∷ (told_get ∷ []) ∷ [];
  indexes = record {
    name = 105 ∷ [];
    entries = record { lane = 1; line = 2; change = put_row } ∷ [];
    counts = counts_of (unlearnt ∷ unlearnt ∷ []);
  } ∷ [];
}

-- what the two lanes noted
abbrev pub example_logs : List Log
example_logs = record { noted = note_at 0 line_of_put 1 ∷ []; room = 1 }
    ∷ record { noted = []; room = 1 } ∷ []

-- a lawful state of one index whose list has the put, with nothing held
pub record IsExample (sizes : Sizes) (w : ForestState) : Type 0 where
  pub lawful : IsLawful w
  pub lists : w.lists ≡ (record { change = row_made; by = 0 } ∷ []) ∷ []
  pub latches : w.latches ≡ replicate (length w.objects) 0
  pub passes : w.passes ≡ 2
  pub max_changes : w.max_changes ≡ sizes.max_changes
  pub room : 1 ≤ w.max_changes
  pub indexes : w.shape.indexes ≡ 1
  pub pages : w.shape.pages ≡ sizes.pages

-- what the joined pass of the two lanes knows
abbrev pub example_view : ForestState → View
example_view w = record {
  terms = record {
    shape = w.shape;
    objects = length w.objects;
    indexes = 1;
    max_changes = w.max_changes;
    passes = 2;
  };
  low = 0;
  end = 2;
  held = replicate (length w.objects) None;
  seen = [] ∷ [];
  said = record { index = 0; point = 1; by = 0; what = what.Change row_made }
      ∷ record {
        index = 0;
        point = 1;
        by = 1;
        what = what.Answer (Replies (Get key) (Gives (Value value)) None unlearnt);
      } ∷ [];
  refused = [];
  references = [];
}

-- all that the laws ask for holds of it, and so does what they give
pub record IsMet (sizes : Sizes) (w : ForestState) : Type 0 where
  pub plain : HasNoScan (example_run sizes)
  pub runs : RunsAll (example_run sizes) example_report w (example_view w)
  pub notes : HasNotes (example_run sizes) example_report example_logs
  pub merged : HasMerged example_report example_logs
  pub legal : IsLegalReport (example_run sizes) example_report
  pub trail : IsTrail (example_run sizes) example_report (example_view w)

-- in each such state
abbrev pub LanesExample : Type 0
LanesExample = (sizes : Sizes) (w : ForestState) → IsExample sizes w → IsMet sizes w

-- the state after the put, where a list may have a change and there is one page
abbrev pub example_state : Sizes → Pool → ForestState
example_state sizes pool =
    state_after 0 pool key value unlearnt (0 ∷ 0 ∷ 0 ∷ 0 ∷ []) sizes.max_changes 2

-- it is such a state, with a pool to which that of a space of one page leads, however that begins
abbrev pub ExampleStands : Type 0
ExampleStands = (sizes : Sizes) (first : Pool) → sizes.pages ≡ 1 → 1 ≤ sizes.max_changes
    → IsFirstPool (one_index (length key)) first
    → (pool : Pool) × IsExample sizes (example_state sizes pool)
