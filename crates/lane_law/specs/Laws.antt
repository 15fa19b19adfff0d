-- The laws of lanes.
use Rattle.std.specs.Prelude.{ℕ, ◌≡◌, ◌+◌, ◌<◌, false, List, [], ◌∷◌, ◌++◌, length, AllPairs}
use Rattle.std.specs.List.{AllZip}
use Rattle.latch_law.specs.declared.knows.Entry.{Entry}
use Rattle.latch_law.specs.Rule.{Fits}
use Rattle.latch_law.specs.Views.{both_parts}
use Rattle.latch_law.specs.Whole.{IsEntry}
use mathlib.Core.Option.{some}
use lib.ListN.{get_elem?}
use Rattle.change_log.specs.Log.{ChangeNote, Log}
use Rattle.change_log.specs.Merge.{IsMerge}
use Rattle.map_history.specs.Operation.{is_scan}
use Rattle.search_info.specs.Tries.{TriesAfter}
use Rattle.search_info.specs.declared.knows.Knows.{Knows}
use Rattle.map_history.specs.Report.{Columns, Answer, AnswerLine, Report}
use Rattle.map_history.specs.LegalReport.{Line, Run, Precedes, columns_of, columns_at}
use Rattle.map_history.specs.LegalReport.{marks_of, IsLegalReport}
use Rattle.forest_law.specs.State.{ForestState}
use Rattle.index_law.specs.State.{Entries}
use Rattle.index_law.specs.Answers.{MadeChange}
use Rattle.forest_law.specs.References.{IsReference}
use Rattle.index_law.specs.Rightness.{IsRight}
use Rattle.call_law.specs.Spoken.{View, spoken}
use Rattle.call_law.specs.Once.{AnswersOnce}
use Rattle.lane_law.specs.Worked.{answered, AreInOrder, Worked}
use Rattle.lane_law.specs.Runs.{all_sayings, HasNoScan, RunsAll, AreEntries}
use Rattle.lane_law.specs.Taught.{Taught, IsTaught, AreTold}
use Rattle.lane_law.specs.Trail.{Changed, IsEntered, IsTrail}
use Rattle.lane_law.specs.Merged.{notes_of, lane_notes, all_notes, HasNotes, IsNumbered, HasMerged}

-- A lane that worked goes on by one line of an index that its pass knows, which is answered once.
pub record LanesGoOn : Type 0 where
  pub none : (v : View) → Worked v v [] []
  pub more : (u v w : View) (lines : List Line) (answers : List AnswerLine) (line : Line)
      (answer : Answer) → Worked u v lines answers → line.op.index < length v.seen
      → AllPairs Precedes (marks_of answer) → AnswersOnce v w line.op.index line.op.ask answer
      → Worked u w (lines ++ line ∷ []) (answers ++ answered line answer ∷ [])
  pub plain : (u v w : View) (lines : List Line) (answers : List AnswerLine) (line : Line)
      (answer : Answer) → Worked u v lines answers → line.op.index < length v.seen
      → is_scan line.op.ask ≡ false → AnswersOnce v w line.op.index line.op.ask answer
      → Worked u w (lines ++ line ∷ []) (answers ++ answered line answer ∷ [])

-- What a lane notes goes on with it. What is said, noted and in order of two runs of lanes is so of
-- both in a row, where the second has the numbers that follow those of the first; and a lane that
-- began with nothing said is a run of one lane.
pub record RunsJoin : Type 0 where
  pub note : (k : ℕ) (lines : List Line) (answers : List AnswerLine) (line : Line)
      (answer : Answer) → length answers ≡ length lines
      → lane_notes k (lines ++ line ∷ []) (answers ++ answered line answer ∷ [])
      ≡ lane_notes k lines answers ++ notes_of k line answer
  pub one : (u v : View) (lines : List Line) (answers : List AnswerLine) → spoken u.said ≡ []
      → Worked u v lines answers → spoken v.said ≡ all_sayings u.low (lines ∷ []) (answers ∷ [])
  pub said : (u v : View) (n m : ℕ) (lanes lanes' : List (List Line))
      (told told' : List (List AnswerLine)) → length told ≡ length lanes → m ≡ n + length lanes
      → spoken u.said ≡ all_sayings n lanes told → spoken v.said ≡ all_sayings m lanes' told'
      → spoken (both_parts u v).said ≡ all_sayings n (lanes ++ lanes') (told ++ told')
  pub noted : (n m : ℕ) (lanes lanes' : List (List Line)) (told told' : List (List AnswerLine))
      → length told ≡ length lanes → m ≡ n + length lanes
      → all_notes n (lanes ++ lanes') (told ++ told')
      ≡ all_notes n lanes told ++ all_notes m lanes' told'
  pub in_order : (lanes lanes' : List (List Line)) (told told' : List (List AnswerLine))
      → AllZip AreInOrder lanes told → AllZip AreInOrder lanes' told'
      → AllZip AreInOrder (lanes ++ lanes') (told ++ told')

-- what lanes without scans are told is a legal report
abbrev pub LanesAreLegal : Type 0
LanesAreLegal = (run : Run) (report : Report) (w : ForestState) (v : View) → HasNoScan run
    → RunsAll run report w v → AreEntries run report w → IsLegalReport run report

-- where each lane noted its changes, the merged logs of an index are its list, change by change
abbrev pub MergedLogsAreLists : Type 0
MergedLogsAreLists = (run : Run) (report : Report) (w : ForestState) (v : View) (logs : List Log)
    → RunsAll run report w v → HasNotes run report logs
    → (i : ℕ) (xs : Entries) (merged : List ChangeNote) → get_elem? w.lists i ≡ some xs
    → IsMerge i logs merged → IsNumbered run report i xs merged

-- and entries that are the merged changes are those of the lists
abbrev pub MergedLogsAreEntries : Type 0
MergedLogsAreEntries = (run : Run) (report : Report) (w : ForestState) (v : View) (logs : List Log)
    → RunsAll run report w v → HasNotes run report logs → HasMerged report logs
    → AreEntries run report w

-- and the joined pass of the lanes tells that what is printed is what it did
abbrev pub PassesAreTrails : Type 0
PassesAreTrails = (run : Run) (report : Report) (w : ForestState) (v : View)
    → RunsAll run report w v → AreEntries run report w → IsTrail run report v

-- in a state that fits such a pass each entry of a list is a change that it made, and is printed
abbrev pub TrailsAreWhole : Type 0
TrailsAreWhole = (run : Run) (report : Report) (v : View) (w : ForestState) → IsTrail run report v
    → Fits IsRight IsReference w v → (i n : ℕ) (e : Entry MadeChange) → IsEntry w i n e
    → Changed v i (n + 1) e.by e.change × IsEntered report i (n + 1) e.by e.change

-- A lane whose pass of the learner tried what its answers ask for goes on by one line, after whose
-- search that was tried for which the word in its column asks.
pub record LanesTeach : Type 0 where
  pub none : (l : Knows) → Taught l l [] []
  pub more : (l m n : Knows) (lines : List Line) (answers : List AnswerLine) (line : Line)
      (answer : Answer) (c : Columns) → length answers ≡ length lines
      → columns_of answer ≡ c ∷ [] → Taught l m lines answers
      → TriesAfter m line.op.index c.how n
      → Taught l n (lines ++ line ∷ []) (answers ++ answered line answer ∷ [])

-- of each index the pass of all lanes tried as many hits, misses and descents as its columns tell
abbrev pub TriesAreColumns : Type 0
TriesAreColumns = (run : Run) (report : Report) (m : Knows) → IsTaught run report m
    → (i : ℕ) → AreTold m.tries i (columns_at run report i)
