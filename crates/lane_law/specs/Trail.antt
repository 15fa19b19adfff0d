-- What the pass of all lanes tells of a report: what is printed is what it did.
use Rattle.std.specs.Prelude.{ℕ, ◌≡◌, ◌+◌, ◌==◌, Some, List, length, filter}
use Rattle.std.specs.List.{slice_get}
use mathlib.Core.Option.{some}
use lib.ListN.{get_elem?}
use Rattle.list_facts.specs.Parts.{StandsOnce}
use Rattle.latch_law.specs.declared.knows.Statement as what
use Rattle.map_history.specs.Report.{AnswerLine, ChangeLine, Report, entries_at}
use Rattle.map_history.specs.LegalReport.{Line, Run}
use Rattle.index_law.specs.Answers.{MadeChange}
use Rattle.call_law.specs.Spoken.{View, OwnAnswer, Spoken, spoken}
use Rattle.lane_law.specs.Worked.{lane_sayings}

-- what the pass said under one of its numbers, no looks and no fulls
abbrev pub spoken_by : ℕ → View → List Spoken
spoken_by n v = filter (λ (s : Spoken). s.by == n) (spoken v.said)

-- an own answer of the pass is a change at a point of an index, under a number
pub record Changed (v : View) (index point by : ℕ) (deed : MadeChange) : Type 0 where
  pub place : ℕ
  pub there : get_elem? v.said place
      ≡ some (record { index = index; point = point; by = by; what = what.TheVariants.Change deed })

-- the entry n of an index, counted from 0, is a change that the pass made
pub record IsOwnChange (v : View) (index n : ℕ) (entry : ChangeLine) : Type 0 where
  pub lane : ℕ
  pub deed : MadeChange
  pub made : Changed v index (n + 1) lane deed
  pub same_change : entry.change ≡ deed.change
  pub same_lane : entry.lane ≡ lane + 1

-- a change that the pass made is an entry of the report
pub record IsEntered (report : Report) (index point by : ℕ) (deed : MadeChange) : Type 0 where
  pub n : ℕ
  pub entry : ChangeLine
  pub is_point : point ≡ n + 1
  pub there : slice_get (entries_at report index) n ≡ Some entry
  pub same_change : entry.change ≡ deed.change
  pub same_lane : entry.lane ≡ by + 1

-- The pass has the numbers of all lanes, which are all that its space was opened for. What it said
-- under the number of a lane is, in order, what is printed of that lane's lines, but for the rows
-- of scans; the changes that are printed are those that it made, each said once.
pub record IsTrail (run : Run) (report : Report) (v : View) : Type 0 where
  pub low : v.low ≡ 0
  pub end : v.end ≡ length run.lanes
  pub passes : v.end ≡ v.terms.passes
  pub answers : (lane : ℕ) (lines : List Line) (told : List AnswerLine)
      → slice_get run.lanes lane ≡ Some lines → slice_get report.lanes lane ≡ Some told
      → spoken_by lane v ≡ lane_sayings lane lines told
  pub changes : (i n : ℕ) (entry : ChangeLine) → slice_get (entries_at report i) n ≡ Some entry
      → IsOwnChange v i n entry
  pub once : (q : OwnAnswer) (deed : MadeChange) → q.what ≡ what.TheVariants.Change deed
      → StandsOnce v.said q
  pub entered : (i point by : ℕ) (deed : MadeChange) → Changed v i point by deed
      → IsEntered report i point by deed
