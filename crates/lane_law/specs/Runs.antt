-- What is known at the end of a run.
use Rattle.std.specs.Prelude.{ℕ, ◌≡◌, ◌+◌, false, Some, List, [], ◌∷◌, ◌++◌, length, map}
use Rattle.std.specs.List.{slice_get, AllZip, AllByRecursion}
use mathlib.Core.Option.{some}
use lib.ListN.{get_elem?}
use Rattle.latch_law.specs.Rule.{Fits}
use Rattle.map_history.specs.Operation.{is_scan}
use Rattle.map_history.specs.Report.{AnswerLine, ChangeLine, IndexPart, Report, entries_at}
use Rattle.map_history.specs.Statistics.{counts_of}
use Rattle.map_history.specs.LegalReport.{Line, Run, NamesLine, columns_at}
use Rattle.forest_law.specs.State.{ForestState}
use Rattle.index_law.specs.State.{Entries}
use Rattle.forest_law.specs.Law.{IsLawful}
use Rattle.index_law.specs.Rightness.{IsRight}
use Rattle.forest_law.specs.References.{IsReference}
use Rattle.call_law.specs.Spoken.{View, Spoken, spoken}
use Rattle.lane_law.specs.Worked.{lane_sayings, AreInOrder}

-- no line asks for the rows of a range
abbrev pub HasNoScan : Run → Type 0
HasNoScan run = AllByRecursion
    (λ (lines : List Line). AllByRecursion (λ (line : Line). is_scan line.op.ask ≡ false) lines)
    run.lanes

-- what the passes n, n + 1 and so on say, one lane after another
abbrev pub all_sayings : ℕ → List (List Line) → List (List AnswerLine) → List Spoken
all_sayings n [] told = []
all_sayings n (lines ∷ lanes) [] = []
all_sayings n (lines ∷ lanes) (answers ∷ told) =
    lane_sayings n lines answers ++ all_sayings (n + 1) lanes told

-- What is known when the passes of all lanes are joined: a lawful state of the run's sizes fits
-- their pass, which said what the lanes were answered. The report has these answers, and a part for
-- each name with the counts of its columns.
pub record RunsAll (run : Run) (report : Report) (w : ForestState) (v : View) : Type 0 where
  pub lawful : IsLawful w
  pub fits : Fits IsRight IsReference w v
  pub low : v.low ≡ 0
  pub end : v.end ≡ length run.lanes
  pub passes : w.passes ≡ length run.lanes
  pub max_changes : w.max_changes ≡ run.sizes.max_changes
  pub indexes : w.shape.indexes ≡ length run.names
  pub pages : w.shape.pages ≡ run.sizes.pages
  pub said : spoken v.said ≡ all_sayings 0 run.lanes report.lanes
  pub lanes : AllZip AreInOrder run.lanes report.lanes
  pub names : map (λ (part : IndexPart). part.name) report.indexes ≡ run.names
  pub counts : (i : ℕ) (part : IndexPart) → slice_get report.indexes i ≡ Some part
      → part.counts ≡ counts_of (columns_at run report i)

-- the report's entries of each index are as many as those of the list, and each names a line that
-- is answered `ok` at its number
pub record AreEntries (run : Run) (report : Report) (w : ForestState) : Type 0 where
  pub long : (i : ℕ) (xs : Entries) → get_elem? w.lists i ≡ some xs
      → length (entries_at report i) ≡ length xs
  pub named : (i n : ℕ) (entry : ChangeLine) → slice_get (entries_at report i) n ≡ Some entry
      → NamesLine run report i n entry
