-- A run that files spell, and what a legal report of it is line by line.
use Rattle.std.specs.Prelude.{ℕ, ◌≡◌, ◌<◌, ◌^◌, Some, List, length}
use Rattle.std.specs.List.{slice_get, AllByRecursion}
use Rattle.map_history.specs.LegalReport.{Line, Run, IsLegalBytes}
use Rattle.map_history.specs.Operation.{Ask, Get, Make}
use Rattle.report_laws.specs.SpellingLaws.{IsPlainName}
use Rattle.audit_law.specs.Laws.{LinesDiffer}
use Rattle.audit_law.specs.Verdicts.{IsKey, ChangesRow, IsSound}

-- what is asked of an index whose keys have so many fields
abbrev pub AsksFields : ℕ → Ask → Type 0
AsksFields count (Get k) = IsKey count k
AsksFields count (Make c) = ChangesRow count c
AsksFields count ask = Unit {0}

-- a line of a lane: its number fits 32 bits, and it asks its index so
pub record IsAskedLine (fields : List ℕ) (line : Line) : Type 0 where
  pub number : line.line < 2 ^ 32
  pub ask : (count : ℕ) → slice_get fields line.op.index ≡ Some count → AsksFields count line.op.ask

-- a run that files spell: plain names, few lanes, and in each lane such lines, no two of one number
pub record IsAskedRun (run : Run) (fields : List ℕ) : Type 0 where
  pub names : AllByRecursion IsPlainName run.names
  pub few : length run.lanes < 2 ^ 32
  pub differ : LinesDiffer run
  pub lines : (lane place : ℕ) (lines : List Line) (line : Line)
      → slice_get run.lanes lane ≡ Some lines → slice_get lines place ≡ Some line
      → IsAskedLine fields line

-- bytes that a file can have are a legal report exactly where they spell one whose lines keep all
-- points
pub record LegalIsSound : Type 0 where
  pub sound : (run : Run) (fields bytes : List ℕ) → IsAskedRun run fields
      → length bytes < 2 ^ 63 → IsLegalBytes run bytes → IsSound run fields bytes
  pub legal : (run : Run) (fields bytes : List ℕ) → IsAskedRun run fields
      → IsSound run fields bytes → IsLegalBytes run bytes
