-- Lanes that work one engine together, and what their report is.
use Rattle.std.specs.Prelude.{ℕ, ◌≡◌, Vec, List, length, map}
use Rattle.std.specs.List.{AllByRecursion, AllZip, flat_map, zip}
use Rattle.std.specs.declared.alloc.Global.{Global}
use Rattle.change_log.specs.Log.{ChangeNote, Log}
use Rattle.change_log.specs.Merge.{AreMerges}
use Rattle.change_log.specs.Entries.{printed_entries, ArePrinted, AreCountedUp}
use Rattle.latch_law.specs.Fitting.{IsFitted}
use Rattle.map_history.specs.declared.counts.Counts.{Counts}
use Rattle.map_history.specs.declared.sizes.Sizes.{Sizes}
use Rattle.map_history.specs.LegalReport.{Run, IsLegalReport}
use Rattle.map_history.specs.LegalReport as legal
use Rattle.map_history.specs.Report.{Columns, AnswerLine, ChangeLine, Report}
use Rattle.map_history.specs.declared.line.Line.{Line}
use Rattle.map_history.specs.Lines.{line_texts}
use Rattle.forest_law.specs.Law.{IsLawful}
use Rattle.forest_law.specs.References.{IsReference}
use Rattle.index_law.specs.Rightness.{IsRight}
use Rattle.call_law.specs.Spoken.{spoken}
use Rattle.lane_threads.specs.Engine.{EnginePass, known, lessons_of, nothing_learnt}
use Rattle.forest_world.specs.Opening.{forest_terms}
use Rattle.report_text.specs.Texts.{answer_line_text}
use Rattle.lane_law.specs.Merged.{all_notes}
use Rattle.lane_law.specs.Reports.{report_with}
use Rattle.lane_law.specs.Runs.{all_sayings}
use Rattle.lane_law.specs.Taught.{told_try, all_tries, IsTaught}
use Rattle.lane_law.specs.Trail.{IsTrail}
use Rattle.lane_law.specs.Worked.{AreInOrder}
use Rattle.lane_law.specs.Lines.{AreLinesOf}
use Rattle.column_counts.specs.Counted.{AreCounts}

-- the lines of each lane, with their operations
abbrev pub lane_texts : List (Vec Line Global) → List (List legal.Line)
lane_texts lanes = map (λ (lines : Vec Line Global). line_texts lines.items) lanes

-- the columns of an index in the answers of some lanes
abbrev pub columns_among : List (List legal.Line) → List (List AnswerLine) → ℕ → List Columns
columns_among lanes answers i =
    flat_map (λ (x : List legal.Line × List AnswerLine). legal.columns_in i (zip x.0 x.1))
    (zip lanes answers)

-- What is known when some lanes worked an engine of these sizes together: their answers are printed
-- so, the changes among them are noted lane by lane, and their columns are counted index by index.
-- The joined pass of all lanes said these answers and nothing else, and tried what they ask for, of
-- indexes that had learnt nothing. Some lawful state fits it.
pub record RanTogether (sizes : Sizes) (fields : List ℕ) (lanes : List (List legal.Line))
    (texts : List (List (List ℕ))) (logs : List Log) (counts : List Counts)
    (pass : EnginePass) : Type 0 where
  pub answers : List (List AnswerLine)
  pub printed : texts ≡ map (λ (told : List AnswerLine). map answer_line_text told) answers
  pub noted : map (λ (log : Log). log.noted) logs ≡ all_notes 0 lanes answers
  pub counted : AreCounts (length fields) (columns_among lanes answers) counts
  pub in_order : AllZip AreInOrder lanes answers
  pub said : spoken (known pass).said ≡ all_sayings 0 lanes answers
  pub opening : (lessons_of pass).opening ≡ (nothing_learnt fields (length lanes)).opening
  pub tries : map told_try (lessons_of pass).tries ≡ all_tries 0 lanes answers
  pub low : (known pass).low ≡ 0
  pub end : (known pass).end ≡ length lanes
  pub terms : (known pass).terms ≡ forest_terms sizes fields (length lanes)
  pub sizes_are : pass.sizes ≡ sizes
  pub fitted : IsFitted IsLawful IsRight IsReference (known pass)

-- each lane's lines ask for keys of indexes with so many fields
abbrev pub AllAreLinesOf : List ℕ → List (Vec Line Global) → Type 0
AllAreLinesOf fields lanes =
    AllByRecursion (λ (lines : Vec Line Global). AreLinesOf fields lines.items) lanes

-- the run of these lanes over indexes of these names
abbrev pub lanes_run : Sizes → List (List ℕ) → List (Vec Line Global) → Run
lanes_run sizes names lanes = record { sizes = sizes; names = names; lanes = lane_texts lanes }

-- What is known of the changes that such lanes merged: they are the entries of a legal report, one
-- of each and numbered from 1, and the joined pass did and tried what it tells.
pub record AreReported (run : Run) (report : Report) (pass : EnginePass)
    (changes : List (List ChangeNote)) (entries : List (List ChangeLine)) : Type 0 where
  pub legal : IsLegalReport run report
  pub trail : IsTrail run report (known pass)
  pub taught : IsTaught run report (lessons_of pass)
  pub printed : AllZip ArePrinted changes entries
  pub counted : AllByRecursion AreCountedUp changes

-- the changes that the logs of such a run merge to are reported
abbrev pub RunsAreLegal : Type 0
RunsAreLegal = (sizes : Sizes) (fields : List ℕ) (names : List (List ℕ))
    (lanes : List (Vec Line Global)) (texts : List (List (List ℕ))) (logs : List Log)
    (counts : List Counts) (pass : EnginePass) (changes : List (List ChangeNote))
    → length names ≡ length fields → AllAreLinesOf fields lanes
    → AreMerges (length names) logs changes
    → (ran : RanTogether sizes fields (lane_texts lanes) texts logs counts pass)
    → let entries = map printed_entries changes in
    AreReported (lanes_run sizes names lanes)
    (report_with ran.answers names entries counts) pass changes entries
