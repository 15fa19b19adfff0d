-- What the text of a report is.
use Rattle.std.specs.Prelude.{ℕ, ◌≡◌, List, length, map}
use Rattle.std.specs.List.{AllByRecursion, AllZip}
use Rattle.change_log.specs.Log.{ChangeNote}
use Rattle.change_log.specs.Entries.{ArePrinted, AreCountedUp}
use Rattle.map_history.specs.declared.counts.Counts.{Counts}
use Rattle.map_history.specs.Report.{AnswerLine, ChangeLine}
use Rattle.map_history.specs.Spelling.{spell}
use Rattle.report_text.specs.Texts.{answer_line_text}
use Rattle.lane_law.specs.Reports.{report_with}
use Rattle.report_print.specs.Texts.{report_text_of}

-- where the changes of each index are its entries, one of each and numbered from 1, the text of the
-- answers, the changes and the counts is the spelling of their report
abbrev pub ReportsAreSpelled : Type 0
ReportsAreSpelled = (names : List (List ℕ)) (answers : List (List AnswerLine))
    (changes : List (List ChangeNote)) (entries : List (List ChangeLine)) (counts : List Counts)
    → length changes ≡ length names → length counts ≡ length names
    → AllZip ArePrinted changes entries → AllByRecursion AreCountedUp changes
    → report_text_of names (map (map answer_line_text) answers) changes counts
    ≡ spell (report_with answers names entries counts)
