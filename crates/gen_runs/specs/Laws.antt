-- What a legal report tells of a generated run.
use Rattle.std.specs.Prelude.{ℕ, ◌≡◌, ◌+◌, ◌*◌, ◌<◌, List}
use Rattle.std.specs.List.{AllByRecursion}
use Rattle.map_history.specs.LegalReport.{IsLegalReport}
use Rattle.map_history.specs.Report.{AnswerLine, Report}
use Rattle.report_laws.specs.LineCounts.{write_lines}
use Rattle.reply_counts.specs.Replies.{replies_in}
use Rattle.reply_counts.specs.declared.counting.ReplyCounts.{ReplyCounts}
use Rattle.gen_runs.specs.Runs.{gen_run, AreFewLines}

-- how many answers have one of the four replies that are printed
abbrev pub four_replies : ReplyCounts → ℕ
four_replies counts = counts.ok + counts.found + counts.absent + counts.duplicate

-- In each lane the four replies and the lines for which no page was left are as many as its lines:
-- no list of changes is full.
abbrev pub RepliesAddUp : Type 0
RepliesAddUp = (number lanes lines : ℕ) (report : Report) → AreFewLines lanes lines
    → IsLegalReport (gen_run number lanes lines) report
    → AllByRecursion (λ (answers : List AnswerLine). let counts = replies_in answers in
    four_replies counts + counts.full ≡ lines) report.lanes

-- Where twice the index and the put and set lines, and the lanes, are fewer than the pages, the four
-- replies alone are.
abbrev pub FourAddUp : Type 0
FourAddUp = (number lanes lines : ℕ) (report : Report) → AreFewLines lanes lines
    → 2 * (1 + write_lines (gen_run number lanes lines)) + lanes < 4096
    → IsLegalReport (gen_run number lanes lines) report
    → AllByRecursion (λ (answers : List AnswerLine). four_replies (replies_in answers) ≡ lines)
    report.lanes
