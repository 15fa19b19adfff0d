-- The points of a legal report beside its form, each said of one line of the text.
use Rattle.std.specs.Prelude.{ℕ, ◌+◌, ◌≡◌, ◌<◌, ◌==◌, ◌&&◌, Bool, true, false, Some, List, ◌++◌, take, count_by}
use Rattle.std.specs.List.{slice_get, zip, AllByRecursion}
use Rattle.map_history.specs.Map.{map_after, is_allowed}
use Rattle.map_history.specs.Reply.{Done}
use Rattle.map_history.specs.Report.{Columns, Answer, Replied, Scanned, AnswerLine, ChangeLine, Report, entries_at, changes_at}
use Rattle.map_history.specs.LegalReport.{Line, Run, IsAnswered, NamesLine, LineHasReply, Mark, Precedes, marks_of, marks_in, LineHasScan, LineHasLogFull, LineHasRoom}
use Rattle.audit_law.specs.TextLines.{Subject, Answered, Pieced, Listed, TextLine, text_lines}

-- the points that are judged of a report that has its form, in their order
pub data Point : Type 0 where
  Changes : Point
  Answers : Point
  Order : Point
  Scans : Point
  Full : Point
  Room : Point

-- the number of each; the form is 1
abbrev pub number_of : Point → ℕ
number_of Changes = 2
number_of Answers = 3
number_of Order = 4
number_of Scans = 5
number_of Full = 6
number_of Room = 7

-- an entry names a line by its lane and its number
abbrev pub names_line : ℕ → ℕ → ChangeLine → Bool
names_line lane line e = (e.lane == lane + 1) && (e.line == line)

-- changes, of a line that is answered `ok`: just one entry of its index names it
abbrev pub IsNamedOnce : Run → Report → ℕ → ℕ → Type 0
IsNamedOnce run report lane place =
    (line : Line) (point : ℕ) (columns : Columns)
    → IsAnswered run report lane place line (Replied Done point columns)
    → count_by (names_line lane line.line) (entries_at report line.op.index) ≡ 1

-- changes, of an entry: it is the change of a line that is answered `ok` at its number, and the map
-- of the entries before it allows it
pub record IsEntry (run : Run) (report : Report) (index n : ℕ) (entry : ChangeLine) : Type 0 where
  pub named : NamesLine run report index n entry
  pub allowed : is_allowed (map_after (take n (changes_at report index))) entry.change ≡ true

-- of the entry at a place, if there is one
abbrev pub HasEntry : Run → Report → ℕ → ℕ → Type 0
HasEntry run report index n = (entry : ChangeLine)
    → slice_get (entries_at report index) n ≡ Some entry → IsEntry run report index n entry

-- order: each mark of its index that the lane was told before a mark of an answer precedes it
abbrev pub Follows : Run → Report → ℕ → ℕ → ℕ → Type 0
Follows run report lane place nth =
    (lines : List Line) (answers : List AnswerLine) (x : Line × AnswerLine) (mark : Mark)
    → slice_get run.lanes lane ≡ Some lines → slice_get report.lanes lane ≡ Some answers
    → slice_get (zip lines answers) place ≡ Some x
    → slice_get (marks_of x.1.answer) nth ≡ Some mark
    → AllByRecursion (λ (earlier : Mark). Precedes earlier mark)
    (marks_in x.0.op.index (take place (zip lines answers)) ++ take nth (marks_of x.1.answer))

-- an answer in pieces
abbrev pub is_scanned : Answer → Bool
is_scanned (Scanned pieces) = true
is_scanned answer = false

-- order, of the line of an answer: a scan's own line has no mark, since its pieces have
abbrev pub FollowsAlone : Run → Report → ℕ → ℕ → Type 0
FollowsAlone run report lane place =
    ((line : Line) (answer : Answer) → IsAnswered run report lane place line answer
    → is_scanned answer ≡ false)
    → Follows run report lane place 0

-- a line of this subject keeps a point; where a point asks nothing of such a line, it does
abbrev pub Keeps : Run → Report → Point → Subject → Type 0
Keeps run report Changes (Answered lane place) = IsNamedOnce run report lane place
Keeps run report Changes (Listed index n) = HasEntry run report index n
Keeps run report Answers (Answered lane place) = LineHasReply run report lane place
Keeps run report Order (Answered lane place) = FollowsAlone run report lane place
Keeps run report Order (Pieced lane place piece) = Follows run report lane place piece
Keeps run report Scans (Answered lane place) = LineHasScan run report lane place
Keeps run report Full (Answered lane place) = LineHasLogFull run report lane place
Keeps run report Room (Answered lane place) = LineHasRoom run report lane place
Keeps run report point subject = Unit {0}

-- the line with this number, from 0, keeps a point
abbrev pub KeepsAt : Run → Report → Point → ℕ → Type 0
KeepsAt run report point n = (line : TextLine)
    → slice_get (text_lines report) n ≡ Some line → Keeps run report point line.subject

-- all lines keep it
abbrev pub KeepsPoint : Run → Report → Point → Type 0
KeepsPoint run report point = (n : ℕ) → KeepsAt run report point n

-- the first point that some line breaks, and its first line that does, from 0
pub record BreaksFirst (run : Run) (report : Report) (point : Point) (n : ℕ) : Type 0 where
  pub broken : ¬ KeepsAt run report point n
  pub lines : (m : ℕ) → m < n → KeepsAt run report point m
  pub points : (earlier : Point) → number_of earlier < number_of point
      → KeepsPoint run report earlier
