-- When a report is legal for a run: each point is a field of one record.
use Rattle.std.specs.Prelude.{ℕ, ◌≡◌, ◌≢◌, ◌+◌, ◌*◌, ◌≤◌, Bool, true, false, ◌&&◌, Some, List, [], ◌∷◌, length, take, map, sum_by, count_by, if◌then◌else◌, ◌==◌}
use Rattle.std.specs.List.{slice_get, AllByRecursion, AllZip, AllPairs, flat_map, zip}
use Rattle.map_history.specs.declared.sizes.Sizes.{Sizes}
use Rattle.map_history.specs.Columns.{may_stand, pieces_may_stand}
use Rattle.map_history.specs.Map.{MapChange, Put, Set, Del, writes, map_after, is_allowed, AreLawful}
use Rattle.map_history.specs.Operation.{Operation, Ask, Get, Make, Seek, Scan}
use Rattle.map_history.specs.Reply.{MapReply, Value, Row, Done, Absent, Duplicate, reply_of}
use Rattle.map_history.specs.Report.{Columns, ScanPiece, Answer, Replied, LogFull, SpaceFull, Scanned, AnswerLine, ChangeLine, IndexPart, Report, entries_at, changes_at}
use Rattle.map_history.specs.Scans.{IsScan}
use Rattle.map_history.specs.Spelling.{spell}
use Rattle.map_history.specs.Statistics.{counts_of}

-- a line of a lane that says something: its number in the file, and its operation
pub record Line : Type 0 where
  pub line : ℕ
  pub op : Operation

-- what a schema file and some lane files ask for
pub record Run : Type 0 where
  pub sizes : Sizes
  pub names : List (List ℕ)
  pub lanes : List (List Line)

-- the forms of the answers of an operation
abbrev pub may_reply : Ask → MapReply → Bool
may_reply (Get k) (Value v) = true
may_reply (Get k) Absent = true
may_reply (Make c) Done = true
may_reply (Make (Put k v)) Duplicate = true
may_reply (Make (Set k v)) Absent = true
may_reply (Make (Del k)) Absent = true
may_reply (Seek mode tuple) (Row k v) = true
may_reply (Seek mode tuple) Absent = true
may_reply ask reply = false

-- an operation may have such an answer, with such columns
abbrev pub has_form : Ask → Answer → Bool
has_form ask (Replied reply point columns) = may_stand columns && may_reply ask reply
has_form (Make c) (LogFull n columns) = may_stand columns
has_form (Make (Put k v)) (SpaceFull columns) = may_stand columns
has_form (Make (Set k v)) (SpaceFull columns) = may_stand columns
has_form (Scan from to limit) (Scanned pieces) = pieces_may_stand pieces
has_form ask answer = false

-- an answer line belongs to a line of the lane
pub record Answers (line : Line) (answer : AnswerLine) : Type 0 where
  pub same_line : answer.line ≡ line.line
  pub form : has_form line.op.ask answer.answer ≡ true

-- the columns of an answer, and those of all answers of a lane on an index
abbrev pub columns_of : Answer → List Columns
columns_of (Replied reply point columns) = columns ∷ []
columns_of (LogFull n columns) = columns ∷ []
columns_of (SpaceFull columns) = columns ∷ []
columns_of (Scanned pieces) = map (λ (p : ScanPiece). p.columns) pieces

-- the columns of an index in a lane
abbrev pub columns_in : ℕ → List (Line × AnswerLine) → List Columns
columns_in i pairs =
    flat_map (λ (x : Line × AnswerLine).
    if x.0.op.index == i then columns_of x.1.answer else []) pairs

-- and in all lanes
abbrev pub columns_at : Run → Report → ℕ → List Columns
columns_at run report i =
    flat_map (λ (x : List Line × List AnswerLine). columns_in i (zip x.0 x.1))
    (zip run.lanes report.lanes)

-- the line at a place of a lane, both counted from 0, has this answer
pub record IsAnswered (run : Run) (report : Report) (lane place : ℕ) (line : Line)
    (answer : Answer) : Type 0 where
  pub line_there : (lines : List Line) × (slice_get run.lanes lane ≡ Some lines)
      × (slice_get lines place ≡ Some line)
  pub answer_there : (answers : List AnswerLine) × (slice_get report.lanes lane ≡ Some answers)
      × (slice_get answers place ≡ Some (record { line = line.line; answer = answer }))

-- Form: each line has one answer, in its order and of a form of its operation; the statistics count
-- the columns.
pub record HasForm (run : Run) (report : Report) : Type 0 where
  pub lanes : AllZip (AllZip Answers) run.lanes report.lanes
  pub names : map (λ (part : IndexPart). part.name) report.indexes ≡ run.names
  pub counts : (i : ℕ) (part : IndexPart) → slice_get report.indexes i ≡ Some part
      → part.counts ≡ counts_of (columns_at run report i)

-- entry n of an index, counted from 0, is the operation of a line that is answered `ok` at the
-- point n + 1
pub record NamesLine (run : Run) (report : Report) (index n : ℕ) (entry : ChangeLine) : Type 0 where
  pub lane : ℕ
  pub place : ℕ
  pub line : Line
  pub columns : Columns
  pub answered : IsAnswered run report lane place line (Replied Done (n + 1) columns)
  pub same_lane : entry.lane ≡ lane + 1
  pub same_line : entry.line ≡ line.line
  pub same_op : line.op ≡ record { index = index; ask = Make entry.change }

-- a line of a lane has its entry at a point
pub record IsNamed (report : Report) (lane : ℕ) (line : Line) (point : ℕ) : Type 0 where
  pub n : ℕ
  pub entry : ChangeLine
  pub is_point : point ≡ n + 1
  pub there : slice_get (entries_at report line.op.index) n ≡ Some entry
  pub same_lane : entry.lane ≡ lane + 1
  pub same_line : entry.line ≡ line.line
  pub same_change : line.op.ask ≡ Make entry.change

-- Changes: each is allowed by the map of those before it and comes from its own line, and each line
-- that is answered `ok` has its entry.
pub record HasChanges (run : Run) (report : Report) : Type 0 where
  pub lawful : (i : ℕ) → AreLawful (changes_at report i)
  pub named : (i n : ℕ) (entry : ChangeLine) → slice_get (entries_at report i) n ≡ Some entry
      → NamesLine run report i n entry
  pub done : (lane place : ℕ) (line : Line) (point : ℕ) (columns : Columns)
      → IsAnswered run report lane place line (Replied Done point columns)
      → IsNamed report lane line point

-- Answers: each other reply is that of the map at its point.
pub record RepliesAt (changes : List MapChange) (ask : Ask) (point : ℕ)
    (reply : MapReply) : Type 0 where
  pub within : point ≤ length changes
  pub reply_is : reply_of (map_after (take point changes)) ask ≡ reply

-- of the line at a place of a lane, where it is answered so
abbrev pub LineHasReply : Run → Report → (lane place : ℕ) → Type 0
LineHasReply run report lane place =
    (line : Line) (reply : MapReply) (point : ℕ) (columns : Columns)
    → IsAnswered run report lane place line (Replied reply point columns) → reply ≢ Done
    → RepliesAt (changes_at report line.op.index) line.op.ask point reply

-- of all lines that are
abbrev pub HasReplies : Run → Report → Type 0
HasReplies run report = (lane place : ℕ) → LineHasReply run report lane place

-- a point that a lane was told, and by how much the list rose there
pub record Mark : Type 0 where
  pub point : ℕ
  pub grows : ℕ

-- by how much a reply raises the list: a change that was made, by one
abbrev pub is_done : MapReply → ℕ
is_done Done = 1
is_done reply = 0

-- the marks of an answer, one for each point that it tells
abbrev pub marks_of : Answer → List Mark
marks_of (Replied reply point columns) = record { point = point; grows = is_done reply } ∷ []
marks_of (LogFull n columns) = record { point = n; grows = 0 } ∷ []
marks_of (SpaceFull columns) = []
marks_of (Scanned pieces) = map (λ (p : ScanPiece). record { point = p.point; grows = 0 }) pieces

-- the marks of an index in a lane, in their order
abbrev pub marks_in : ℕ → List (Line × AnswerLine) → List Mark
marks_in i pairs =
    flat_map (λ (x : Line × AnswerLine).
    if x.0.op.index == i then marks_of x.1.answer else []) pairs

-- a later point isn't lower, and that of a change is higher
abbrev pub Precedes : Mark → Mark → Type 0
Precedes x y = x.point + y.grows ≤ y.point

-- Order in a lane: the points of one index never fall, and a change's is higher than each earlier
-- one.
abbrev pub IsInOrder : Run → Report → Type 0
IsInOrder run report =
    (lane i : ℕ) (lines : List Line) (answers : List AnswerLine)
    → slice_get run.lanes lane ≡ Some lines → slice_get report.lanes lane ≡ Some answers
    → AllPairs Precedes (marks_in i (zip lines answers))

-- the pieces are what an ordered map answers a scan; only a scan has pieces
abbrev pub ScansFor : Ask → List MapChange → List ScanPiece → Type 0
ScansFor (Scan from to limit) changes pieces = IsScan from to limit changes pieces
ScansFor ask changes pieces = Unit {0}

-- Scans: the pieces of the line at a place of a lane, if it scans, are what an ordered map answers.
abbrev pub LineHasScan : Run → Report → (lane place : ℕ) → Type 0
LineHasScan run report lane place =
    (line : Line) (pieces : List ScanPiece)
    → IsAnswered run report lane place line (Scanned pieces)
    → ScansFor line.op.ask (changes_at report line.op.index) pieces

-- those of all lines are
abbrev pub HasScans : Run → Report → Type 0
HasScans run report = (lane place : ℕ) → LineHasScan run report lane place

-- a change that the map allows, and that is refused since the list is full
pub record IsLogFull (most : ℕ) (changes : List MapChange) (ask : Ask) (n : ℕ) : Type 0 where
  pub is_most : n ≡ most
  pub is_length : n ≡ length changes
  pub change : MapChange
  pub asked : ask ≡ Make change
  pub allowed : is_allowed (map_after changes) change ≡ true

-- Log-full: only where the list is as long as it may be, and of a change that its map allows.
abbrev pub LineHasLogFull : Run → Report → (lane place : ℕ) → Type 0
LineHasLogFull run report lane place =
    (line : Line) (n : ℕ) (columns : Columns)
    → IsAnswered run report lane place line (LogFull n columns)
    → IsLogFull run.sizes.max_changes (changes_at report line.op.index) line.op.ask n

-- at every line
abbrev pub HasLogFull : Run → Report → Type 0
HasLogFull run report = (lane place : ℕ) → LineHasLogFull run report lane place

-- a put or set entry
abbrev pub writes_row : ChangeLine → Bool
writes_row e = writes e.change

-- the put and set entries of all indexes
abbrev pub rows_written : Report → ℕ
rows_written report = sum_by (λ (part : IndexPart). count_by writes_row part.entries) report.indexes

-- the pages are few for the indexes, the rows that were written, and the lanes
abbrev pub HasFewPages : Run → Report → Type 0
HasFewPages run report =
    run.sizes.pages ≤ 2 * (length run.names + rows_written report) + length run.lanes

-- Room: space-full only where the pages are few.
abbrev pub LineHasRoom : Run → Report → (lane place : ℕ) → Type 0
LineHasRoom run report lane place =
    (line : Line) (columns : Columns)
    → IsAnswered run report lane place line (SpaceFull columns) → HasFewPages run report

-- at every line
abbrev pub HasRoom : Run → Report → Type 0
HasRoom run report = (lane place : ℕ) → LineHasRoom run report lane place

-- an answer is `space-full`
abbrev pub is_space_full : Answer → Bool
is_space_full (Replied reply point columns) = false
is_space_full (LogFull n columns) = false
is_space_full (SpaceFull columns) = true
is_space_full (Scanned pieces) = false

-- no answer of a report is `space-full`
abbrev pub HasNoSpaceFull : Report → Type 0
HasNoSpaceFull report =
    AllByRecursion (AllByRecursion (λ (a : AnswerLine). is_space_full a.answer ≡ false))
    report.lanes

-- a report of a run that is legal but for room: `space-full` may come however many pages there are
pub record IsLegalButRoom (run : Run) (report : Report) : Type 0 where
  pub form : HasForm run report
  pub changes : HasChanges run report
  pub answers : HasReplies run report
  pub order_in_lane : IsInOrder run report
  pub scans : HasScans run report
  pub log_full : HasLogFull run report

-- a legal report of a run
pub record IsLegalReport (run : Run) (report : Report) : Type 0 where
  pub but_room : IsLegalButRoom run report
  pub room : HasRoom run report

-- bytes that spell a legal report
pub record IsLegalBytes (run : Run) (bytes : List ℕ) : Type 0 where
  pub report : Report
  pub spelled : bytes ≡ spell report
  pub legal : IsLegalReport run report
