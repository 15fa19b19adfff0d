-- What an answer of the program stands for.
use Rattle.std.specs.Prelude.{ℕ, ◌≡◌, Option, Some, None}
use Rattle.map_history.specs.declared.reply.Reply.{Reply}
use Rattle.map_history.specs.declared.reply.Reply.TheVariants as word
use Rattle.map_history.specs.declared.reply.Told.{Told}
use Rattle.map_history.specs.Map.{Pair, Map}
use Rattle.map_history.specs.Operation.{Ask, Get, Seek}
use Rattle.map_history.specs.Reply.{MapReply, Value, Row, Done, Absent, Duplicate, reply_of}
use Rattle.map_history.specs.Report.{Columns, Answer, Replied, LogFull, SpaceFull}

-- a found row as the operation shows it: a get shows the value alone
abbrev pub found_as : Ask → Pair → Option MapReply
found_as (Get k) row = Some (Value row.value)
found_as (Seek mode tuple) row = Some (Row row.key row.value)
found_as ask row = None

-- the reply that a word stands for, with the row that was found
abbrev pub said : Ask → Reply → Pair → Option MapReply
said ask word.Found row = found_as ask row
said ask word.Absent row = Some Absent
said ask word.Ok row = Some Done
said ask word.Duplicate row = Some Duplicate
said ask word.SpaceFull row = None
said ask (word.LogFull n) row = None

-- a word and the row in the caller's buffer say what the map replies
abbrev pub Says : Map → Ask → Reply → Pair → Type 0
Says m ask reply row = said ask reply row ≡ Some (reply_of m ask)

-- the two columns of what was told
abbrev pub columns_told : Told → Columns
columns_told told = record { how = told.how; note = told.note }

-- the answer of a reply at a point, if there are both
abbrev pub replied_at : Option MapReply → Option ℕ → Columns → Option Answer
replied_at (Some reply) (Some point) columns = Some (Replied reply point columns)
replied_at reply point columns = None

-- the printed answer that an answer of the program stands for, if it is one of its operation
abbrev pub answer_of : Ask → Told → Pair → Option Answer
answer_of ask told row = by_word told.reply
  where
    by_word : Reply → Option Answer
    by_word (word.LogFull n) = Some (LogFull n (columns_told told))
    by_word word.SpaceFull = Some (SpaceFull (columns_told told))
    by_word reply = replied_at (said ask reply row) told.point (columns_told told)
