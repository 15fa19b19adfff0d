-- The replies of answers, counted.
use Rattle.std.specs.Prelude.{◌+◌, Bool, true, false, List, count_by}
use Rattle.map_history.specs.LegalReport.{is_space_full}
use Rattle.map_history.specs.Reply.{Value, Row, Done, Absent, Duplicate}
use Rattle.map_history.specs.Report.{Answer, AnswerLine, Replied}
use Rattle.map_history.specs.declared.reply.Reply.{Reply}
use Rattle.map_history.specs.declared.reply.Reply.TheVariants as word
use Rattle.reply_counts.specs.declared.counting.ReplyCounts.{ReplyCounts}

-- a change was made
abbrev pub is_made : Answer → Bool
is_made (Replied Done point columns) = true
is_made answer = false

-- a row was found
abbrev pub is_found : Answer → Bool
is_found (Replied (Value value) point columns) = true
is_found (Replied (Row key value) point columns) = true
is_found answer = false

-- a row wasn't there
abbrev pub is_absent : Answer → Bool
is_absent (Replied Absent point columns) = true
is_absent answer = false

-- the key of a put was there
abbrev pub is_duplicate : Answer → Bool
is_duplicate (Replied Duplicate point columns) = true
is_duplicate answer = false

-- how many answers have each reply
abbrev pub replies_in : List AnswerLine → ReplyCounts
replies_in answers = record {
  ok = count_by (λ (a : AnswerLine). is_made a.answer) answers;
  found = count_by (λ (a : AnswerLine). is_found a.answer) answers;
  absent = count_by (λ (a : AnswerLine). is_absent a.answer) answers;
  duplicate = count_by (λ (a : AnswerLine). is_duplicate a.answer) answers;
  full = count_by (λ (a : AnswerLine). is_space_full a.answer) answers;
}

-- one reply more
abbrev pub with_reply : ReplyCounts → Reply → ReplyCounts
with_reply counts word.Ok = record counts { ok = counts.ok + 1 }
with_reply counts word.Found = record counts { found = counts.found + 1 }
with_reply counts word.Absent = record counts { absent = counts.absent + 1 }
with_reply counts word.Duplicate = record counts { duplicate = counts.duplicate + 1 }
with_reply counts word.SpaceFull = record counts { full = counts.full + 1 }
with_reply counts (word.LogFull n) = counts
