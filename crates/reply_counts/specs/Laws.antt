-- What counted replies tell.
use Rattle.std.specs.Prelude.{ℕ, ◌≡◌, ◌+◌, Some, List, [], ◌∷◌, ◌++◌, length}
use Rattle.std.specs.List.{AllByRecursion}
use Rattle.map_history.specs.Map.{Pair}
use Rattle.map_history.specs.Operation.{Ask}
use Rattle.map_history.specs.Report.{Answer, AnswerLine, Replied, LogFull, SpaceFull, Scanned}
use Rattle.map_history.specs.Told.{answer_of}
use Rattle.map_history.specs.declared.reply.Told.{Told}
use Rattle.reply_counts.specs.Replies.{replies_in, with_reply}

-- the counts of answers with one more behind them are theirs with its reply
abbrev pub CountsFollowAnswers : Type 0
CountsFollowAnswers = (answers : List AnswerLine) (line : ℕ) (ask : Ask) (told : Told) (row : Pair)
    (answer : Answer) → answer_of ask told row ≡ Some answer
    → replies_in (answers ++ record { line = line; answer = answer } ∷ [])
    ≡ with_reply (replies_in answers) told.reply

-- an answer that one of the counts has: no list of changes was full, and nothing was scanned
abbrev pub IsCounted : Answer → Type 0
IsCounted (Replied reply point columns) = Unit {0}
IsCounted (LogFull n columns) = ⊥
IsCounted (SpaceFull columns) = Unit {0}
IsCounted (Scanned pieces) = ⊥

-- where all answers are such, their counts together are as many as they are
abbrev pub RepliesAreAll : Type 0
RepliesAreAll = (answers : List AnswerLine)
    → AllByRecursion (λ (a : AnswerLine). IsCounted a.answer) answers
    → let counts = replies_in answers in
    counts.ok + counts.found + counts.absent + counts.duplicate + counts.full ≡ length answers
