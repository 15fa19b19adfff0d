-- What a line notes by the word that it is told is what its answer notes, and the columns that it is told are those of its answer.
use Rattle.std.proofs.Common.{◌≡◌, ◌≢◌, ℕ, ◌+◌, [], ◌∷◌, ap, sym, ◌∙◌, refl, Option, Some, None}
use Rattle.list_facts.proofs.Places.{same_some}
use Rattle.map_history.specs.declared.columns.How.{How}
use Rattle.map_history.specs.declared.columns.Note.{Note}
use Rattle.map_history.specs.declared.reply.Reply.{Reply}
use Rattle.map_history.specs.declared.reply.Reply.TheVariants as word
use Rattle.map_history.specs.Map.{Pair}
use Rattle.map_history.specs.Operation.{Ask, Get, Make, Seek, Scan}
use Rattle.map_history.specs.Reply.{MapReply, Value, Row, Done, Absent, Duplicate}
use Rattle.map_history.specs.Report.{Columns, Answer, Replied, LogFull, SpaceFull}
use Rattle.map_history.specs.LegalReport.{Line, columns_of}
use Rattle.map_history.specs.Told.{said, replied_at, answer_of}
use Rattle.lane_law.specs.Merged.{notes_of}
use Rattle.lane_threads.specs.Works.{told_notes}

-- a reply without a change notes nothing
plain_notes : (k : ℕ) (line : Line) (o : Option MapReply) (point : Option ℕ) (columns : Columns) (answer : Answer) → ((r : MapReply) → o ≡ Some r → r ≢ Done) → replied_at o point columns ≡ Some answer → [] ≡ notes_of k line answer
plain_notes k line None point columns answer never e = absurd cc
plain_notes k line (Some r) None columns answer never e = absurd cc
plain_notes k line (Some r) (Some p) columns answer never e = pick r (never r refl) ∙ ap (notes_of k line) (same_some (Replied r p columns) answer e)
  where
    pick : (r : MapReply) → r ≢ Done → [] ≡ notes_of k line (Replied r p columns)
    pick (Value v) apart = refl
    pick (Row key v) apart = refl
    pick Done apart = absurd (apart refl)
    pick Absent apart = refl
    pick Duplicate apart = refl

-- a found row isn't `ok`
found_never : (ask : Ask) (row : Pair) (r : MapReply) → said ask word.Found row ≡ Some r → r ≢ Done
found_never (Get key) row r e = λ d. clash (same_some (Value row.value) r e ∙ d)
  where
    clash : Value row.value ≡ Done → ⊥
    clash h = cc
found_never (Make change) row r e = absurd cc
found_never (Seek mode tuple) row r e = λ d. clash (same_some (Row row.key row.value) r e ∙ d)
  where
    clash : Row row.key row.value ≡ Done → ⊥
    clash h = cc
found_never (Scan from to limit) row r e = absurd cc

absent_never : (r : MapReply) → Some Absent ≡ Some r → r ≢ Done
absent_never r e d = clash (same_some Absent r e ∙ d)
  where
    clash : Absent ≡ Done → ⊥
    clash h = cc

duplicate_never : (r : MapReply) → Some Duplicate ≡ Some r → r ≢ Done
duplicate_never r e d = clash (same_some Duplicate r e ∙ d)
  where
    clash : Duplicate ≡ Done → ⊥
    clash h = cc

-- what is told `ok` at a point notes that point
ok_notes : (k : ℕ) (line : Line) (point : Option ℕ) (how : How) (note : Note) (answer : Answer) → replied_at (Some Done) point (record { how = how; note = note }) ≡ Some answer → told_notes (k + 1) line (record { reply = word.Ok; point = point; how = how; note = note }) ≡ notes_of k line answer
ok_notes k line None how note answer e = absurd cc
ok_notes k line (Some p) how note answer e = ap (notes_of k line) (same_some (Replied Done p (record { how = how; note = note })) answer e)

pub noted_by : (k : ℕ) (line : Line) (reply : Reply) (point : Option ℕ) (how : How) (note : Note) (row : Pair) (answer : Answer) → answer_of line.op.ask (record { reply = reply; point = point; how = how; note = note }) row ≡ Some answer
    → told_notes (k + 1) line (record { reply = reply; point = point; how = how; note = note }) ≡ notes_of k line answer
noted_by k line word.Found point how note row answer e = plain_notes k line (said line.op.ask word.Found row) point (record { how = how; note = note }) answer (found_never line.op.ask row) e
noted_by k line word.Absent point how note row answer e = plain_notes k line (Some Absent) point (record { how = how; note = note }) answer absent_never e
noted_by k line word.Ok point how note row answer e = ok_notes k line point how note answer e
noted_by k line word.Duplicate point how note row answer e = plain_notes k line (Some Duplicate) point (record { how = how; note = note }) answer duplicate_never e
noted_by k line word.SpaceFull point how note row answer e = ap (notes_of k line) (same_some (SpaceFull (record { how = how; note = note })) answer e)
noted_by k line (word.LogFull n) point how note row answer e = ap (notes_of k line) (same_some (LogFull n (record { how = how; note = note })) answer e)

reply_columns : (o : Option MapReply) (point : Option ℕ) (columns : Columns) (answer : Answer) → replied_at o point columns ≡ Some answer → columns_of answer ≡ columns ∷ []
reply_columns None point columns answer e = absurd cc
reply_columns (Some r) None columns answer e = absurd cc
reply_columns (Some r) (Some p) columns answer e = ap columns_of (sym (same_some (Replied r p columns) answer e))

-- an answer has the two columns that were told
pub columns_told_by : (ask : Ask) (reply : Reply) (point : Option ℕ) (how : How) (note : Note) (row : Pair) (answer : Answer) → answer_of ask (record { reply = reply; point = point; how = how; note = note }) row ≡ Some answer
    → columns_of answer ≡ record { how = how; note = note } ∷ []
columns_told_by ask word.Found point how note row answer e = reply_columns (said ask word.Found row) point (record { how = how; note = note }) answer e
columns_told_by ask word.Absent point how note row answer e = reply_columns (Some Absent) point (record { how = how; note = note }) answer e
columns_told_by ask word.Ok point how note row answer e = reply_columns (Some Done) point (record { how = how; note = note }) answer e
columns_told_by ask word.Duplicate point how note row answer e = reply_columns (Some Duplicate) point (record { how = how; note = note }) answer e
columns_told_by ask word.SpaceFull point how note row answer e = ap columns_of (sym (same_some (SpaceFull (record { how = how; note = note })) answer e))
columns_told_by ask (word.LogFull n) point how note row answer e = ap columns_of (sym (same_some (LogFull n (record { how = how; note = note })) answer e))
