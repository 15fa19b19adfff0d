-- What is printed of an operation.
use Rattle.std.specs.Prelude.{ℕ, Option, Some, None, List, [], ◌∷◌, codes, decimal}
use Rattle.change_log.specs.Entries.{printed_entry}
use Rattle.change_log.specs.Log.{ChangeNote}
use Rattle.key_tuple.specs.Order.{FieldList}
use Rattle.map_history.specs.declared.op.Op.{Op}
use Rattle.map_history.specs.declared.reply.Reply.{Reply}
use Rattle.map_history.specs.declared.reply.Reply.TheVariants as word
use Rattle.map_history.specs.declared.reply.Told.{Told}
use Rattle.map_history.specs.Operation.{operation_of}
use Rattle.map_history.specs.Report.{Answer, ChangeLine}
use Rattle.map_history.specs.Spelling.{change_text}
use Rattle.map_history.specs.Text.{line_of}
use Rattle.map_history.specs.Told.{answer_of}

-- the printed answer to an operation that was told this, with the row that was found
abbrev pub printed_answer : Op → Told → FieldList → List ℕ → Option Answer
printed_answer op told key value =
    answer_of (operation_of op).ask told (record { key = key; value = value })

-- the line of a change with these words behind its number, its lane and its line
abbrev pub noted_line : ChangeNote → List (List ℕ) → List ℕ
noted_line note words =
    line_of (decimal note.number ∷ decimal note.lane ∷ decimal note.line.line ∷ words)

-- the line of an entry with its number, if there is one
abbrev pub entry_text : ℕ → Option ChangeLine → List ℕ
entry_text number None = []
entry_text number (Some entry) = change_text number entry

-- the line of a change
abbrev pub noted_text : ChangeNote → List ℕ
noted_text note = entry_text note.number (printed_entry note)

-- the word of a reply
abbrev pub reply_text : Reply → List ℕ
reply_text word.Found = codes "found"
reply_text word.Absent = codes "absent"
reply_text word.Ok = codes "ok"
reply_text word.Duplicate = codes "duplicate"
reply_text word.SpaceFull = codes "space-full"
reply_text (word.LogFull n) = codes "log-full"
