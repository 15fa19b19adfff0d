-- What a borrowed change, or what is to be said, stands for.
use Rattle.std.specs.Prelude.{ℕ, Option, Some, None, []}
use denote.Ref.{Bor}
use Rattle.map_history.specs.declared.reply.Reply.{Reply}
use Rattle.map_history.specs.declared.reply.Reply.TheVariants as word
use Rattle.map_history.specs.Map.{Pair, MapChange}
use Rattle.map_history.specs.Map as map
use Rattle.map_history.specs.Operation.{Ask, operation_by}
use Rattle.map_history.specs.Reply.{MapReply}
use Rattle.map_history.specs.Report.{Columns}
use Rattle.map_history.specs.Told as told
use Rattle.index_law.specs.declared.deed.ChangeRef as lent
use Rattle.index_law.specs.declared.deed.Deed.{Deed}
use Rattle.index_law.specs.declared.deed.Say.{Say}
use Rattle.index_law.specs.declared.deed.Say.TheVariants as say
use Rattle.index_law.specs.Answers.{MadeChange, Word, Gives, LogFull, SpaceFull, Saying, Replies, Look}

-- the change that is lent
abbrev pub change_lent : lent.ChangeRef → MapChange
change_lent (lent.TheVariants.Put key value) = map.Put key.now.tuple value.now
change_lent (lent.TheVariants.Set key value) = map.Set key.now.tuple value.now
change_lent (lent.TheVariants.Del key) = map.Del key.now.tuple

-- what a change that is handed in stands for
abbrev pub change_by : Deed → MadeChange
change_by d =
    record {
      change = change_lent d.change;
      columns = record { how = d.how; note = d.note };
    }

-- the row that is handed in, or an empty one
abbrev pub lent_row : Option (Bor Pair) → Pair
lent_row None = record { key = []; value = [] }
lent_row (Some row) = row.now

-- a reply of the map as a word, if there is one
abbrev pub gives : Option MapReply → Option Word
gives None = None
gives (Some reply) = Some (Gives reply)

-- what a reply of the program says of an operation; nothing where it isn't one of that operation
abbrev pub reply_word : Ask → Reply → Pair → Option Word
reply_word ask (word.LogFull n) row = Some LogFull
reply_word ask word.SpaceFull row = Some SpaceFull
reply_word ask reply row = gives (told.said ask reply row)

-- that word is said, or nothing where there is none
abbrev pub said_word : Ask → Option Word → Option ℕ → Columns → Saying
said_word ask None bound columns = Look
said_word ask (Some word) bound columns = Replies ask word bound columns

-- what is handed in to be said
abbrev pub saying_by : Say → Saying
saying_by (say.Reply op reply row bound how note) =
    let ask = (operation_by op).ask in
    said_word ask (reply_word ask reply (lent_row row)) bound (record { how = how; note = note })
saying_by say.Look = Look
