-- What is told of a change shows no row.
use Rattle.std.proofs.Common.{ℕ, Option, Result, Ok, Err, IfOk, List}
use Rattle.std.specs.Prelude.{OnErr}
use Rattle.key_tuple.specs.Order.{FieldList}
use Rattle.map_history.specs.declared.columns.How.{How}
use Rattle.map_history.specs.declared.columns.Note.{Note}
use Rattle.map_history.specs.declared.reply.Reply.{Reply}
use Rattle.map_history.specs.declared.reply.Reply.TheVariants as word
use Rattle.map_history.specs.declared.reply.Told.{Told}
use Rattle.map_history.specs.Map.{Pair, MapChange}
use Rattle.map_history.specs.Operation.{Make}
use Rattle.map_history.specs.Report.{Answer}
use Rattle.call_law.specs.Once.{IsQuiet}
use Rattle.call_law.specs.Spoken.{View}
use Rattle.engine_law.specs.Tells.{IsTold, TellsOnce}
use Rattle.search_info.specs.declared.knows.Knows.{Knows}
use Rattle.index_engine.specs.Traces.{TellsOfWrite, GivesUp}

any_row : (c : MapChange) (reply : Reply) (point : Option ℕ) (how : How) (note : Note) (row other : Pair) (answer : Answer) → IsTold (Make c) (record { reply = reply; point = point; how = how; note = note }) row answer → IsTold (Make c) (record { reply = reply; point = point; how = how; note = note }) other answer
any_row c word.Found point how note row other answer t = record { is = t.is; point = t.point; key = t.key; stands = t.stands }
any_row c word.Absent point how note row other answer t = record { is = t.is; point = t.point; key = t.key; stands = t.stands }
any_row c word.Ok point how note row other answer t = record { is = t.is; point = t.point; key = t.key; stands = t.stands }
any_row c word.Duplicate point how note row other answer t = record { is = t.is; point = t.point; key = t.key; stands = t.stands }
any_row c word.SpaceFull point how note row other answer t = record { is = t.is; point = t.point; key = t.key; stands = t.stands }
any_row c (word.LogFull n) point how note row other answer t = record { is = t.is; point = t.point; key = t.key; stands = t.stands }

-- so it is the same whatever row stands in the buffer
pub shows_no_row : (told : Told) (v v' : View) (i : ℕ) (c : MapChange) (row other : Pair)
    → TellsOnce v v' i (Make c) told row → TellsOnce v v' i (Make c) told other
shows_no_row told v v' i c row other t = record {
  answer = t.answer;
  is_told = any_row c told.reply told.point told.how told.note row other t.answer t.is_told;
  once = t.once;
}

-- and of a result, by what else is known of it
pub result_shows_no_row : {E : Type 0} (result : Result Told E) (v v' : View) (i : ℕ)
    (key : FieldList) (bytes : List ℕ) (c : MapChange) (row other : Pair)
    → IfOk result (λ told. TellsOfWrite v v' i key bytes (Make c) told row)
    → IfOk result (λ told. TellsOnce v v' i (Make c) told other)
result_shows_no_row (Err e) v v' i key bytes c row other t = t
result_shows_no_row (Ok told) v v' i key bytes c row other t =
    shows_no_row told v v' i c row other t.tells

-- a call that gave up was quiet
pub gave_up_quiet : {E : Type 0} (result : Result Told E) (v v' : View) (l m : Knows) (i : ℕ)
    (key : FieldList) (bytes : List ℕ) → OnErr result (GivesUp v v' l m i key bytes)
    → OnErr result (IsQuiet v v' i)
gave_up_quiet (Err e) v v' l m i key bytes given = given.quiet
gave_up_quiet (Ok told) v v' l m i key bytes given = given
