-- What lanes' answers ask their learner to try, and that it was tried.
use Rattle.std.specs.Prelude.{ℕ, ◌≡◌, ◌+◌, Bool, true, false, ◌&&◌, ◌==◌, List, [], ◌∷◌, ◌++◌, length, map, replicate, count_by}
use Rattle.std.specs.List.{flat_map, zip}
use Rattle.learning.specs.Opening.{opening_info}
use Rattle.map_history.specs.declared.columns.How.{How}
use Rattle.map_history.specs.declared.columns.How.TheVariants as how
use Rattle.map_history.specs.Report.{Columns, Answer, AnswerLine, Report}
use Rattle.map_history.specs.LegalReport.{Line, Run, columns_of}
use Rattle.map_history.specs.Statistics.{times}
use Rattle.map_history.specs.Words.{how_text}
use Rattle.search_info.specs.declared.knows.Knows.{Knows}
use Rattle.search_info.specs.declared.knows.Try.{Try}
use Rattle.search_info.specs.History.{Start}
use Rattle.search_info.specs.Tries.{Kind, Hit, Miss, Descent, kind_of, kinds_after}

-- what a report tells of a try: the number of its lane, from 0, its index, and its kind
pub record ToldTry : Type 0 where
  pub by : ℕ
  pub index : ℕ
  pub kind : Kind

-- a try of the lane k
abbrev pub tried_by : (k index : ℕ) → Kind → ToldTry
tried_by k index kind = record { by = k; index = index; kind = kind }

-- what it tells of this try
abbrev pub told_try : Try → ToldTry
told_try t = tried_by t.by t.index (kind_of t.event)

-- what the lane k tries of an index after an answer: what the word in the first column asks for
abbrev pub answer_tries : (k index : ℕ) → Answer → List ToldTry
answer_tries k index answer =
    flat_map (λ (c : Columns). map (tried_by k index) (kinds_after c.how)) (columns_of answer)

-- what it tries where these lines are answered so
abbrev pub lane_tries : ℕ → List Line → List AnswerLine → List ToldTry
lane_tries k lines answers = flat_map
    (λ (x : Line × AnswerLine). answer_tries k x.0.op.index x.1.answer) (zip lines answers)

-- what the lanes k, k + 1 and so on try, one lane after another
abbrev pub all_tries : ℕ → List (List Line) → List (List AnswerLine) → List ToldTry
all_tries k [] told = []
all_tries k (lines ∷ lanes) [] = []
all_tries k (lines ∷ lanes) (answers ∷ told) =
    lane_tries k lines answers ++ all_tries (k + 1) lanes told

-- the pass has its numbers, and has tried besides, by its name, what the answers ask for, in order
pub record Taught (l m : Knows) (lines : List Line) (answers : List AnswerLine) : Type 0 where
  pub opening : m.opening ≡ l.opening
  pub low : m.low ≡ l.low
  pub end : m.end ≡ l.end
  pub tries : List Try
  pub added : m.tries ≡ l.tries ++ tries
  pub told : map told_try tries ≡ lane_tries l.low lines answers

-- The pass of all lanes has all numbers of a learner whose indexes had learnt nothing, and it has
-- tried what the report's columns ask for, one lane after another, and nothing else.
pub record IsTaught (run : Run) (report : Report) (m : Knows) : Type 0 where
  pub low : m.low ≡ 0
  pub end : m.end ≡ length run.lanes
  pub passes : m.opening.passes ≡ length run.lanes
  pub starts : map (λ (s : Start). s.0) m.opening.starts
      ≡ replicate (length run.names) opening_info
  pub tries : map told_try m.tries ≡ all_tries 0 run.lanes report.lanes

-- two kinds are the same
abbrev pub same_kind : Kind → Kind → Bool
same_kind Hit Hit = true
same_kind Miss Miss = true
same_kind Descent Descent = true
same_kind a b = false

-- how many events of a kind were tried of an index
abbrev pub times_tried : ℕ → Kind → List Try → ℕ
times_tried i kind tries =
    count_by (λ (t : Try). (t.index == i) && same_kind (kind_of t.event) kind) tries

-- in how many columns the word of a search stands
abbrev pub times_how : How → List Columns → ℕ
times_how h columns = times (how_text h) columns

-- how many searches asked the hash, and it led nowhere
abbrev pub times_in_vain : List Columns → ℕ
times_in_vain columns = times_how how.PartBusy columns + times_how how.NoEntry columns
    + times_how how.BlockBusy columns + times_how how.Clock columns
    + times_how how.Unequal columns

-- how many didn't ask it
abbrev pub times_unasked : List Columns → ℕ
times_unasked columns = times_how how.Off columns + times_how how.Cold columns
    + times_how how.Short columns

-- of an index with these columns as many hits were tried as searches were hits, as many misses as
-- were in vain, and as many descents as were in vain or didn't ask
pub record AreTold (tries : List Try) (i : ℕ) (columns : List Columns) : Type 0 where
  pub hits : times_tried i Hit tries ≡ times_how how.Hit columns
  pub misses : times_tried i Miss tries ≡ times_in_vain columns
  pub descents : times_tried i Descent tries ≡ times_in_vain columns + times_unasked columns
