-- The own answers of a pass, as they are printed.
use Rattle.std.specs.Prelude.{ℕ, if◌then◌else◌, List, [], ◌∷◌, ◌++◌, map}
use Rattle.latch_law.specs.declared.knows.Knows.{Knows}
use Rattle.latch_law.specs.declared.knows.Said.{Said}
use Rattle.latch_law.specs.declared.knows.Statement as what
use Rattle.map_history.specs.Operation.{Ask, Make}
use Rattle.map_history.specs.Reply.{Done}
use Rattle.map_history.specs.Report.{Columns, ScanPiece, Answer, Replied, Scanned}
use Rattle.map_history.specs.Report as answer
use Rattle.forest_law.specs.declared.objects.Object.{Object}
use Rattle.index_law.specs.Answers.{MadeChange, Word, Gives, LogFull, SpaceFull, Saying, Replies, Piece, Full, Look, speaks_at}
use Rattle.index_law.specs.Shape.{Shape}

-- what a pass of this world knows
abbrev pub View : Type 0
View = Knows Shape Object MadeChange Saying

-- an own answer of such a pass
abbrev pub OwnAnswer : Type 0
OwnAnswer = Said MadeChange Saying

-- an answer to an operation of an index, by the pass with this number; one piece of a scan is an
-- answer here, without its rows
pub record Spoken : Type 0 where
  pub index : ℕ
  pub by : ℕ
  pub ask : Ask
  pub answer : Answer

-- the word at a point as it is printed
abbrev pub printed_word : Word → ℕ → Columns → Answer
printed_word (Gives reply) p columns = Replied reply p columns
printed_word LogFull p columns = answer.LogFull p columns
printed_word SpaceFull p columns = answer.SpaceFull columns

-- One piece of a scan as an answer. Its rows are left out: what is printed may be a part of the
-- range that was said, so the rows of an answer are tied where ranges are said, and not here.
abbrev pub spoken_piece : ℕ → ℕ → ℕ → Ask → Columns → Spoken
spoken_piece i p n ask columns =
    record {
      index = i;
      by = n;
      ask = ask;
      answer = Scanned (record { point = p; rows = []; columns = columns } ∷ []);
    }

-- what is said at the point p of the list i, if that says something
abbrev pub spoken_saying : ℕ → ℕ → ℕ → Saying → List Spoken
spoken_saying i p n (Replies ask word bound columns) =
    if speaks_at bound p
    then record { index = i; by = n; ask = ask; answer = printed_word word p columns } ∷ []
    else []
spoken_saying i p n (Piece ask low high rows bound columns) =
    if speaks_at bound p then spoken_piece i p n ask columns ∷ [] else []
spoken_saying i p n (Full places) = []
spoken_saying i p n Look = []

-- what an own answer says: a change is answered `ok` at its point
abbrev pub spoken_at : OwnAnswer → List Spoken
spoken_at q = by_kind q.what
  where
    by_kind : what.Statement MadeChange Saying → List Spoken
    by_kind (what.TheVariants.Change deed) =
        let answer = Replied Done q.point deed.columns in
        record { index = q.index; by = q.by; ask = Make deed.change; answer = answer } ∷ []
    by_kind (what.TheVariants.Answer said) = spoken_saying q.index q.point q.by said

-- the own answers that say something, as they are printed: no looks and no fulls
abbrev pub spoken : List OwnAnswer → List Spoken
spoken [] = []
spoken (q ∷ qs) = spoken_at q ++ spoken qs

-- what an answer to an operation is as own answers: each piece of a scan is one, without its rows
abbrev pub sayings : ℕ → ℕ → Ask → Answer → List Spoken
sayings i n ask (Scanned pieces) =
    map (λ (piece : ScanPiece). spoken_piece i piece.point n ask piece.columns) pieces
sayings i n ask answer = record { index = i; by = n; ask = ask; answer = answer } ∷ []
