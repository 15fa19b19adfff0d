-- What a lane did.
use Rattle.std.specs.Prelude.{ℕ, ◌≡◌, ◌≤◌, List, ◌++◌, length, All, AllPairs, zip, flat_map}
use Rattle.std.specs.List.{AllZip}
use mathlib.Core.Option.{some}
use lib.ListN.{get_elem?}
use Rattle.map_history.specs.Report.{Answer, AnswerLine}
use Rattle.map_history.specs.LegalReport.{Line, Answers, Mark, marks_in, Precedes}
use Rattle.index_law.specs.State.{Entries}
use Rattle.call_law.specs.Spoken.{View, Spoken, spoken, sayings}
use Rattle.call_law.specs.Trace.{SameNumbers, SeesMore}

-- the answer with the number of its line
abbrev pub answered : Line → Answer → AnswerLine
answered line answer = record { line = line.line; answer = answer }

-- what the pass n says where these lines are answered so
abbrev pub lane_sayings : ℕ → List Line → List AnswerLine → List Spoken
lane_sayings n lines answers = flat_map
    (λ (x : Line × AnswerLine). sayings x.0.op.index n x.0.op.ask x.1.answer) (zip lines answers)

-- each line has an answer of a form of its operation, and the points of each index are in order
pub record AreInOrder (lines : List Line) (answers : List AnswerLine) : Type 0 where
  pub form : AllZip Answers lines answers
  pub order : (i : ℕ) → AllPairs Precedes (marks_in i (zip lines answers))

-- the list of an index was seen up to a point, or further
abbrev pub IsSeenTo : View → ℕ → ℕ → Type 0
IsSeenTo v i point = (zs : Entries) × (get_elem? v.seen i ≡ some zs) × (point ≤ length zs)

-- The lines were answered one after another: this alone was said, what was seen is still seen, and
-- so is each list up to the points that were told of it.
pub record Worked (v v' : View) (lines : List Line) (answers : List AnswerLine) : Type 0 where
  pub numbers : SameNumbers v v'
  pub said : spoken v'.said ≡ spoken v.said ++ lane_sayings v.low lines answers
  pub seen : SeesMore v v'
  pub most : (i : ℕ) → All (λ (m : Mark). IsSeenTo v' i m.point) (marks_in i (zip lines answers))
  pub in_order : AreInOrder lines answers
