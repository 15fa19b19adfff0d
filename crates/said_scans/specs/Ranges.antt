-- A scan among what a pass has said: each piece with the range that it was said for.
use Rattle.std.specs.Prelude.{ℕ, ◌≡◌, Option, None, List, ◌∷◌, map, Contains}
use Rattle.std.specs.List.{AllByRecursion}
use Rattle.key_tuple.specs.Order.{FieldList}
use Rattle.latch_law.specs.declared.knows.Statement.TheVariants as what
use Rattle.map_history.specs.Operation.{Ask, Scan}
use Rattle.map_history.specs.Report.{ScanPiece, Answer, Scanned}
use Rattle.index_law.specs.Answers.{Piece}
use Rattle.call_law.specs.Spoken.{View, OwnAnswer}
use Rattle.scan_law.specs.ScanLaws.{ReadRange}
use Rattle.scan_law.specs.SaidScans.{IsSaidScan}

-- the own answer that a range of the index i is, where the number n says it
abbrev pub range_said : (i n : ℕ) → Ask → ReadRange → OwnAnswer
range_said i n ask range = record {
  index = i;
  point = range.piece.point;
  by = n;
  what = what.Answer (Piece ask range.low range.high range.piece.rows None
      range.piece.columns);
}

-- the pass says the range: it is among its own answers
abbrev pub SaysRange : View → (i n : ℕ) → Ask → ReadRange → Type 0
SaysRange v i n ask range = Contains v.said (range_said i n ask range)

-- and so each of these
abbrev pub SaysRanges : View → (i n : ℕ) → Ask → List ReadRange → Type 0
SaysRanges v i n ask ranges = AllByRecursion (SaysRange v i n ask) ranges

-- the pieces are those of a scan of the index i that was said to its end, and the pass says each of
-- its ranges by the number n
pub record SaysScan (v : View) (i n : ℕ) (from : FieldList) (to : Option FieldList) (limit : ℕ)
    (pieces : List ScanPiece) : Type 0 where
  pub first : ReadRange
  pub later : List ReadRange
  pub is : IsSaidScan from to limit first later
  pub pieces_are : map (λ (range : ReadRange). range.piece) (first ∷ later) ≡ pieces
  pub each : SaysRanges v i n (Scan from to limit) (first ∷ later)

-- the pieces that answer a scan are said so; of any other answer nothing is asked
abbrev pub SaysPieces : View → (i n : ℕ) → Ask → Answer → Type 0
SaysPieces v i n (Scan from to limit) (Scanned pieces) = SaysScan v i n from to limit pieces
SaysPieces v i n ask answer = Unit {0}
