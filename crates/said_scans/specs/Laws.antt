-- The law of scans that a pass has said.
use Rattle.std.specs.Prelude.{ℕ, ◌≡◌, ◌≤◌, Option, List, length}
use Rattle.std.specs.List.{AllByRecursion}
use mathlib.Core.Option.{some}
use lib.ListN.{get_elem?}
use Rattle.key_tuple.specs.Order.{FieldList}
use Rattle.latch_law.specs.Rule.{Fits}
use Rattle.latch_law.specs.Views.{both_parts}
use Rattle.map_history.specs.Operation.{Ask}
use Rattle.map_history.specs.Report.{ScanPiece, Answer}
use Rattle.map_history.specs.Scans.{IsScan}
use Rattle.index_law.specs.Rightness.{IsRight}
use Rattle.index_law.specs.State.{Entries, changes}
use Rattle.forest_law.specs.References.{IsReference}
use Rattle.forest_law.specs.State.{ForestState}
use Rattle.call_law.specs.Spoken.{View}
use Rattle.call_law.specs.Trace.{Added, Adds}
use Rattle.said_scans.specs.Ranges.{SaysScan, SaysPieces}

-- In a state that fits a pass, pieces that it says as a scan are a scan of the index's list, and of
-- what it has seen of that list, where this has their points. They stay said while the pass adds
-- more, and when it is joined to another one.
pub record SaidScansAreRight : Type 0 where
  pub right : (w : ForestState) (v : View) → Fits IsRight IsReference w v
      → (i n : ℕ) (from : FieldList) (to : Option FieldList) (limit : ℕ) (pieces : List ScanPiece)
      → SaysScan v i n from to limit pieces
      → (xs : Entries) → get_elem? w.lists i ≡ some xs → IsScan from to limit (changes xs) pieces
  pub right_by_seen : (w : ForestState) (v : View) → Fits IsRight IsReference w v
      → (i n : ℕ) (from : FieldList) (to : Option FieldList) (limit : ℕ) (pieces : List ScanPiece)
      → SaysScan v i n from to limit pieces
      → (zs : Entries) → get_elem? v.seen i ≡ some zs
      → AllByRecursion (λ (piece : ScanPiece). piece.point ≤ length zs) pieces
      → IsScan from to limit (changes zs) pieces
  pub more : (v w : View) (added : Added) → Adds v w added
      → (i n : ℕ) (ask : Ask) (answer : Answer) → SaysPieces v i n ask answer
      → SaysPieces w i n ask answer
  pub ahead : (u v : View) (i n : ℕ) (ask : Ask) (answer : Answer) → SaysPieces u i n ask answer
      → SaysPieces (both_parts u v) i n ask answer
  pub behind : (u v : View) (i n : ℕ) (ask : Ask) (answer : Answer) → SaysPieces v i n ask answer
      → SaysPieces (both_parts u v) i n ask answer
