-- What a scan tells, how it went, and what it leaves behind.
use Rattle.std.specs.Prelude.{ℕ, ◌≡◌, ◌⊎◌, ◌-◌, ◌≤◌, true, false, Option, List, [], ◌∷◌, length, map, sum_by}
use Rattle.std.specs.List.{AllByRecursion, AllPairs}
use mathlib.Core.Option.{some}
use lib.ListN.{get_elem?}
use Rattle.key_tuple.specs.Order.{FieldList}
use Rattle.key_tuple.specs.KeyPlace.{KeyPlace}
use Rattle.map_history.specs.LegalReport.{Mark, Precedes, marks_of}
use Rattle.map_history.specs.Map.{Map}
use Rattle.map_history.specs.Operation.{Scan}
use Rattle.map_history.specs.Report.{Scanned}
use Rattle.map_history.specs.declared.columns.How.{How}
use Rattle.map_history.specs.declared.reply.Piece.{Piece}
use Rattle.search_info.specs.declared.knows.Knows.{Knows}
use Rattle.search_info.specs.Tries.{TriesAfter}
use Rattle.index_law.specs.Shape.{Shape}
use Rattle.index_law.specs.State.{Entries}
use Rattle.forest_world.specs.Held.{TreePass}
use Rattle.call_law.specs.Once.{AnswersOnce}
use Rattle.call_law.specs.Spoken.{View}
use Rattle.call_law.specs.Trace.{Added, Adds, SparesTrees}
use Rattle.buffer_pool.specs.AsTaken.{AreAsTakenBut, Exception}
use Rattle.leaf_search.specs.Taught.{IsAsTaught}
use Rattle.tree_neighbours.specs.LeafHands.{IsLeafReference}
use Rattle.scan_law.specs.ScanLaws.{ReadRange}
use Rattle.scan_law.specs.SaidScans.{IsSaidSoFar}
use Rattle.scan_law.specs.ScanPieces.{scan_pieces}
use Rattle.said_scans.specs.Ranges.{range_said, SaysScan}
use Rattle.tree_cursor.specs.declared.cursor.Cursor.{Cursor}
use Rattle.index_seeks.specs.SeekTraces.{AreAsTakenBy}
use Rattle.index_scans.specs.declared.scan_call.FirstLeaf.{FirstLeaf}
use Rattle.index_scans.specs.FirstLeaves.{FindsFirst}
use Rattle.index_scans.specs.ScanSteps.{TellsNone, TellsFrom, GoesToEnd}

-- how many rows the pieces have, by what they tell
abbrev pub rows_told : List Piece → ℕ
rows_told pieces = sum_by (λ (p : Piece). p.count) pieces

-- The scan was answered once, by these pieces and rows, at points that never fall, each as a range of
-- it; no tree was taken, and the frames were given back as they were taken, but for a lesson, with
-- which the lessons m end.
pub record TellsOfScan (v v' : View) (m : Knows) (i : ℕ) (from : FieldList) (to : Option FieldList)
    (limit : ℕ) (pieces : List Piece) (rows : Map) : Type 0 where
  pub first : Piece
  pub later : List Piece
  pub pieces_are : pieces ≡ first ∷ later
  pub once : AnswersOnce v v' i (Scan from to limit) (Scanned (scan_pieces pieces rows))
  pub rises : AllPairs Precedes (marks_of (Scanned (scan_pieces pieces rows)))
  pub says : SaysScan v' i v.low from to limit (scan_pieces pieces rows)
  pub counted : rows_told pieces ≡ length rows
  pub as_taken : AreAsTakenBy v.terms.shape i m first.how once.added.references
  pub spares : SparesTrees v.terms.shape once.added

-- the first piece was the only one; or others were told, each from the cursor that the one before left
abbrev pub RunsOn : TreePass → ℕ → FieldList → Option FieldList → ℕ → FirstLeaf → List Piece → Map
    → TreePass → Type 0
RunsOn p i from to limit leaf pieces rows q =
    (TellsNone p i from to limit leaf pieces q × (rows ≡ []))
    ⊎ ((c : Cursor) × TellsFrom p i from to limit leaf true pieces rows c q)
    ⊎ ((c : Cursor) × (s : TreePass) × (firsts : List Piece) × (so_far : Map)
    × TellsFrom p i from to limit leaf false firsts so_far c s
    × GoesToEnd s i from to limit c firsts so_far pieces rows q)

-- the scan's first leaf was found, once, and its pieces were told from there on
pub record RunsScan (p : TreePass) (l : Knows) (i : ℕ) (from : FieldList) (to : Option FieldList)
    (limit : ℕ) (pieces : List Piece) (rows : Map) (q : TreePass) (m : Knows) : Type 0 where
  pub leaf : FirstLeaf
  pub between : TreePass
  pub finds : FindsFirst p l i from leaf between m
  pub runs : RunsOn between i from to limit leaf pieces rows q

-- the first piece tried to teach what a search with its HOW does, and the others nothing; without a
-- piece one such search was made, or none
abbrev pub TriesForScan : Knows → ℕ → List Piece → Knows → Type 0
TriesForScan l i [] m = (m ≡ l) ⊎ ((how : How) × TriesAfter l i how m)
TriesForScan l i (first ∷ later) m = TriesAfter l i first.how m

-- the point that a range tells
abbrev pub mark_of_range : ReadRange → Mark
mark_of_range range = record { point = range.piece.point; grows = 0 }

-- These pieces were said, with these rows, each as a range that begins where the one before it ends,
-- and nothing else; their points never fall, are no less than what was seen, and are seen then. No tree
-- was taken, and each frame that kept its page was given back as it was taken, but for exceptions.
pub record SaysSoFar (but : Exception) (v v' : View) (i : ℕ) (from : FieldList)
    (to : Option FieldList) (limit : ℕ) (at : KeyPlace) (pieces : List Piece)
    (rows : Map) : Type 0 where
  pub ranges : List ReadRange
  pub so_far : IsSaidSoFar from to limit (limit - length rows) at ranges
  pub pieces_are : map (λ (range : ReadRange). range.piece) ranges ≡ scan_pieces pieces rows
  pub counted : rows_told pieces ≡ length rows
  pub added : Added
  pub adds : Adds v v' added
  pub said : added.said ≡ map (range_said i v.low (Scan from to limit)) ranges
  pub spares : SparesTrees v.terms.shape added
  pub as_taken : AreAsTakenBut but added.references
  pub rises : AllPairs Precedes (map mark_of_range ranges)
  pub least : (ys : Entries) → get_elem? v.seen i ≡ some ys
      → AllByRecursion (λ (range : ReadRange). length ys ≤ range.piece.point) ranges
  pub most : (zs : Entries) → get_elem? v'.seen i ≡ some zs
      → AllByRecursion (λ (range : ReadRange). range.piece.point ≤ length zs) ranges

-- the reference is of a leaf of the index that was learnt from, with which the lessons m end
abbrev pub IsOfLesson : Shape → ℕ → Knows → Exception
IsOfLesson shape i m q = IsLeafReference shape i q × IsAsTaught shape i m q.taken q.released

-- memory lacked: these pieces were said, and all of their rows are in the list
pub record StopsScan (v v' : View) (m : Knows) (i : ℕ) (from : FieldList) (to : Option FieldList)
    (limit : ℕ) (pieces : List Piece) (rows : Map) : Type 0 where
  pub at : KeyPlace
  pub says : SaysSoFar (IsOfLesson v.terms.shape i m) v v' i from to limit at pieces rows
