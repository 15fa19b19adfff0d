-- When the pieces of a scan are what an ordered map answers.
use Rattle.std.specs.Prelude.{ℕ, ◌≡◌, ◌-◌, ◌<◌, ◌≤◌, Bool, true, not, Option, Some, None, if◌then◌else◌, List, [], ◌∷◌, length, take}
use Rattle.std.specs.List.{filter, flat_map, list_all}
use Rattle.key_tuple.specs.Order.{FieldList}
use Rattle.key_tuple.specs.KeyPlace.{KeyPlace, Start, At, End, before, not_below}
use Rattle.map_history.specs.Map.{Pair, Map, MapChange, map_after, slice}
use Rattle.map_history.specs.Report.{ScanPiece}

-- the place is below TO, which every place is where there is no TO
abbrev pub is_below : Option FieldList → KeyPlace → Bool
is_below None x = true
is_below (Some to) x = not (not_below to x)

-- the place of the first row, or the end
abbrev pub first_place : Map → KeyPlace
first_place [] = End
first_place (row ∷ rows) = At row.key

-- the lower of two places
abbrev pub lesser : KeyPlace → KeyPlace → KeyPlace
lesser x y = if before y x then y else x

-- the rows from FROM on
abbrev pub rows_from : FieldList → Map → Map
rows_from from m = filter (λ (row : Pair). not_below from (At row.key)) m

-- those rows of a map that stand after all of some rows
abbrev pub rows_past : Map → Map → Map
rows_past rows m =
    filter (λ (next : Pair). list_all (λ (row : Pair). before (At row.key) (At next.key)) rows) m

-- the rows that later pieces print
abbrev pub later_rows : List ScanPiece → Map
later_rows pieces = flat_map (λ (piece : ScanPiece). piece.rows) pieces

-- where a piece ends that begins at a place: at the map's first row that is asked for and stands
-- after its rows, or at the first row that a later piece prints, whichever comes first
abbrev pub cut_after : FieldList → KeyPlace → Map → Map → List ScanPiece → KeyPlace
cut_after from begin m rows later =
    lesser (first_place (rows_past rows (slice begin End (rows_from from m))))
    (first_place (later_rows later))

-- a scan that has so many rows left is at its end: the limit is reached, or no row is left below TO
abbrev pub IsAtEnd : Option FieldList → ℕ → KeyPlace → Map → Type 0
IsAtEnd to left cut m =
    0 < left → filter (λ (row : Pair). is_below to (At row.key)) (slice cut End m) ≡ []

-- each piece has the rows of its map from where the one before it ends, and the last one is at the
-- end
abbrev pub ArePieces : FieldList → Option FieldList → List MapChange → ℕ → KeyPlace
    → List ScanPiece → Type 0
ArePieces from to changes left begin [] = ⊥
ArePieces from to changes left begin (piece ∷ later) =
    let m = map_after (take piece.point changes) in
    let end = cut_after from begin m piece.rows later in
    (piece.point ≤ length changes)
    × (piece.rows
    ≡ filter (λ (row : Pair). is_below to (At row.key)) (slice begin end (rows_from from m)))
    × (length piece.rows ≤ left)
    × AreLater later (IsAtEnd to (left - length piece.rows) end m)
    (ArePieces from to changes (left - length piece.rows) end later)
  where
    AreLater : List ScanPiece → Type 0 → Type 0 → Type 0
    AreLater [] last more = last
    AreLater (x ∷ xs) last more = more

-- the pieces of a scan from FROM to TO of at most `limit` rows
abbrev pub IsScan : FieldList → Option FieldList → ℕ → List MapChange → List ScanPiece → Type 0
IsScan from to limit changes pieces = ArePieces from to changes limit Start pieces
