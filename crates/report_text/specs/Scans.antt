-- The lines of a scan that stand before its rows.
use Rattle.std.specs.Prelude.{ℕ, List, [], ◌∷◌, codes, decimal}
use Rattle.map_history.specs.declared.reply.Piece.{Piece}
use Rattle.map_history.specs.Spelling.{column_words}
use Rattle.map_history.specs.Text.{line_of, point_text}

-- the line of a scan: how many pieces and rows it has
abbrev pub scan_line : (line pieces rows : ℕ) → List ℕ
scan_line line pieces rows =
    line_of (decimal line ∷ codes "scan" ∷ decimal pieces ∷ decimal rows ∷ [])

-- the line of a piece: its point, how many rows it has, and its columns
abbrev pub piece_line : Piece → List ℕ
piece_line p =
    line_of (codes "piece" ∷ point_text p.point ∷ decimal p.count
    ∷ column_words (record { how = p.how; note = p.note }))
