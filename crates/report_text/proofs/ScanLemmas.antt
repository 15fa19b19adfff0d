-- The lines of a scan, piece by piece and row by row.
use Rattle.std.proofs.Common.{◌≡◌, ℕ, zero, suc, ◌+◌, ◌-◌, ◌<◌, ◌≤◌, List, [], ◌∷◌, ◌++◌, length, take, drop, get_or, sum_by, codes, decimal, sym, ap, ap₂, ◌∙◌, refl, arith}
use Rattle.std.proofs.lemmas.List.{drop-drop, get_or-drop, length-drop, length-take-le, take_more}
use Rattle.std.proofs.lemmas.List.Sums.{sum_by-cons}
use Rattle.std.specs.List.{flat_map}
use Rattle.map_history.specs.declared.reply.Piece.{Piece}
use Rattle.map_history.specs.Map.{Pair, Map}
use Rattle.map_history.specs.Report.{ScanPiece, Scanned}
use Rattle.map_history.specs.Rows.{row_at}
use Rattle.map_history.specs.Spelling.{answer_text, column_words, piece_lines, row_line}
use Rattle.map_history.specs.Text.{line_of, point_text}
use Rattle.scan_law.specs.ScanPieces.{piece_with, scan_pieces}
use Rattle.report_text.specs.Scans.{piece_line, scan_line}

-- how many rows pieces tell
abbrev pub counted : List Piece → ℕ
counted ps = sum_by (λ (p : Piece). p.count) ps

counted-cons : (p : Piece) (ps : List Piece) → counted (p ∷ ps) ≡ p.count + counted ps
counted-cons p ps = sum_by-cons (λ (x : Piece). x.count) p ps

-- the rows from a number on up to another, and one more
pub rows_next : (rows : Map) (first place : ℕ) → first ≤ place → place < length rows
    → take (place + 1 - first) (drop first rows)
    ≡ take (place - first) (drop first rows) ++ row_at rows place ∷ []
rows_next rows first place from below =
    let cut = length-drop first rows in
    let none : Pair = record { key = []; value = [] } in
    ap (λ n. take n (drop first rows)) (omega (arith, from))
    ∙ (take_more (drop first rows) (place - first) none (omega (arith, below, cut, from))
    ∙ ap (λ (x : Pair). take (place - first) (drop first rows) ++ x ∷ [])
    (get_or-drop first rows (place - first) none
    ∙ ap (λ n. get_or rows n none) (omega (arith, from))))

-- a piece's line and those of its rows
pub piece_put : (p : Piece) (rows : Map) (first : ℕ) → first + p.count ≤ length rows
    → piece_line p ++ flat_map row_line (take p.count (drop first rows))
    ≡ piece_lines (piece_with p (take p.count (drop first rows)))
piece_put p rows first within =
    let cut = length-drop first rows in
    ap (λ n. line_of (codes "piece" ∷ point_text p.point ∷ decimal n
    ∷ column_words (record { how = p.how; note = p.note }))
    ++ flat_map row_line (take p.count (drop first rows)))
    (sym (length-take-le p.count (drop first rows) (omega (arith, cut, within))))

-- one piece more, with the next rows
pub piece_more : (ps : List Piece) (rows : Map) (k : ℕ) (d : Piece) → k < length ps
    → take (suc k) (scan_pieces ps rows) ≡ take k (scan_pieces ps rows)
    ++ piece_with (get_or ps k d)
    (take (get_or ps k d).count (drop (counted (take k ps)) rows)) ∷ []
piece_more [] rows k d below = absurd (omega (arith, below))
piece_more (p ∷ ps) rows zero d below = refl
piece_more (p ∷ ps) rows (suc k) d below =
    let x = get_or ps k d in
    ap (λ more. piece_with p (take p.count rows) ∷ more)
    (piece_more ps (drop p.count rows) k d (omega (arith, below))
    ∙ ap (λ m. take k (scan_pieces ps (drop p.count rows)) ++ piece_with x (take x.count m) ∷ [])
    (drop-drop (counted (take k ps)) p.count rows
    ∙ ap (λ n. drop n rows)
    (let all = counted-cons p (take k ps) in omega (arith, all))))

-- the counts before a piece and with it
pub counted_more : (ps : List Piece) (k : ℕ) (d : Piece) → k < length ps
    → counted (take (suc k) ps) ≡ counted (take k ps) + (get_or ps k d).count
counted_more [] k d below = absurd (omega (arith, below))
counted_more (p ∷ ps) zero d below = counted-cons p [] ∙ omega arith
counted_more (p ∷ ps) (suc k) d below =
    let rest = counted_more ps k d (omega (arith, below)) in
    let one = counted-cons p (take (suc k) ps) in let other = counted-cons p (take k ps) in
    omega (arith, rest, one, other)

pub counted_some : (ps : List Piece) (k : ℕ) → counted (take k ps) ≤ counted ps
counted_some [] zero = omega arith
counted_some [] (suc k) = omega arith
counted_some (p ∷ ps) zero = omega arith
counted_some (p ∷ ps) (suc k) =
    let rest = counted_some ps k in let one = counted-cons p (take k ps) in
    let other = counted-cons p ps in omega (arith, rest, one, other)

-- as many pieces, and as many rows, as are told
pub pieces_long : (ps : List Piece) (rows : Map) → length (scan_pieces ps rows) ≡ length ps
pieces_long [] rows = refl
pieces_long (p ∷ ps) rows = ap suc (pieces_long ps (drop p.count rows))

pub pieces_rows : (ps : List Piece) (rows : Map) → counted ps ≡ length rows
    → sum_by (λ (x : ScanPiece). length x.rows) (scan_pieces ps rows) ≡ length rows
pieces_rows [] rows all = all
pieces_rows (p ∷ ps) rows all =
    let cut = length-drop p.count rows in
    let both : p.count + counted ps ≡ length rows = sym (counted-cons p ps) ∙ all in
    let rest = pieces_rows ps (drop p.count rows) (omega (arith, both, cut)) in
    let front = length-take-le p.count rows (omega (arith, both)) in
    let sum = sum_by-cons (λ (x : ScanPiece). length x.rows) (piece_with p (take p.count rows))
    (scan_pieces ps (drop p.count rows)) in
    omega (arith, sum, rest, front, both, cut)

-- a scan's own line, and those of its pieces
pub scan_put : (line : ℕ) (ps : List Piece) (rows : Map) → counted ps ≡ length rows
    → scan_line line (length ps) (length rows) ++ flat_map piece_lines (scan_pieces ps rows)
    ≡ answer_text line (Scanned (scan_pieces ps rows))
scan_put line ps rows all =
    ap₂ (λ m n. line_of (decimal line ∷ codes "scan" ∷ decimal m ∷ decimal n ∷ [])
    ++ flat_map piece_lines (scan_pieces ps rows)) (sym (pieces_long ps rows))
    (sym (pieces_rows ps rows all))
