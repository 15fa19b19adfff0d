-- The lines of a report are its text.
use Rattle.std.proofs.Common.{◌≡◌, ℕ, ◌+◌, List, [], ◌∷◌, ◌++◌, map, length, codes, refl, sym, ap, ◌∙◌, append-nil}
use Rattle.std.proofs.lemmas.List.Concat.{flat_map-append}
use Rattle.std.specs.List.{flat_map, enumerate_from}
use Rattle.map_history.specs.Map.{Pair}
use Rattle.map_history.specs.Report.{ScanPiece, Answer, Replied, LogFull, SpaceFull, Scanned, AnswerLine, IndexPart}
use Rattle.std.specs.Fmt.{decimal}
use Rattle.map_history.specs.Text.{point_text, line_of}
use Rattle.map_history.specs.Spelling.{column_words, row_line, piece_lines, answer_text, lane_text, changes_text, stats_text}
use Rattle.report_laws.proofs.SpellLemmas.{parted}
use Rattle.audit_law.specs.TextLines.{TextLine, formal, piece_text_lines, head_text, pieces_of, answer_text_lines, lane_text_lines, entry_text_line, part_text_lines, stats_text_line}
use Rattle.audit_law.specs.Laws.{LinesAreSpelled}

abbrev texts : List TextLine → List ℕ
texts lines = flat_map (λ (line : TextLine). line.text) lines

texts-append : (xs ys : List TextLine) → texts (xs ++ ys) ≡ texts xs ++ texts ys
texts-append xs ys = flat_map-append (λ (line : TextLine). line.text) xs ys

-- what has a text of its own
texts_flat : {A : Type 0} (f : A → List TextLine) (g : A → List ℕ) → ((x : A) → texts (f x) ≡ g x) → (xs : List A) → texts (flat_map f xs) ≡ flat_map g xs
texts_flat f g h [] = refl
texts_flat f g h (x ∷ xs) = texts-append (f x) (flat_map f xs) ∙ (ap (λ (t : List ℕ). t ++ texts (flat_map f xs)) (h x) ∙ ap (λ (t : List ℕ). g x ++ t) (texts_flat f g h xs))

texts_map : {A : Type 0} (f : A → TextLine) (xs : List A) → texts (map f xs) ≡ flat_map (λ x. (f x).text) xs
texts_map f [] = refl
texts_map f (x ∷ xs) = ap (λ (t : List ℕ). (f x).text ++ t) (texts_map f xs)

-- and doesn't need its number
unnumbered : {A : Type 0} (g : A → List ℕ) (k : ℕ) (xs : List A) → flat_map (λ (x : ℕ × A). g x.1) (enumerate_from k xs) ≡ flat_map g xs
unnumbered g k [] = refl
unnumbered g k (x ∷ xs) = ap (λ (t : List ℕ). g x ++ t) (unnumbered g (k + 1) xs)

text_of_piece : (lane place : ℕ) (p : ℕ × ScanPiece) → texts (piece_text_lines lane place p) ≡ piece_lines p.1
text_of_piece lane place p = ap (λ (t : List ℕ). line_of (codes "piece" ∷ point_text p.1.point ∷ decimal (length p.1.rows) ∷ column_words p.1.columns) ++ t) (texts_map (λ (row : Pair). formal (row_line row)) p.1.rows)

text_of_pieces : (lane place : ℕ) (pieces : List ScanPiece) → texts (flat_map (piece_text_lines lane place) (enumerate_from 0 pieces)) ≡ flat_map piece_lines pieces
text_of_pieces lane place pieces = texts_flat (piece_text_lines lane place) (λ (p : ℕ × ScanPiece). piece_lines p.1) (text_of_piece lane place) (enumerate_from 0 pieces) ∙ unnumbered piece_lines 0 pieces

text_of_answer : (lane : ℕ) (a : ℕ × AnswerLine) → texts (answer_text_lines lane a) ≡ answer_text a.1.line a.1.answer
text_of_answer lane a = go a.1.answer
  where
    go : (answer : Answer) → head_text a.1.line answer ++ texts (flat_map (piece_text_lines lane a.0) (enumerate_from 0 (pieces_of answer))) ≡ answer_text a.1.line answer
    go (Replied reply point columns) = append-nil (answer_text a.1.line (Replied reply point columns))
    go (LogFull n columns) = append-nil (answer_text a.1.line (LogFull n columns))
    go (SpaceFull columns) = append-nil (answer_text a.1.line (SpaceFull columns))
    go (Scanned pieces) = ap (λ (t : List ℕ). head_text a.1.line (Scanned pieces) ++ t) (text_of_pieces lane a.0 pieces)

text_of_lane : (lane : ℕ × List AnswerLine) → texts (lane_text_lines lane) ≡ lane_text lane
text_of_lane lane =
    ap (λ (t : List ℕ). line_of (codes "lane" ∷ decimal (lane.0 + 1) ∷ []) ++ t) (texts_flat (answer_text_lines lane.0) (λ (a : ℕ × AnswerLine). answer_text a.1.line a.1.answer) (text_of_answer lane.0) (enumerate_from 0 lane.1)
    ∙ unnumbered (λ (a : AnswerLine). answer_text a.line a.answer) 0 lane.1)

text_of_part : (part : ℕ × IndexPart) → texts (part_text_lines part) ≡ changes_text part.1
text_of_part part = ap (λ (t : List ℕ). line_of (codes "changes" ∷ part.1.name ∷ decimal (length part.1.entries) ∷ []) ++ t) (texts_map (entry_text_line part.0) (enumerate_from 0 part.1.entries))

pub lines_are_spelled : LinesAreSpelled
lines_are_spelled report =
    let lanes = enumerate_from 0 report.lanes in
    let parts = enumerate_from 0 report.indexes in
    let end = formal (line_of (codes "end" ∷ [])) ∷ [] in
    let stats = map stats_text_line report.indexes in
    let last : texts (stats ++ end) ≡ flat_map (λ (part : IndexPart). stats_text part.name part.counts) report.indexes ++ line_of (codes "end" ∷ [])
    = texts-append stats end ∙ (ap (λ (t : List ℕ). t ++ texts end) (texts_map stats_text_line report.indexes) ∙ ap (λ (t : List ℕ). flat_map (λ (part : IndexPart). stats_text part.name part.counts) report.indexes ++ t) (append-nil (line_of (codes "end" ∷ [])))) in
    let middle : texts (flat_map part_text_lines parts ++ (stats ++ end)) ≡ flat_map changes_text report.indexes ++ texts (stats ++ end)
    = texts-append (flat_map part_text_lines parts) (stats ++ end)
    ∙ ap (λ (t : List ℕ). t ++ texts (stats ++ end)) (texts_flat part_text_lines (λ (p : ℕ × IndexPart). changes_text p.1) text_of_part parts ∙ unnumbered changes_text 0 report.indexes) in
    let first : texts (flat_map lane_text_lines lanes ++ (flat_map part_text_lines parts ++ (stats ++ end))) ≡ flat_map lane_text lanes ++ texts (flat_map part_text_lines parts ++ (stats ++ end))
    = texts-append (flat_map lane_text_lines lanes) (flat_map part_text_lines parts ++ (stats ++ end))
    ∙ ap (λ (t : List ℕ). t ++ texts (flat_map part_text_lines parts ++ (stats ++ end))) (texts_flat lane_text_lines lane_text text_of_lane lanes) in
    parted report ∙ ap (λ (t : List ℕ). line_of (codes "ahi" ∷ codes "run" ∷ []) ++ t) (sym (first ∙ ap (λ (t : List ℕ). flat_map lane_text lanes ++ t) (middle ∙ ap (λ (t : List ℕ). flat_map changes_text report.indexes ++ t) last)))
