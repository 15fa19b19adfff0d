-- The lines of what is read of a report are the lines of its text.
use Rattle.std.proofs.Common.{◌≡◌, ℕ, zero, suc, ◌+◌, Option, Some, List, [], ◌∷◌, ◌++◌, length, map, codes, refl, sym, ap, ◌∙◌, arith}
use Rattle.std.proofs.lemmas.List.{map-append}
use Rattle.std.specs.List.{AllZip, enumerate_from, flat_map, zip}
use Rattle.map_history.specs.LegalReport.{Line, Run, columns_at}
use Rattle.map_history.specs.Statistics.{counts_of}
use Rattle.map_history.specs.Map.{Pair}
use Rattle.map_history.specs.Report.{ScanPiece, AnswerLine, ChangeLine, IndexPart}
use Rattle.map_history.specs.Spelling.{row_line, change_text}
use Rattle.audit_law.specs.TextLines.{TextLine, formal, piece_text_lines, head_text, pieces_of, answer_text_lines, lane_text_lines, entry_text_line, part_text_lines, stats_text_line}
use Rattle.line_forms.specs.LineForms.{Lines, in_line}
use Rattle.report_forms.specs.Lists.{each_lines, numbers_from}
use Rattle.report_forms.specs.Entries.{part_lines, count_text, entry_lines, AreEntriesOf}
use Rattle.report_forms.specs.Scans.{piece_lines, head_of_piece, piece_head_text}
use Rattle.report_forms.specs.Reports.{told_lines, lane_text, AreToldTo, lane_lines, stats_told, parts_from}

abbrev pub texts : List TextLine → Lines
texts lines = map (λ (line : TextLine). line.text) lines

pub texts-append : (xs ys : List TextLine) → texts (xs ++ ys) ≡ texts xs ++ texts ys
texts-append xs ys = map-append (λ (line : TextLine). line.text) xs ys

-- of what is numbered, but has a text of its own
numbered_texts : {A : Type 0} (f : ℕ × A → List TextLine) (g : A → Lines) → ((k : ℕ) (x : A) → texts (f (k, x)) ≡ g x) → (k : ℕ) (xs : List A) → texts (flat_map f (enumerate_from k xs)) ≡ flat_map g xs
numbered_texts f g h k [] = refl
numbered_texts f g h k (x ∷ xs) = texts-append (f (k, x)) (flat_map f (enumerate_from (k + 1) xs)) ∙ (ap (λ (t : Lines). t ++ texts (flat_map f (enumerate_from (k + 1) xs))) (h k x) ∙ ap (λ (t : Lines). g x ++ t) (numbered_texts f g h (k + 1) xs))

row_texts : (rows : List Pair) → texts (map (λ (row : Pair). formal (row_line row)) rows) ≡ map row_line rows
row_texts [] = refl
row_texts (row ∷ rows) = ap (λ (t : Lines). row_line row ∷ t) (row_texts rows)

piece_texts : (lane place k : ℕ) (piece : ScanPiece) → texts (piece_text_lines lane place (k, piece)) ≡ piece_lines piece
piece_texts lane place k piece = ap (λ (t : Lines). piece_head_text (head_of_piece piece) ∷ t) (row_texts piece.rows)

answer_texts : (lane k : ℕ) (a : AnswerLine) → texts (answer_text_lines lane (k, a)) ≡ told_lines a
answer_texts lane k a = ap (λ (t : Lines). head_text a.line a.answer ∷ t) (numbered_texts (piece_text_lines lane k) piece_lines (piece_texts lane k) 0 (pieces_of a.answer))

lane_texts : (k : ℕ) (told : List AnswerLine) → texts (lane_text_lines (k, told)) ≡ lane_text k ∷ flat_map told_lines told
lane_texts k told = ap (λ (t : Lines). lane_text k ∷ t) (numbered_texts (answer_text_lines k) told_lines (answer_texts k) 0 told)

-- the lanes
pub lanes_texts : (fields : List ℕ) (k : ℕ) (lanes : List (List Line)) (told : List (List AnswerLine)) → AllZip (AreToldTo fields) (enumerate_from k lanes) told
    → texts (flat_map lane_text_lines (enumerate_from k told)) ≡ each_lines lane_lines (enumerate_from k lanes) told
lanes_texts fields k [] [] h = refl
lanes_texts fields k [] (t ∷ told) h = absurd h
lanes_texts fields k (lines ∷ lanes) [] h = absurd h
lanes_texts fields k (lines ∷ lanes) (t ∷ told) h =
    texts-append (lane_text_lines (k, t)) (flat_map lane_text_lines (enumerate_from (k + 1) told))
    ∙ (ap (λ (x : Lines). x ++ texts (flat_map lane_text_lines (enumerate_from (k + 1) told))) (lane_texts k t) ∙ ap (λ (x : Lines). (lane_text k ∷ flat_map told_lines t) ++ x) (lanes_texts fields (k + 1) lanes told h.1))

entry_texts : (index k : ℕ) (entries : List ChangeLine) → texts (map (entry_text_line index) (enumerate_from k entries)) ≡ each_lines (λ (number : ℕ). in_line (change_text number)) (numbers_from (k + 1) (length entries)) entries
entry_texts index k [] = refl
entry_texts index k (e ∷ entries) = ap (λ (t : Lines). change_text (k + 1) e ∷ t) (entry_texts index (k + 1) entries)

part_texts : (k : ℕ) (part : IndexPart) → texts (part_text_lines (k, part)) ≡ part_lines part.name part.entries
part_texts k part = ap (λ (t : Lines). count_text part.name (length part.entries) ∷ t) (entry_texts k 0 part.entries)

module _ (run : Run) (told : List (List AnswerLine)) where
  -- the lists of changes
  pub lists_texts : (k m : ℕ) (names : List (List ℕ)) (fields : List ℕ) (lists : List (List ChangeLine)) → length fields ≡ length names → AllZip (λ (index : List ℕ × ℕ). AreEntriesOf index.1) (zip names fields) lists
      → texts (flat_map part_text_lines (enumerate_from k (parts_from run told m names lists))) ≡ each_lines (λ (index : List ℕ × ℕ). part_lines index.0) (zip names fields) lists
  lists_texts k m [] fields [] same h = refl
  lists_texts k m [] fields (entries ∷ lists) same h = absurd h
  lists_texts k m (name ∷ names) [] lists same h = absurd (omega (arith, same))
  lists_texts k m (name ∷ names) (count ∷ fields) [] same h = absurd h
  lists_texts k m (name ∷ names) (count ∷ fields) (entries ∷ lists) same h =
      let part : IndexPart = record { name = name; entries = entries; counts = counts_of (columns_at run (record { lanes = told; indexes = [] }) m) } in
      let rest = flat_map part_text_lines (enumerate_from (k + 1) (parts_from run told (m + 1) names lists)) in
      texts-append (part_text_lines (k, part)) rest
      ∙ (ap (λ (t : Lines). t ++ texts rest) (part_texts k part) ∙ ap (λ (t : Lines). part_lines name entries ++ t) (lists_texts (k + 1) (m + 1) names fields lists (omega (arith, same)) h.1))

  -- the statistics
  pub stats_texts : (m : ℕ) (names : List (List ℕ)) (lists : List (List ChangeLine)) (stats : List (Unit {0})) → length lists ≡ length names → length stats ≡ length names
      → texts (map stats_text_line (parts_from run told m names lists)) ≡ each_lines (λ (index : ℕ × List ℕ). in_line (λ (u : Unit {0}). stats_told run told index)) (enumerate_from m names) stats
  stats_texts m [] lists [] same more = refl
  stats_texts m [] lists (u ∷ stats) same more = absurd (omega (arith, more))
  stats_texts m (name ∷ names) [] stats same more = absurd (omega (arith, same))
  stats_texts m (name ∷ names) (entries ∷ lists) [] same more = absurd (omega (arith, more))
  stats_texts m (name ∷ names) (entries ∷ lists) (u ∷ stats) same more = ap (λ (t : Lines). stats_told run told (m, name) ∷ t) (stats_texts (m + 1) names lists stats (omega (arith, same)) (omega (arith, more)))
