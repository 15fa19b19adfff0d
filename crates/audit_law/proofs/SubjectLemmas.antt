-- Each answer, piece and entry has its line in the text.
use Rattle.std.proofs.Common.{◌≡◌, ℕ, Option, Some, None, List, [], ◌∷◌, ◌++◌, map, get_or, refl, subst, codes}
use Rattle.std.proofs.lemmas.List.Elements.{Contains-append_left, Contains-append_right}
use Rattle.std.specs.List.{slice_get, flat_map, enumerate_from, Contains}
use Rattle.list_facts.proofs.Elements.{contains_head, contains_tail, contains_get, get_contains, flat_contains, map_get}
use Rattle.map_history.specs.Text.{line_of}
use Rattle.map_history.specs.Report.{ScanPiece, AnswerLine, ChangeLine, IndexPart, Report, entries_in, entries_at}
use Rattle.map_history.specs.LegalReport.{Run}
use Rattle.audit_law.specs.TextLines.{Subject, Answered, Pieced, Listed, TextLine, formal, pieces_of, answer_text_lines, piece_text_lines, lane_text_lines, entry_text_line, part_text_lines, stats_text_line, text_lines}
use Rattle.audit_law.specs.Points.{Point, Keeps, KeepsPoint}
use Rattle.audit_law.proofs.ListLemmas.{numbered}

-- a line of the text has this subject
pub record HasSubject (report : Report) (subject : Subject) : Type 0 where
  pub n : ℕ
  pub line : TextLine
  pub there : slice_get (text_lines report) n ≡ Some line
  pub is_subject : line.subject ≡ subject

module _ (report : Report) where
  abbrev lanes_lines : List TextLine
  lanes_lines = flat_map lane_text_lines (enumerate_from 0 report.lanes)

  abbrev parts_lines : List TextLine
  parts_lines = flat_map part_text_lines (enumerate_from 0 report.indexes)

  abbrev last_lines : List TextLine
  last_lines = map stats_text_line report.indexes ++ formal (line_of (codes "end" ∷ [])) ∷ []

  subject_from : (subject : Subject) (line : TextLine) → Contains (text_lines report) line → line.subject ≡ subject → HasSubject report subject
  subject_from subject line c is = let h = get_contains (text_lines report) line c in record { n = h.0; line = line; there = h.1; is_subject = is }

  in_lanes : (line : TextLine) → Contains lanes_lines line → Contains (text_lines report) line
  in_lanes line c = contains_tail _ line _ (Contains-append_left lanes_lines (parts_lines ++ last_lines) line c)

  in_parts : (line : TextLine) → Contains parts_lines line → Contains (text_lines report) line
  in_parts line c = contains_tail _ line _ (Contains-append_right lanes_lines (parts_lines ++ last_lines) line (Contains-append_left parts_lines last_lines line c))

  in_lane : (lane : ℕ) (answers : List AnswerLine) (line : TextLine) → slice_get report.lanes lane ≡ Some answers
      → Contains (flat_map (answer_text_lines lane) (enumerate_from 0 answers)) line → Contains (text_lines report) line
  in_lane lane answers line at c = in_lanes line (flat_contains lane_text_lines (enumerate_from 0 report.lanes) lane (lane, answers) line (numbered report.lanes lane answers at) (contains_tail _ line _ c))

  pub answered_line : (lane place : ℕ) (answers : List AnswerLine) (a : AnswerLine) → slice_get report.lanes lane ≡ Some answers → slice_get answers place ≡ Some a → HasSubject report (Answered lane place)
  answered_line lane place answers a at there =
      let line : TextLine = get_or (answer_text_lines lane (place, a)) 0 (formal []) in
      subject_from (Answered lane place) line (in_lane lane answers line at (flat_contains (answer_text_lines lane) (enumerate_from 0 answers) place (place, a) line (numbered answers place a there) (contains_head line _))) refl

  pub pieced_line : (lane place piece : ℕ) (answers : List AnswerLine) (a : AnswerLine) (p : ScanPiece) → slice_get report.lanes lane ≡ Some answers → slice_get answers place ≡ Some a → slice_get (pieces_of a.answer) piece ≡ Some p
      → HasSubject report (Pieced lane place piece)
  pieced_line lane place piece answers a p at there inside =
      let line : TextLine = get_or (piece_text_lines lane place (piece, p)) 0 (formal []) in
      let among = flat_contains (piece_text_lines lane place) (enumerate_from 0 (pieces_of a.answer)) piece (piece, p) line (numbered (pieces_of a.answer) piece p inside) (contains_head line _) in
      subject_from (Pieced lane place piece) line (in_lane lane answers line at (flat_contains (answer_text_lines lane) (enumerate_from 0 answers) place (place, a) line (numbered answers place a there) (contains_tail _ line _ among))) refl

  pub listed_line : (index n : ℕ) (entry : ChangeLine) → slice_get (entries_at report index) n ≡ Some entry → HasSubject report (Listed index n)
  listed_line index n entry e = part_there (slice_get report.indexes index) refl e
    where
      in_part : (part : IndexPart) → slice_get report.indexes index ≡ Some part → slice_get part.entries n ≡ Some entry → HasSubject report (Listed index n)
      in_part part at there =
          let line : TextLine = entry_text_line index (n, entry) in
          let among = contains_get (map (entry_text_line index) (enumerate_from 0 part.entries)) n line (map_get (entry_text_line index) (enumerate_from 0 part.entries) n (n, entry) (numbered part.entries n entry there)) in
          subject_from (Listed index n) line (in_parts line (flat_contains part_text_lines (enumerate_from 0 report.indexes) index (index, part) line (numbered report.indexes index part at) (contains_tail _ line _ among))) refl

      part_there : (o : Option IndexPart) → slice_get report.indexes index ≡ o → slice_get (entries_in o) n ≡ Some entry → HasSubject report (Listed index n)
      part_there None at there = absurd cc
      part_there (Some part) at there = in_part part at there

-- where all lines keep a point, so does the line of this subject
pub keeps_of : (run : Run) (report : Report) (point : Point) (subject : Subject) → KeepsPoint run report point → HasSubject report subject → Keeps run report point subject
keeps_of run report point subject keeps at = subst (λ (s : Subject). Keeps run report point s) at.is_subject (keeps at.n at.line at.there)
