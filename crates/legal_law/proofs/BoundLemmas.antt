-- No list of a report is longer than its text.
use Rattle.std.proofs.Common.{◌≡◌, ℕ, suc, ◌+◌, ◌<◌, ◌≤◌, ◌==◌, Bool, true, false, cond, Some, List, [], ◌∷◌, ◌++◌, length, map, take, codes, refl, sym, ap, ◌∙◌, arith}
use Rattle.std.proofs.lemmas.List.{length-append, length-map}
use Rattle.std.proofs.lemmas.List.FromFn.{length-enumerate_from}
use Rattle.std.proofs.lemmas.List.Sums.{sum_by-cons}
use Rattle.std.specs.Fmt.{decimal}
use Rattle.std.specs.List.{slice_get, flat_map, enumerate_from, zip, sum_by, join_with_byte, AllByRecursion}
use Rattle.list_facts.proofs.Each.{each_append}
use Rattle.map_history.specs.Map.{Pair}
use Rattle.map_history.specs.Report.{Columns, ScanPiece, Answer, Replied, LogFull, SpaceFull, Scanned, AnswerLine, ChangeLine, IndexPart, Report}
use Rattle.map_history.specs.LegalReport.{Line, Run, columns_of, columns_in, columns_at}
use Rattle.map_history.specs.Spelling.{reply_words, column_words, change_words, statistic_words, row_line, spell}
use Rattle.map_history.specs.Statistics.{statistics}
use Rattle.map_history.specs.Text.{field_text, key_text, point_text, line_of}
use Rattle.audit_law.specs.TextLines.{TextLine, Answered, head_text, formal, piece_text_lines, pieces_of, answer_text_lines, lane_text_lines, entry_text_line, part_text_lines, stats_text_line, text_lines}
use Rattle.audit_law.proofs.SpellLemmas.{lines_are_spelled}
use Rattle.audit_law.proofs.ListLemmas.{flat_front, numbered}

-- each line has a byte
abbrev IsSome : TextLine → Type 0
IsSome l = 1 ≤ length l.text

abbrev Are : List TextLine → Type 0
Are lines = AllByRecursion IsSome lines

line_some : (words : List (List ℕ)) → 1 ≤ length (line_of words)
line_some words = omega (arith, length-append (join_with_byte 32 words) (10 ∷ []))

each_flat : {A : Type 0} (f : A → List TextLine) → ((x : A) → Are (f x)) → (xs : List A) → Are (flat_map f xs)
each_flat f h [] = tt
each_flat f h (x ∷ xs) = each_append IsSome (f x) (flat_map f xs) (h x) (each_flat f h xs)

each_map : {A : Type 0} (f : A → TextLine) → ((x : A) → IsSome (f x)) → (xs : List A) → Are (map f xs)
each_map f h [] = tt
each_map f h (x ∷ xs) = (h x, each_map f h xs)

piece_some : (lane place : ℕ) (p : ℕ × ScanPiece) → Are (piece_text_lines lane place p)
piece_some lane place p = (line_some (codes "piece" ∷ point_text p.1.point ∷ decimal (length p.1.rows) ∷ column_words p.1.columns), each_map (λ (row : Pair). formal (row_line row)) (λ row. line_some (codes "row" ∷ key_text row.key ∷ field_text row.value ∷ [])) p.1.rows)

head_some : (n : ℕ) (answer : Answer) → 1 ≤ length (head_text n answer)
head_some n (Replied reply point columns) = line_some (decimal n ∷ (reply_words reply ++ point_text point ∷ column_words columns))
head_some n (LogFull m columns) = line_some (decimal n ∷ codes "log-full" ∷ decimal m ∷ column_words columns)
head_some n (SpaceFull columns) = line_some (decimal n ∷ codes "space-full" ∷ column_words columns)
head_some n (Scanned pieces) = line_some (decimal n ∷ codes "scan" ∷ decimal (length pieces) ∷ decimal (sum_by (λ (p : ScanPiece). length p.rows) pieces) ∷ [])

answer_some : (lane : ℕ) (a : ℕ × AnswerLine) → Are (answer_text_lines lane a)
answer_some lane a = (head_some a.1.line a.1.answer, each_flat (piece_text_lines lane a.0) (piece_some lane a.0) (enumerate_from 0 (pieces_of a.1.answer)))

lane_some : (lane : ℕ × List AnswerLine) → Are (lane_text_lines lane)
lane_some lane = (line_some (codes "lane" ∷ decimal (lane.0 + 1) ∷ []), each_flat (answer_text_lines lane.0) (answer_some lane.0) (enumerate_from 0 lane.1))

part_some : (part : ℕ × IndexPart) → Are (part_text_lines part)
part_some part = (line_some (codes "changes" ∷ part.1.name ∷ decimal (length part.1.entries) ∷ []), each_map (entry_text_line part.0) (λ e. line_some (decimal (e.0 + 1) ∷ decimal e.1.lane ∷ decimal e.1.line ∷ change_words e.1.change)) (enumerate_from 0 part.1.entries))

all_some : (report : Report) → Are (text_lines report)
all_some report = (
  line_some (codes "ahi" ∷ codes "run" ∷ []),
  each_append IsSome (flat_map lane_text_lines (enumerate_from 0 report.lanes)) (flat_map part_text_lines (enumerate_from 0 report.indexes) ++ (map stats_text_line report.indexes ++ formal (line_of (codes "end" ∷ [])) ∷ []))
      (each_flat lane_text_lines lane_some (enumerate_from 0 report.lanes))
      (each_append IsSome (flat_map part_text_lines (enumerate_from 0 report.indexes)) (map stats_text_line report.indexes ++ formal (line_of (codes "end" ∷ [])) ∷ [])
      (each_flat part_text_lines part_some (enumerate_from 0 report.indexes))
      (each_append IsSome (map stats_text_line report.indexes) (formal (line_of (codes "end" ∷ [])) ∷ []) (each_map stats_text_line (λ p. line_some (codes "stats" ∷ p.name ∷ flat_map statistic_words (statistics p.counts))) report.indexes) (line_some (codes "end" ∷ []), tt))),
)

text_upto : (lines : List TextLine) → Are lines → length lines ≤ length (flat_map (λ (l : TextLine). l.text) lines)
text_upto [] all = omega arith
text_upto (l ∷ lines) all = omega (arith, all.0, text_upto lines all.1, length-append l.text (flat_map (λ (x : TextLine). x.text) lines))

-- the lines are no more than the bytes
pub lines_few : (report : Report) → length (text_lines report) ≤ length (spell report)
lines_few report = omega (arith, text_upto (text_lines report) (all_some report), ap length (lines_are_spelled report))

-- one of the lists is no longer than all of them
one_upto : {A B : Type 0} (f : A → List B) (xs : List A) (n : ℕ) (x : A) → slice_get xs n ≡ Some x → length (f x) ≤ length (flat_map f xs)
one_upto f xs n x e =
    let h = flat_front f xs n x e in
    omega (arith, ap length h.1, length-append (flat_map f (take n xs)) (f x ++ h.0), length-append (f x) h.0)

pieces_count : (lane place k : ℕ) (pieces : List ScanPiece) → length pieces + sum_by (λ (p : ScanPiece). length p.rows) pieces ≤ length (flat_map (piece_text_lines lane place) (enumerate_from k pieces))
pieces_count lane place k [] = omega arith
pieces_count lane place k (p ∷ pieces) =
    omega (
      arith,
      sum_by-cons (λ (q : ScanPiece). length q.rows) p pieces,
      length-map p.rows (λ (row : Pair). formal (row_line row)),
      length-append (piece_text_lines lane place (k, p)) (flat_map (piece_text_lines lane place) (enumerate_from (k + 1) pieces)),
      pieces_count lane place (k + 1) pieces,
    )

module _ (report : Report) where
  lanes_upto : length (flat_map lane_text_lines (enumerate_from 0 report.lanes)) ≤ length (text_lines report)
  lanes_upto = omega (arith, length-append (flat_map lane_text_lines (enumerate_from 0 report.lanes)) (flat_map part_text_lines (enumerate_from 0 report.indexes) ++ (map stats_text_line report.indexes ++ formal (line_of (codes "end" ∷ [])) ∷ [])))

  parts_upto : length (flat_map part_text_lines (enumerate_from 0 report.indexes)) ≤ length (text_lines report)
  parts_upto = omega (
    arith,
    length-append (flat_map lane_text_lines (enumerate_from 0 report.lanes)) (flat_map part_text_lines (enumerate_from 0 report.indexes) ++ (map stats_text_line report.indexes ++ formal (line_of (codes "end" ∷ [])) ∷ [])),
    length-append (flat_map part_text_lines (enumerate_from 0 report.indexes)) (map stats_text_line report.indexes ++ formal (line_of (codes "end" ∷ [])) ∷ []),
  )

  pub entries_upto : (i : ℕ) (part : IndexPart) → slice_get report.indexes i ≡ Some part → length part.entries ≤ length (spell report)
  entries_upto i part at =
      omega (arith, one_upto part_text_lines (enumerate_from 0 report.indexes) i (i, part) (numbered report.indexes i part at), parts_upto, lines_few report, length-map (enumerate_from 0 part.entries) (entry_text_line i), length-enumerate_from 0 part.entries)

  answer_upto : (lane place : ℕ) (answers : List AnswerLine) (a : AnswerLine) → slice_get report.lanes lane ≡ Some answers → slice_get answers place ≡ Some a → length (answer_text_lines lane (place, a)) ≤ length (spell report)
  answer_upto lane place answers a at there =
      omega (arith, one_upto lane_text_lines (enumerate_from 0 report.lanes) lane (lane, answers) (numbered report.lanes lane answers at), one_upto (answer_text_lines lane) (enumerate_from 0 answers) place (place, a) (numbered answers place a there), lanes_upto, lines_few report)

  -- the pieces of an answer, and their rows
  pub pieces_upto : (lane place : ℕ) (answers : List AnswerLine) (a : AnswerLine) → slice_get report.lanes lane ≡ Some answers → slice_get answers place ≡ Some a
      → length (pieces_of a.answer) + sum_by (λ (p : ScanPiece). length p.rows) (pieces_of a.answer) ≤ length (spell report)
  pieces_upto lane place answers a at there = omega (arith, answer_upto lane place answers a at there, pieces_count lane place 0 (pieces_of a.answer))
