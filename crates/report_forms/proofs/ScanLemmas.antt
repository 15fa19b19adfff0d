-- The lines of a scan's answer are read again.
use Rattle.std.proofs.Common.{◌≡◌, ℕ, zero, suc, ◌+◌, ◌-◌, ◌<◌, ◌≤◌, ◌^◌, Bool, true, false, not, cond, ◌&&◌, ◌||◌, ◌==◌, ltb, leb, Option, Some, List, [], ◌∷◌, ◌++◌, length, codes, refl, sym, ap, ◌∙◌, subst, arith, eq-eqb}
use Rattle.std.proofs.lemmas.List.Sums.{sum_by-cons}
use Rattle.std.specs.Fmt.{decimal}
use Rattle.std.specs.List.{AllByRecursion, flat_map, list_all, sum_by}
use Rattle.key_tuple.specs.Order.{FieldList}
use Rattle.map_history.specs.Columns.{may_stand, may_stand_later, pieces_may_stand}
use Rattle.map_history.specs.LegalReport.{may_reply}
use Rattle.map_history.specs.Operation.{Scan}
use Rattle.map_history.specs.Report.{ScanPiece, Answer, Replied, LogFull, SpaceFull, Scanned}
use Rattle.report_laws.specs.SpellingLaws.{IsSmallPiece}
use Rattle.report_laws.proofs.TextLemmas.{decimal_in}
use Rattle.audit_law.specs.TextLines.{pieces_of}
use Rattle.audit_law.specs.Verdicts.{IsRow}
use Rattle.line_forms.specs.LineForms.{Lines, IsLineForm, in_line, read_both, both_lines, both_fit}
use Rattle.line_forms.specs.Anew.{words_of}
use Rattle.line_forms.proofs.FormLemmas.{two_forms}
use Rattle.line_forms.proofs.SeenLemmas.{seen_form}
use Rattle.line_forms.proofs.AnewLemmas.{both_true, anew_form, words_again}
use Rattle.report_forms.specs.Answers.{IsAnswerTo}
use Rattle.report_forms.specs.Scans.{has_rows, has_pieces, stands_later, head_of_piece, piece_lines, IsPieceOf, read_pieces, ArePiecesOf, scan_text, scan_told, are_counts, read_scan_head, read_scan, answer_lines, ScansAreRead}
use Rattle.report_forms.proofs.LimitLemmas.{below, is_below, same, is_upto}
use Rattle.report_forms.proofs.NumberLemmas.{number_again}
use Rattle.report_forms.proofs.PieceLemmas.{all_true, turn_upto, head_says, says_head, pieces_form}

-- the rows of some pieces
abbrev row_count : List ScanPiece → ℕ
row_count pieces = sum_by (λ (p : ScanPiece). length p.rows) pieces

-- the columns of pieces that begin a scan, or go on with one
abbrev stand : Bool → List ScanPiece → Bool
stand true pieces = list_all (λ (p : ScanPiece). may_stand_later p.columns) pieces
stand false pieces = pieces_may_stand pieces

stand_more : (later : Bool) (p : ScanPiece) (ps : List ScanPiece) → stands_later later p.columns ≡ true → stand true ps ≡ true → stand later (p ∷ ps) ≡ true
stand_more true p ps a b = all_true (may_stand_later p.columns) (stand true ps) a b
stand_more false p ps a b = all_true (may_stand p.columns) (stand true ps) a b

more_stand : (later : Bool) (p : ScanPiece) (ps : List ScanPiece) → stand later (p ∷ ps) ≡ true → (stands_later later p.columns ≡ true) × (stand true ps ≡ true)
more_stand true p ps t = both_true (may_stand_later p.columns) (stand true ps) t
more_stand false p ps t = both_true (may_stand p.columns) (stand true ps) t

-- what is so of the pieces of a scan
record Whole (fields : ℕ) (later : Bool) (left n : ℕ) (pieces : List ScanPiece) : Type 0 where
  count : length pieces ≡ n
  rows_are : row_count pieces ≡ left
  small : AllByRecursion IsSmallPiece pieces
  columns : stand later pieces ≡ true
  rows : AllByRecursion (λ (p : ScanPiece). AllByRecursion (IsRow fields) p.rows) pieces

none_stand : (later : Bool) → stand later [] ≡ true
none_stand true = refl
none_stand false = refl

are_whole : (fields : ℕ) (later : Bool) (left n : ℕ) (pieces : List ScanPiece) → ArePiecesOf fields later left n pieces → Whole fields later left n pieces
are_whole fields later left zero [] h = record { count = refl; rows_are = sym h; small = tt; columns = none_stand later; rows = tt }
are_whole fields later left zero (p ∷ ps) h = absurd h
are_whole fields later left (suc n) [] h = absurd h
are_whole fields later left (suc n) (p ∷ ps) h =
    let s = head_says later n left (head_of_piece p) h.0.head in
    let more = are_whole fields true (left - length p.rows) n ps h.1 in
    record {
      count = ap suc more.count;
      rows_are = omega (arith, sum_by-cons (λ (q : ScanPiece). length q.rows) p ps, more.rows_are, turn_upto n left (length p.rows) s.turn);
      small = ((s.point, s.count), more.small);
      columns = stand_more later p ps s.columns more.columns;
      rows = (h.0.rows, more.rows);
    }

no_rows : (pieces : List ScanPiece) → length pieces ≡ 0 → row_count pieces ≡ 0
no_rows [] e = refl
no_rows (p ∷ ps) e = absurd (omega (arith, e))

turn_passes : (behind left count : ℕ) → (behind ≡ 0 → count ≡ left) → count ≤ left → has_rows behind left count ≡ true
turn_passes zero left count last few = eq-eqb count left (last refl)
turn_passes (suc behind) left count last few = is_upto count left few

whole_are : (fields : ℕ) (later : Bool) (left n : ℕ) (pieces : List ScanPiece) → Whole fields later left n pieces → ArePiecesOf fields later left n pieces
whole_are fields later left zero [] w = sym w.rows_are
whole_are fields later left zero (p ∷ ps) w = absurd (omega (arith, w.count))
whole_are fields later left (suc n) [] w = absurd (omega (arith, w.count))
whole_are fields later left (suc n) (p ∷ ps) w =
    let sum = sum_by-cons (λ (q : ScanPiece). length q.rows) p ps in
    let c = more_stand later p ps w.columns in
    let behind : length ps ≡ n = omega (arith, w.count) in (
      record {
        head = says_head later n left (head_of_piece p) (record {
          point = w.small.0.0;
          count = w.small.0.1;
          turn = turn_passes n left (length p.rows) (λ last. omega (arith, sum, w.rows_are, no_rows ps (behind ∙ last))) (omega (arith, sum, w.rows_are));
          columns = c.0;
        });
        rows = w.rows.0;
      },
      whole_are fields true (left - length p.rows) n ps (record { count = behind; rows_are = omega (arith, sum, w.rows_are); small = w.small.1; columns = c.1; rows = w.rows.1 }),
    )

-- the two numbers of a scan
none_left : (a b : ℕ) → a ≡ 0 → has_pieces a b ≡ true → b ≡ 0
none_left zero b none t = same b 0 t
none_left (suc a) b none t = absurd (omega (arith, none))

left_passes : (a b : ℕ) → (a ≡ 0 → b ≡ 0) → has_pieces a b ≡ true
left_passes zero b h = eq-eqb b 0 (h refl)
left_passes (suc a) b h = refl

record Counts (counts : ℕ × ℕ) : Type 0 where
  pieces : counts.0 < 2 ^ 64
  rows : counts.1 < 2 ^ 64
  none : counts.0 ≡ 0 → counts.1 ≡ 0

counts_are : (counts : ℕ × ℕ) → are_counts counts ≡ true → Counts counts
counts_are counts t =
    let a = both_true (ltb counts.0 (2 ^ 64) && ltb counts.1 (2 ^ 64)) (has_pieces counts.0 counts.1) t in
    let b = both_true (ltb counts.0 (2 ^ 64)) (ltb counts.1 (2 ^ 64)) a.0 in
    record { pieces = below counts.0 (2 ^ 64) b.0; rows = below counts.1 (2 ^ 64) b.1; none = λ e. none_left counts.0 counts.1 e a.1 }

counts_pass : (counts : ℕ × ℕ) → Counts counts → are_counts counts ≡ true
counts_pass counts c =
    all_true (ltb counts.0 (2 ^ 64) && ltb counts.1 (2 ^ 64)) (has_pieces counts.0 counts.1)
    (all_true (ltb counts.0 (2 ^ 64)) (ltb counts.1 (2 ^ 64)) (is_below counts.0 (2 ^ 64) c.pieces) (is_below counts.1 (2 ^ 64) c.rows)) (left_passes counts.0 counts.1 c.none)

module _ (fields number : ℕ) (from : FieldList) (to : Option FieldList) (limit : ℕ) (some : 0 < fields) (fits : number < 2 ^ 64) where
  counts_again : (counts : ℕ × ℕ) → are_counts counts ≡ true → scan_told (words_of (scan_text number counts)) ≡ Some counts
  counts_again counts t =
      let c = counts_are counts t in
      ap scan_told (words_again (decimal number) (codes "scan" ∷ decimal counts.0 ∷ decimal counts.1 ∷ []) (decimal_in number fits, (refl, (decimal_in counts.0 c.pieces, (decimal_in counts.1 c.rows, tt)))))
      ∙ (λ i. Some (number_again counts.0 c.pieces i, number_again counts.1 c.rows i))

  head_form : IsLineForm (λ (counts : ℕ × ℕ). are_counts counts ≡ true) (in_line (scan_text number)) (read_scan_head number)
  head_form =
      anew_form (λ (counts : ℕ × ℕ). are_counts counts ≡ true) (λ (line : List ℕ). scan_told (words_of line)) are_counts (scan_text number) (0, 0)
      (counts_pass (0, 0) (record { pieces = omega arith; rows = omega arith; none = λ e. refl })) counts_again (λ counts t. t) (λ counts t. t)

  abbrev Pieces : ℕ × ℕ → List ScanPiece → Type 0
  Pieces counts = ArePiecesOf fields false counts.1 counts.0

  -- the head and the pieces of an answer
  abbrev apart : Answer → (ℕ × ℕ) × List ScanPiece
  apart answer = ((length (pieces_of answer), row_count (pieces_of answer)), pieces_of answer)

  shows : (x : (ℕ × ℕ) × List ScanPiece) → both_fit (λ (counts : ℕ × ℕ). are_counts counts ≡ true) Pieces x → IsAnswerTo fields (Scan from to limit) (Scanned x.1)
  shows x h =
      let c = counts_are x.0 h.0 in
      let w = are_whole fields false x.0.1 x.0.0 x.1 h.1 in
      record { form = w.columns; small = (omega (arith, w.count, c.pieces), omega (arith, w.rows_are, c.rows), w.small); rows = w.rows }

  came : (answer : Answer) → IsAnswerTo fields (Scan from to limit) answer → both_fit (λ (counts : ℕ × ℕ). are_counts counts ≡ true) Pieces (apart answer)
  came (Scanned pieces) h = (
    counts_pass (length pieces, row_count pieces) (record { pieces = h.small.0; rows = h.small.1; none = no_rows pieces }),
    whole_are fields false (row_count pieces) (length pieces) pieces (record { count = refl; rows_are = refl; small = h.small.2; columns = h.form; rows = h.rows }),
  )
  came (Replied reply point columns) h = absurd (cc ((both_true (may_stand columns) (may_reply (Scan from to limit) reply) h.form).1))
  came (LogFull n columns) h = absurd (cc h.form)
  came (SpaceFull columns) h = absurd (cc h.form)

  round : (answer : Answer) → IsAnswerTo fields (Scan from to limit) answer → Scanned (pieces_of answer) ≡ answer
  round (Scanned pieces) h = refl
  round (Replied reply point columns) h = absurd (cc ((both_true (may_stand columns) (may_reply (Scan from to limit) reply) h.form).1))
  round (LogFull n columns) h = absurd (cc h.form)
  round (SpaceFull columns) h = absurd (cc h.form)

  scan_form : IsLineForm (IsAnswerTo fields (Scan from to limit)) (answer_lines number) (read_scan fields number)
  scan_form =
      seen_form (both_fit (λ (counts : ℕ × ℕ). are_counts counts ≡ true) Pieces) (IsAnswerTo fields (Scan from to limit)) (both_lines (in_line (scan_text number)) (λ (counts : ℕ × ℕ). flat_map piece_lines)) (answer_lines number)
      (read_both (read_scan_head number) (λ (counts : ℕ × ℕ). read_pieces fields false counts.1 counts.0)) (λ (x : (ℕ × ℕ) × List ScanPiece). Scanned x.1) apart shows came round
      (λ x h. let w = are_whole fields false x.0.1 x.0.0 x.1 h.1 in ap (λ (counts : ℕ × ℕ). scan_text number counts ∷ flat_map piece_lines x.1) (λ i. (w.count i, w.rows_are i)))
      (two_forms (λ (counts : ℕ × ℕ). are_counts counts ≡ true) Pieces (in_line (scan_text number)) (λ (counts : ℕ × ℕ). flat_map piece_lines) (read_scan_head number) (λ (counts : ℕ × ℕ). read_pieces fields false counts.1 counts.0)
      head_form (λ counts t. let c = counts_are counts t in pieces_form fields some counts.0 false counts.1 c.rows c.none))

pub scans_are_read : ScansAreRead
scans_are_read fields number from to limit some fits = scan_form fields number from to limit some fits
