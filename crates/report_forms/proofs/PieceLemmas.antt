-- The lines of a scan's pieces are read again.
use Rattle.std.proofs.Common.{◌≡◌, ℕ, zero, suc, ◌+◌, ◌-◌, ◌<◌, ◌≤◌, ◌^◌, Bool, true, false, cond, ◌&&◌, ◌==◌, ltb, leb, Some, List, [], ◌∷◌, ◌++◌, length, map, codes, refl, sym, ap, ◌∙◌, subst, arith, eq-eqb}
use Rattle.std.specs.Prelude.{option_and_then, option_map}
use Rattle.std.specs.Fmt.{decimal}
use Rattle.std.specs.List.{AllByRecursion, AllZip, flat_map}
use Rattle.key_tuple.specs.Order.{FieldList}
use Rattle.map_history.specs.Bytes.{AreFields}
use Rattle.map_history.specs.declared.columns.How.TheVariants as how
use Rattle.map_history.specs.declared.columns.Note.TheVariants as note
use Rattle.map_history.specs.Columns.{may_stand, may_stand_later}
use Rattle.map_history.specs.Map.{Pair}
use Rattle.map_history.specs.Report.{Columns, ScanPiece, unlearnt}
use Rattle.map_history.specs.Spelling.{column_words, row_line}
use Rattle.map_history.specs.Text.{field_text, key_text, point_text}
use Rattle.report_laws.proofs.TextLemmas.{decimal_in, point_in, key_in, value_in, columns_in}
use Rattle.script.specs.Grammar.{field_of}
use Rattle.script_laws.proofs.Escapes.{field_again}
use Rattle.script_laws.proofs.Commas.{key_again}
use Rattle.audit_law.specs.Verdicts.{IsKey, IsRow}
use Rattle.line_forms.specs.LineForms.{Lines, IsLineForm, in_line, read_both, both_lines, both_fit}
use Rattle.line_forms.specs.Anew.{words_of}
use Rattle.line_forms.proofs.FormLemmas.{two_forms}
use Rattle.line_forms.proofs.SeenLemmas.{seen_form}
use Rattle.line_forms.proofs.AnewLemmas.{both_true, anew_form, words_again}
use Rattle.report_forms.specs.Limits.{is_key, is_value, is_row}
use Rattle.report_forms.specs.Lists.{read_each, each_lines, numbers_from}
use Rattle.report_forms.specs.Scans.{row_told, read_row, PieceHead, piece_head_text, piece_head_told, PieceTurn, has_rows, has_turn, stands_later, is_piece_head, read_piece_head, head_of_piece, piece_from, read_piece, piece_lines, IsPieceOf, read_pieces, ArePiecesOf}
use Rattle.report_forms.proofs.LimitLemmas.{below, is_below, upto, is_upto, same, key_is, key_passes, value_is, value_passes, empty_key, empty_is}
use Rattle.report_forms.proofs.NumberLemmas.{number_again}
use Rattle.report_forms.proofs.AnswerLemmas.{columns_again}
use Rattle.report_forms.proofs.EachLemmas.{nothing_form, more_form, each_form, each_number, zip_numbers, zipped_numbers, numbered_lines}

pub all_true : (a b : Bool) → a ≡ true → b ≡ true → (a && b) ≡ true
all_true a b e f = rw e f

row_is : (fields : ℕ) (row : Pair) → is_row fields row ≡ true → IsRow fields row
row_is fields row t = let a = both_true (is_key fields row.key) (is_value row.value) t in (key_is fields row.key a.0, value_is row.value a.1)

row_passes : (fields : ℕ) (row : Pair) → IsRow fields row → is_row fields row ≡ true
row_passes fields row h = all_true (is_key fields row.key) (is_value row.value) (key_passes fields row.key h.0) (value_passes row.value h.1)

-- the columns of some piece
abbrev some_columns : Bool → Columns
some_columns true = record { how = how.ByClock; note = note.Dash }
some_columns false = unlearnt

columns_stand : (later : Bool) → stands_later later (some_columns later) ≡ true
columns_stand true = refl
columns_stand false = refl

-- how many rows some piece has
abbrev some_count : ℕ → ℕ → ℕ
some_count zero left = left
some_count (suc behind) left = 0

count_has_turn : (later : Bool) (behind left : ℕ) → has_turn (record { is_later = later; behind = behind; left = left }) (some_count behind left) ≡ true
count_has_turn later zero left = eq-eqb left left refl
count_has_turn later (suc behind) left = is_upto 0 left (omega arith)

count_small : (behind left : ℕ) → left < 2 ^ 64 → some_count behind left < 2 ^ 64
count_small zero left few = few
count_small (suc behind) left few = omega arith

-- what its turn tells of how many rows a piece has
pub turn_upto : (behind left count : ℕ) → has_rows behind left count ≡ true → count ≤ left
turn_upto zero left count t = omega (arith, same count left t)
turn_upto (suc behind) left count t = upto count left t

pub turn_ends : (behind left count : ℕ) → behind ≡ 0 → has_rows behind left count ≡ true → count ≡ left
turn_ends zero left count last t = same count left t
turn_ends (suc behind) left count last t = absurd (omega (arith, last))

-- what the line of a piece says
pub record Says (later : Bool) (behind left : ℕ) (h : PieceHead) : Type 0 where
  pub point : h.point < 2 ^ 64
  pub count : h.count < 2 ^ 64
  pub turn : has_rows behind left h.count ≡ true
  pub columns : stands_later later h.columns ≡ true

pub head_says : (later : Bool) (behind left : ℕ) (h : PieceHead) → is_piece_head (record { is_later = later; behind = behind; left = left }) h ≡ true → Says later behind left h
head_says later behind left h t =
    let turn : PieceTurn = record { is_later = later; behind = behind; left = left } in
    let a = both_true ((ltb h.point (2 ^ 64) && ltb h.count (2 ^ 64)) && has_turn turn h.count) (stands_later later h.columns) t in
    let b = both_true (ltb h.point (2 ^ 64) && ltb h.count (2 ^ 64)) (has_turn turn h.count) a.0 in
    let c = both_true (ltb h.point (2 ^ 64)) (ltb h.count (2 ^ 64)) b.0 in
    record { point = below h.point (2 ^ 64) c.0; count = below h.count (2 ^ 64) c.1; turn = b.1; columns = a.1 }

pub says_head : (later : Bool) (behind left : ℕ) (h : PieceHead) → Says later behind left h → is_piece_head (record { is_later = later; behind = behind; left = left }) h ≡ true
says_head later behind left h s =
    let turn : PieceTurn = record { is_later = later; behind = behind; left = left } in
    let small = all_true (ltb h.point (2 ^ 64)) (ltb h.count (2 ^ 64)) (is_below h.point (2 ^ 64) s.point) (is_below h.count (2 ^ 64) s.count) in
    all_true ((ltb h.point (2 ^ 64) && ltb h.count (2 ^ 64)) && has_turn turn h.count) (stands_later later h.columns)
    (all_true (ltb h.point (2 ^ 64) && ltb h.count (2 ^ 64)) (has_turn turn h.count) small s.turn) s.columns

module _ (fields : ℕ) (some : 0 < fields) where
  fields_are : (k : FieldList) → IsKey fields k → AreFields k
  fields_are k h = record { some = omega (arith, h.count, some); bytes = h.bytes }

  row_again : (row : Pair) → IsRow fields row → row_told (words_of (row_line row)) ≡ Some row
  row_again row h =
      ap row_told (words_again (codes "row") (key_text row.key ∷ field_text row.value ∷ []) (refl, (key_in row.key, (value_in row.value, tt))))
      ∙ (ap (option_and_then (λ (k : FieldList). option_map (λ (v : List ℕ). record { key = k; value = v }) (field_of (field_text row.value)))) (key_again row.key (fields_are row.key h.0))
      ∙ ap (option_map (λ (v : List ℕ). record { key = row.key; value = v })) (field_again row.value h.1.bytes))

  -- one row
  row_form : IsLineForm (IsRow fields) (in_line row_line) (read_row fields)
  row_form =
      let empty = empty_is fields in
      anew_form (IsRow fields) (λ (line : List ℕ). row_told (words_of line)) (is_row fields) row_line (record { key = empty_key fields; value = [] })
      (record { count = empty.0; bytes = empty.1.0; short = omega (arith, empty.1.1) }, record { bytes = tt; short = omega arith })
      row_again (row_passes fields) (row_is fields)

  module _ (later : Bool) (behind left : ℕ) (few : left < 2 ^ 64) where
    abbrev turn : PieceTurn
    turn = record { is_later = later; behind = behind; left = left }

    head_again : (h : PieceHead) → is_piece_head turn h ≡ true → piece_head_told (words_of (piece_head_text h)) ≡ Some h
    head_again h t =
        let s = head_says later behind left h t in
        let c = columns_in h.columns in
        ap piece_head_told (words_again (codes "piece") (point_text h.point ∷ decimal h.count ∷ column_words h.columns) (refl, (point_in h.point s.point, (decimal_in h.count s.count, (c.0, (c.1, tt))))))
        ∙ (λ i. Some (record { point = number_again h.point s.point i; count = number_again h.count s.count i; columns = columns_again h.columns i }))

    -- the line of a piece
    head_form : IsLineForm (λ (h : PieceHead). is_piece_head turn h ≡ true) (in_line piece_head_text) (read_piece_head turn)
    head_form =
        let h : PieceHead = record { point = 0; count = some_count behind left; columns = some_columns later } in
        anew_form (λ (x : PieceHead). is_piece_head turn x ≡ true) (λ (line : List ℕ). piece_head_told (words_of line)) (is_piece_head turn) piece_head_text h
        (says_head later behind left h (record { point = omega arith; count = count_small behind left few; turn = count_has_turn later behind left; columns = columns_stand later }))
        head_again (λ x t. t) (λ x t. t)

    abbrev Rows : PieceHead → List Pair → Type 0
    Rows h rows = AllZip (λ (n : ℕ). IsRow fields) (numbers_from 0 h.count) rows

    abbrev row_lines : PieceHead → List Pair → Lines
    row_lines h rows = each_lines (λ (n : ℕ). in_line row_line) (numbers_from 0 h.count) rows

    rows_form : (h : PieceHead) → is_piece_head turn h ≡ true → IsLineForm (Rows h) (row_lines h) (read_each (λ (n : ℕ). read_row fields) (numbers_from 0 h.count))
    rows_form h t = each_form (λ (n : ℕ). IsRow fields) (λ (n : ℕ). in_line row_line) (λ (n : ℕ). read_row fields) (numbers_from 0 h.count) (each_number _ 0 h.count (λ n low high. row_form))

    abbrev head_with : PieceHead → ℕ → PieceHead
    head_with h n = record { point = h.point; count = n; columns = h.columns }

    -- a piece with its rows
    pub piece_form : IsLineForm (IsPieceOf fields turn) piece_lines (read_piece fields turn)
    piece_form =
        seen_form (both_fit (λ (h : PieceHead). is_piece_head turn h ≡ true) Rows) (IsPieceOf fields turn) (both_lines (in_line piece_head_text) row_lines) piece_lines
        (read_both (read_piece_head turn) (λ (h : PieceHead). read_each (λ (n : ℕ). read_row fields) (numbers_from 0 h.count))) piece_from (λ p. (head_of_piece p, p.rows))
        (λ x h. let all = zipped_numbers (IsRow fields) 0 x.0.count x.1 h.1 in record { head = subst (λ (n : ℕ). is_piece_head turn (head_with x.0 n) ≡ true) (sym all.0) h.0; rows = all.1 })
        (λ p h. (h.head, zip_numbers (IsRow fields) 0 p.rows h.rows))
        (λ p h. refl)
        (λ x h.
        let all = zipped_numbers (IsRow fields) 0 x.0.count x.1 h.1 in
        ap (λ (t : Lines). piece_head_text (head_with x.0 (length x.1)) ∷ t) (sym (numbered_lines row_line 0 x.1))
        ∙ ap (λ (n : ℕ). piece_head_text (head_with x.0 n) ∷ row_lines (head_with x.0 n) x.1) all.0)
        (two_forms (λ (h : PieceHead). is_piece_head turn h ≡ true) Rows (in_line piece_head_text) row_lines (read_piece_head turn) (λ (h : PieceHead). read_each (λ (n : ℕ). read_row fields) (numbers_from 0 h.count)) head_form rows_form)

  only_none : (later : Bool) (left : ℕ) (pieces : List ScanPiece) → ArePiecesOf fields later left zero pieces → pieces ≡ []
  only_none later left [] h = refl
  only_none later left (piece ∷ pieces) h = absurd h

  -- so many pieces
  pub pieces_form : (n : ℕ) (later : Bool) (left : ℕ) → left < 2 ^ 64 → (n ≡ 0 → left ≡ 0) → IsLineForm (ArePiecesOf fields later left n) (flat_map piece_lines) (read_pieces fields later left n)
  pieces_form zero later left few ended = nothing_form (ArePiecesOf fields later left zero) (flat_map piece_lines) (ended refl) refl (only_none later left)
  pieces_form (suc n) later left few ended =
      let turn : PieceTurn = record { is_later = later; behind = n; left = left } in
      more_form (IsPieceOf fields turn) (λ (p : ScanPiece). ArePiecesOf fields true (left - length p.rows) n) (ArePiecesOf fields later left (suc n))
      piece_lines (λ (p : ScanPiece). flat_map piece_lines) (flat_map piece_lines) (read_piece fields turn) (λ (p : ScanPiece). read_pieces fields true (left - length p.rows) n)
      (piece_form later n left few)
      (λ p h. pieces_form n true (left - length p.rows) (omega (arith, few)) (λ last. omega (arith, turn_ends n left (length p.rows) last (head_says later n left (head_of_piece p) h.head).turn)))
      (λ p ps a b. (a, b)) (λ p ps h. (h.0, h.1)) (λ h. h) (λ p ps a. refl)
