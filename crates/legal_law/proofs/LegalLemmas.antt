-- Bytes are a legal report exactly where they spell one whose lines keep all points.
use Rattle.std.proofs.Common.{◌≡◌, ◌≢◌, ℕ, zero, suc, ◌+◌, ◌-◌, ◌<◌, ◌≤◌, ◌^◌, Bool, true, false, ◌&&◌, Option, Some, None, List, [], ◌∷◌, ◌++◌, map, take, length, refl, sym, ap, ◌∙◌, subst, arith}
use Rattle.std.proofs.lemmas.List.{length-map}
use Rattle.std.proofs.lemmas.List.Sums.{count_by-le-length, sum_by-cons}
use Rattle.std.specs.List.{slice_get, zip, count_by, sum_by, AllByRecursion, AllZip}
use Rattle.list_facts.proofs.Places.{one_at, get_inside, get_there}
use Rattle.list_facts.proofs.Elements.{all_zip_at, all_zip_length, map_get, map_get_from, zip_from, all_at}
use Rattle.map_history.specs.Map.{MapChange, Put, Set, Del, map_after}
use Rattle.map_history.specs.Operation.{Operation, Ask, Get, Make, Seek, Scan}
use Rattle.map_history.specs.Reply.{MapReply, Value, Row, Done, Absent, Duplicate, reply_of}
use Rattle.map_history.specs.Report.{Columns, ScanPiece, Answer, Replied, LogFull, SpaceFull, Scanned, AnswerLine, ChangeLine, IndexPart, Report, entries_in, entries_at, changes_at}
use Rattle.map_history.specs.LegalReport.{Line, Run, Answers, IsAnswered, has_form, ScansFor, columns_at, IsLegalReport, IsLegalBytes}
use Rattle.map_history.specs.Scans.{IsScan, ArePieces, cut_after}
use Rattle.key_tuple.specs.Order.{FieldList}
use Rattle.key_tuple.specs.KeyPlace.{KeyPlace, Start}
use Rattle.list_facts.proofs.Each.{each_weaker}
use Rattle.map_history.specs.Spelling.{spell}
use Rattle.report_laws.specs.SpellingLaws.{IsPlainName, IsSmallPiece, IsSmallAnswer, IsPlainList}
use Rattle.audit_law.specs.TextLines.{pieces_of}
use Rattle.audit_law.specs.Points.{Point, KeepsPoint}
use Rattle.audit_law.specs.Verdicts.{IsRow, TellsRow, PrintsRows, ChangesRow, IsFormed, IsSound}
use Rattle.legal_law.specs.Laws.{IsAskedLine, IsAskedRun, AsksFields, LegalIsSound}
use Rattle.audit_law.proofs.JudgeLemmas.{lines_judge}
use Rattle.legal_law.proofs.BoundLemmas.{entries_upto, pieces_upto}
use Rattle.legal_law.proofs.RowLemmas.{rows_at, reply_row, piece_rows}

each_from : {A : Type 0} (P : A → Type 0) (xs : List A) → ((n : ℕ) (x : A) → slice_get xs n ≡ Some x → P x) → AllByRecursion P xs
each_from P [] h = tt
each_from P (x ∷ xs) h = (h 0 x refl, each_from P xs (λ n y e. h (suc n) y e))

one_few : (pieces : List ScanPiece) (n : ℕ) (p : ScanPiece) → slice_get pieces n ≡ Some p → length p.rows ≤ sum_by (λ (q : ScanPiece). length q.rows) pieces
one_few [] n p e = absurd cc
one_few (q ∷ pieces) zero p e = let is : q ≡ p = cc in omega (arith, sum_by-cons (λ (x : ScanPiece). length x.rows) q pieces, ap (λ (x : ScanPiece). length x.rows) is)
one_few (q ∷ pieces) (suc n) p e = omega (arith, sum_by-cons (λ (x : ScanPiece). length x.rows) q pieces, one_few pieces n p e)

-- the points of pieces
piece_points : (from : FieldList) (to : Option FieldList) (cs : List MapChange) (left : ℕ) (begin : KeyPlace) (pieces : List ScanPiece) → ArePieces from to cs left begin pieces → AllByRecursion (λ (p : ScanPiece). p.point ≤ length cs) pieces
piece_points from to cs left begin [] are = tt
piece_points from to cs left begin (piece ∷ []) are = (are.0, tt)
piece_points from to cs left begin (piece ∷ next ∷ later) are =
    (are.0, piece_points from to cs (left - length piece.rows) (cut_after from begin (map_after (take piece.point cs)) piece.rows (next ∷ later)) (next ∷ later) are.3)

scan_points : (ask : Ask) (cs : List MapChange) (pieces : List ScanPiece) → has_form ask (Scanned pieces) ≡ true → ScansFor ask cs pieces → AllByRecursion (λ (p : ScanPiece). p.point ≤ length cs) pieces
scan_points (Scan from to limit) cs pieces form are = piece_points from to cs limit Start pieces are
scan_points (Get k) cs pieces form are = absurd cc
scan_points (Make (Put k v)) cs pieces form are = absurd cc
scan_points (Make (Set k v)) cs pieces form are = absurd cc
scan_points (Make (Del k)) cs pieces form are = absurd cc
scan_points (Seek mode tuple) cs pieces form are = absurd cc

scan_rows : (count : ℕ) (ask : Ask) (cs : List MapChange) (pieces : List ScanPiece) → AllByRecursion (ChangesRow count) cs → has_form ask (Scanned pieces) ≡ true → ScansFor ask cs pieces
    → AllByRecursion (λ (piece : ScanPiece). AllByRecursion (IsRow count) piece.rows) pieces
scan_rows count (Scan from to limit) cs pieces all form are = each_weaker _ _ (λ piece h. h.1) pieces (piece_rows count from to cs limit Start pieces all are)
scan_rows count (Get k) cs pieces all form are = absurd cc
scan_rows count (Make (Put k v)) cs pieces all form are = absurd cc
scan_rows count (Make (Set k v)) cs pieces all form are = absurd cc
scan_rows count (Make (Del k)) cs pieces all form are = absurd cc
scan_rows count (Seek mode tuple) cs pieces all form are = absurd cc

module _ (run : Run) (fields bytes : List ℕ) (asked : IsAskedRun run fields) (short : length bytes < 2 ^ 63) (report : Report) (spelled : bytes ≡ spell report) (legal : IsLegalReport run report) where
  small : (n : ℕ) → n ≤ length (spell report) → n < 2 ^ 64
  small n le = omega (arith, le, ap length spelled, short)

  -- the line that an answer is to
  record ItsLine (lane place : ℕ) (a : AnswerLine) : Type 0 where
    lines : List Line
    line : Line
    lane_there : slice_get run.lanes lane ≡ Some lines
    line_there : slice_get lines place ≡ Some line
    answers : Answers line a
    answered : IsAnswered run report lane place line a.answer

  its_line : (lane place : ℕ) (told : List AnswerLine) (a : AnswerLine) → slice_get report.lanes lane ≡ Some told → slice_get told place ≡ Some a → ItsLine lane place a
  its_line lane place told a at there =
      let form = legal.but_room.form.lanes in
      let low = get_inside report.lanes lane told at in
      let lines = get_there run.lanes lane (omega (arith, low, all_zip_length (AllZip Answers) run.lanes report.lanes form)) in
      let each = all_zip_at (AllZip Answers) run.lanes report.lanes lane lines.0 told form lines.1 at in
      let inside = get_inside told place a there in
      let line = get_there lines.0 place (omega (arith, inside, all_zip_length Answers lines.0 told each)) in
      let fits = all_zip_at Answers lines.0 told place line.0 a each line.1 there in
      let same : a ≡ record { line = line.0.line; answer = a.answer } = λ i. record { line = fits.same_line i; answer = a.answer } in
      record {
        lines = lines.0;
        line = line.0;
        lane_there = lines.1;
        line_there = line.1;
        answers = fits;
        answered = record { line_there = (lines.0, lines.1, line.1); answer_there = (told, at, there ∙ ap (λ (x : AnswerLine). Some x) same) };
      }

  -- the changes of an index
  changes_few : (i : ℕ) → length (changes_at report i) ≤ length (spell report)
  changes_few i = omega (arith, length-map (entries_at report i) (λ (x : ChangeLine). x.change), go (slice_get report.indexes i) refl)
    where
      go : (o : Option IndexPart) → slice_get report.indexes i ≡ o → length (entries_in o) ≤ length (spell report)
      go None is = omega arith
      go (Some part) is = entries_upto report i part is

  changes_fit : (i count : ℕ) → slice_get fields i ≡ Some count → AllByRecursion (ChangesRow count) (changes_at report i)
  changes_fit i count known = each_from (ChangesRow count) (changes_at report i) (λ n c e.
      let h = map_get_from (λ (x : ChangeLine). x.change) (entries_at report i) n c e in
      let its = legal.but_room.changes.named i n h.0 h.1 in
      let there = its.answered.line_there in
      let index_is : its.line.op.index ≡ i = ap (λ (o : Operation). o.index) its.same_op in
      let ask_is : its.line.op.ask ≡ Make h.0.change = ap (λ (o : Operation). o.ask) its.same_op in
      let fits = (asked.lines its.lane its.place there.0 its.line there.1 there.2).ask count (ap (λ (j : ℕ). slice_get fields j) index_is ∙ known) in
      subst (λ (d : MapChange). ChangesRow count d) h.2 (subst (λ (ask : Ask). AsksFields count ask) ask_is fits))

  small_answer : (lane place : ℕ) (line : Line) (answer : Answer) → has_form line.op.ask answer ≡ true → length (pieces_of answer) + sum_by (λ (p : ScanPiece). length p.rows) (pieces_of answer) ≤ length (spell report)
      → IsAnswered run report lane place line answer → IsSmallAnswer answer
  small_answer lane place line (Replied reply point columns) form few a = go reply refl
    where
      other : reply ≢ Done → point < 2 ^ 64
      other unmade = small point (omega (arith, (legal.but_room.answers lane place line reply point columns a unmade).within, changes_few line.op.index))

      made : reply ≡ Done → point < 2 ^ 64
      made is =
          let named = legal.but_room.changes.done lane place line point columns (subst (λ (r : MapReply). IsAnswered run report lane place line (Replied r point columns)) is a) in
          let inside = get_inside (entries_at report line.op.index) named.n named.entry named.there in
          small point (omega (arith, named.is_point, inside, changes_few line.op.index, length-map (entries_at report line.op.index) (λ (x : ChangeLine). x.change)))

      go : (r : MapReply) → reply ≡ r → point < 2 ^ 64
      go (Value v) is = other (λ e. absurd (cc (sym is ∙ e)))
      go (Row k v) is = other (λ e. absurd (cc (sym is ∙ e)))
      go Done is = made is
      go Absent is = other (λ e. absurd (cc (sym is ∙ e)))
      go Duplicate is = other (λ e. absurd (cc (sym is ∙ e)))
  small_answer lane place line (LogFull n columns) form few a = small n (omega (arith, (legal.but_room.log_full lane place line n columns a).is_length, changes_few line.op.index))
  small_answer lane place line (SpaceFull columns) form few a = tt
  small_answer lane place line (Scanned pieces) form few a =
      let cs = changes_at report line.op.index in
      let points = scan_points line.op.ask cs pieces form (legal.but_room.scans lane place line pieces a) in (
        small (length pieces) (omega (arith, few)),
        small (sum_by (λ (p : ScanPiece). length p.rows) pieces) (omega (arith, few)),
        each_from IsSmallPiece pieces (λ n p there. (small p.point (omega (arith, all_at (λ (q : ScanPiece). q.point ≤ length cs) pieces n p points there, changes_few line.op.index)), small (length p.rows) (omega (arith, few, one_few pieces n p there)))),
      )

  prints : (count lane place : ℕ) (line : Line) (answer : Answer) → slice_get fields line.op.index ≡ Some count → has_form line.op.ask answer ≡ true → IsAnswered run report lane place line answer → PrintsRows count answer
  prints count lane place line (Replied reply point columns) known form a = go reply refl
    where
      rows : AllByRecursion (IsRow count) (map_after (take point (changes_at report line.op.index)))
      rows = rows_at count point (changes_at report line.op.index) (changes_fit line.op.index count known)

      other : reply ≢ Done → TellsRow count reply
      other unmade = subst (TellsRow count) (legal.but_room.answers lane place line reply point columns a unmade).reply_is (reply_row count (map_after (take point (changes_at report line.op.index))) line.op.ask rows)

      go : (r : MapReply) → reply ≡ r → TellsRow count reply
      go (Value v) is = other (λ e. absurd (cc (sym is ∙ e)))
      go (Row k v) is = other (λ e. absurd (cc (sym is ∙ e)))
      go Done is = subst (TellsRow count) (sym is) tt
      go Absent is = subst (TellsRow count) (sym is) tt
      go Duplicate is = subst (TellsRow count) (sym is) tt
  prints count lane place line (LogFull n columns) known form a = tt
  prints count lane place line (SpaceFull columns) known form a = tt
  prints count lane place line (Scanned pieces) known form a =
      scan_rows count line.op.ask (changes_at report line.op.index) pieces (changes_fit line.op.index count known) form (legal.but_room.scans lane place line pieces a)

  plain_list : (i : ℕ) (part : IndexPart) → slice_get report.indexes i ≡ Some part → IsPlainList part
  plain_list i part at =
      let name = ap (λ (ns : List (List ℕ)). slice_get ns i) (sym legal.but_room.form.names) ∙ map_get (λ (p : IndexPart). p.name) report.indexes i part at in
      record {
        name = all_at IsPlainName run.names i part.name asked.names name;
        length_small = small (length part.entries) (entries_upto report i part at);
        entries_small = each_from _ part.entries (λ n e there.
            let its = legal.but_room.changes.named i n e (ap (λ (o : Option IndexPart). slice_get (entries_in o) n) at ∙ there) in
            let line = its.answered.line_there in
            let number = (asked.lines its.lane its.place line.0 its.line line.1 line.2).number in
            (omega (arith, its.same_lane, get_inside run.lanes its.lane line.0 line.1, asked.few), omega (arith, its.same_line, number)));
      }

  formed : IsFormed run fields report
  formed = record {
    form = legal.but_room.form;
    plain = record {
      lanes_few = omega (arith, all_zip_length (AllZip Answers) run.lanes report.lanes legal.but_room.form.lanes, asked.few);
      lanes = each_from _ report.lanes (λ lane told at. each_from _ told (λ place a there.
          let its = its_line lane place told a at there in
          let number = (asked.lines lane place its.lines its.line its.lane_there its.line_there).number in
          (omega (arith, number, its.answers.same_line), small_answer lane place its.line a.answer its.answers.form (pieces_upto report lane place told a at there) its.answered)));
      lists = each_from IsPlainList report.indexes plain_list;
    };
    answers = λ lane place count lines told x at there here known.
        let both = zip_from lines told place x here in
        let its = its_line lane place told x.1 there both.1 in
        let lines_is = one_at run.lanes lane its.lines lines its.lane_there at in
        let line_is : its.line ≡ x.0 = one_at lines place its.line x.0 (ap (λ (ls : List Line). slice_get ls place) (sym lines_is) ∙ its.line_there) both.0 in
        prints count lane place its.line x.1.answer (ap (λ (l : Line). slice_get fields l.op.index) line_is ∙ known) its.answers.form its.answered;
    entries = λ i count part at known. each_from _ part.entries (λ n e there. all_at (ChangesRow count) (changes_at report i) n e.change (changes_fit i count known) (map_get (λ (x : ChangeLine). x.change) (entries_at report i) n e (ap (λ (o : Option IndexPart). slice_get (entries_in o) n) at ∙ there)));
  }

pub legal_is_sound : LegalIsSound
legal_is_sound = record {
  sound = λ run fields bytes asked short l. record {
    report = l.report;
    told = record { formed = formed run fields bytes asked short l.report l.spelled l.legal; spelled = l.spelled };
    keeps = lines_judge.kept run l.report asked.differ l.legal;
  };
  legal = λ run fields bytes asked s. record {
    report = s.report;
    spelled = s.told.spelled;
    legal = lines_judge.legal run s.report asked.differ s.told.formed.form s.keeps;
  };
}
