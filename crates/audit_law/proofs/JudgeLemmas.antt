-- A report that has its form is legal exactly where each of its lines keeps each point.
use Rattle.std.proofs.Common.{◌≡◌, ℕ, ◌+◌, ◌==◌, ◌&&◌, Bool, true, false, cond, Some, List, [], ◌∷◌, ◌++◌, take, refl, sym, ap, ◌∙◌, subst, arith, eq-eqb, append_assoc}
use Rattle.std.proofs.lemmas.Bool.Decides.{nat_tests}
use Rattle.std.proofs.lemmas.List.Sums.{length-filter}
use Rattle.std.specs.List.{slice_get, zip, count_by, AllPairs, AllByRecursion}
use Rattle.list_facts.proofs.Places.{one_at, elem_from_get, single}
use Rattle.list_facts.proofs.Elements.{zip_from, map_get, map_get_from}
use Rattle.map_history.specs.Map.{MapChange, AreLawful, map_after, is_allowed}
use Rattle.map_history.specs.Operation.{Operation}
use Rattle.map_history.specs.Reply.{Done}
use Rattle.map_history.specs.Report.{Columns, ScanPiece, Answer, Replied, LogFull, SpaceFull, Scanned, AnswerLine, ChangeLine, Report, entries_at, changes_at}
use Rattle.map_history.specs.LegalReport.{Line, Run, IsAnswered, HasForm, IsNamed, Mark, Precedes, marks_of, marks_in, IsInOrder, IsLegalReport}
use Rattle.audit_law.specs.TextLines.{Subject, Answered, Pieced, Listed, Formal, pieces_of}
use Rattle.audit_law.specs.Points.{Point, Changes, Answers as Replies, Order, Scans, Full, Room, names_line, IsEntry, Follows, Keeps, KeepsPoint, is_scanned}
use Rattle.audit_law.specs.Laws.{LinesDiffer, LinesJudge}
use Rattle.audit_law.proofs.ListLemmas.{front_of, one_left, some_left, pairs_before, pairs_from, flat_front, IsPartAt, flat_part}
use Rattle.audit_law.proofs.SubjectLemmas.{HasSubject, answered_line, pieced_line, listed_line, keeps_of}

-- the marks of an index at a line
abbrev marks_for : ℕ → Line × AnswerLine → List Mark
marks_for i y = cond (y.0.op.index == i) (marks_of y.1.answer) []

none_there : {A : Type 0} (n : ℕ) (x : A) → slice_get [] n ≡ Some x → ⊥
none_there n x e = absurd cc

-- the point of a reply
abbrev point_in : Answer → ℕ
point_in (Replied reply point columns) = point
point_in answer = 0

regroup : {A : Type 0} (a b c d : List A) → a ++ ((b ++ c) ++ d) ≡ (a ++ b) ++ (c ++ d)
regroup a b c d = simp append_assoc

both_true : (a b : Bool) → (a && b) ≡ true → (a ≡ true) × (b ≡ true)
both_true true true e = (refl, refl)
both_true true false e = absurd cc
both_true false b e = absurd cc

-- an entry that names a line has its lane and its number
named_so : (lane line : ℕ) (e : ChangeLine) → names_line lane line e ≡ true → (e.lane ≡ lane + 1) × (e.line ≡ line)
named_so lane line e t =
    let h = both_true (e.lane == lane + 1) (e.line == line) t in
    let l : e.lane ≡ lane + 1 = grind (arith, nat_tests) in
    let n : e.line ≡ line = grind (arith, nat_tests) in
    (l, n)

names_it : (lane line : ℕ) (e : ChangeLine) → e.lane ≡ lane + 1 → e.line ≡ line → names_line lane line e ≡ true
names_it lane line e l n = rw (eq-eqb e.lane (lane + 1) l, eq-eqb e.line line n) refl

-- a change of a list
change_at : (report : Report) (i n : ℕ) (entry : ChangeLine) → slice_get (entries_at report i) n ≡ Some entry → slice_get (changes_at report i) n ≡ Some entry.change
change_at report i n entry e = map_get (λ (x : ChangeLine). x.change) (entries_at report i) n entry e

module _ (run : Run) (report : Report) (differ : LinesDiffer run) where
  -- one number in one lane is one line, with one answer
  one_line : (lane lane' place place' : ℕ) (line line' : Line) (answer answer' : Answer) → lane' ≡ lane → line'.line ≡ line.line
      → IsAnswered run report lane place line answer → IsAnswered run report lane' place' line' answer' → (line' ≡ line) × (answer' ≡ answer)
  one_line lane lane' place place' line line' answer answer' same number a b =
      let lines = a.line_there in
      let lines' = b.line_there in
      let lanes : slice_get run.lanes lane ≡ Some lines'.0 = ap (λ (n : ℕ). slice_get run.lanes n) (sym same) ∙ lines'.1 in
      let is = one_at run.lanes lane lines'.0 lines.0 lanes lines.1 in
      let there : slice_get lines.0 place' ≡ Some line' = ap (λ (ls : List Line). slice_get ls place') (sym is) ∙ lines'.2 in
      let place_is : place' ≡ place = differ lane place' place lines.0 line' line lines.1 there lines.2 number in
      let line_is : line' ≡ line = one_at lines.0 place line' line (ap (λ (n : ℕ). slice_get lines.0 n) (sym place_is) ∙ there) lines.2 in
      let told = a.answer_there in
      let told' = b.answer_there in
      let lane_is = one_at report.lanes lane told'.0 told.0 (ap (λ (n : ℕ). slice_get report.lanes n) (sym same) ∙ told'.1) told.1 in
      let al : AnswerLine = record { line = line.line; answer = answer } in
      let al' : AnswerLine = record { line = line'.line; answer = answer' } in
      let said : slice_get told.0 place ≡ Some al' = ap (λ (n : ℕ). slice_get told.0 n) (sym place_is) ∙ (ap (λ (told : List AnswerLine). slice_get told place') (sym lane_is) ∙ told'.2) in
      (line_is, ap (λ (x : AnswerLine). x.answer) (one_at told.0 place al' al said told.2))

  module _ (legal : IsLegalReport run report) where
    named_once : (lane place : ℕ) (line : Line) (point : ℕ) (columns : Columns) → IsAnswered run report lane place line (Replied Done point columns)
        → count_by (names_line lane line.line) (entries_at report line.op.index) ≡ 1
    named_once lane place line point columns a =
        let changes = legal.but_room.changes in
        let its = changes.done lane place line point columns a in
        let i = line.op.index in
        let entries = entries_at report i in
        let only : (m : ℕ) (y : ChangeLine) → slice_get entries m ≡ Some y → names_line lane line.line y ≡ true → m ≡ its.n = (λ m y at t.
        let other = changes.named i m y at in
        let so = named_so lane line.line y t in
        let lane_is : other.lane ≡ lane = omega (arith, so.0, other.same_lane) in
        let same = one_line lane other.lane place other.place line other.line (Replied Done point columns) (Replied Done (m + 1) other.columns) lane_is (sym other.same_line ∙ so.1) a other.answered in
        let point_is : m + 1 ≡ point = ap point_in same.1 in
        omega (arith, point_is, its.is_point)) in
        sym (length-filter (names_line lane line.line) entries) ∙ one_left (names_line lane line.line) entries its.n its.entry its.there (names_it lane line.line its.entry its.same_lane its.same_line) only

    follows : (lane place nth : ℕ) → Follows run report lane place nth
    follows lane place nth lines answers x mark at told there inside =
        let i = x.0.op.index in
        let pairs = zip lines answers in
        let f : Line × AnswerLine → List Mark = λ (y : Line × AnswerLine). cond (y.0.op.index == i) (marks_of y.1.answer) [] in
        let own : f x ≡ marks_of x.1.answer = rw (eq-eqb i i refl) refl in
        let part = flat_front f pairs place x there in
        let marks = front_of (marks_of x.1.answer) nth mark inside in
        let whole : marks_in i pairs ≡ (marks_in i (take place pairs) ++ take nth (marks_of x.1.answer)) ++ mark ∷ (marks.0 ++ part.0)
        = part.1 ∙ (ap (λ (ms : List Mark). marks_in i (take place pairs) ++ (ms ++ part.0)) (own ∙ marks.1) ∙ regroup (marks_in i (take place pairs)) (take nth (marks_of x.1.answer)) (mark ∷ marks.0) part.0) in
        pairs_before Precedes (marks_in i (take place pairs) ++ take nth (marks_of x.1.answer)) (marks.0 ++ part.0) mark (subst (λ (ms : List Mark). AllPairs Precedes ms) whole (legal.but_room.order_in_lane lane i lines answers at told))

    kept_by : (point : Point) (subject : Subject) → Keeps run report point subject
    kept_by Changes (Answered lane place) = λ line point columns a. named_once lane place line point columns a
    kept_by Changes (Listed index n) = λ entry at. record { named = legal.but_room.changes.named index n entry at; allowed = legal.but_room.changes.lawful index n entry.change (change_at report index n entry at) }
    kept_by Changes (Pieced lane place piece) = tt
    kept_by Changes Formal = tt
    kept_by Replies (Answered lane place) = λ line reply point columns a other. legal.but_room.answers lane place line reply point columns a other
    kept_by Replies (Pieced lane place piece) = tt
    kept_by Replies (Listed index n) = tt
    kept_by Replies Formal = tt
    kept_by Order (Answered lane place) = λ alone. follows lane place 0
    kept_by Order (Pieced lane place piece) = follows lane place piece
    kept_by Order (Listed index n) = tt
    kept_by Order Formal = tt
    kept_by Scans (Answered lane place) = λ line pieces a. legal.but_room.scans lane place line pieces a
    kept_by Scans (Pieced lane place piece) = tt
    kept_by Scans (Listed index n) = tt
    kept_by Scans Formal = tt
    kept_by Full (Answered lane place) = λ line n columns a. legal.but_room.log_full lane place line n columns a
    kept_by Full (Pieced lane place piece) = tt
    kept_by Full (Listed index n) = tt
    kept_by Full Formal = tt
    kept_by Room (Answered lane place) = λ line columns a. legal.room lane place line columns a
    kept_by Room (Pieced lane place piece) = tt
    kept_by Room (Listed index n) = tt
    kept_by Room Formal = tt

  module _ (form : HasForm run report) (keeps : (point : Point) → KeepsPoint run report point) where
    answered_subject : (lane place : ℕ) (line : Line) (answer : Answer) → IsAnswered run report lane place line answer → HasSubject report (Answered lane place)
    answered_subject lane place line answer a = answered_line report lane place a.answer_there.0 (record { line = line.line; answer = answer }) a.answer_there.1 a.answer_there.2

    entry_kept : (i n : ℕ) (entry : ChangeLine) → slice_get (entries_at report i) n ≡ Some entry → IsEntry run report i n entry
    entry_kept i n entry e = keeps_of run report Changes (Listed i n) (keeps Changes) (listed_line report i n entry e) entry e

    lawful : (i : ℕ) → AreLawful (changes_at report i)
    lawful i n c e =
        let h = map_get_from (λ (x : ChangeLine). x.change) (entries_at report i) n c e in
        subst (λ (d : MapChange). is_allowed (map_after (take n (changes_at report i))) d ≡ true) h.2 (entry_kept i n h.0 h.1).allowed

    done : (lane place : ℕ) (line : Line) (point : ℕ) (columns : Columns) → IsAnswered run report lane place line (Replied Done point columns) → IsNamed report lane line point
    done lane place line point columns a =
        let i = line.op.index in
        let once = keeps_of run report Changes (Answered lane place) (keeps Changes) (answered_subject lane place line (Replied Done point columns) a) line point columns a in
        let h = some_left (names_line lane line.line) (entries_at report i) once in
        let n = h.0 in
        let entry : ChangeLine = h.1 in
        let there : slice_get (entries_at report i) n ≡ Some entry = h.2 in
        let so = named_so lane line.line entry h.3 in
        let its = (entry_kept i n entry there).named in
        let lane_is : its.lane ≡ lane = omega (arith, so.0, its.same_lane) in
        let same = one_line lane its.lane place its.place line its.line (Replied Done point columns) (Replied Done (n + 1) its.columns) lane_is (sym its.same_line ∙ so.1) a its.answered in
        let point_is : n + 1 ≡ point = ap point_in same.1 in
        record {
          n = n;
          entry = entry;
          is_point = sym point_is;
          there = there;
          same_lane = so.0;
          same_line = so.1;
          same_change = ap (λ (l : Line). l.op.ask) (sym same.0) ∙ ap (λ (o : Operation). o.ask) its.same_op;
        }

    -- what is known of the line of an answer, or of that of a piece
    follows_at : (lane place nth : ℕ) (answers : List AnswerLine) (a : AnswerLine) (mark : Mark) → slice_get report.lanes lane ≡ Some answers → slice_get answers place ≡ Some a
        → slice_get (marks_of a.answer) nth ≡ Some mark → Follows run report lane place nth
    follows_at lane place nth answers a mark told there inside = go a.answer refl
      where
        alone : is_scanned a.answer ≡ false → Follows run report lane place 0
        alone unscanned = keeps_of run report Order (Answered lane place) (keeps Order) (answered_line report lane place answers a told there) (λ line answer b.
            let lane_is = one_at report.lanes lane b.answer_there.0 answers b.answer_there.1 told in
            let same = one_at answers place (record { line = line.line; answer = answer }) a (ap (λ (as' : List AnswerLine). slice_get as' place) (sym lane_is) ∙ b.answer_there.2) there in
            ap (λ (y : AnswerLine). is_scanned y.answer) same ∙ unscanned)

        first : (m : Mark) → marks_of a.answer ≡ m ∷ [] → nth ≡ 0
        first m is = (single m mark nth (elem_from_get (m ∷ []) nth mark (ap (λ (ms : List Mark). slice_get ms nth) (sym is) ∙ inside))).0

        go : (answer : Answer) → a.answer ≡ answer → Follows run report lane place nth
        go (Replied reply point columns) is = subst (λ (k : ℕ). Follows run report lane place k) (sym (first _ (ap marks_of is))) (alone (ap is_scanned is))
        go (LogFull n columns) is = subst (λ (k : ℕ). Follows run report lane place k) (sym (first _ (ap marks_of is))) (alone (ap is_scanned is))
        go (SpaceFull columns) is = absurd (none_there nth mark (ap (λ (z : Answer). slice_get (marks_of z) nth) (sym is) ∙ inside))
        go (Scanned pieces) is =
            let h = map_get_from (λ (p : ScanPiece). record { point = p.point; grows = 0 }) pieces nth mark (ap (λ (z : Answer). slice_get (marks_of z) nth) (sym is) ∙ inside) in
            let among : slice_get (pieces_of a.answer) nth ≡ Some h.0 = ap (λ (z : Answer). slice_get (pieces_of z) nth) is ∙ h.1 in
            keeps_of run report Order (Pieced lane place nth) (keeps Order) (pieced_line report lane place nth answers a h.0 told there among)

    by_part : (lane i : ℕ) (lines : List Line) (answers : List AnswerLine) → slice_get run.lanes lane ≡ Some lines → slice_get report.lanes lane ≡ Some answers
        → (n : ℕ) (mark : Mark) → IsPartAt (marks_for i) (zip lines answers) n mark → AllByRecursion (λ (z : Mark). Precedes z mark) (take n (marks_in i (zip lines answers)))
    by_part lane i lines answers at told n mark part = go (part.x.0.op.index == i) refl
      where
        go : (b : Bool) → (part.x.0.op.index == i) ≡ b → AllByRecursion (λ (z : Mark). Precedes z mark) (take n (marks_in i (zip lines answers)))
        go true is =
            let index_is : part.x.0.op.index ≡ i = grind (arith, nat_tests) in
            let own : marks_for i part.x ≡ marks_of part.x.1.answer = rw is refl in
            let inside : slice_get (marks_of part.x.1.answer) part.j ≡ Some mark = ap (λ (ms : List Mark). slice_get ms part.j) (sym own) ∙ part.inside in
            let both = zip_from lines answers part.k part.x part.there in
            let follow = follows_at lane part.k part.j answers part.x.1 mark told both.1 inside lines answers part.x mark at told part.there inside in
            let front : take n (marks_in i (zip lines answers)) ≡ marks_in i (take part.k (zip lines answers)) ++ take part.j (marks_of part.x.1.answer)
            = part.front ∙ ap (λ (ms : List Mark). marks_in i (take part.k (zip lines answers)) ++ take part.j ms) own in
            subst (λ (ms : List Mark). AllByRecursion (λ (z : Mark). Precedes z mark) ms) (sym front)
            (subst (λ (j : ℕ). AllByRecursion (λ (z : Mark). Precedes z mark) (marks_in j (take part.k (zip lines answers)) ++ take part.j (marks_of part.x.1.answer))) index_is follow)
        go false is =
            let own : marks_for i part.x ≡ [] = rw is refl in
            absurd (none_there part.j mark (ap (λ (ms : List Mark). slice_get ms part.j) (sym own) ∙ part.inside))

    in_order : IsInOrder run report
    in_order lane i lines answers at told = pairs_from Precedes (marks_in i (zip lines answers)) (λ n mark e. by_part lane i lines answers at told n mark (flat_part (marks_for i) (zip lines answers) n mark e))

pub lines_judge : LinesJudge
lines_judge = record {
  kept = λ run report differ legal point n line at. kept_by run report differ legal point line.subject;
  legal = λ run report differ form keeps. record {
    but_room = record {
      form = form;
      changes = record {
        lawful = lawful run report differ form keeps;
        named = λ i n entry e. (entry_kept run report differ form keeps i n entry e).named;
        done = done run report differ form keeps;
      };
      answers = λ lane place line reply point columns a. keeps_of run report Replies (Answered lane place) (keeps Replies) (answered_subject run report differ form keeps lane place line _ a) line reply point columns a;
      order_in_lane = in_order run report differ form keeps;
      scans = λ lane place line pieces a. keeps_of run report Scans (Answered lane place) (keeps Scans) (answered_subject run report differ form keeps lane place line _ a) line pieces a;
      log_full = λ lane place line n columns a. keeps_of run report Full (Answered lane place) (keeps Full) (answered_subject run report differ form keeps lane place line _ a) line n columns a;
    };
    room = λ lane place line columns a. keeps_of run report Room (Answered lane place) (keeps Room) (answered_subject run report differ form keeps lane place line _ a) line columns a;
  };
}
