-- What the lanes were told is so, and no two changes of one lane have one point.
use Rattle.std.proofs.Common.{◌≡◌, ◌≢◌, ℕ, ◌+◌, ◌-◌, ◌<◌, ◌≤◌, true, cond, eqb, Some, List, [], length, refl, ap, sym, ◌∙◌, subst, ⊎_elim, arith}
use Rattle.std.proofs.lemmas.Bool.Decides.{nat_tests}
use Rattle.std.proofs.lemmas.List.{length-map}
use Rattle.std.specs.List.{slice_get, Contains, zip}
use mathlib.Core.Logic.{dite}
use native.Mathlib.Decide.{dec_lt}
use lib.ListN.{get_elem?}
use Rattle.latch_law.specs.declared.knows.Entry.{Entry}
use Rattle.list_facts.proofs.Places.{one_value, one_at}
use Rattle.index_law.specs.Answers.{MadeChange}
use Rattle.map_history.specs.Reply.{Done}
use Rattle.map_history.specs.Report.{Columns, ScanPiece, Answer, Replied, LogFull, SpaceFull, Scanned, AnswerLine, IndexPart, Report}
use Rattle.map_history.specs.LegalReport.{Line, Answers, Run, IsAnswered, Mark, marks_of, Precedes}
use Rattle.forest_law.specs.State.{ForestState}
use Rattle.call_law.specs.Spoken.{View, Spoken}
use Rattle.lane_law.specs.Worked.{AreInOrder}
use Rattle.lane_law.specs.Runs.{RunsAll}
use Rattle.list_facts.proofs.Elements.{contains_head, zip_get, all_zip_at}
use Rattle.lane_law.proofs.PairLemmas.{flat_pairs}
use Rattle.lane_law.proofs.SaidLemmas.{IsMadeAt, IsAnswerSo, spoken_so, spoken_from, all_contains, lane_said}

module _ (run : Run) (report : Report) (w : ForestState) (v : View) (all : RunsAll run report w v) where
  told_so : (lane place : ℕ) (line : Line) (answer : Answer) → ((pieces : List ScanPiece) → answer ≢ Scanned pieces) → IsAnswered run report lane place line answer → IsAnswerSo w line.op.index lane line.op.ask answer
  told_so lane place line answer other a =
      let told : AnswerLine = record { line = line.line; answer = answer } in
      let s : Spoken = record { index = line.op.index; by = lane; ask = line.op.ask; answer = answer } in
      let said = lane_said lane a.line_there.0 a.answer_there.0 place line told a.line_there.2 a.answer_there.2 other in
      let joined = all_contains lane 0 run.lanes report.lanes lane a.line_there.0 a.answer_there.0 s (omega arith) a.line_there.1 a.answer_there.1 said in
      let own = spoken_from v.said s (subst (λ z. Contains z s) (sym all.said) joined) in
      spoken_so w own.1 s (all.fits.so own.0 own.1 own.2) own.3

  -- the report has a part for each list
  pub parts_counted : length report.indexes ≡ length w.lists
  parts_counted = sym (length-map report.indexes (λ (part : IndexPart). part.name)) ∙ (ap length all.names ∙ (sym all.indexes ∙ sym all.lawful.objects.counted.lists))

  -- what a line is answered is so
  pub answer_so : (lane place : ℕ) (line : Line) (answer : Answer) → IsAnswered run report lane place line answer → IsAnswerSo w line.op.index lane line.op.ask answer
  answer_so lane place line (Replied reply point columns) a = told_so lane place line (Replied reply point columns) (λ pieces e. cc) a
  answer_so lane place line (LogFull n columns) a = told_so lane place line (LogFull n columns) (λ pieces e. cc) a
  answer_so lane place line (SpaceFull columns) a = told_so lane place line (SpaceFull columns) (λ pieces e. cc) a
  answer_so lane place line (Scanned pieces) a = tt

  -- and of `ok` it is so that the list has the line's change
  pub ok_made : (lane place : ℕ) (line : Line) (point : ℕ) (columns : Columns) → IsAnswered run report lane place line (Replied Done point columns) → IsMadeAt w line.op.index point lane line.op.ask
  ok_made lane place line point columns a = ⊎_elim (λ h. h.1) (λ h. absurd (h.0 refl)) (answer_so lane place line (Replied Done point columns) a)

-- a mark of an answer is one of the index of its line
pub mark_here : (i : ℕ) (line : Line) (answer : Answer) (m : Mark) → line.op.index ≡ i → Contains (marks_of answer) m → Contains (cond (eqb line.op.index i) (marks_of answer) []) m
mark_here i line answer m here c = let yes : eqb line.op.index i ≡ true = grind (arith, nat_tests) in subst (λ b. Contains (cond b (marks_of answer) []) m) (sym yes) c

-- in a lane a later change of an index has a higher point
pub ok_rises : (lines : List Line) (answers : List AnswerLine) (i j k : ℕ) (x y : Line) (p q : ℕ) (c d : Columns) → AreInOrder lines answers → j < k → x.op.index ≡ i → y.op.index ≡ i → slice_get lines j ≡ Some x → slice_get lines k ≡ Some y
    → slice_get answers j ≡ Some (record { line = x.line; answer = Replied Done p c }) → slice_get answers k ≡ Some (record { line = y.line; answer = Replied Done q d }) → p + 1 ≤ q
ok_rises lines answers i j k x y p q c d order lt is_x is_y ej ek fj fk =
    let a : AnswerLine = record { line = x.line; answer = Replied Done p c } in
    let b : AnswerLine = record { line = y.line; answer = Replied Done q d } in
    let m : Mark = record { point = p; grows = 1 } in
    let n : Mark = record { point = q; grows = 1 } in
    flat_pairs (λ (z : Line × AnswerLine). cond (eqb z.0.op.index i) (marks_of z.1.answer) []) Precedes (zip lines answers) j k (x, a) (y, b) m n lt (zip_get lines answers j x a ej fj) (zip_get lines answers k y b ek fk)
    (mark_here i x (Replied Done p c) m is_x (contains_head m [])) (mark_here i y (Replied Done q d) n is_y (contains_head n [])) (order.order i)

module _ (run : Run) (report : Report) (w : ForestState) (v : View) (all : RunsAll run report w v) where
  -- two changes of one lane with one index and point are one line
  pub ok_once : (lane j k : ℕ) (x y : Line) (p q : ℕ) (c d : Columns) → x.op.index ≡ y.op.index → p ≡ q → IsAnswered run report lane j x (Replied Done p c) → IsAnswered run report lane k y (Replied Done q d) → (j ≡ k) × (x ≡ y)
  ok_once lane j k x y p q c d index point a b =
      let lines = one_at run.lanes lane b.line_there.0 a.line_there.0 b.line_there.1 a.line_there.1 in
      let answers = one_at report.lanes lane b.answer_there.0 a.answer_there.0 b.answer_there.1 a.answer_there.1 in
      let order = all_zip_at AreInOrder run.lanes report.lanes lane a.line_there.0 a.answer_there.0 all.lanes a.line_there.1 a.answer_there.1 in
      let y_at : slice_get a.line_there.0 k ≡ Some y = ap (λ z. slice_get z k) (sym lines) ∙ b.line_there.2 in
      let d_at : slice_get a.answer_there.0 k ≡ Some (record { line = y.line; answer = Replied Done q d }) = ap (λ z. slice_get z k) (sym answers) ∙ b.answer_there.2 in
      let same : j ≡ k = dite (dec_lt j k)
      (λ lt. absurd (let up = ok_rises a.line_there.0 a.answer_there.0 y.op.index j k x y p q c d order lt index refl a.line_there.2 y_at a.answer_there.2 d_at in omega arith))
      (λ not_lt. dite (dec_lt k j)
      (λ lt. absurd (let up = ok_rises a.line_there.0 a.answer_there.0 y.op.index k j y x q p d c order lt refl index y_at a.line_there.2 d_at a.answer_there.2 in omega arith))
      (λ not_gt. omega arith)) in
      (same, one_at a.line_there.0 k x y (ap (λ z. slice_get a.line_there.0 z) (sym same) ∙ a.line_there.2) y_at)

  -- two changes with one index and point are of one lane
  pub ok_lane : (j k a b : ℕ) (x y : Line) (p q : ℕ) (c d : Columns) → x.op.index ≡ y.op.index → p ≡ q → IsAnswered run report j a x (Replied Done p c) → IsAnswered run report k b y (Replied Done q d) → j ≡ k
  ok_lane j k a b x y p q c d index point first second =
      let mine = ok_made run report w v all j a x p c first in
      let theirs = ok_made run report w v all k b y q d second in
      let e : Entry MadeChange = record { change = mine.deed; by = j } in
      let f : Entry MadeChange = record { change = theirs.deed; by = k } in
      let list : mine.entry.0 ≡ theirs.entry.0 = one_value w.lists y.op.index mine.entry.0 theirs.entry.0 (ap (get_elem? w.lists) (sym index) ∙ mine.entry.1) theirs.entry.1 in
      let same : e ≡ f = one_value theirs.entry.0 (q - 1) e f ((λ i. get_elem? (sym list i) (sym point i - 1)) ∙ mine.entry.2) theirs.entry.2 in
      ap (λ (z : Entry MadeChange). z.by) same

  -- an answer stands with the number of its line
  pub answered_at : (lane : ℕ) (lines : List Line) (answers : List AnswerLine) (place : ℕ) (line : Line) (told : AnswerLine) (answer : Answer) → slice_get run.lanes lane ≡ Some lines → slice_get report.lanes lane ≡ Some answers → slice_get lines place ≡ Some line → slice_get answers place ≡ Some told → told.answer ≡ answer → IsAnswered run report lane place line answer
  answered_at lane lines answers place line told answer at at' line_at told_at is =
      let order = all_zip_at AreInOrder run.lanes report.lanes lane lines answers all.lanes at at' in
      let form = all_zip_at Answers lines answers place line told order.form line_at told_at in
      record { line_there = (lines, at, line_at); answer_there = (answers, at', told_at ∙ λ i. Some (record { line = form.same_line i; answer = is i })) }
