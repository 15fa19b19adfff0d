-- The merged logs are the lists.
use Rattle.std.proofs.Common.{◌≡◌, ◌≢◌, ℕ, ◌+◌, ◌-◌, ◌<◌, ◌≤◌, Some, List, length, refl, ap, sym, ◌∙◌, subst, arith}
use Rattle.std.proofs.lemmas.List.Sorted.{Contains-permutation, IsPermutation-sym}
use Rattle.std.specs.List.{slice_get, Contains, flat_map, zip}
use mathlib.Core.Option.{some}
use lib.ListN.{get_elem?}
use Rattle.list_facts.proofs.Places.{inside, there, one_value}
use Rattle.change_log.specs.Log.{ChangeNote, Log}
use Rattle.change_log.specs.Merge.{notes_on, notes_in, IsMerge}
use Rattle.map_history.specs.Reply.{Done}
use Rattle.map_history.specs.Report.{Columns, Replied, AnswerLine, Report}
use Rattle.map_history.specs.LegalReport.{Line, Run, IsAnswered}
use Rattle.forest_law.specs.State.{ForestState}
use Rattle.index_law.specs.State.{Entries}
use Rattle.call_law.specs.Spoken.{View}
use Rattle.lane_law.specs.Runs.{RunsAll}
use Rattle.lane_law.specs.Merged.{note_at, lane_notes, all_notes, HasNotes, IsNoted, IsNumbered}
use Rattle.list_facts.proofs.Elements.{contains_get, get_contains, flat_contains, flat_from, zip_get, zip_from}
use Rattle.lane_law.proofs.PairLemmas.{flat_all_pairs}
use Rattle.lane_law.proofs.AnswerLemmas.{ok_made, ok_once, ok_lane, answered_at}
use Rattle.lane_law.proofs.CountLemmas.{AreApart, rises, numbered, as_many}
use Rattle.lane_law.proofs.CoverLemmas.{entry_told}
use Rattle.lane_law.proofs.NoteLemmas.{line_notes, lane_notes_on, logs_notes, change_ok, ok_change, line_pairs, notes_get, notes_from}

-- a change of the index i that the lane k noted
record IsNotedBy (run : Run) (report : Report) (i k : ℕ) (note : ChangeNote) : Type 0 where
  pub place : ℕ
  pub columns : Columns
  pub answered : IsAnswered run report k place note.line (Replied Done note.number columns)
  pub index : note.line.op.index ≡ i
  pub same_lane : note.lane ≡ k + 1

-- the number of a change
abbrev number : ChangeNote → ℕ
number e = e.number

module _ (run : Run) (report : Report) (w : ForestState) (v : View) (all : RunsAll run report w v) (i : ℕ) where
  -- a change that a line leaves
  line_noted : (k : ℕ) (lines : List Line) (answers : List AnswerLine) (place : ℕ) (x : Line × AnswerLine) (e : ChangeNote) → slice_get run.lanes k ≡ Some lines → slice_get report.lanes k ≡ Some answers → slice_get (zip lines answers) place ≡ Some x → Contains (line_notes i k x) e
      → (columns : Columns) × IsAnswered run report k place x.0 (Replied Done e.number columns) × (x.0.op.index ≡ i) × (note_at k x.0 e.number ≡ e)
  line_noted k lines answers place x e at at' x_at c =
      let ok = change_ok i k x.0 x.1.answer e c in
      let both = zip_from lines answers place x x_at in
      let same : ok.point ≡ e.number = ap number ok.note_is in
      (ok.columns, answered_at run report w v all k lines answers place x.0 x.1 (Replied Done e.number ok.columns) at at' both.0 both.1 (ok.answer_is ∙ ap (λ p. Replied Done p ok.columns) same), ok.index, ap (note_at k x.0) (sym same) ∙ ok.note_is)

  -- the changes of a lane's notes
  abbrev of_lane : ℕ → List Line → List AnswerLine → List ChangeNote
  of_lane k lines answers = flat_map (line_notes i k) (zip lines answers)

  lane_noted : (k : ℕ) (notes : List ChangeNote) (e : ChangeNote) → slice_get (all_notes 0 run.lanes report.lanes) k ≡ Some notes → Contains (notes_on i notes) e → IsNotedBy run report i k e
  lane_noted k notes e at c =
      let lane = notes_from k 0 run.lanes report.lanes k notes (omega arith) at in
      let c' : Contains (of_lane k lane.0 lane.1) e = subst (λ z. Contains z e) (lane_notes_on i k (zip lane.0 lane.1)) (subst (λ z. Contains (notes_on i z) e) (sym lane.4) c) in
      let x = flat_from (line_notes i k) (zip lane.0 lane.1) e c' in
      let is = line_noted k lane.0 lane.1 x.0 x.1 e lane.2 lane.3 x.2 x.3 in
      let line : x.1.0 ≡ e.line = ap (λ (z : ChangeNote). z.line) is.3 in
      record {
        place = x.0;
        columns = is.0;
        answered = subst (λ l. IsAnswered run report k x.0 l (Replied Done e.number is.0)) line is.1;
        index = ap (λ (l : Line). l.op.index) (sym line) ∙ is.2;
        same_lane = ap (λ (z : ChangeNote). z.lane) (sym is.3);
      }

  -- no two changes of a lane have one number
  lane_apart : (k : ℕ) (lines : List Line) (answers : List AnswerLine) → slice_get run.lanes k ≡ Some lines → slice_get report.lanes k ≡ Some answers → AreApart number (of_lane k lines answers)
  lane_apart k lines answers at at' = flat_all_pairs (line_notes i k) (λ (x y : ChangeNote). x.number ≢ y.number) (zip lines answers) (λ place x x_at. line_pairs (λ (x y : ChangeNote). x.number ≢ y.number) i k x.0 x.1.answer)
      (λ p q x y a b lt x_at y_at ca cb same.
      let one = line_noted k lines answers p x a at at' x_at ca in
      let two = line_noted k lines answers q y b at at' y_at cb in
      let once = ok_once run report w v all k p q x.0 y.0 a.number b.number one.0 two.0 (one.2 ∙ sym two.2) same one.1 two.1 in
      let place = once.0 in omega arith)

  module _ (logs : List Log) (noted : HasNotes run report logs) where
    notes_are : notes_in i logs ≡ flat_map (notes_on i) (all_notes 0 run.lanes report.lanes)
    notes_are = logs_notes i logs ∙ ap (flat_map (notes_on i)) noted

    -- no two changes of all logs have one number
    logs_apart : AreApart number (notes_in i logs)
    logs_apart = subst (AreApart number) (sym notes_are) (flat_all_pairs (notes_on i) (λ (x y : ChangeNote). x.number ≢ y.number) (all_notes 0 run.lanes report.lanes) within across)
      where
        within : (k : ℕ) (notes : List ChangeNote) → slice_get (all_notes 0 run.lanes report.lanes) k ≡ Some notes → AreApart number (notes_on i notes)
        within k notes at =
            let lane = notes_from k 0 run.lanes report.lanes k notes (omega arith) at in
            subst (λ z. AreApart number (notes_on i z)) lane.4 (subst (AreApart number) (sym (lane_notes_on i k (zip lane.0 lane.1))) (lane_apart k lane.0 lane.1 lane.2 lane.3))

        across : (j k : ℕ) (x y : List ChangeNote) (a b : ChangeNote) → j < k → slice_get (all_notes 0 run.lanes report.lanes) j ≡ Some x → slice_get (all_notes 0 run.lanes report.lanes) k ≡ Some y → Contains (notes_on i x) a → Contains (notes_on i y) b → a.number ≢ b.number
        across j k x y a b lt x_at y_at ca cb same =
            let one = lane_noted j x a x_at ca in
            let two = lane_noted k y b y_at cb in
            let lane = ok_lane run report w v all j k one.place two.place a.line b.line a.number b.number one.columns two.columns (one.index ∙ sym two.index) same one.answered two.answered in
            omega arith

    -- a change of the logs was noted of a line that was answered `ok`
    noted_from : (e : ChangeNote) → Contains (notes_in i logs) e → IsNoted run report i e
    noted_from e c =
        let at = flat_from (notes_on i) (all_notes 0 run.lanes report.lanes) e (subst (λ z. Contains z e) notes_are c) in
        let by = lane_noted at.0 at.1 e at.2 at.3 in
        let made = ok_made run report w v all at.0 by.place e.line e.number by.columns by.answered in
        record {
          lane = at.0;
          place = by.place;
          change = made.deed.change;
          columns = by.columns;
          answered = by.answered;
          same_lane = by.same_lane;
          same_op = λ j. record { index = by.index j; ask = made.asked j };
        }

    -- and each such line was noted
    ok_noted : (lane place : ℕ) (line : Line) (point : ℕ) (columns : Columns) → line.op.index ≡ i → IsAnswered run report lane place line (Replied Done point columns) → Contains (notes_in i logs) (note_at lane line point)
    ok_noted lane place line point columns index a =
        let lines = a.line_there.0 in
        let answers = a.answer_there.0 in
        let e = note_at lane line point in
        let told : AnswerLine = record { line = line.line; answer = Replied Done point columns } in
        let in_lane = flat_contains (line_notes i lane) (zip lines answers) place (line, told) e (zip_get lines answers place line told a.line_there.2 a.answer_there.2) (ok_change i lane line point columns index) in
        let in_notes = subst (λ z. Contains z e) (sym (lane_notes_on i lane (zip lines answers))) in_lane in
        subst (λ z. Contains z e) (sym notes_are) (flat_contains (notes_on i) (all_notes 0 run.lanes report.lanes) lane (lane_notes lane lines answers) e (notes_get lane 0 run.lanes report.lanes lane lines answers (omega arith) a.line_there.1 a.answer_there.1) in_notes)

    module _ (xs : Entries) (at : get_elem? w.lists i ≡ some xs) (merged : List ChangeNote) (merge : IsMerge i logs merged) where
      merged_noted : (n : ℕ) (e : ChangeNote) → slice_get merged n ≡ Some e → IsNoted run report i e
      merged_noted n e e_at = noted_from e (Contains-permutation merged (notes_in i logs) e (IsPermutation-sym (notes_in i logs) merged merge.same) (contains_get merged n e e_at))

      ascend : (m n : ℕ) (x y : ChangeNote) → m < n → slice_get merged m ≡ Some x → slice_get merged n ≡ Some y → x.number < y.number
      ascend = rises number (notes_in i logs) merged logs_apart merge.same merge.ascending

      within : (n : ℕ) (e : ChangeNote) → slice_get merged n ≡ Some e → (0 < e.number) × (e.number ≤ length xs)
      within n e e_at =
          let is = merged_noted n e e_at in
          let made = ok_made run report w v all is.lane is.place e.line e.number is.columns is.answered in
          let above = made.above in
          let list : made.entry.0 ≡ xs = one_value w.lists i made.entry.0 xs (ap (λ o. get_elem? w.lists o.index) (sym is.same_op) ∙ made.entry.1) at in
          let room = inside made.entry.0 (e.number - 1) (record { change = made.deed; by = is.lane }) made.entry.2 in
          (above, omega (arith, above, room, ap length list))

      cover : (n : ℕ) → n < length xs → (m : ℕ) × (e : ChangeNote) × (slice_get merged m ≡ Some e) × (e.number ≡ n + 1)
      cover n below =
          let d = there xs n below in
          let told = entry_told run report w v all i n xs d.0 at d.1 in
          let e = note_at told.lane told.line (n + 1) in
          let place = get_contains merged e (Contains-permutation (notes_in i logs) merged e merge.same (ok_noted told.lane told.place told.line (n + 1) told.columns told.index told.answered)) in
          (place.0, e, place.1, refl)

      -- the merged changes are the list, change by change
      pub are_lists : IsNumbered run report i xs merged
      are_lists = record { long = as_many number merged (length xs) ascend within cover; numbers = numbered number merged (length xs) ascend within cover; noted = merged_noted }
