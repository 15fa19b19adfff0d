-- What the lanes noted, change by change.
use Rattle.std.proofs.Common.{◌≡◌, ℕ, zero, suc, ◌+◌, Bool, true, false, cond, eqb, Some, List, [], ◌∷◌, ◌++◌, map, refl, ap, sym, ◌∙◌, subst, arith}
use Rattle.std.proofs.lemmas.Bool.Decides.{nat_tests}
use Rattle.std.proofs.lemmas.List.Elements.{filter-append}
use Rattle.std.specs.List.{slice_get, AllPairs, Contains, flat_map}
use Rattle.list_facts.proofs.Places.{same_some}
use Rattle.change_log.specs.Log.{ChangeNote, Log}
use Rattle.change_log.specs.Merge.{notes_on, notes_in}
use Rattle.map_history.specs.Reply.{Value, Row, Done, Absent, Duplicate}
use Rattle.map_history.specs.Report.{Columns, Answer, Replied, LogFull, SpaceFull, Scanned, AnswerLine}
use Rattle.map_history.specs.LegalReport.{Line}
use Rattle.lane_law.specs.Merged.{note_at, notes_of, lane_notes, all_notes}
use Rattle.list_facts.proofs.Elements.{contains_none, contains_one, contains_head}
use Rattle.lane_law.proofs.PairLemmas.{all_pairs_none, all_pairs_one}

-- the changes of the index i that a line leaves
abbrev pub line_notes : ℕ → ℕ → Line × AnswerLine → List ChangeNote
line_notes i k x = notes_on i (notes_of k x.0 x.1.answer)

-- those of a lane are those of its lines
pub lane_notes_on : (i k : ℕ) (xs : List (Line × AnswerLine)) → notes_on i (flat_map (λ (x : Line × AnswerLine). notes_of k x.0 x.1.answer) xs) ≡ flat_map (line_notes i k) xs
lane_notes_on i k [] = refl
lane_notes_on i k (x ∷ xs) = filter-append (λ (c : ChangeNote). eqb c.line.op.index i) (notes_of k x.0 x.1.answer) (flat_map (λ (x : Line × AnswerLine). notes_of k x.0 x.1.answer) xs) ∙ ap (λ es. line_notes i k x ++ es) (lane_notes_on i k xs)

-- and those of all logs are those of all lanes
pub logs_notes : (i : ℕ) (logs : List Log) → notes_in i logs ≡ flat_map (notes_on i) (map (λ (log : Log). log.noted) logs)
logs_notes i [] = refl
logs_notes i (log ∷ logs) = ap (λ es. notes_on i log.noted ++ es) (logs_notes i logs)

-- a line that leaves a change was answered `ok`
pub record IsOk (i k : ℕ) (line : Line) (answer : Answer) (e : ChangeNote) : Type 0 where
  pub point : ℕ
  pub columns : Columns
  pub answer_is : answer ≡ Replied Done point columns
  pub index : line.op.index ≡ i
  pub note_is : note_at k line point ≡ e

one_change : (i k : ℕ) (line : Line) (point : ℕ) (b : Bool) (e : ChangeNote) → Contains (cond b (note_at k line point ∷ []) []) e → (b ≡ true) × (note_at k line point ≡ e)
one_change i k line point true e c = (refl, contains_one (note_at k line point) e c)
one_change i k line point false e c = absurd (contains_none e c)

pub change_ok : (i k : ℕ) (line : Line) (answer : Answer) (e : ChangeNote) → Contains (notes_on i (notes_of k line answer)) e → IsOk i k line answer e
change_ok i k line (Replied (Value v) point columns) e c = absurd (contains_none e c)
change_ok i k line (Replied (Row key v) point columns) e c = absurd (contains_none e c)
change_ok i k line (Replied Done point columns) e c =
    let h = one_change i k line point (eqb line.op.index i) e c in
    let yes = h.0 in
    let index : line.op.index ≡ i = grind (arith, nat_tests) in
    record { point = point; columns = columns; answer_is = refl; index = index; note_is = h.1 }
change_ok i k line (Replied Absent point columns) e c = absurd (contains_none e c)
change_ok i k line (Replied Duplicate point columns) e c = absurd (contains_none e c)
change_ok i k line (LogFull n columns) e c = absurd (contains_none e c)
change_ok i k line (SpaceFull columns) e c = absurd (contains_none e c)
change_ok i k line (Scanned pieces) e c = absurd (contains_none e c)

pub ok_change : (i k : ℕ) (line : Line) (point : ℕ) (columns : Columns) → line.op.index ≡ i → Contains (notes_on i (notes_of k line (Replied Done point columns))) (note_at k line point)
ok_change i k line point columns index =
    let yes : eqb line.op.index i ≡ true = grind (arith, nat_tests) in
    subst (λ b. Contains (cond b (note_at k line point ∷ []) []) (note_at k line point)) (sym yes) (contains_head (note_at k line point) [])

-- a line leaves one change at most
one_pair : (R : ChangeNote → ChangeNote → Type 0) (k : ℕ) (line : Line) (point : ℕ) (b : Bool) → AllPairs R (cond b (note_at k line point ∷ []) [])
one_pair R k line point true = all_pairs_one R (note_at k line point)
one_pair R k line point false = all_pairs_none R

pub line_pairs : (R : ChangeNote → ChangeNote → Type 0) (i k : ℕ) (line : Line) (answer : Answer) → AllPairs R (notes_on i (notes_of k line answer))
line_pairs R i k line (Replied (Value v) point columns) = all_pairs_none R
line_pairs R i k line (Replied (Row key v) point columns) = all_pairs_none R
line_pairs R i k line (Replied Done point columns) = one_pair R k line point (eqb line.op.index i)
line_pairs R i k line (Replied Absent point columns) = all_pairs_none R
line_pairs R i k line (Replied Duplicate point columns) = all_pairs_none R
line_pairs R i k line (LogFull n columns) = all_pairs_none R
line_pairs R i k line (SpaceFull columns) = all_pairs_none R
line_pairs R i k line (Scanned pieces) = all_pairs_none R

-- the notes at a place are those of that lane
pub notes_get : (m n : ℕ) (lanes : List (List Line)) (told : List (List AnswerLine)) (k : ℕ) (lines : List Line) (answers : List AnswerLine) → m ≡ n + k → slice_get lanes k ≡ Some lines → slice_get told k ≡ Some answers → slice_get (all_notes n lanes told) k ≡ Some (lane_notes m lines answers)
notes_get m n [] told k lines answers by e f = absurd cc
notes_get m n (x ∷ lanes) [] k lines answers by e f = absurd cc
notes_get m n (x ∷ lanes) (y ∷ told) zero lines answers by e f = λ i. Some (lane_notes (at i) (same_some x lines e i) (same_some y answers f i))
  where
    at : n ≡ m
    at = omega arith
notes_get m n (x ∷ lanes) (y ∷ told) (suc k) lines answers by e f = notes_get m (n + 1) lanes told k lines answers (omega arith) e f

pub notes_from : (m n : ℕ) (lanes : List (List Line)) (told : List (List AnswerLine)) (k : ℕ) (notes : List ChangeNote) → m ≡ n + k → slice_get (all_notes n lanes told) k ≡ Some notes
    → (lines : List Line) × (answers : List AnswerLine) × (slice_get lanes k ≡ Some lines) × (slice_get told k ≡ Some answers) × (lane_notes m lines answers ≡ notes)
notes_from m n [] told k notes by e = absurd cc
notes_from m n (x ∷ lanes) [] k notes by e = absurd cc
notes_from m n (x ∷ lanes) (y ∷ told) zero notes by e = (x, y, refl, refl, ap (λ z. lane_notes z x y) at ∙ same_some (lane_notes n x y) notes e)
  where
    at : m ≡ n
    at = omega arith
notes_from m n (x ∷ lanes) (y ∷ told) (suc k) notes by e = notes_from m (n + 1) lanes told k notes (omega arith) e
