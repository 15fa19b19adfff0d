-- A run with pages enough finds one for each row.
use Rattle.std.proofs.Common.{◌≡◌, ℕ, suc, ◌+◌, ◌<◌, false, Some, List, [], ◌∷◌, refl}
use Rattle.std.specs.List.{slice_get, AllByRecursion, AllZip}
use Rattle.map_history.specs.LegalReport.{Line, Answers, HasNoSpaceFull, is_space_full}
use Rattle.map_history.specs.Report.{Columns, Answer, Replied, LogFull, SpaceFull, Scanned, AnswerLine}
use Rattle.report_laws.proofs.SpaceFullLemmas.{no_space_full}
use Rattle.report_laws.specs.FullLaws.{enough_pages}
use Rattle.script.specs.Schema.{SchemaText}
use Rattle.ahi_cli.specs.Run.{run_over, IsReportOf}

-- the answer is one, or there is none
not_space_full : (answer : Answer) → ((columns : Columns) → answer ≡ SpaceFull columns → ⊥) → is_space_full answer ≡ false
not_space_full (Replied reply point columns) none = refl
not_space_full (LogFull n columns) none = refl
not_space_full (SpaceFull columns) none = absurd (none columns refl)
not_space_full (Scanned pieces) none = refl

-- of the lines of a lane none is answered so
none_in_lane : (lines : List Line) (answers : List AnswerLine) → AllZip Answers lines answers
    → ((place : ℕ) (line : Line) (columns : Columns) → slice_get lines place ≡ Some line → slice_get answers place ≡ Some (record { line = line.line; answer = SpaceFull columns }) → ⊥)
    → AllByRecursion (λ (a : AnswerLine). is_space_full a.answer ≡ false) answers
none_in_lane lines [] all none = tt
none_in_lane [] (a ∷ answers) all none = absurd all
none_in_lane (l ∷ lines) (a ∷ answers) all none = (
  not_space_full a.answer (λ columns is. none 0 l columns refl (λ i. Some (record { line = all.0.same_line i; answer = is i }))),
  none_in_lane lines answers all.1 (λ place. none (suc place)),
)

-- nor of those of any lane
none_in_lanes : (lanes : List (List Line)) (told : List (List AnswerLine)) → AllZip (AllZip Answers) lanes told
    → ((lane place : ℕ) (lines : List Line) (answers : List AnswerLine) (line : Line) (columns : Columns) → slice_get lanes lane ≡ Some lines → slice_get told lane ≡ Some answers → slice_get lines place ≡ Some line
    → slice_get answers place ≡ Some (record { line = line.line; answer = SpaceFull columns }) → ⊥)
    → AllByRecursion (AllByRecursion (λ (a : AnswerLine). is_space_full a.answer ≡ false)) told
none_in_lanes lanes [] all none = tt
none_in_lanes [] (answers ∷ told) all none = absurd all
none_in_lanes (lines ∷ lanes) (answers ∷ told) all none = (
  none_in_lane lines answers all.0 (λ place line columns at at'. none 0 place lines answers line columns refl refl at at'),
  none_in_lanes lanes told all.1 (λ lane. none (suc lane)),
)

pub finds_pages : (schema : SchemaText) (lanes : List (List Line)) (bytes : List ℕ) → (told : IsReportOf schema lanes bytes) → enough_pages (run_over schema lanes) < schema.sizes.pages + 2 → HasNoSpaceFull told.report
finds_pages schema lanes bytes told enough =
    let report = told.report in
    none_in_lanes lanes report.lanes told.legal.but_room.form.lanes (λ lane place lines answers line columns lines_at answers_at at at'.
    no_space_full (run_over schema lanes) report told.legal enough lane place line columns (record { line_there = (lines, lines_at, at); answer_there = (answers, answers_at, at') }))
