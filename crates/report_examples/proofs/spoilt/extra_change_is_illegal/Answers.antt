use Rattle.std.proofs.Common.{◌≡◌, ℕ, zero, suc, refl, ap, ◌∙◌, arith}
use Rattle.std.specs.List.{slice_get}
use Rattle.map_history.specs.declared.sizes.Sizes.{Sizes}
use Rattle.map_history.specs.Map.{Put}
use Rattle.map_history.specs.Reply.{Done}
use Rattle.map_history.specs.Report.{Columns, Answer, Replied, LogFull, SpaceFull, Scanned}
use Rattle.map_history.specs.LegalReport.{Line, IsAnswered}
use Rattle.report_examples.specs.Samples.{one_lane_run, one_lane_report, row_life, row_life_told, made, a_key, value_x}
use Rattle.report_examples.specs.Spoilt.{extra_change}
use Rattle.report_examples.proofs.EachPlace.{each_answer}
use Rattle.report_examples.proofs.spoilt.extra_change_is_illegal.Goals as goal

-- the point of a reply
abbrev point_of : Answer → ℕ
point_of (Replied reply point columns) = point
point_of (LogFull n columns) = 0
point_of (SpaceFull columns) = 0
point_of (Scanned pieces) = 0

-- no line is told the third point
not_told : (sizes : Sizes) (lane place : ℕ) (line : Line) (columns : Columns) → IsAnswered (one_lane_run sizes row_life) (one_lane_report row_life_told extra_change) lane place line (Replied Done 3 columns) → ⊥
not_told sizes zero place line columns h =
    let these : row_life ≡ h.line_there.0 = cc (h.line_there.1) in
    let those : row_life_told ≡ h.answer_there.0 = cc (h.answer_there.1) in
    each_answer (λ l r. point_of r ≡ 3 → ⊥) row_life row_life_told ((λ e. omega arith), ((λ e. omega arith), ((λ e. omega arith), ((λ e. omega arith), tt)))) place line (record { line = line.line; answer = Replied Done 3 columns })
    (ap (λ ls. slice_get ls place) these ∙ h.line_there.2) (ap (λ rs. slice_get rs place) those ∙ h.answer_there.2) refl
not_told sizes (suc lane) place line columns h = cc (h.line_there.1)

pub returns : goal.returns
returns c = λ sizes legal.
    let named = legal.changes.named 0 2 (made 3 (Put a_key value_x)) refl in
    not_told sizes named.lane named.place named.line named.columns named.answered
