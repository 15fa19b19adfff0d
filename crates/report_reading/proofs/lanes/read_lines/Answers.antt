-- One answer more, or none that can stand.
use Rattle.std.proofs.Common.{◌≡◌, ℕ, ◌+◌, List, [], ◌∷◌, ◌++◌, drop, Ok, sym, subst, ap}
use Rattle.std.proofs.lemmas.Result.{err_from_is_err_and}
use Rattle.std.proofs.lemmas.List.{map_push}
use Rattle.line_forms.specs.LineForms.{read_as}
use Rattle.map_history.specs.Lines.{line_text, line_texts}
use Rattle.map_history.specs.Operation.{operation_of}
use Rattle.map_history.specs.Report.{AnswerLine}
use Rattle.report_forms.specs.Lists.{read_each}
use Rattle.report_forms.specs.Reports.{read_asked, read_told}
use Rattle.report_reading.specs.Reads.{Stops}
use Rattle.report_reading.specs.Told.{line_seen, lines_seen, answer_to}
use Rattle.report_reading.proofs.LoopLemmas.{joined, each_goes_on, each_stops, item_next}
use Rattle.report_reading.proofs.lanes.read_lines.Goals as goal

pub returns-in_err-answer : goal.returns-in_err-answer
returns-in_err-answer c =
    let p = err_from_is_err_and c.from_residual.result c.from_residual.ensures.1 in
    let place = c.loop-place.place in
    let line = c.index-lines-place.result in
    let told = subst (λ (count : ℕ). Stops c.in_err-answer.field-0.0 c.read_told.new.text (read_as (answer_to line.line) (read_asked count line.line (operation_of line.op).ask c.loop-place.text))) c.fields_of-count.ensures.count c.in_err-answer.ensures in
    rw (p.1, p.2) (each_stops (read_told c.args.fields.now) (lines_seen c.loop-place.told) (line_texts (drop place c.args.lines.now)) (line_texts (drop (place + 1) c.args.lines.now)) (line_text line) c.loop-place.text c.read_told.new.text c.in_err-answer.field-0.0 _
    (ap line_texts (item_next c.args.lines.now place line c.loop-place-test.true c.index-lines-place.is)) told c.loop-place.invariant)

pub loop-place-preserved : goal.loop-place-preserved
loop-place-preserved c =
    let place = c.loop-place.place in
    let line = c.index-lines-place.result in
    let answer = line_seen c.in_ok-answer.answer in
    let told = subst (λ (count : ℕ). read_as (answer_to line.line) (read_asked count line.line (operation_of line.op).ask c.loop-place.text) ≡ Ok (answer, c.read_told.new.text)) c.fields_of-count.ensures.count c.in_ok-answer.ensures in
    let more = each_goes_on (read_told c.args.fields.now) (lines_seen c.loop-place.told) (line_texts (drop place c.args.lines.now)) (line_texts (drop (place + 1) c.args.lines.now)) (line_text line) c.loop-place.text c.read_told.new.text answer _
    (ap line_texts (item_next c.args.lines.now place line c.loop-place-test.true c.index-lines-place.is)) told c.loop-place.invariant in
    let grown : lines_seen c.push.new.self ≡ lines_seen c.loop-place.told ++ answer ∷ [] = rw c.in_ok-push.ensures.items (map_push _ c.loop-place.told.items c.in_ok-answer.answer) in
    subst (λ (front : List AnswerLine). joined front (read_each (read_told c.args.fields.now) (line_texts (drop (place + 1) c.args.lines.now)) c.read_told.new.text) ≡ read_each (read_told c.args.fields.now) (line_texts c.args.lines.now) c.args.text.now) (sym grown) more
