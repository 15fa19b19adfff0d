-- One row more, or none that can stand.
use Rattle.std.proofs.Common.{◌≡◌, ℕ, ◌+◌, ◌-◌, List, [], ◌∷◌, ◌++◌, sym, subst, ap, ◌∙◌}
use Rattle.std.proofs.lemmas.Result.{err_from_is_err_and}
use Rattle.map_history.specs.Map.{Map}
use Rattle.map_history.specs.Rows.{row_from}
use Rattle.report_forms.specs.Lists.{read_each, numbers_from}
use Rattle.report_forms.specs.Scans.{read_row}
use Rattle.report_reading.specs.Rows.{row_seen}
use Rattle.report_reading.proofs.LoopLemmas.{joined, each_goes_on, each_stops, number_more}
use Rattle.report_reading.proofs.pieces.read_rows.Goals as goal

pub returns-in_err-key : goal.returns-in_err-key
returns-in_err-key c =
    let p = err_from_is_err_and c.from_residual.result c.from_residual.ensures.1 in
    let n = c.loop.counter in
    let count = c.args.count in
    rw (p.1, p.2) (each_stops (λ (k : ℕ). read_row c.args.fields) c.loop.rows (numbers_from n (count - n)) (numbers_from (n + 1) (count - (n + 1))) n c.loop.text c.read_kind.new.text c.in_err-key.field-0.0 _
    (number_more n count n c.loop-test.true) c.in_err-key.ensures c.loop.invariant)

pub loop-preserved : goal.loop-preserved
loop-preserved c =
    let n = c.loop.counter in
    let count = c.args.count in
    let key = c.in_ok-key.key.tuple in
    let is : c.push.new.self ≡ c.loop.rows ++ row_seen (c.in_ok-key.key, c.in_ok-key.value) ∷ [] =
    c.in_ok-push.ensures.ok ∙ ap (λ (v : List ℕ). c.loop.rows ++ row_from key v ∷ []) c.as_bytes.ensures.bytes in
    let more = each_goes_on (λ (k : ℕ). read_row c.args.fields) c.loop.rows (numbers_from n (count - n)) (numbers_from (n + 1) (count - (n + 1))) n c.loop.text c.read_kind.new.text (row_seen (c.in_ok-key.key, c.in_ok-key.value)) _
    (number_more n count n c.loop-test.true) c.in_ok-key.ensures c.loop.invariant in
    subst (λ (rows : Map). joined rows (read_each (λ (k : ℕ). read_row c.args.fields) (numbers_from (n + 1) (count - (n + 1))) c.read_kind.new.text)
    ≡ read_each (λ (k : ℕ). read_row c.args.fields) (numbers_from 0 count) c.args.text.now) (sym is) more
