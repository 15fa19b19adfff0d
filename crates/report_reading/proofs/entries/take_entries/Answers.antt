-- One entry more, or none that can stand.
use Rattle.std.proofs.Common.{◌≡◌, ◌+◌, ◌-◌, List, [], ◌∷◌, ◌++◌, sym, subst}
use Rattle.std.proofs.lemmas.Result.{err_from_is_err_and}
use Rattle.std.proofs.lemmas.List.{map_push}
use Rattle.map_history.specs.Report.{ChangeLine}
use Rattle.report_forms.specs.Entries.{read_entry}
use Rattle.report_forms.specs.Lists.{read_each, numbers_from}
use Rattle.report_reading.specs.Entries.{entry_seen, entries_seen}
use Rattle.report_reading.proofs.LoopLemmas.{joined, each_goes_on, each_stops, number_more}
use Rattle.report_reading.proofs.entries.take_entries.Goals as goal

pub returns-in_err-entry : goal.returns-in_err-entry
returns-in_err-entry c =
    let p = err_from_is_err_and c.from_residual.result c.from_residual.ensures.1 in
    let done = c.loop-done.done in
    let count = c.args.count in
    rw (p.1, p.2) (each_stops (read_entry c.args.fields) (entries_seen c.loop-done.entries) (numbers_from (done + 1) (count - done)) (numbers_from (done + 1 + 1) (count - (done + 1))) (done + 1) c.loop-done.text c.read_kind.new.text c.in_err-entry.field-0.0 _
    (number_more (done + 1) count done c.loop-done-test.true) c.in_err-entry.ensures c.loop-done.invariant)

pub loop-done-preserved : goal.loop-done-preserved
loop-done-preserved c =
    let done = c.loop-done.done in
    let count = c.args.count in
    let entry = entry_seen c.in_ok-entry.entry in
    let more = each_goes_on (read_entry c.args.fields) (entries_seen c.loop-done.entries) (numbers_from (done + 1) (count - done)) (numbers_from (done + 1 + 1) (count - (done + 1))) (done + 1) c.loop-done.text c.read_kind.new.text entry _
    (number_more (done + 1) count done c.loop-done-test.true) c.in_ok-entry.ensures c.loop-done.invariant in
    let grown : entries_seen c.push.new.self ≡ entries_seen c.loop-done.entries ++ entry ∷ [] = rw c.in_ok-push.ensures.items (map_push _ c.loop-done.entries.items c.in_ok-entry.entry) in
    subst (λ (front : List ChangeLine). joined front (read_each (read_entry c.args.fields) (numbers_from (done + 1 + 1) (count - (done + 1))) c.read_kind.new.text) ≡ read_each (read_entry c.args.fields) (numbers_from 1 count) c.args.text.now) (sym grown) more
