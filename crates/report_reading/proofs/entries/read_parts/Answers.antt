-- One part more, or none that can stand.
use Rattle.std.proofs.Common.{◌≡◌, ◌+◌, List, [], ◌∷◌, ◌++◌, drop, map, sym, subst}
use Rattle.std.proofs.lemmas.Result.{err_from_is_err_and}
use Rattle.std.proofs.lemmas.List.{map_push}
use Rattle.std.specs.List.{zip}
use Rattle.std.specs.String.{string_bytes}
use Rattle.map_history.specs.Report.{ChangeLine}
use Rattle.report_forms.specs.Lists.{read_each}
use Rattle.report_reading.specs.Entries.{entries_seen, read_part}
use Rattle.report_reading.proofs.LoopLemmas.{joined, each_goes_on, each_stops, part_next}
use Rattle.report_reading.proofs.entries.read_parts.Goals as goal

pub returns-in_err-part : goal.returns-in_err-part
returns-in_err-part c =
    let p = err_from_is_err_and c.from_residual.result c.from_residual.ensures.1 in
    let i = c.loop-index.index in
    let next = part_next c.args.names.now c.args.fields.now i c.index-names-index.result c.as_str.result.now c.loop-index-test.true c.requires.paired c.index-names-index.is c.as_str.ensures.value in
    rw (p.1, p.2) (each_stops read_part (map entries_seen c.loop-index.parts.items) (zip (map string_bytes (drop i c.args.names.now)) (drop i c.args.fields.now)) _ _ c.loop-index.text c.read_entries.new.text c.in_err-part.field-0.0 _
    next c.in_err-part.ensures c.loop-index.invariant)

pub loop-index-preserved : goal.loop-index-preserved
loop-index-preserved c =
    let i = c.loop-index.index in
    let part = entries_seen c.in_ok-part.part in
    let next = part_next c.args.names.now c.args.fields.now i c.index-names-index.result c.as_str.result.now c.loop-index-test.true c.requires.paired c.index-names-index.is c.as_str.ensures.value in
    let more = each_goes_on read_part (map entries_seen c.loop-index.parts.items) (zip (map string_bytes (drop i c.args.names.now)) (drop i c.args.fields.now)) _ _ c.loop-index.text c.read_entries.new.text part _
    next c.in_ok-part.ensures c.loop-index.invariant in
    let grown : map entries_seen c.push.new.self.items ≡ map entries_seen c.loop-index.parts.items ++ part ∷ [] = rw c.in_ok-push.ensures.items (map_push _ c.loop-index.parts.items c.in_ok-part.part) in
    subst (λ (front : List (List ChangeLine)). joined front (read_each read_part (zip (map string_bytes (drop (i + 1) c.args.names.now)) (drop (i + 1) c.args.fields.now)) c.read_entries.new.text)
    ≡ read_each read_part (zip (map string_bytes c.args.names.now) c.args.fields.now) c.args.text.now) (sym grown) more
