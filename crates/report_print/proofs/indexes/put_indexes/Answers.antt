use Rattle.std.proofs.Common.{◌<◌, ◌≤◌, length, map, arith}
use Rattle.std.specs.List.{zip}
use Rattle.std.specs.String.{string_bytes}
use Rattle.std.proofs.lemmas.List.{length-map}
use Rattle.std.proofs.lemmas.Slice.Zip.{length-zip}
use Rattle.std.proofs.lemmas.Result.{err_from_is_err_and}
use Rattle.list_facts.proofs.Elements.{zip_get}
use Rattle.change_log.specs.Log.{note_of}
use Rattle.change_log.specs.Merge.{note_lists}
use Rattle.report_print.specs.Texts.{index_text}
use Rattle.report_print.proofs.LoopLemmas.{one_more, no_more, all_put}
use Rattle.report_print.proofs.PlaceLemmas.{name_there, list_there}
use Rattle.report_print.proofs.indexes.put_indexes.Goals as goal

pub returns-in_err-put_index : goal.returns-in_err-put_index
returns-in_err-put_index g c =
    let p = err_from_is_err_and c.from_residual.result c.from_residual.ensures.1 in
    let names = map string_bytes c.args.names.now in
    let lists = note_lists c.args.changes.now in
    let below : c.loop-i.i < length c.args.changes.now = omega (arith, c.requires, c.loop-i-test.true) in
    let name = name_there c.args.names.now c.loop-i.i c.index-names-i.result c.as_str.result.now c.loop-i-test.true c.index-names-i.is c.as_str.ensures.value in
    let list = list_there c.args.changes.now c.loop-i.i c.index-changes-i.result c.deref.result.now below c.index-changes-i.is c.deref.ensures.value in
    rw (p.1, p.2) (no_more index_text g.K.Sink _ _ _ (zip names lists) c.loop-i.i (c.as_str.result.now, map note_of c.deref.result.now) c.in_err-put_index.field-0.0 (zip_get names lists c.loop-i.i _ _ name list) c.loop-i.invariant c.in_err-put_index.ensures)

pub loop-i-preserved : goal.loop-i-preserved
loop-i-preserved g c =
    let names = map string_bytes c.args.names.now in
    let lists = note_lists c.args.changes.now in
    let below : c.loop-i.i < length c.args.changes.now = omega (arith, c.requires, c.loop-i-test.true) in
    let name = name_there c.args.names.now c.loop-i.i c.index-names-i.result c.as_str.result.now c.loop-i-test.true c.index-names-i.is c.as_str.ensures.value in
    let list = list_there c.args.changes.now c.loop-i.i c.index-changes-i.result c.deref.result.now below c.index-changes-i.is c.deref.ensures.value in
    one_more index_text g.K.Sink _ _ _ (zip names lists) c.loop-i.i (c.as_str.result.now, map note_of c.deref.result.now) (zip_get names lists c.loop-i.i _ _ name list) c.loop-i.invariant c.in_ok-put_index.ensures

pub returns : goal.returns
returns g c =
    let names = map string_bytes c.args.names.now in
    let lists = note_lists c.args.changes.now in
    let past : length (zip names lists) ≤ c.loop-i.i = omega (arith, length-zip names lists, length-map c.args.names.now string_bytes, c.loop-i-test.false) in
    all_put index_text g.K.Sink _ _ (zip names lists) c.loop-i.i past c.loop-i.invariant
