use Rattle.std.proofs.Common.{◌<◌, ◌≤◌, length, map, arith}
use Rattle.std.specs.List.{zip}
use Rattle.std.specs.String.{string_bytes}
use Rattle.std.proofs.lemmas.List.{length-map}
use Rattle.std.proofs.lemmas.Slice.Zip.{length-zip}
use Rattle.std.proofs.lemmas.Option.{slice_get-get_or}
use Rattle.std.proofs.lemmas.Result.{err_from_is_err_and}
use Rattle.list_facts.proofs.Elements.{zip_get}
use Rattle.report_print.specs.Texts.{index_stats}
use Rattle.report_print.proofs.LoopLemmas.{one_more, no_more, all_put}
use Rattle.report_print.proofs.PlaceLemmas.{name_there}
use Rattle.report_print.proofs.statistics.put_statistics.Goals as goal

pub returns-in_err-put_stats : goal.returns-in_err-put_stats
returns-in_err-put_stats g c =
    let p = err_from_is_err_and c.from_residual.result c.from_residual.ensures.1 in
    let names = map string_bytes c.args.names.now in
    let below : c.loop-i.i < length c.args.counts.now = omega (arith, c.requires, c.loop-i-test.true) in
    let name = name_there c.args.names.now c.loop-i.i c.index-names-i.result c.as_str.result.now c.loop-i-test.true c.index-names-i.is c.as_str.ensures.value in
    let counts = slice_get-get_or c.args.counts.now c.loop-i.i _ below in
    rw (p.1, p.2) (no_more index_stats g.K.Sink _ _ _ (zip names c.args.counts.now) c.loop-i.i _ c.in_err-put_stats.field-0.0 (zip_get names c.args.counts.now c.loop-i.i _ _ name counts) c.loop-i.invariant c.in_err-put_stats.ensures)

pub loop-i-preserved : goal.loop-i-preserved
loop-i-preserved g c =
    let names = map string_bytes c.args.names.now in
    let below : c.loop-i.i < length c.args.counts.now = omega (arith, c.requires, c.loop-i-test.true) in
    let name = name_there c.args.names.now c.loop-i.i c.index-names-i.result c.as_str.result.now c.loop-i-test.true c.index-names-i.is c.as_str.ensures.value in
    let counts = slice_get-get_or c.args.counts.now c.loop-i.i _ below in
    one_more index_stats g.K.Sink _ _ _ (zip names c.args.counts.now) c.loop-i.i _ (zip_get names c.args.counts.now c.loop-i.i _ _ name counts) c.loop-i.invariant c.in_ok-put_stats.ensures

pub returns : goal.returns
returns g c =
    let names = map string_bytes c.args.names.now in
    let past : length (zip names c.args.counts.now) ≤ c.loop-i.i = omega (arith, length-zip names c.args.counts.now, length-map c.args.names.now string_bytes, c.loop-i-test.false) in
    all_put index_stats g.K.Sink _ _ (zip names c.args.counts.now) c.loop-i.i past c.loop-i.invariant
