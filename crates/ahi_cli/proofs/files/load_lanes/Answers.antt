use Rattle.std.proofs.Common.{◌+◌, ◌≤◌, [], ◌∷◌, ap, length, length-append, map, take, ◌∙◌, subst, arith}
use Rattle.std.proofs.lemmas.List.{length-map, take_all}
use Rattle.std.proofs.lemmas.Result.{err_from_is_err_and}
use Rattle.std.specs.String.{string_bytes}
use Rattle.script.specs.Views.{schema_text}
use Rattle.lane_threads.specs.Together.{lane_texts}
use Rattle.lane_law.specs.Lines.{AreLinesOf}
use Rattle.ahi_cli.specs.Files.{failures_of, StopsFile, SpellsLanes}
use Rattle.ahi_cli.specs.Stops.{lane_stop}
use Rattle.ahi_cli.specs.Words.{names_of}
use Rattle.ahi_cli.proofs.FileLemmas.{unread_lane}
use Rattle.ahi_cli.proofs.FirstLemmas.{spells_lanes}
use Rattle.ahi_cli.proofs.LaneLemmas.{all_more, keeps_files_on, name_at, lane_is_named, spelled_more}
use Rattle.ahi_cli.proofs.files.load_lanes.Goals as goal

pub returns-in_err-lines-clause-err : goal.returns-in_err-lines-clause-err
returns-in_err-lines-clause-err g c =
    let names = names_of c.args.command.now in
    let schema = schema_text c.args.schema.now in
    let p = err_from_is_err_and c.from_residual.result c.from_residual.ensures.1 in
    let below = lane_is_named c.args.command.now.lanes.now c.loop-i.i c.loop-i-test.true in
    let named = name_at c.args.command.now.lanes.now c.loop-i.i c.name-item.result c.as_str.result.now c.loop-i-test.true c.name-item.is c.as_str.ensures.value in
    let stopped = subst (λ name. StopsFile (g.F.Shelf.holds c.loop-i.shelf) (failures_of g.F.Shelf c.loop-i.shelf c.load_lane.new.shelf) (c.loop-i.i + 1) name (lane_stop (c.loop-i.i + 1) c.loop-i.size schema) c.in_err-lines.field-0.0) named c.in_err-lines.ensures.err in
    rw (p.1, p.2) (unread_lane (g.F.Shelf.holds c.args.shelf.now) names schema c.args.before c.loop-i.i c.loop-i.size (lane_texts c.loop-i.lanes.items) below c.requires.spelled c.loop-i.invariant.spelled (g.F.Shelf.holds c.loop-i.shelf) (g.F.Shelf.faults c.args.shelf.now) (g.F.Shelf.faults c.loop-i.shelf) (g.F.Shelf.faults c.load_lane.new.shelf) (g.F.Shelf.failed c.load_lane.new.shelf) c.in_err-lines.field-0.0 c.loop-i.invariant.kept.0 c.loop-i.invariant.kept.1 stopped)

pub loop-i-preserved : goal.loop-i-preserved
loop-i-preserved g c =
    let names = map string_bytes c.args.command.now.lanes.now in
    let old = c.loop-i.invariant in
    let read = c.in_ok-lines.ensures in
    let below = lane_is_named c.args.command.now.lanes.now c.loop-i.i c.loop-i-test.true in
    let named = name_at c.args.command.now.lanes.now c.loop-i.i c.name-item.result c.as_str.result.now c.loop-i-test.true c.name-item.is c.as_str.ensures.value in
    record {
      spelled = λ files told. (let part = read.ok files (old.kept.0 ∙ told) in
          spelled_more files (schema_text c.args.schema.now) c.args.before names c.loop-i.i c.as_str.result.now c.loop-i.lanes.items c.push.new.self.items c.in_ok-lines.lines c.loop-i.size c.in_ok-lines.bytes below named c.in_ok-push.ensures.items (old.spelled files told) part.0 part.1);
      fits = read.fits;
      count = ap length c.in_ok-push.ensures.items ∙ (length-append c.loop-i.lanes.items (c.in_ok-lines.lines ∷ []) ∙ ap (λ n. n + 1) old.count);
      lines = all_more (λ lines. AreLinesOf c.args.schema.now.fields.items lines.items) c.loop-i.lanes.items c.push.new.self.items c.in_ok-lines.lines c.in_ok-push.ensures.items old.lines read.lines;
      kept = keeps_files_on g.F.Shelf c.args.shelf.now c.loop-i.shelf c.load_lane.new.shelf old.kept read.kept;
    }

pub returns-clause-ok : goal.returns-clause-ok
returns-clause-ok g c =
    let names = map string_bytes c.args.command.now.lanes.now in
    let past : length names ≤ c.loop-i.i = omega (arith, length-map c.args.command.now.lanes.now string_bytes) in
    λ files told. (let spelled = spells_lanes files (schema_text c.args.schema.now) c.args.before (take c.loop-i.i names) (lane_texts c.loop-i.lanes.items) c.loop-i.size (c.loop-i.invariant.spelled files told) in
    subst (λ ns. SpellsLanes files (schema_text c.args.schema.now) c.args.before ns (lane_texts c.loop-i.lanes.items)) (take_all c.loop-i.i names past) spelled)

pub returns-in_err-push-clause-kept : goal.returns-in_err-push-clause-kept
returns-in_err-push-clause-kept g c = keeps_files_on g.F.Shelf c.args.shelf.now c.loop-i.shelf c.load_lane.new.shelf c.loop-i.invariant.kept c.in_ok-lines.ensures.kept

pub returns-in_err-lines-clause-kept : goal.returns-in_err-lines-clause-kept
returns-in_err-lines-clause-kept g c = keeps_files_on g.F.Shelf c.args.shelf.now c.loop-i.shelf c.load_lane.new.shelf c.loop-i.invariant.kept c.in_err-lines.ensures.kept
