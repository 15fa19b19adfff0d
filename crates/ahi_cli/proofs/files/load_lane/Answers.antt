use Rattle.std.proofs.Common.{◌≡◌, ◌+◌, ◌-◌, ◌≤◌, ◌⊎◌, Ok, Err, length, ap, ◌∙◌, sym, subst}
use Rattle.script.specs.declared.TheConstants.{MAX_FILE_BYTES}
use Rattle.script.specs.Lane.{lane_of}
use Rattle.script.specs.Views.{schema_text}
use Rattle.script.specs.declared.error.ScriptError.TheVariants as error
use Rattle.map_history.specs.Lines.{line_texts}
use Rattle.ahi_cli.specs.Files.{failures_of}
use Rattle.ahi_cli.specs.Stops.{lane_stop}
use Rattle.ahi_cli.proofs.FileLemmas.{unloaded, unread, long_lane, lane_cause, fits_left, lines_ask}
use Rattle.ahi_cli.proofs.files.load_lane.Goals as goal

pub returns-clause-err : goal.returns-clause-err
returns-clause-err g c =
    let schema = schema_text c.args.schema.now in
    unloaded (g.F.Shelf.holds c.args.shelf.now) (failures_of g.F.Shelf c.args.shelf.now c.load.new.shelf) c.args.file c.args.name.now (MAX_FILE_BYTES - c.args.before) (lane_stop c.args.file c.args.before schema) c.in-Err.stop
    (λ bytes long. long_lane c.args.file c.args.before schema bytes c.requires long) c.in-Err.ensures.err

pub returns-in-Ok-clause-err : goal.returns-in-Ok-clause-err
returns-in-Ok-clause-err g c =
    let schema = schema_text c.args.schema.now in
    let bytes = c.in-Ok.bytes.items in
    let e = c.in-Err-read_lane.error in
    let fits = fits_left c.args.before (length bytes) c.requires c.in-Ok.ensures.within in
    let cause = subst (λ read. (e ≡ error.NoMemory) ⊎ (lane_of schema read ≡ Err e)) c.deref.ensures.value c.in-Err-read_lane.ensures.cause in
    unread (g.F.Shelf.holds c.args.shelf.now) (failures_of g.F.Shelf c.args.shelf.now c.load.new.shelf) c.args.file c.args.name.now bytes (lane_stop c.args.file c.args.before schema) e c.refuse.result
    c.in-Ok.ensures.ok c.refuse.ensures (lane_cause c.args.file c.args.before schema bytes e fits cause)

pub returns-in-Ok-read_lane-clause-ok : goal.returns-in-Ok-read_lane-clause-ok
returns-in-Ok-read_lane-clause-ok g c =
    let bytes = c.in-Ok.bytes.items in
    let schema = schema_text c.args.schema.now in
    let spelled : lane_of schema bytes ≡ Ok (line_texts c.in-Ok-read_lane.lines.items) = ap (lane_of schema) (sym c.deref.ensures.value) ∙ c.in-Ok-read_lane.ensures.ok in
    let fits = fits_left c.args.before (length bytes) c.requires c.in-Ok.ensures.within in
    let count : c.len.result ≡ length bytes = c.len.ensures ∙ c.in-Ok.bytes.ok.0 in
    λ files told. (record { bytes = bytes; there = c.in-Ok.ensures.ok files told; spelled = spelled; fits = fits }, count)

pub returns-in-Ok-read_lane-clause-lines : goal.returns-in-Ok-read_lane-clause-lines
returns-in-Ok-read_lane-clause-lines g c = lines_ask (schema_text c.args.schema.now) c.in-Ok-read_lane.lines.items c.args.schema.now.shape.paired c.in-Ok-read_lane.ensures.lines

pub returns-in-Ok-read_lane-clause-fits : goal.returns-in-Ok-read_lane-clause-fits
returns-in-Ok-read_lane-clause-fits g c =
    subst (λ n. c.args.before + n ≤ MAX_FILE_BYTES) (sym (c.len.ensures ∙ c.in-Ok.bytes.ok.0)) (fits_left c.args.before (length c.in-Ok.bytes.items) c.requires c.in-Ok.ensures.within)

pub returns-in-Ok-read_lane-clause-kept : goal.returns-in-Ok-read_lane-clause-kept
returns-in-Ok-read_lane-clause-kept g c = c.load.ensures.kept

pub returns-in-Ok-clause-kept : goal.returns-in-Ok-clause-kept
returns-in-Ok-clause-kept g c = c.load.ensures.kept

pub returns-clause-kept : goal.returns-clause-kept
returns-clause-kept g c = c.load.ensures.kept
