use Rattle.std.proofs.Common.{◌∙◌, sym, arith}
use Rattle.std.proofs.lemmas.List.{length-map}
use Rattle.std.proofs.lemmas.Result.{err_from_is_err_and}
use Rattle.std.specs.String.{string_bytes}
use Rattle.ahi_cli.specs.Words.{names_of, file_names}
use Rattle.ahi_cli.proofs.FileLemmas.{unread_schema, unread_lanes}
use Rattle.ahi_cli.proofs.files.read_script.Goals as goal

pub returns-in_err-schema-clause-err : goal.returns-in_err-schema-clause-err
returns-in_err-schema-clause-err g c =
    let p = err_from_is_err_and c.from_residual.result c.from_residual.ensures.1 in
    rw (p.1, p.2) (unread_schema (g.F.Shelf.holds c.args.shelf.now) _ (names_of c.args.command.now) c.in_err-schema.field-0.0 c.in_err-schema.ensures.err)

pub returns-in_err-lanes-clause-err : goal.returns-in_err-lanes-clause-err
returns-in_err-lanes-clause-err g c =
    let p = err_from_is_err_and c.from_residual-in_err-lanes.result c.from_residual-in_err-lanes.ensures.1 in
    let first = c.in_ok-schema.ensures in
    rw (p.1, p.2) (unread_lanes (g.F.Shelf.holds c.args.shelf.now) (g.F.Shelf.holds c.load_schema.new.shelf) (g.F.Shelf.faults c.args.shelf.now) (g.F.Shelf.faults c.load_schema.new.shelf) (g.F.Shelf.faults c.load_lanes.new.shelf) (g.F.Shelf.failed c.load_lanes.new.shelf) (file_names (names_of c.args.command.now)) c.in_err-lanes.field-0.0 first.kept.0 first.kept.1 c.in_err-lanes.ensures.err)

pub load_lanes-requires-clause-spelled : goal.load_lanes-requires-clause-spelled
load_lanes-requires-clause-spelled g c = λ files told. c.in_ok-schema.ensures.ok files (sym c.in_ok-schema.ensures.kept.0 ∙ told)

pub returns-clause-ok : goal.returns-clause-ok
returns-clause-ok g c = λ files told. record {
  size = c.in_ok-schema.size;
  schema_file = c.in_ok-schema.ensures.ok files told;
  lane_files = c.in_ok-lanes.ensures.ok files (c.in_ok-schema.ensures.kept.0 ∙ told);
}

pub returns-clause-indexes : goal.returns-clause-indexes
returns-clause-indexes g c =
    let schema = c.in_ok-schema.schema in
    let shape = schema.shape in
    let named = length-map schema.names.items string_bytes in (
      omega (arith, shape.some, named, schema.names.ok.0),
      omega (arith, shape.few, named, schema.names.ok.0),
      omega (arith, shape.paired, named, schema.names.ok.0, schema.fields.ok.0),
    )
