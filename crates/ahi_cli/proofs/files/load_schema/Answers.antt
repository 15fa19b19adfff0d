use Rattle.std.proofs.Common.{◌≡◌, ◌≤◌, ◌⊎◌, Err, length, ap, sym, subst, ◌∙◌}
use Rattle.script.specs.declared.TheConstants.{MAX_FILE_BYTES}
use Rattle.script.specs.declared.error.ScriptError.TheVariants as error
use Rattle.script.specs.Schema.{schema_of}
use Rattle.ahi_cli.specs.Files.{failures_of}
use Rattle.ahi_cli.specs.Stops.{schema_stop}
use Rattle.ahi_cli.proofs.FileLemmas.{unloaded, unread, long_schema, schema_cause}
use Rattle.ahi_cli.proofs.files.load_schema.Goals as goal

pub returns-clause-err : goal.returns-clause-err
returns-clause-err g c =
    unloaded (g.F.Shelf.holds c.args.shelf.now) (failures_of g.F.Shelf c.args.shelf.now c.load.new.shelf) 0 c.args.name.now MAX_FILE_BYTES schema_stop c.in-Err.stop long_schema c.in-Err.ensures.err

pub returns-in-Ok-clause-err : goal.returns-in-Ok-clause-err
returns-in-Ok-clause-err g c =
    let bytes = c.in-Ok.bytes.items in
    let e = c.in-Err-read_schema.error in
    let cause = subst (λ read. (e ≡ error.NoMemory) ⊎ (schema_of read ≡ Err e)) c.deref.ensures.value c.in-Err-read_schema.ensures.cause in
    unread (g.F.Shelf.holds c.args.shelf.now) (failures_of g.F.Shelf c.args.shelf.now c.load.new.shelf) 0 c.args.name.now bytes schema_stop e c.refuse.result
    c.in-Ok.ensures.ok c.refuse.ensures (schema_cause bytes e c.in-Ok.ensures.within cause)

pub returns-in-Ok-read_schema-clause-ok : goal.returns-in-Ok-read_schema-clause-ok
returns-in-Ok-read_schema-clause-ok g c =
    let bytes = c.in-Ok.bytes.items in
    let count : c.len.result ≡ length bytes = c.len.ensures ∙ c.in-Ok.bytes.ok.0 in
    λ files told. record {
      bytes = bytes;
      there = c.in-Ok.ensures.ok files told;
      spelled = ap schema_of (sym c.deref.ensures.value) ∙ c.in-Ok-read_schema.ensures.ok;
      sized = count;
      fits = subst (λ n. n ≤ MAX_FILE_BYTES) (sym count) c.in-Ok.ensures.within;
    }

pub returns-in-Ok-read_schema-clause-fits : goal.returns-in-Ok-read_schema-clause-fits
returns-in-Ok-read_schema-clause-fits g c =
    subst (λ n. n ≤ MAX_FILE_BYTES) (sym (c.len.ensures ∙ c.in-Ok.bytes.ok.0)) c.in-Ok.ensures.within

pub returns-in-Ok-read_schema-clause-kept : goal.returns-in-Ok-read_schema-clause-kept
returns-in-Ok-read_schema-clause-kept g c = c.load.ensures.kept

pub returns-in-Ok-clause-kept : goal.returns-in-Ok-clause-kept
returns-in-Ok-clause-kept g c = c.load.ensures.kept

pub returns-clause-kept : goal.returns-clause-kept
returns-clause-kept g c = c.load.ensures.kept
