-- The count of an index stands at its number, and is that of a schema.
use Rattle.std.proofs.Common.{ℕ, ◌<◌, length, ◌∙◌, string_bytes, arith}
use Rattle.std.proofs.lemmas.List.{length-map, get_or_default}
use Rattle.script.specs.declared.schema.Schema.{Schema}
use Rattle.script.proofs.lane.field_count.Goals as goal

-- each index has a count
count_there : (schema : Schema) (i : ℕ) → i < length schema.names.items → i < length schema.fields.items
count_there schema i below = omega (arith, below, schema.shape.paired, length-map schema.names.items string_bytes)

pub returns-clause-count : goal.returns-clause-count
returns-clause-count c =
    let schema = c.args.schema.now in
    c.index.ensures ∙ get_or_default schema.fields.items c.args.index c.index.result.now 0 (count_there schema c.args.index c.requires)

pub returns-clause-some : goal.returns-clause-some
returns-clause-some c =
    let schema = c.args.schema.now in
    omega (arith, c.index.ensures, (schema.shape.counts c.args.index c.index.result.now (count_there schema c.args.index c.requires)).0)
