use Rattle.std.proofs.Common.{ℕ, ◌≤◌, subst, arith}
use Rattle.compact_record.proofs.WritingLemmas.{field_fits, field_put, fields_end}
use Rattle.compact_record.proofs.writing.put_fields.Goals as goal

pub put_bytes-requires : goal.put_bytes-requires
put_bytes-requires g c =
    omega (arith, field_fits (g.A.Fields.fields_of c.args.key.now) c.loop-i.i c.field-field.result.now (omega arith) c.field-field.ensures.bytes)

pub overflow_add-at : goal.overflow_add-at
overflow_add-at g c =
    omega (arith, field_fits (g.A.Fields.fields_of c.args.key.now) c.loop-i.i c.field-field.result.now (omega arith) c.field-field.ensures.bytes)

pub loop-i-preserved : goal.loop-i-preserved
loop-i-preserved g c =
    field_put (g.A.Fields.fields_of c.args.key.now) c.loop-i.i c.field-field.result.now (omega arith) c.field-field.ensures.bytes c.loop-i.invariant c.put_bytes.ensures.spells c.put_bytes.ensures.kept

pub returns : goal.returns
returns g c =
    fields_end (g.A.Fields.fields_of c.args.key.now) c.loop-i.i (subst (λ (n : ℕ). n ≤ c.loop-i.i) c.count-i-end.ensures c.loop-i-test.false) c.loop-i.invariant
