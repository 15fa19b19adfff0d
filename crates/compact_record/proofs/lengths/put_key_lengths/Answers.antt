use Rattle.std.proofs.Common.{◌-◌, arith}
use Rattle.compact_record.proofs.WritingLemmas.{length_fits, length_put, lengths_start}
use Rattle.compact_record.proofs.lengths.put_key_lengths.Goals as goal

pub put_length-at-requires-clause-room : goal.put_length-at-requires-clause-room
put_length-at-requires-clause-room g c =
    let fields = g.A.Fields.fields_of c.args.key.now in
    omega (arith, length_fits fields (c.loop-i.i - 1) c.loop-i.i c.field.result.now (omega arith) (omega arith) c.field.ensures.bytes)

pub loop-i-preserved : goal.loop-i-preserved
loop-i-preserved g c =
    let fields = g.A.Fields.fields_of c.args.key.now in
    length_put fields (c.loop-i.i - 1) c.loop-i.i c.field.result.now (omega arith) (omega arith) c.field.ensures.bytes c.loop-i.invariant c.put_length-at.ensures

pub loop-i-init : goal.loop-i-init
loop-i-init g c = lengths_start c.args.page.now c.args.start c.count-i.result (g.A.Fields.fields_of c.args.key.now) c.count-i.ensures
