use Rattle.std.proofs.Common.{length, ap, arith}
use Rattle.compact_record.proofs.LengthLemmas.{puts_byte, puts_two, long_length, short_length}
use Rattle.compact_record.proofs.lengths.put_length.Goals as goal

pub returns-then-len-gt-MAX_SHORT_LENGTH : goal.returns-then-len-gt-MAX_SHORT_LENGTH
returns-then-len-gt-MAX_SHORT_LENGTH c =
    let bytes = long_length c.args.len (omega arith) in
    rw bytes (puts_two c.args.page.now c.args.at _ _ (omega (arith, ap length bytes)))

pub returns-else-len-gt-MAX_SHORT_LENGTH : goal.returns-else-len-gt-MAX_SHORT_LENGTH
returns-else-len-gt-MAX_SHORT_LENGTH c =
    let bytes = short_length c.args.len (omega arith) in
    rw bytes (puts_byte c.args.page.now c.args.at _ (omega (arith, ap length bytes)))
