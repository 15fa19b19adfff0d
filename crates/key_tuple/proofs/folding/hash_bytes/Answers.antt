use Rattle.std.proofs.Common.{sym}
use Rattle.std.proofs.lemmas.List.Sums.{fold_more}
use Rattle.key_tuple.specs.Fold.{hash_byte}
use Rattle.key_tuple.proofs.folding.hash_bytes.Goals as goal

pub loop-byte-preserved : goal.loop-byte-preserved
loop-byte-preserved c =
    rw (c.loop-byte.invariant, c.from.ensures)
    (sym (fold_more hash_byte c.args.start c.args.bytes.now c.loop-byte.byte-index 0 c.loop-byte-test.true))
