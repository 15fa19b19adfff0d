-- The parts have as many bytes as the buffer, so it is judged.
use Rattle.std.proofs.Common.{◌≡◌, length, refl, arith}
use Rattle.key_tuple.proofs.FlatLemmas.{flat_too_many, flat_too_long, flat_fits}
use Rattle.key_tuple.proofs.tuple.Tuple.from_parts.Goals as goal

pub returns-then-from-ends-clause-refused : goal.returns-then-from-ends-clause-refused
returns-then-from-ends-clause-refused c = rw (flat_too_many c.args.bytes.items c.args.ends.now (omega arith)) refl

pub returns-then-from-ends-clause-cause : goal.returns-then-from-ends-clause-cause
returns-then-from-ends-clause-cause c = flat_too_many c.args.bytes.items c.args.ends.now (omega arith)

pub returns-then-len-gt-MAX_KEY_BYTES-clause-refused : goal.returns-then-len-gt-MAX_KEY_BYTES-clause-refused
returns-then-len-gt-MAX_KEY_BYTES-clause-refused c =
    let len : c.len-then-len-gt-MAX_KEY_BYTES.result ≡ length c.args.bytes.items = omega (arith, c.len-then-len-gt-MAX_KEY_BYTES.ensures, c.args.bytes.ok.0) in
    rw (flat_too_long c.args.bytes.items c.args.ends.now c.requires.rise (omega arith) (omega arith), len) refl

pub returns-then-len-gt-MAX_KEY_BYTES-clause-cause : goal.returns-then-len-gt-MAX_KEY_BYTES-clause-cause
returns-then-len-gt-MAX_KEY_BYTES-clause-cause c =
    let len : c.len-then-len-gt-MAX_KEY_BYTES.result ≡ length c.args.bytes.items = omega (arith, c.len-then-len-gt-MAX_KEY_BYTES.ensures, c.args.bytes.ok.0) in
    rw (flat_too_long c.args.bytes.items c.args.ends.now c.requires.rise (omega arith) (omega arith), len) refl

pub invariant_of-result : goal.invariant_of-result
invariant_of-result c = rw c.from_parts.ensures (flat_fits c.args.bytes.items c.args.ends.now c.requires.rise (omega arith) (omega arith)).1

pub returns-clause-refused : goal.returns-clause-refused
returns-clause-refused c = rw (flat_fits c.args.bytes.items c.args.ends.now c.requires.rise (omega arith) (omega arith)).0 tt
