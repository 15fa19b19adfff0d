use Rattle.std.proofs.KnownBytes.{Keeps-trans}
use Rattle.io_port.proofs.ReadLemmas.{Kept-Appends}
use Rattle.io_port.proofs.streams.write_some.Goals as goal

pub returns-in-Err-2-clause-none : goal.returns-in-Err-2-clause-none
returns-in-Err-2-clause-none g c = Keeps-trans _ _ _ c.tries.invariant c.in-Err-2.ensures.bytes

pub tries-preserved : goal.tries-preserved
tries-preserved g c = Keeps-trans _ _ _ c.tries.invariant c.in-Err.ensures.bytes

pub returns-in-Ok-clause-bytes : goal.returns-in-Ok-clause-bytes
returns-in-Ok-clause-bytes g c = Kept-Appends _ _ _ _ c.tries.invariant c.in-Ok.ensures.bytes
