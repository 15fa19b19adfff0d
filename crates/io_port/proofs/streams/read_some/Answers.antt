use Rattle.std.proofs.KnownBytes.{Keeps-trans}
use Rattle.io_port.proofs.ReadLemmas.{Kept-Consumes}
use Rattle.io_port.proofs.streams.read_some.Goals as goal

pub tries-preserved : goal.tries-preserved
tries-preserved g c = Keeps-trans _ _ _ c.tries.invariant c.in-Err.ensures.bytes

pub returns-in-Ok-clause-bytes : goal.returns-in-Ok-clause-bytes
returns-in-Ok-clause-bytes g c = Kept-Consumes _ _ _ _ c.tries.invariant c.in-Ok.ensures.bytes.0

pub returns-in-Ok-clause-end : goal.returns-in-Ok-clause-end
returns-in-Ok-clause-end g c = c.in-Ok.ensures.bytes.1

pub returns-in-Ok-clause-bound : goal.returns-in-Ok-clause-bound
returns-in-Ok-clause-bound g c = c.in-Ok.ensures.bound.0
