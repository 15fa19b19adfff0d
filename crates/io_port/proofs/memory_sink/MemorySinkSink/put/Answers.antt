use Rattle.std.proofs.Common.{ap, arith}
use Rattle.io_port.specs.MemorySink.{SinkState}
use Rattle.io_port.proofs.memory_sink.MemorySinkSink.put.Goals as goal

pub returns-clause-kept : goal.returns-clause-kept
returns-clause-kept c = omega (arith, ap (λ (s : SinkState). s.faults) c.self.view_is)
