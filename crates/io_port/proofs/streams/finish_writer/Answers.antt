use Rattle.std.proofs.KnownBytes.{Keeps-trans}
use Rattle.io_port.proofs.streams.finish_writer.Goals as goal

pub returns-in-Ok : goal.returns-in-Ok
returns-in-Ok g c = Keeps-trans _ _ _ c.flush.ensures.bytes c.in-Ok.ensures.ok
