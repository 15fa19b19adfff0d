use Rattle.std.proofs.Common.{arith}
use Rattle.io_port.proofs.Files.{files_of-pairs_of}
use Rattle.io_port.proofs.memory_shelf.bytes_named.Goals as goal

pub returns-in-Some : goal.returns-in-Some
returns-in-Some c = rw files_of-pairs_of (grind arith)

pub returns-in-None : goal.returns-in-None
returns-in-None c = rw files_of-pairs_of (grind arith)
