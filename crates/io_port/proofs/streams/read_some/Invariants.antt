use Rattle.std.specs.Io.KnownBytes.{Keeps}
use Rattle.io_port.proofs.streams.read_some.Given as goal

-- the reads so far gave nothing
abbrev pub invariant-tries : goal.invariant-tries
invariant-tries g l = Keeps (g.R.Read.remaining l.fn.reader) (g.R.Read.remaining l.reader)
