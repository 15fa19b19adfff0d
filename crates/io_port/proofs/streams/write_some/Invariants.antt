use Rattle.std.specs.Io.KnownBytes.{Keeps}
use Rattle.io_port.proofs.streams.write_some.Given as goal

-- the writes so far took nothing
abbrev pub invariant-tries : goal.invariant-tries
invariant-tries g l = Keeps (g.W.Write.contents l.fn.writer) (g.W.Write.contents l.writer)
