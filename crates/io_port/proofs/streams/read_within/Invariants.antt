use Rattle.std.proofs.Common.{◌≤◌, vec_len, ◌+◌, ◌-◌}
use Rattle.std.specs.Io.KnownBytes.{Consumes}
use Rattle.io_port.proofs.streams.read_within.Given as goal

-- what was read so far is what the reader has lost
abbrev pub invariant-reads : goal.invariant-reads
invariant-reads g l = record {
  lost : Consumes (g.R.Read.remaining l.fn.reader) (g.R.Read.remaining l.reader) l.bytes.items;
  within : vec_len l.bytes ≤ l.limit + 1;
}

abbrev pub decreases-reads : goal.decreases-reads
decreases-reads g l = l.limit + 1 - vec_len l.bytes
