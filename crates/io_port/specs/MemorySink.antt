-- A sink in memory, and what its puts leave.
use Rattle.std.specs.Prelude.{ℕ, ◌+◌, ◌<◌, ◌⊎◌, List, [], ◌++◌, length, Contains}
use Rattle.io_port.specs.Faults.{next_count}

-- the bytes so far, how many there is room for, the numbers of the puts to fail, and two counts
pub record SinkState : Type 0 where
  pub written : List ℕ
  pub room : ℕ
  pub fail : List ℕ
  pub calls : ℕ
  pub faults : ℕ

-- a sink that nothing was put to
abbrev pub new_sink : ℕ → List ℕ → SinkState
new_sink room fail = record { written = []; room = room; fail = fail; calls = 0; faults = 0 }

-- the next put is to fail: its number is listed, or the bytes don't fit the room
abbrev pub IsDue : SinkState → List ℕ → Type 0
IsDue sink bytes = Contains sink.fail sink.calls ⊎ (sink.room < length sink.written + length bytes)

-- the sink after a put of these bytes
abbrev pub after_put : SinkState → List ℕ → SinkState
after_put sink bytes = record sink {
  written = sink.written ++ bytes;
  calls = next_count sink.calls;
}

-- the sink after a put that failed: nothing is written
abbrev pub after_failure : SinkState → SinkState
after_failure sink = record sink { calls = next_count sink.calls; faults = next_count sink.faults }
