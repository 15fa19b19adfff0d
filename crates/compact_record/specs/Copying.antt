-- A record that is copied out of a page.
use Rattle.std.specs.Prelude.{ℕ}
use Rattle.compact_record.specs.Record.{PlacedRecord}

-- the same record with its first byte at `start`
abbrev pub placed_from : ℕ → PlacedRecord → PlacedRecord
placed_from start r = record r { start = start }
