-- Where a length stands.
use Rattle.std.specs.Prelude.{ℕ, ◌≤◌, ◌<◌, ◌-◌, List, length}
use Rattle.compact_record.specs.declared.TheConstants.{LENGTH_LIMIT}
use Rattle.compact_record.specs.Bytes.{SpellsAt}
use Rattle.compact_record.specs.Record.{length_bytes}

-- the bytes below `top` are this length
pub record EndsLength (bytes : List ℕ) (n top : ℕ) : Type 0 where
  pub small : n < LENGTH_LIMIT
  pub room : length (length_bytes n) ≤ top
  pub spells : SpellsAt bytes (top - length (length_bytes n)) (length_bytes n)
