-- Changes up to a place, counted.
use Rattle.std.proofs.Common.{ℕ, Bool, List, map, take}
use Rattle.std.specs.Prelude.{count_by}
use Rattle.map_history.specs.Map.{MapChange}
use Rattle.change_log.specs.declared.change.LaneChange.{LaneChange}
use Rattle.change_log.specs.Log.{note_of}
use Rattle.row_count.specs.Told.{changes_told}

-- how many of the changes up to a place pass a test
abbrev pub count_upto : (MapChange → Bool) → List LaneChange → ℕ → ℕ
count_upto test changes i = count_by test (changes_told (map note_of (take i changes)))
