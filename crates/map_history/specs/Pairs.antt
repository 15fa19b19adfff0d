-- The rows of a map of the program.
use Rattle.std.specs.Prelude.{ℕ, List, map}
use Rattle.std.specs.BTreeMap.{BTreeMap}
use denote.Ref.{Bor}
use Rattle.key_tuple.specs.declared.key.Key.{Key}
use Rattle.map_history.specs.Map.{Pair, Map}

-- an entry as a row
abbrev pub pair_of : Key × List ℕ → Pair
pair_of e = record { key = e.0.tuple; value = e.1 }

-- the rows, by ascending keys
abbrev pub pairs : BTreeMap Key (List ℕ) → Map
pairs m = map pair_of m.entries

-- an entry that is lent
abbrev pub pair_by : Bor Key × Bor (List ℕ) → Pair
pair_by e = pair_of (e.0.now, e.1.now)
