-- Rows that are the map's between two places, by what is in hand.
use Rattle.std.specs.Prelude.{ℕ, ◌≡◌}
use mathlib.Core.Option.{some}
use lib.ListN.{get_elem?}
use Rattle.key_tuple.specs.KeyPlace.{KeyPlace}
use Rattle.map_history.specs.Map.{Map, slice, map_after}
use Rattle.index_law.specs.State.{Entries, changes}
use Rattle.forest_law.specs.Law.{IsLawful}
use Rattle.forest_law.specs.State.{ForestState}
use Rattle.call_law.specs.Spoken.{View}
use Rattle.buffer_pool.specs.Forests.{FitsTrees}

-- in each lawful state that fits the pass, these rows are those of the index's map between the
-- places
abbrev pub AreMapRows : View → ℕ → KeyPlace → KeyPlace → Map → Type 0
AreMapRows v i low high rows = (w : ForestState) → IsLawful w → FitsTrees w v
    → (xs : Entries) → get_elem? w.lists i ≡ some xs
    → rows ≡ slice low high (map_after (changes xs))
