-- Which events a search tries to count, by how it found its leaf.
use Rattle.std.specs.Prelude.{ℕ, ◌≡◌, List, [], ◌∷◌, ◌++◌, map}
use Rattle.std.specs.List.{AllByRecursion}
use Rattle.learning.specs.declared.event.Event.{Event}
use Rattle.learning.specs.declared.event.Event.TheVariants as event
use Rattle.map_history.specs.declared.columns.How.{How}
use Rattle.map_history.specs.declared.columns.How.TheVariants as how
use Rattle.search_info.specs.declared.knows.Knows.{Knows}
use Rattle.search_info.specs.declared.knows.Try.{Try}

-- the three kinds of events
pub data Kind : Type 0 where
  Hit : Kind
  Miss : Kind
  Descent : Kind

-- the kind of an event
abbrev pub kind_of : Event → Kind
kind_of event.Hit = Hit
kind_of event.Miss = Miss
kind_of (event.Descent d) = Descent

-- what is tried after a search: a hit; or a descent, and before it a miss, where the hash was asked
abbrev pub kinds_after : How → List Kind
kinds_after how.Hit = Hit ∷ []
kinds_after how.Off = Descent ∷ []
kinds_after how.Cold = Descent ∷ []
kinds_after how.Short = Descent ∷ []
kinds_after how.PartBusy = Miss ∷ Descent ∷ []
kinds_after how.NoEntry = Miss ∷ Descent ∷ []
kinds_after how.BlockBusy = Miss ∷ Descent ∷ []
kinds_after how.Clock = Miss ∷ Descent ∷ []
kinds_after how.Unequal = Miss ∷ Descent ∷ []
kinds_after how.Dash = []
kinds_after how.ByClock = []
kinds_after how.ByBusy = []
kinds_after how.ByMoved = []
kinds_after how.ByLast = []

-- the pass has its numbers, and has tried besides, of the index and by its name, events of the
-- kinds that such a search tries
pub record TriesAfter (l : Knows) (i : ℕ) (how : How) (m : Knows) : Type 0 where
  pub opening : m.opening ≡ l.opening
  pub low : m.low ≡ l.low
  pub end : m.end ≡ l.end
  pub tries : List Try
  pub added : m.tries ≡ l.tries ++ tries
  pub each : AllByRecursion (λ (t : Try). (t.index ≡ i) × (t.by ≡ l.low)) tries
  pub kinds : map (λ (t : Try). kind_of t.event) tries ≡ kinds_after how
