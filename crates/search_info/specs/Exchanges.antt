-- An exchange by itself, after the load that it follows.
use Rattle.std.specs.Prelude.{◌≡◌, ◌≢◌, ℕ, ◌<◌, List, ◌++◌}
use mathlib.Core.Option.{some}
use lib.ListN.{get_elem?}
use Rattle.learning.specs.declared.event.Event.{Event}
use Rattle.learning.specs.declared.info.Info.{Info}
use Rattle.learning.specs.Bounds.{IsInfoOf, IsEventOf}
use Rattle.learning.specs.BuildRule.{should_build}
use Rattle.learning.specs.Learning.{learn}
use Rattle.learning.specs.Word.{word_of}
use Rattle.search_info.specs.declared.knows.Entry.{Entry}
use Rattle.search_info.specs.declared.knows.Fate.TheVariants.{Raced as Overtaken}
use Rattle.search_info.specs.declared.knows.Knows.{Knows}
use Rattle.search_info.specs.declared.outcome.Learn.{Learn}
use Rattle.search_info.specs.declared.outcome.Learn.TheVariants.{Learnt, Raced, Worn}
use Rattle.search_info.specs.History.{Start, IsStart, known_after}
use Rattle.search_info.specs.Steps.{StandsInHistory, with_try, Hits}

-- the pass has just loaded this word, of the list that it has seen, and one event more can be
-- counted
pub record HasRead (v : Knows) (i : ℕ) (event : Event) (word : ℕ) (before : Info) : Type 0 where
  pub start : Start
  pub is_start : get_elem? v.opening.starts i ≡ some start
  pub list : List Entry
  pub is_seen : get_elem? v.seen i ≡ some list
  pub word_is : word ≡ word_of (known_after start list)
  pub before_is : before ≡ known_after start list
  pub begins : IsStart start
  pub bounded : IsInfoOf start.1 before
  pub fair : IsEventOf start.1 event
  pub room : before.events < 4294967295

-- a longer list than the one that the pass has seen stood there
pub record Overtakes (v : Knows) (i : ℕ) (s : Start) (xs : List Entry) (event : Event)
    (read found : Info) (v' : Knows) : Type 0 where
  pub more : List Entry
  pub found_is : found ≡ known_after s (xs ++ more)
  pub stands : StandsInHistory v' i (xs ++ more)
  pub view : v' ≡ with_try v i event (Overtaken read found)

-- what came of the exchange
abbrev pub ExchangeTells : Knows → ℕ → Event → Info → Learn → Knows → Type 0
ExchangeTells v i event before (Learnt b a build) v' =
    (b ≡ before) × (a ≡ learn before event) × (build ≡ should_build before event)
    × ((xs : List Entry) → get_elem? v.seen i ≡ some xs → Hits v i xs event v')
ExchangeTells v i event before (Raced read found) v' =
    (read ≡ before) × (read ≢ found)
    × ((s : Start) (xs : List Entry) → get_elem? v.opening.starts i ≡ some s
    → get_elem? v.seen i ≡ some xs → Overtakes v i s xs event read found v')
ExchangeTells v i event before Worn v' = ⊥
