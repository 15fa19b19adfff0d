-- What a call tells.
use Rattle.std.specs.Prelude.{◌≡◌, ◌≢◌, ℕ, ◌+◌, ◌<◌, List, [], ◌∷◌, ◌++◌}
use mathlib.Core.Option.{some}
use lib.ListN.{get_elem?}
use Rattle.learning.specs.declared.info.Info.{Info}
use Rattle.learning.specs.declared.event.BlockFigures.{BlockFigures}
use Rattle.learning.specs.declared.event.Descent.{Descent}
use Rattle.learning.specs.declared.event.Event.{Event}
use Rattle.learning.specs.declared.event.Figures.{Figures}
use Rattle.learning.specs.Bounds.{IsInfoOf}
use Rattle.learning.specs.BuildRule.{should_build}
use Rattle.learning.specs.Learning.{learn, learn_block}
use Rattle.search_info.specs.declared.knows.Entry.{Entry}
use Rattle.search_info.specs.declared.knows.Fate.TheVariants.{Raced as Overtaken, Worn as WornOut}
use Rattle.search_info.specs.declared.knows.Knows.{Knows}
use Rattle.search_info.specs.declared.outcome.Learn.{Learn}
use Rattle.search_info.specs.declared.outcome.Learn.TheVariants.{Learnt, Raced, Worn}
use Rattle.search_info.specs.History.{Start, known_after}
use Rattle.search_info.specs.Rule.{tries_counted}
use Rattle.search_info.specs.Passes.{HasAllNumbers}
use Rattle.search_info.specs.Steps.{StandsInHistory, BeginsWithSeen, seeing, with_try, counting, event_entry}

-- the info is what the index knows from a list that begins with all that the pass had seen, and now
-- the pass has seen this list
pub record Recommends (v : Knows) (i : ℕ) (info : Info) (v' : Knows) : Type 0 where
  pub start : Start
  pub is_start : get_elem? v.opening.starts i ≡ some start
  pub list : List Entry
  pub extends : BeginsWithSeen v i list
  pub is : info ≡ known_after start list
  pub bounded : IsInfoOf start.1 info
  pub stands : StandsInHistory v' i list
  pub view : v' ≡ seeing v i list

-- a pass with all numbers has counted all events since the opening
abbrev pub CountsAll : Knows → ℕ → Info → Type 0
CountsAll v i info = HasAllNumbers v → (s : Start) → get_elem? v.opening.starts i ≡ some s
    → info.events ≡ s.0.events + tries_counted i v.tries

-- the event was counted right behind the list that was loaded
pub record Counts (v : Knows) (i : ℕ) (event : Event) (before after : Info)
    (v' : Knows) : Type 0 where
  pub start : Start
  pub is_start : get_elem? v.opening.starts i ≡ some start
  pub list : List Entry
  pub extends : BeginsWithSeen v i list
  pub before_is : before ≡ known_after start list
  pub room : before.events < 4294967295
  pub after_is : after ≡ learn before event
  pub bounded : IsInfoOf start.1 before × IsInfoOf start.1 after
  pub stands : StandsInHistory v' i (list ++ event_entry v event ∷ [])
  pub view : v' ≡ counting v i list event

-- a longer list than the one that was loaded stood there at the exchange
pub record IsOvertaken (v : Knows) (i : ℕ) (event : Event) (read found : Info)
    (v' : Knows) : Type 0 where
  pub start : Start
  pub is_start : get_elem? v.opening.starts i ≡ some start
  pub list : List Entry
  pub extends : BeginsWithSeen v i list
  pub more : List Entry
  pub read_is : read ≡ known_after start list
  pub room : read.events < 4294967295
  pub found_is : found ≡ known_after start (list ++ more)
  pub differ : read ≢ found
  pub bounded : IsInfoOf start.1 read × IsInfoOf start.1 found
  pub stands : StandsInHistory v' i (list ++ more)
  pub view : v' ≡ with_try (seeing v i list) i event (Overtaken read found)

-- the list that was loaded has all the events that can be counted
pub record IsWorn (v : Knows) (i : ℕ) (event : Event) (v' : Knows) : Type 0 where
  pub start : Start
  pub is_start : get_elem? v.opening.starts i ≡ some start
  pub list : List Entry
  pub extends : BeginsWithSeen v i list
  pub worn : (known_after start list).events ≡ 4294967295
  pub stands : StandsInHistory v' i list
  pub view : v' ≡ with_try (seeing v i list) i event WornOut

-- what came of an event
abbrev pub TellsLearn : Knows → ℕ → Event → Learn → Knows → Type 0
TellsLearn v i event (Learnt before after build) v' = Counts v i event before after v'
    × (build ≡ should_build before event)
TellsLearn v i event (Raced read found) v' = IsOvertaken v i event read found v'
TellsLearn v i event Worn v' = IsWorn v i event v'

-- a descent as it is handed in
abbrev pub descent_of : ℕ → Figures → BlockFigures → ℕ → Descent
descent_of unique figures block rows = record {
  unique = unique;
  figures = figures;
  block = block;
  rows = rows;
}

-- the block's figures after a descent: as learnt where it was counted, else as before
abbrev pub TellsBlock : Descent → Learn → BlockFigures → Type 0
TellsBlock d (Learnt before after build) block = block ≡ learn_block before d
TellsBlock d (Raced read found) block = block ≡ d.block
TellsBlock d Worn block = block ≡ d.block
