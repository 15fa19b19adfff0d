-- What the search of a seek met.
use Rattle.std.specs.Prelude.{ℕ, ◌≡◌, ◌⊎◌, Bool, Option}
use Rattle.key_tuple.specs.Order.{FieldList}
use Rattle.key_tuple.specs.declared.mode.Mode.{Mode}
use Rattle.map_history.specs.declared.columns.How.TheVariants as how
use Rattle.map_history.specs.declared.columns.Note.{Note}
use Rattle.map_history.specs.Report.{Columns}
use Rattle.search_info.specs.declared.knows.Knows.{Knows}
use Rattle.search_info.specs.declared.outcome.Learn.{Learn}
use Rattle.forest_world.specs.Held.{TreePass}
use Rattle.hash_guess.specs.declared.cause.Cause.{Cause}
use Rattle.hash_guess.specs.Guesses.{GuessHits, GuessMisses}
use Rattle.tree_neighbours.specs.declared.pairs.LeafPair.{LeafPair}
use Rattle.leaf_search.specs.Hows.{how_of, note_of_hit}
use Rattle.index_seeks.specs.SeekSteps.{FindsPair}

-- the guess of a seek hit a row, and these columns tell so
pub record SoughtByHit (p : TreePass) (l : Knows) (i : ℕ) (mode : Mode) (tuple : FieldList)
    (columns : Columns) (m : Knows) : Type 0 where
  pub between : TreePass
  pub block : ℕ
  pub place : ℕ
  pub found : Bool
  pub learn : Learn
  pub guess : GuessHits p l i mode tuple block place found learn between m
  pub told : columns ≡ record { how = how.Hit; note = note_of_hit learn }

-- it led nowhere for a cause, then a way was gone down to the leaf with the tuple's position, which
-- was learnt from, and these columns tell so
pub record SoughtByWay (p : TreePass) (l : Knows) (i : ℕ) (mode : Mode) (tuple : FieldList)
    (columns : Columns) (m : Knows) : Type 0 where
  pub between : TreePass
  pub read : Knows
  pub cause : Cause
  pub learn : Option Learn
  pub guess : GuessMisses p l i mode tuple cause learn between read
  pub after : TreePass
  pub pair : LeafPair
  pub note : Note
  pub went : FindsPair between read i mode tuple pair note after m
  pub told : columns ≡ record { how = how_of cause; note = note }

-- the one or the other
abbrev pub SeekTrace : TreePass → Knows → ℕ → Mode → FieldList → Columns → Knows → Type 0
SeekTrace p l i mode tuple columns m =
    SoughtByHit p l i mode tuple columns m ⊎ SoughtByWay p l i mode tuple columns m
