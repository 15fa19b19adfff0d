-- What a search of a key met: its guess, and the way down where that led nowhere.
use Rattle.std.specs.Prelude.{ℕ, ◌≡◌, ◌⊎◌, Bool, Option}
use Rattle.key_tuple.specs.Order.{FieldList}
use Rattle.key_tuple.specs.declared.mode.Mode.{Mode}
use Rattle.map_history.specs.declared.columns.How.TheVariants as how
use Rattle.search_info.specs.declared.knows.Knows.{Knows}
use Rattle.search_info.specs.declared.outcome.Learn.{Learn}
use Rattle.forest_world.specs.Held.{TreePass}
use Rattle.hash_guess.specs.declared.cause.Cause.{Cause}
use Rattle.hash_guess.specs.Guesses.{GuessHits, GuessMisses}
use Rattle.leaf_search.specs.declared.searched.Searched.{Searched}
use Rattle.leaf_search.specs.Downs.{SearchesDown}
use Rattle.leaf_search.specs.Hows.{how_of, note_of_hit}

-- the guess hit a row on the leaf, and the note tells what came of the hit
pub record TracesHit (p : TreePass) (l : Knows) (i : ℕ) (mode : Mode) (key : FieldList)
    (s : Searched) (q : TreePass) (m : Knows) : Type 0 where
  pub place : ℕ
  pub found : Bool
  pub learn : Learn
  pub guess : GuessHits p l i mode key s.leaf.block place found learn q m
  pub how_is : s.how ≡ how.Hit
  pub note_is : s.note ≡ note_of_hit learn

-- the guess led nowhere for a cause, and then a way led down, whose note this is
pub record TracesDown (p : TreePass) (l : Knows) (i : ℕ) (mode : Mode) (key : FieldList)
    (s : Searched) (q : TreePass) (m : Knows) : Type 0 where
  pub between : TreePass
  pub read : Knows
  pub cause : Cause
  pub learn : Option Learn
  pub guess : GuessMisses p l i mode key cause learn between read
  pub how_is : s.how ≡ how_of cause
  pub down : SearchesDown between read i mode key s.leaf s.note q m

-- the one or the other
abbrev pub SearchTrace : TreePass → Knows → ℕ → Mode → FieldList → Searched → TreePass → Knows
    → Type 0
SearchTrace p l i mode key s q m =
    TracesHit p l i mode key s q m ⊎ TracesDown p l i mode key s q m
