-- What a search of a key came to.
use Rattle.std.specs.Prelude.{ℕ, ◌≡◌, true}
use Rattle.key_tuple.specs.Order.{FieldList}
use Rattle.key_tuple.specs.declared.mode.Mode.{Mode}
use Rattle.map_history.specs.declared.columns.Note.{Note}
use Rattle.search_info.specs.declared.knows.Knows.{Knows}
use Rattle.search_info.specs.declared.outcome.Learn.{Learn}
use Rattle.index_page.specs.Page.{IsPageInOrder}
use Rattle.forest_world.specs.Held.{TreePass}
use Rattle.hash_guess.specs.Guesses.{GuessHits}
use Rattle.leaf_search.specs.declared.searched.KeySearch.{KeySearch}
use Rattle.leaf_search.specs.declared.searched.KeySearch.TheVariants as found
use Rattle.leaf_search.specs.Hows.{note_of_hit}
use Rattle.leaf_search.specs.Searches.{Searches}
use Rattle.leaf_search.specs.Traces.{SearchTrace}

-- the guess hit the key's row at the place of the block's leaf, which is held besides and in order;
-- the note tells what came of the hit
pub record HitsKey (p : TreePass) (l : Knows) (i : ℕ) (mode : Mode) (key : FieldList)
    (block place : ℕ) (note : Note) (q : TreePass) (m : Knows) : Type 0 where
  pub learn : Learn
  pub guess : GuessHits p l i mode key block place true learn q m
  pub order : IsPageInOrder guess.hits.hit.is.page
  pub note_is : note ≡ note_of_hit learn

-- the key's row was hit; or its leaf is held, and it is told how it was found
abbrev pub SearchesKey : TreePass → Knows → ℕ → Mode → FieldList → KeySearch → TreePass → Knows
    → Type 0
SearchesKey p l i mode key (found.Row block place note) q m =
    HitsKey p l i mode key block place note q m
SearchesKey p l i mode key (found.Leaf s) q m =
    Searches p l i key s q m × SearchTrace p l i mode key s q m
