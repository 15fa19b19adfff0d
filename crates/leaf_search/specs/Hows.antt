-- The words of the two columns, by what a guess told.
use Rattle.hash_guess.specs.declared.cause.Cause.{Cause}
use Rattle.hash_guess.specs.declared.cause.Cause.TheVariants.{Cold, Short, PartBusy, NoEntry, BlockBusy, Unequal}
use Rattle.map_history.specs.declared.columns.How.{How}
use Rattle.map_history.specs.declared.columns.How.TheVariants as how
use Rattle.map_history.specs.declared.columns.Note.{Note}
use Rattle.map_history.specs.declared.columns.Note.TheVariants as note
use Rattle.search_info.specs.declared.outcome.Learn.{Learn}
use Rattle.search_info.specs.declared.outcome.Learn.TheVariants.{Learnt, Raced, Worn}

-- why a way down was gone
abbrev pub how_of : Cause → How
how_of Cold = how.Cold
how_of (Short have need) = how.Short
how_of (PartBusy n) = how.PartBusy
how_of (NoEntry fold) = how.NoEntry
how_of (BlockBusy n) = how.BlockBusy
how_of (Unequal block place) = how.Unequal

-- what is told of a hit: nothing where it was counted
abbrev pub note_of_hit : Learn → Note
note_of_hit (Learnt before after build) = note.Dash
note_of_hit (Raced read found) = note.Raced
note_of_hit Worn = note.Worn
