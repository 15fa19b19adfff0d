-- The words of the two columns, a row each.
use Rattle.std.specs.Prelude.{ℕ, List, [], ◌∷◌, ◌++◌, map, codes}
use Rattle.map_history.specs.declared.columns.How.{How}
use Rattle.map_history.specs.declared.columns.How.TheVariants as how
use Rattle.map_history.specs.declared.columns.Note.{Note}
use Rattle.map_history.specs.declared.columns.Note.TheVariants as note

-- how rows were looked for: that isn't told, by the hash, by a descent, or on from a scan's place
pub data Search : Type 0 where
  Untold : Search
  Guess : Search
  Descent : Search
  Onward : Search

-- what is told of learning: nothing, what became of a build, or that the event wasn't counted
pub data Lesson : Type 0 where
  Nothing : Lesson
  Build : Lesson
  Uncounted : Lesson

-- a word of the first column: its text, and the search that it tells of
pub record HowWord : Type 0 where
  pub text : List ℕ
  pub search : Search

-- a word of the second column: its text, and what it tells of learning
pub record NoteWord : Type 0 where
  pub text : List ℕ
  pub lesson : Lesson

-- the words of the first column
abbrev pub how_word : How → HowWord
how_word how.Dash = record { text = codes "-"; search = Untold }
how_word how.Hit = record { text = codes "hit"; search = Guess }
how_word how.Off = record { text = codes "off"; search = Descent }
how_word how.Cold = record { text = codes "cold"; search = Descent }
how_word how.Short = record { text = codes "short"; search = Descent }
how_word how.PartBusy = record { text = codes "part-busy"; search = Descent }
how_word how.NoEntry = record { text = codes "no-entry"; search = Descent }
how_word how.BlockBusy = record { text = codes "block-busy"; search = Descent }
how_word how.Clock = record { text = codes "clock"; search = Descent }
how_word how.Unequal = record { text = codes "unequal"; search = Descent }
how_word how.ByClock = record { text = codes "by-clock"; search = Onward }
how_word how.ByBusy = record { text = codes "by-busy"; search = Onward }
how_word how.ByMoved = record { text = codes "by-moved"; search = Onward }
how_word how.ByLast = record { text = codes "by-last"; search = Onward }

-- the words of the second column
abbrev pub note_word : Note → NoteWord
note_word note.Dash = record { text = codes "-"; lesson = Nothing }
note_word note.No = record { text = codes "no"; lesson = Build }
note_word note.Built = record { text = codes "built"; lesson = Build }
note_word note.Same = record { text = codes "same"; lesson = Build }
note_word note.Arena = record { text = codes "arena"; lesson = Build }
note_word note.Raced = record { text = codes "raced"; lesson = Uncounted }
note_word note.Worn = record { text = codes "worn"; lesson = Uncounted }

-- the text of a word of the first column
abbrev pub how_text : How → List ℕ
how_text h = (how_word h).text

-- and of the second
abbrev pub note_text : Note → List ℕ
note_text n = (note_word n).text

-- the words of the first column that are counted, in their order
abbrev pub counted_hows : List How
counted_hows =
    how.Hit ∷ how.Off ∷ how.Cold ∷ how.Short ∷ how.PartBusy ∷ how.NoEntry ∷ how.BlockBusy
    ∷ how.Clock ∷ how.Unequal ∷ how.ByClock ∷ how.ByBusy ∷ how.ByMoved ∷ how.ByLast ∷ []

-- and those of the second
abbrev pub counted_notes : List Note
counted_notes = note.Built ∷ note.Same ∷ note.Arena ∷ note.Raced ∷ note.Worn ∷ []

-- the words of the statistics, in the order of their line
abbrev pub counted_words : List (List ℕ)
counted_words = map how_text counted_hows ++ map note_text counted_notes
