-- Which notes may stand beside which word in the two columns.
use Rattle.std.specs.Prelude.{Bool, true, false, ◌&&◌, List, [], ◌∷◌}
use Rattle.std.specs.List.{list_all}
use Rattle.map_history.specs.Words.{Search, Guess, Descent, Onward, Lesson, Nothing, Build, Uncounted, how_word, note_word}
use Rattle.map_history.specs.Report.{Columns, ScanPiece}

-- a hit tells at most that it isn't counted, a descent always tells
abbrev pub may_teach : Search → Lesson → Bool
may_teach Guess Nothing = true
may_teach Guess Uncounted = true
may_teach Descent Build = true
may_teach Descent Uncounted = true
may_teach search lesson = false

-- a scan that goes on from where it stood teaches nothing
abbrev pub may_go_on : Search → Lesson → Bool
may_go_on Onward Nothing = true
may_go_on search lesson = false

-- the columns of an answer, or of the first piece of a scan
abbrev pub may_stand : Columns → Bool
may_stand c = may_teach (how_word c.how).search (note_word c.note).lesson

-- the columns of a later piece of a scan
abbrev pub may_stand_later : Columns → Bool
may_stand_later c = may_go_on (how_word c.how).search (note_word c.note).lesson

-- the columns of all pieces of a scan
abbrev pub pieces_may_stand : List ScanPiece → Bool
pieces_may_stand [] = true
pieces_may_stand (first ∷ later) =
    may_stand first.columns && list_all (λ (piece : ScanPiece). may_stand_later piece.columns) later
