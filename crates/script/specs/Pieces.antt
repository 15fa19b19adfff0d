-- What is left to come of the parts of some bytes.
use Rattle.std.specs.Prelude.{ℕ, ◌≡◌, ◌==◌, false, Some, None, List, [], ◌∷◌, ◌++◌, ◌<◌, length}
use Rattle.std.specs.List.{slice_split, All}
use Rattle.script.specs.declared.pieces.Pieces.{Pieces}
use Rattle.script.specs.declared.pieces.Lines.{Lines}
use Rattle.script.specs.Grammar.{lines_of, bytes_of, in_front}

-- the pieces between the bytes of one value
abbrev pub pieces_by : ℕ → List ℕ → List (List ℕ)
pieces_by separator bytes = slice_split (λ (b : ℕ). b == separator) bytes

-- the pieces that come
abbrev pub pieces_left : Pieces → List (List ℕ)
pieces_left p = elim p.rest [ None ↦ [] | Some rest ↦ pieces_by p.separator rest.now ]

-- the lines that come
abbrev pub lines_left : Lines → List (List ℕ)
lines_left lines = lines_of lines.rest.now

-- no byte has this value
abbrev pub LacksByte : ℕ → List ℕ → Type 0
LacksByte value bytes = All (λ (b : ℕ). (b == value) ≡ false) bytes

-- the bytes before the first of this value, and after it
pub record IsFirstCut (value : ℕ) (bytes before after : List ℕ) : Type 0 where
  pub whole : bytes ≡ before ++ value ∷ after
  pub first : LacksByte value before

-- the byte that the front of a text stands for, and the text after it
pub record IsFirstByte (text : List ℕ) (byte : ℕ) (after : List ℕ) : Type 0 where
  pub spelled : bytes_of text ≡ in_front (Some byte) (bytes_of after)
  pub shorter : length after < length text
