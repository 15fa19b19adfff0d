-- What lines were answered, as it is read.
use Rattle.std.specs.Prelude.{ℕ, ◌<◌, List, Vec, map}
use Rattle.std.specs.List.{All}
use Rattle.std.specs.declared.alloc.Global.{Global}
use Rattle.map_history.specs.declared.line.Line.{Line}
use Rattle.map_history.specs.LegalReport as asked
use Rattle.map_history.specs.Lines.{line_text, line_texts}
use Rattle.map_history.specs.Report.{Answer, Scanned, AnswerLine}
use Rattle.report_reading.specs.declared.told.ReadTold.{ReadTold}
use Rattle.report_reading.specs.declared.told.ReadTold.TheVariants.{Plain, Pieces}
use Rattle.report_reading.specs.declared.told.ReadLine.{ReadLine}
use Rattle.report_reading.specs.Answers.{answer_seen}
use Rattle.report_reading.specs.Pieces.{piece_seen}

-- an answer as a report has it
abbrev pub told_seen : ReadTold → Answer
told_seen (Plain answer) = answer_seen answer
told_seen (Pieces pieces) = Scanned (map piece_seen pieces.items)

-- with the number of its line
abbrev pub line_seen : ReadLine → AnswerLine
line_seen told = record { line = told.line; answer = told_seen told.told }

-- an answer with that number
abbrev pub answer_to : ℕ → Answer → AnswerLine
answer_to line answer = record { line = line; answer = answer }

-- the answers of a lane
abbrev pub lines_seen : Vec ReadLine Global → List AnswerLine
lines_seen told = map line_seen told.items

-- what the lines of a lane ask
abbrev pub lane_asked : Vec Line Global → List asked.Line
lane_asked lines = line_texts lines.items

-- a line asks one of so many indexes
abbrev pub AsksKnown : ℕ → Line → Type 0
AsksKnown indexes line = (line_text line).op.index < indexes

-- all lines of a lane do
abbrev pub AskKnown : ℕ → Vec Line Global → Type 0
AskKnown indexes lines = All (AsksKnown indexes) lines.items
