-- The program's lines with their operations.
use Rattle.std.specs.Prelude.{List, map}
use Rattle.map_history.specs.Operation.{operation_of}
use Rattle.map_history.specs.declared.line.Line.{Line}
use Rattle.map_history.specs.LegalReport as history

-- a line with its operation
abbrev pub line_text : Line → history.Line
line_text l = record { line = l.line; op = operation_of l.op }

-- lines with their operations
abbrev pub line_texts : List Line → List history.Line
line_texts lines = map line_text lines
