-- Entries that are read.
use Rattle.std.specs.Prelude.{ℕ, Option, List, Vec, map, option_and_then}
use Rattle.std.specs.declared.alloc.Global.{Global}
use Rattle.key_tuple.specs.Order.{FieldList}
use Rattle.map_history.specs.Operation.{change_of}
use Rattle.map_history.specs.Report.{ChangeLine}
use Rattle.line_forms.specs.LineForms.{Lines, Reading}
use Rattle.report_forms.specs.Entries.{read_entries}
use Rattle.script.specs.Grammar.{only, tuple_of}
use Rattle.report_reading.specs.declared.entry_line.ReadEntry.{ReadEntry}

-- as a report has them
abbrev pub entry_seen : ReadEntry → ChangeLine
entry_seen entry = record { lane = entry.lane; line = entry.line; change = change_of entry.change }

-- the key that one word tells
abbrev pub key_told : List (List ℕ) → Option FieldList
key_told words = option_and_then tuple_of (only words)

-- the entries of an index
abbrev pub entries_seen : Vec ReadEntry Global → List ChangeLine
entries_seen entries = map entry_seen entries.items

-- how the part of an index is read, by its name and the number of its fields
abbrev pub read_part : List ℕ × ℕ → Lines → Reading (List ChangeLine)
read_part index = read_entries index.1 index.0
