-- The lines of the entries of an index, as they are read.
use Rattle.std.specs.Prelude.{ℕ, ◌+◌, ◌<◌, ◌≡◌, ◌^◌, Bool, ◌&&◌, nat_lt, Option, Some, None, option_and_then, option_map, if◌then◌else◌, List, [], ◌∷◌, length, codes}
use Rattle.std.specs.List.{AllByRecursion}
use Rattle.std.specs.Fmt.{decimal}
use Rattle.std.specs.Str.{bytes_eq}
use Rattle.key_tuple.specs.Order.{FieldList}
use Rattle.map_history.specs.Map.{MapChange, Put, Set, Del}
use Rattle.map_history.specs.Report.{ChangeLine}
use Rattle.map_history.specs.Spelling.{change_text}
use Rattle.map_history.specs.Text.{line_of}
use Rattle.script.specs.Grammar.{decimal_from, field_of, tuple_of}
use Rattle.report_laws.specs.SpellingLaws.{IsPlainName}
use Rattle.audit_law.specs.Verdicts.{ChangesRow}
use Rattle.line_forms.specs.LineForms.{Lines, Reading, IsLineForm, read_line, in_line, read_both, read_as}
use Rattle.line_forms.specs.Anew.{anew, words_of}
use Rattle.report_forms.specs.Limits.{changes_row}
use Rattle.report_forms.specs.Lists.{read_each, each_lines, numbers_from}

-- a change of a key and a value, where both are there
abbrev pub with_value : (FieldList → List ℕ → MapChange) → Option FieldList → Option (List ℕ)
    → Option MapChange
with_value change key value = option_and_then (λ k. option_map (change k) value) key

-- the change that the words of a line tell
abbrev pub change_told : List (List ℕ) → Option MapChange
change_told (verb ∷ key ∷ []) =
    if bytes_eq verb (codes "del") then option_map Del (tuple_of key) else None
change_told (verb ∷ key ∷ value ∷ []) =
    if bytes_eq verb (codes "put") then with_value Put (tuple_of key) (field_of value)
    else (if bytes_eq verb (codes "set") then with_value Set (tuple_of key) (field_of value)
    else None)
change_told words = None

-- the entry that they tell, whatever its number, which is compared with the rest
abbrev pub entry_told : List (List ℕ) → Option ChangeLine
entry_told (number ∷ lane ∷ line ∷ words) = option_map
    (λ (c : MapChange).
    record { lane = decimal_from 0 lane; line = decimal_from 0 line; change = c })
    (change_told words)
entry_told words = None

-- the numbers of an entry fit 64 bits, and its change is of a row of the index
pub record IsEntryOf (fields : ℕ) (e : ChangeLine) : Type 0 where
  pub lane : e.lane < 2 ^ 64
  pub line : e.line < 2 ^ 64
  pub change : ChangesRow fields e.change

-- the same as a test
abbrev pub is_entry : ℕ → ChangeLine → Bool
is_entry fields e =
    nat_lt e.lane (2 ^ 64) && nat_lt e.line (2 ^ 64) && changes_row fields e.change

-- the line of the entry with this number, from 1
abbrev pub read_entry : ℕ → ℕ → Lines → Reading ChangeLine
read_entry fields number =
    read_line (anew (λ (line : List ℕ). entry_told (words_of line)) (is_entry fields)
    (change_text number))

-- the line that says how many entries an index has
abbrev pub count_text : List ℕ → ℕ → List ℕ
count_text name count = line_of (codes "changes" ∷ name ∷ decimal count ∷ [])

-- the number that the last of three words spells
abbrev pub third_number : List (List ℕ) → Option ℕ
third_number (first ∷ second ∷ number ∷ []) = Some (decimal_from 0 number)
third_number words = None

-- that line, read
abbrev pub read_count : List ℕ → Lines → Reading ℕ
read_count name =
    read_line (anew (λ (line : List ℕ). third_number (words_of line))
    (λ (count : ℕ). nat_lt count (2 ^ 64)) (count_text name))

-- the lines of so many entries
abbrev pub entry_lines : ℕ → List ChangeLine → Lines
entry_lines count entries =
    each_lines (λ (number : ℕ). in_line (change_text number)) (numbers_from 1 count) entries

-- the entries of an index, with the line before them
abbrev pub read_entries : ℕ → List ℕ → Lines → Reading (List ChangeLine)
read_entries fields name text = read_as (λ (x : ℕ × List ChangeLine). x.1) (read_both
    (read_count name) (λ (count : ℕ). read_each (read_entry fields) (numbers_from 1 count)) text)

-- the lines that they stand in
abbrev pub part_lines : List ℕ → List ChangeLine → Lines
part_lines name entries =
    count_text name (length entries) ∷ entry_lines (length entries) entries

-- the entries of an index that can stand in a text
pub record AreEntriesOf (fields : ℕ) (entries : List ChangeLine) : Type 0 where
  pub few : length entries < 2 ^ 64
  pub each : AllByRecursion (IsEntryOf fields) entries

-- the lines of an index's entries are a form of lines, whatever the index is called
abbrev pub EntriesAreRead : Type 0
EntriesAreRead = (fields : ℕ) (name : List ℕ) → 0 < fields → IsPlainName name
    → IsLineForm (AreEntriesOf fields) (part_lines name) (read_entries fields name)
