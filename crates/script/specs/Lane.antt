-- What the lines of a lane file say.
use Rattle.std.specs.Prelude.{ℕ, ◌+◌, ◌≡◌, ◌<◌, ◌≤◌, if◌then◌else◌, Option, Some, None, ok_or, List, [], ◌∷◌, ◌++◌, length, codes, slice_index, Result, Ok, Err}
use Rattle.std.specs.List.{find, AllByRecursion, AllPairs}
use Rattle.std.specs.Str.{bytes_eq}
use Rattle.key_tuple.specs.Limits.{IsWithinLimits}
use Rattle.key_tuple.specs.Order.{FieldList}
use Rattle.key_tuple.specs.declared.mode.Mode.{Mode}
use Rattle.key_tuple.specs.declared.mode.Mode.TheVariants as mode
use Rattle.map_history.specs.Map.{Put, Set, Del, key_of}
use Rattle.map_history.specs.Operation.{Operation, Ask, Get, Make, Seek, Scan}
use Rattle.map_history.specs.LegalReport.{Line}
use Rattle.script.specs.declared.verb.Verb.{Verb}
use Rattle.script.specs.declared.verb.Verb.TheVariants as verb
use Rattle.script.specs.declared.error.ScriptError.{ScriptError}
use Rattle.script.specs.declared.error.Flaw.{Flaw}
use Rattle.script.specs.declared.error.Flaw.TheVariants.{BadLine, UnknownIndex}
use Rattle.map_history.specs.Bytes.{AreFields, IsValue}
use Rattle.script.specs.Steps.{◌>>=◌, or_bad, numbered}
use Rattle.script.specs.Grammar.{lines_of, line_words, says_nothing, is_name, only, both, key_spelled, tuple_spelled, field_of, short_key, short_value}
use Rattle.script.specs.Schema.{SchemaText, index_by_name}

-- the word of each verb
abbrev pub verb_word : Verb → List ℕ
verb_word verb.Get = codes "get"
verb_word verb.Put = codes "put"
verb_word verb.Set = codes "set"
verb_word verb.Del = codes "del"
verb_word verb.Seek = codes "seek"

-- all verbs
abbrev pub verbs : List Verb
verbs = verb.Get ∷ verb.Put ∷ verb.Set ∷ verb.Del ∷ verb.Seek ∷ []

-- the verb that a word names
abbrev pub verb_named : List ℕ → Option Verb
verb_named word = find (λ (kind : Verb). bytes_eq (verb_word kind) word) verbs

-- the word of each mode of a seek
abbrev pub mode_word : Mode → List ℕ
mode_word mode.Ge = codes "ge"
mode_word mode.G = codes "g"
mode_word mode.Le = codes "le"
mode_word mode.L = codes "l"

-- all modes
abbrev pub modes : List Mode
modes = mode.Ge ∷ mode.G ∷ mode.Le ∷ mode.L ∷ []

-- the mode that a word names
abbrev pub mode_named : List ℕ → Option Mode
mode_named word = find (λ (known : Mode). bytes_eq (mode_word known) word) modes

-- the index of a line: a word that isn't a name is bad form, and a name that the schema lacks is
-- unknown
abbrev pub index_named : SchemaText → List ℕ → Result ℕ Flaw
index_named s name =
    if is_name name then ok_or (index_by_name s.names name) UnknownIndex else Err BadLine

-- `KEY`, for an index whose keys have so many fields
abbrev pub key_parts : ℕ → List (List ℕ) → Result FieldList Flaw
key_parts n parts = do
  word ← or_bad (only parts)
  fields ← or_bad (key_spelled n word)
  short_key fields

-- `KEY VALUE`: the form of both is judged before their lengths
abbrev pub row_parts : ℕ → List (List ℕ) → Result (FieldList × List ℕ) Flaw
row_parts n parts = do
  two ← or_bad (both parts)
  fields ← or_bad (key_spelled n two.0)
  bytes ← or_bad (field_of two.1)
  key ← short_key fields
  value ← short_value bytes
  Ok (key, value)

-- `MODE TUPLE`: the form of both is judged before the tuple's length
abbrev pub search_parts : ℕ → List (List ℕ) → Result (Mode × FieldList) Flaw
search_parts n parts = do
  two ← or_bad (both parts)
  by ← or_bad (mode_named two.0)
  fields ← or_bad (tuple_spelled n two.1)
  tuple ← short_key fields
  Ok (by, tuple)

-- what an operation's word asks with the words after the index's name
abbrev pub ask_of : Verb → ℕ → List (List ℕ) → Result Ask Flaw
ask_of verb.Get n parts = key_parts n parts >>= λ (key : FieldList). Ok (Get key)
ask_of verb.Put n parts =
    row_parts n parts >>= λ (row : FieldList × List ℕ). Ok (Make (Put row.0 row.1))
ask_of verb.Set n parts =
    row_parts n parts >>= λ (row : FieldList × List ℕ). Ok (Make (Set row.0 row.1))
ask_of verb.Del n parts = key_parts n parts >>= λ (key : FieldList). Ok (Make (Del key))
ask_of verb.Seek n parts =
    search_parts n parts >>= λ (search : Mode × FieldList). Ok (Seek search.0 search.1)

-- the operation on the index with this number, whose keys have n fields
abbrev pub operation_for : Verb → ℕ → ℕ → List (List ℕ) → Result Operation Flaw
operation_for kind i n parts =
    ask_of kind n parts >>= λ (ask : Ask). Ok (record { index = i; ask = ask })

-- the operation that some words spell
abbrev pub operation_in : SchemaText → List (List ℕ) → Result Operation Flaw
operation_in s [] = Err BadLine
operation_in s (word ∷ []) = Err BadLine
operation_in s (word ∷ name ∷ parts) = do
  kind ← or_bad (verb_named word)
  i ← index_named s name
  operation_for kind i (slice_index s.fields i) parts

-- what a line of a lane says: nothing, an operation, or a flaw
unfoldable pub line_meaning : SchemaText → List ℕ → Result (Option Operation) Flaw
line_meaning s line =
    if says_nothing line then Ok None
    else (operation_in s (line_words line) >>= λ (op : Operation). Ok (Some op))

-- a line with its number, if it says something
abbrev pub line_said : ℕ → Option Operation → List Line
line_said n None = []
line_said n (Some op) = record { line = n; op = op } ∷ []

-- what the lines from number n on say
abbrev pub lane_from : ℕ → SchemaText → List (List ℕ) → Result (List Line) ScriptError
lane_from n s [] = Ok []
lane_from n s (line ∷ lines) = do
  said ← numbered n (line_meaning s line)
  more ← lane_from (n + 1) s lines
  Ok (line_said n said ++ more)

-- the lane that a file spells
unfoldable pub lane_of : SchemaText → List ℕ → Result (List Line) ScriptError
lane_of s bytes = lane_from 1 s (lines_of bytes)

-- `new` is `old` and what the line says, if it says something
pub record TakesLine (s : SchemaText) (n : ℕ) (line : List ℕ) (old new : List Line) : Type 0 where
  pub said : Option Operation
  pub says : line_meaning s line ≡ Ok said
  pub grown : new ≡ old ++ line_said n said

-- the key that is asked about; of a seek the tuple, and of a scan where it begins
abbrev pub fields_asked : Ask → FieldList
fields_asked (Get k) = k
fields_asked (Make c) = key_of c
fields_asked (Seek mode tuple) = tuple
fields_asked (Scan from to limit) = from

-- a key has so many fields, a seek's tuple at most so many; a scan isn't a line yet
abbrev pub FitsFields : ℕ → Ask → Type 0
FitsFields n (Get k) = length k ≡ n
FitsFields n (Make c) = length (key_of c) ≡ n
FitsFields n (Seek mode tuple) = length tuple ≤ n
FitsFields n (Scan from to limit) = ⊥

-- what is to be written is a value
abbrev pub HasValue : Ask → Type 0
HasValue (Get k) = Unit {0}
HasValue (Make (Put k v)) = IsValue v
HasValue (Make (Set k v)) = IsValue v
HasValue (Make (Del k)) = Unit {0}
HasValue (Seek mode tuple) = Unit {0}
HasValue (Scan from to limit) = Unit {0}

-- a line of a lane: it asks an index of the schema, by a key of that index's number of fields, or
-- seeks by a tuple of at least one and at most so many, and all is within the limits
pub record IsLaneLine (s : SchemaText) (line : Line) : Type 0 where
  pub known : line.op.index < length s.names
  pub counted : line.op.index < length s.fields
  pub fields : FitsFields (slice_index s.fields line.op.index) line.op.ask
  pub written : AreFields (fields_asked line.op.ask)
  pub within : IsWithinLimits (fields_asked line.op.ask)
  pub value : HasValue line.op.ask

-- each line is one
abbrev pub AreLaneLines : SchemaText → List Line → Type 0
AreLaneLines s lines = AllByRecursion (IsLaneLine s) lines

-- the numbers rise from line to line, from 1 up to how many lines the file has
pub record NumbersRise (count : ℕ) (lines : List Line) : Type 0 where
  pub ascend : AllPairs (λ (x y : Line). x.line < y.line) lines
  pub from_one : AllByRecursion (λ (x : Line). 1 ≤ x.line) lines
  pub within : AllByRecursion (λ (x : Line). x.line ≤ count) lines
