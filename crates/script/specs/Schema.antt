-- What the lines of a schema file say.
use Rattle.std.specs.Prelude.{ℕ, ◌+◌, ◌≡◌, ◌≢◌, ◌<◌, ◌≤◌, Bool, true, ◌&&◌, not, ◌==◌, nat_lt, if◌then◌else◌, Option, Some, None, is_none, List, [], ◌∷◌, ◌++◌, length, codes, Result, Ok, Err, option_and_then, option_map}
use Rattle.std.specs.List.{position, list_any, All, AllPairs}
use Rattle.std.specs.Str.{bytes_eq}
use Rattle.map_history.specs.declared.sizes.Sizes.{Sizes}
use Rattle.key_tuple.specs.declared.TheConstants.{MAX_FIELDS}
use Rattle.map_history.specs.declared.TheConstants.{MAX_INDEXES}
use Rattle.settings.specs.declared.setting.Setting.{Setting}
use Rattle.settings.specs.Words.{setting_named, place_of}
use Rattle.settings.specs.Sized.{with_size}
use Rattle.script.specs.declared.TheConstants.{DEFAULT_SIZES}
use Rattle.script.specs.declared.entry.Entry.{Entry}
use Rattle.script.specs.declared.entry.Entry.TheVariants.{Index, Set}
use Rattle.script.specs.declared.error.ScriptError.{ScriptError}
use Rattle.script.specs.declared.error.ScriptError.TheVariants as error
use Rattle.script.specs.declared.error.Flaw.{Flaw}
use Rattle.script.specs.declared.error.Flaw.TheVariants.{BadLine}
use Rattle.script.specs.Steps.{◌>>=◌, or_bad, numbered}
use Rattle.script.specs.Grammar.{lines_of, line_words, says_nothing, is_name, is_from, number_spelled, only, both}

-- sizes, and for each index its name and how many fields its keys have
pub record SchemaText : Type 0 where
  pub sizes : Sizes
  pub names : List (List ℕ)
  pub fields : List ℕ

-- a schema while its lines are read, and the settings that were given
pub record SchemaDraft : Type 0 where
  pub text : SchemaText
  pub given : List Setting

-- the entry that a word begins: `index`, or the setting of this word
abbrev pub entry_named : List ℕ → Option Entry
entry_named word =
    if bytes_eq word (codes "index") then Some Index else option_map Set (setting_named word)

-- the number of an index by its name
abbrev pub index_by_name : List (List ℕ) → List ℕ → Option ℕ
index_by_name names name = position (λ (known : List ℕ). bytes_eq known name) names

-- how many fields: a number from 1 to 4
abbrev pub count_spelled : List ℕ → Option ℕ
count_spelled word =
    option_and_then (λ (n : ℕ). if is_from 1 MAX_FIELDS n then Some n else None)
    (number_spelled word)

-- the schema has room for an index of this name, which is new
abbrev pub takes_name : SchemaText → List ℕ → Bool
takes_name s name =
    is_name name && nat_lt (length s.names) MAX_INDEXES && is_none (index_by_name s.names name)

-- one index more
abbrev pub with_index : SchemaText → List ℕ → ℕ → SchemaText
with_index s name count = record s { names = s.names ++ name ∷ []; fields = s.fields ++ count ∷ [] }

-- the draft with one index more
abbrev pub draft_with_index : SchemaDraft → List ℕ → ℕ → SchemaDraft
draft_with_index d name count = record d { text = with_index d.text name count }

-- `index NAME FIELDS`
abbrev pub index_line : SchemaDraft → List (List ℕ) → Result SchemaDraft Flaw
index_line d parts = do
  two ← or_bad (both parts)
  count ← or_bad (count_spelled two.1)
  if takes_name d.text two.0 then Ok (draft_with_index d two.0 count) else Err BadLine

-- the setting is one of those that were given
abbrev pub was_given : List Setting → Setting → Bool
was_given given setting = list_any (λ (g : Setting). place_of g == place_of setting) given

-- the setting can stand here: before the first index, and once
abbrev pub takes_setting : SchemaDraft → Setting → Bool
takes_setting d setting = length d.text.names == 0 && not (was_given d.given setting)

-- the setting made a number
abbrev pub with_setting : SchemaDraft → Setting → ℕ → SchemaDraft
with_setting d setting n = record {
  text = record (d.text) { sizes = with_size d.text.sizes setting n };
  given = d.given ++ setting ∷ [];
}

-- `SETTING N`
abbrev pub setting_line : Setting → SchemaDraft → List (List ℕ) → Result SchemaDraft Flaw
setting_line setting d parts = do
  word ← or_bad (only parts)
  n ← or_bad (number_spelled word)
  if takes_setting d setting then Ok (with_setting d setting n) else Err BadLine

-- what an entry's line makes of a draft
abbrev pub after_entry : Entry → SchemaDraft → List (List ℕ) → Result SchemaDraft Flaw
after_entry Index d parts = index_line d parts
after_entry (Set setting) d parts = setting_line setting d parts

-- what the words of a line make of a draft
abbrev pub after_words : SchemaDraft → List (List ℕ) → Result SchemaDraft Flaw
after_words d [] = Err BadLine
after_words d (word ∷ parts) =
    or_bad (entry_named word) >>= λ (entry : Entry). after_entry entry d parts

-- the draft after a line
unfoldable pub schema_line : SchemaDraft → List ℕ → Result SchemaDraft Flaw
schema_line d line = if says_nothing line then Ok d else after_words d (line_words line)

-- the schema after the lines from number n on; one without an index is refused behind its last line
abbrev pub schema_from : ℕ → SchemaDraft → List (List ℕ) → Result SchemaText ScriptError
schema_from n d [] = if length d.text.names == 0 then Err (error.Flawed n BadLine) else Ok d.text
schema_from n d (line ∷ lines) =
    numbered n (schema_line d line) >>= λ (t : SchemaDraft). schema_from (n + 1) t lines

-- the schema of a file without lines: each setting has its usual size
abbrev pub no_index : SchemaText
no_index = record { sizes = DEFAULT_SIZES; names = []; fields = [] }

-- the draft before its first line
abbrev pub empty_draft : SchemaDraft
empty_draft = record { text = no_index; given = [] }

-- the schema that a file spells
unfoldable pub schema_of : List ℕ → Result SchemaText ScriptError
schema_of bytes = schema_from 1 empty_draft (lines_of bytes)

-- how many fields the keys of an index may have
abbrev pub IsFieldCount : ℕ → Type 0
IsFieldCount n = (1 ≤ n) × (n ≤ MAX_FIELDS)

-- 1 to 64 names in a name's form, no two alike, and for each how many fields its keys have
pub record IsSchema (names : List (List ℕ)) (fields : List ℕ) : Type 0 where
  pub paired : length fields ≡ length names
  pub some : 0 < length names
  pub few : length names ≤ MAX_INDEXES
  pub named : All (λ (name : List ℕ). is_name name ≡ true) names
  pub apart : AllPairs (λ (a b : List ℕ). a ≢ b) names
  pub counts : All IsFieldCount fields
