-- The laws of the grammar.
use Rattle.std.specs.Prelude.{ℕ, ◌+◌, ◌≡◌, ◌⊎◌, List, [], ◌∷◌, ◌++◌, length, Some, Ok, Err, IsOk}
use Rattle.std.specs.List.{AllByRecursion}
use Rattle.key_tuple.specs.Order.{FieldList}
use Rattle.map_history.specs.Text.{field_text, key_text}
use Rattle.script.specs.declared.error.Flaw.{Flaw}
use Rattle.script.specs.declared.error.ScriptError.{ScriptError}
use Rattle.script.specs.declared.error.ScriptError.TheVariants.{Flawed}
use Rattle.script.specs.declared.error.Flaw.TheVariants.{BadLine}
use Rattle.map_history.specs.Bytes.{AreBytes, AreFields}
use Rattle.script.specs.Grammar.{lines_of, field_of, tuple_of}
use Rattle.script.specs.Lane.{line_meaning, lane_of}
use Rattle.script.specs.Schema.{SchemaText, SchemaDraft, empty_draft, schema_line, schema_of}

-- the bytes that were written as a field are read again, so no two fields are written alike
pub record FieldsAreReadAgain : Type 0 where
  pub again : (bytes : List ℕ) → AreBytes bytes → field_of (field_text bytes) ≡ Some bytes
  pub unique : (a b : List ℕ) → AreBytes a → AreBytes b → field_text a ≡ field_text b → a ≡ b

-- the fields that were written as a key are read again, so no two keys are written alike
pub record KeysAreReadAgain : Type 0 where
  pub again : (fields : FieldList) → AreFields fields → tuple_of (key_text fields) ≡ Some fields
  pub unique : (a b : FieldList) → AreFields a → AreFields b → key_text a ≡ key_text b → a ≡ b

-- a lane's error is that of its first line that isn't in the grammar: the lines before it are
pub record IsFirstFlaw (s : SchemaText) (lines : List (List ℕ)) (e : ScriptError) : Type 0 where
  pub before : List (List ℕ)
  pub line : List ℕ
  pub rest : List (List ℕ)
  pub flaw : Flaw
  pub split : lines ≡ before ++ line ∷ rest
  pub good : AllByRecursion (λ (l : List ℕ). IsOk (line_meaning s l)) before
  pub bad : line_meaning s line ≡ Err flaw
  pub number : e ≡ Flawed (length before + 1) flaw

-- one draft after another by lines that are in the grammar
abbrev pub Makes : SchemaDraft → List (List ℕ) → SchemaDraft → Type 0
Makes s [] t = s ≡ t
Makes s (line ∷ lines) t = (u : SchemaDraft) × (schema_line s line ≡ Ok u) × Makes u lines t

-- a schema's error is that of its first line that doesn't go with the lines before it
pub record IsFirstSchemaFlaw (lines : List (List ℕ)) (e : ScriptError) : Type 0 where
  pub before : List (List ℕ)
  pub schema : SchemaDraft
  pub line : List ℕ
  pub rest : List (List ℕ)
  pub flaw : Flaw
  pub split : lines ≡ before ++ line ∷ rest
  pub good : Makes empty_draft before schema
  pub bad : schema_line schema line ≡ Err flaw
  pub number : e ≡ Flawed (length before + 1) flaw

-- or all lines are in the grammar, and none is an index: the error is behind the last
pub record LacksIndex (lines : List (List ℕ)) (e : ScriptError) : Type 0 where
  pub schema : SchemaDraft
  pub good : Makes empty_draft lines schema
  pub none : length schema.text.names ≡ 0
  pub number : e ≡ Flawed (length lines + 1) BadLine

-- each refusal speaks of the first line that isn't in the grammar
pub record RefusalsAreFirst : Type 0 where
  pub lane : (s : SchemaText) (bytes : List ℕ) (e : ScriptError) → lane_of s bytes ≡ Err e
      → IsFirstFlaw s (lines_of bytes) e
  pub schema : (bytes : List ℕ) (e : ScriptError) → schema_of bytes ≡ Err e
      → IsFirstSchemaFlaw (lines_of bytes) e ⊎ LacksIndex (lines_of bytes) e
