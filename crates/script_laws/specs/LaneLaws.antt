-- What holds of each lane that a file spells.
use Rattle.std.specs.Prelude.{ℕ, ◌≡◌, ◌+◌, ◌≤◌, Some, List, Ok, Contains}
use Rattle.std.specs.List.{slice_get, All, AllByRecursion}
use Rattle.key_tuple.specs.declared.TheConstants.{MAX_FIELDS}
use Rattle.map_history.specs.Operation.{Operation}
use Rattle.map_history.specs.LegalReport.{Line}
use Rattle.script.specs.Grammar.{lines_of}
use Rattle.script.specs.Lane.{line_meaning, lane_of, AreLaneLines}
use Rattle.script.specs.Schema.{SchemaText}

-- the text at this place, counted from 0, says the operation
pub record TextSays (schema : SchemaText) (texts : List (List ℕ)) (place : ℕ)
    (op : Operation) : Type 0 where
  pub text : List ℕ
  pub there : slice_get texts place ≡ Some text
  pub said : line_meaning schema text ≡ Ok (Some op)

-- a line of the lane is said at its number, counted from 1
pub record IsToldOf (schema : SchemaText) (texts : List (List ℕ)) (line : Line) : Type 0 where
  pub place : ℕ
  pub number : line.line ≡ place + 1
  pub says : TextSays schema texts place line.op

-- a lane has what the lines of its file say, and each of them
pub record LinesAreTold : Type 0 where
  pub each :
      (schema : SchemaText) (bytes : List ℕ) (lines : List Line) → lane_of schema bytes ≡ Ok lines
      → AllByRecursion (IsToldOf schema (lines_of bytes)) lines
  pub all :
      (schema : SchemaText) (bytes : List ℕ) (lines : List Line) → lane_of schema bytes ≡ Ok lines
      → (place : ℕ) (op : Operation) → TextSays schema (lines_of bytes) place op
      → Contains lines (record { line = place + 1; op = op })

-- no index has keys of more fields than a key may have
abbrev pub HasFewFields : SchemaText → Type 0
HasFewFields schema = All (λ (n : ℕ). n ≤ MAX_FIELDS) schema.fields

-- each line of a lane can be worked, by any schema of few enough fields
abbrev pub LinesCanBeWorked : Type 0
LinesCanBeWorked =
    (schema : SchemaText) (bytes : List ℕ) (lines : List Line) → HasFewFields schema
    → lane_of schema bytes ≡ Ok lines → AreLaneLines schema lines
