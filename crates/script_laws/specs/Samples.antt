-- Small files that show how far the laws reach.
use Rattle.std.specs.Prelude.{ℕ, ◌≡◌, ◌<◌, List, [], ◌∷◌, ◌++◌, length, codes, Ok}
use Rattle.key_tuple.specs.declared.TheConstants.{MAX_FIELDS}
use Rattle.key_tuple.specs.Order.{FieldList}
use Rattle.map_history.specs.Map.{Put}
use Rattle.map_history.specs.Operation.{Get, Make}
use Rattle.map_history.specs.LegalReport.{Line}
use Rattle.script.specs.declared.TheConstants.{DEFAULT_SIZES}
use Rattle.script.specs.Lane.{lane_of}
use Rattle.script.specs.Schema.{SchemaText, schema_of}

-- the schema of the index `t`, whose keys have so many fields
abbrev pub index_t : ℕ → SchemaText
index_t n = record { sizes = DEFAULT_SIZES; names = codes "t" ∷ []; fields = n ∷ [] }

-- put t a v, a comment, get t a
abbrev pub two_lines : List ℕ
two_lines = codes "put t a v" ++ 10 ∷ codes "# then" ++ 10 ∷ codes "get t a" ++ 10 ∷ []

-- what they say
abbrev pub lines_said : List Line
lines_said = record {
  line = 1;
  op = record { index = 0; ask = Make (Put (codes "a" ∷ []) (codes "v")) };
} ∷ record { line = 3; op = record { index = 0; ask = Get (codes "a" ∷ []) } } ∷ []

-- a schema and a lane of two lines are read, the second of them at number 3
pub record TwoLinesAreRead : Type 0 where
  pub schema : schema_of (codes "index t 1") ≡ Ok (index_t 1)
  pub lane : lane_of (index_t 1) two_lines ≡ Ok lines_said

-- five fields
abbrev pub five_fields : FieldList
five_fields = codes "a" ∷ codes "b" ∷ codes "c" ∷ codes "d" ∷ codes "e" ∷ []

-- the get of the key of five fields
abbrev pub five_field_line : Line
five_field_line = record { line = 1; op = record { index = 0; ask = Get five_fields } }

-- by a schema that has an index of five fields a key of five is read, though a key may have no more
-- than four
pub record FiveFieldsAreRead : Type 0 where
  pub lane : lane_of (index_t 5) (codes "get t a,b,c,d,e") ≡ Ok (five_field_line ∷ [])
  pub too_many : MAX_FIELDS < length five_fields
