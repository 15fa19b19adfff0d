-- The first refusal of a call: of its words, of the files that they name, or of the sizes.
use Rattle.std.specs.Prelude.{ℕ, ◌+◌, List, [], ◌∷◌, length, Option, Some, None, Result, Ok, Err}
use Rattle.std.specs.Option.{option_or, option_map}
use Rattle.io_port.specs.Shelf.{Files}
use Rattle.script.specs.declared.error.ScriptError.{ScriptError}
use Rattle.script.specs.Schema.{SchemaText, schema_of}
use Rattle.settings.specs.Limits.{first_broken}
use Rattle.ahi_cli.specs.declared.stop.Stop.{Stop}
use Rattle.ahi_cli.specs.declared.stop.Stop.TheVariants.{Usage, Shelf, Sizes}
use Rattle.ahi_cli.specs.Stops.{schema_stop, lane_stop}
use Rattle.ahi_cli.specs.Words.{accepted, file_names}

-- the refusal of the file with this number: it isn't there, or its bytes are refused
abbrev pub file_stop : ℕ → Option (List ℕ) → (List ℕ → Option Stop) → Option Stop
file_stop file None refusal = Some (Shelf file)
file_stop file (Some bytes) refusal = refusal bytes

-- the first refusal of lanes, numbered from `file` on, with so many bytes in the files before them
abbrev pub lanes_stop : Files → SchemaText → ℕ → ℕ → List (List ℕ) → Option Stop
lanes_stop files schema file before [] = None
lanes_stop files schema file before (name ∷ names) = file_stop file (files name) (λ bytes.
    option_or (lane_stop file before schema bytes)
    (lanes_stop files schema (file + 1) (before + length bytes) names))

-- a refusal that needs the schema, where there is one
abbrev pub with_schema : Result SchemaText ScriptError → (SchemaText → Option Stop) → Option Stop
with_schema (Ok schema) refusal = refusal schema
with_schema (Err e) refusal = None

-- the first refusal in reading the files with these names in their order, a schema and its lanes
abbrev pub reading_stop : Files → List (List ℕ) → Option Stop
reading_stop files [] = None
reading_stop files (name ∷ lanes) = file_stop 0 (files name) (λ bytes.
    option_or (schema_stop bytes)
    (with_schema (schema_of bytes) (λ schema. lanes_stop files schema 1 (length bytes) lanes)))

-- the refusal of a schema's sizes, for so many lanes
abbrev pub sizes_stop : SchemaText → ℕ → Option Stop
sizes_stop schema lanes =
    option_map Sizes (first_broken schema.sizes (length schema.names) lanes)

-- the first refusal of the files with these names: the sizes are judged behind all of them
abbrev pub files_stop : Files → List (List ℕ) → Option Stop
files_stop files [] = None
files_stop files (name ∷ lanes) = option_or (reading_stop files (name ∷ lanes))
    (file_stop 0 (files name) (λ bytes.
    with_schema (schema_of bytes) (λ schema. sizes_stop schema (length lanes))))

-- the first refusal of the files of accepted words; other words are a wrong use
abbrev pub named_stop : Files → Option (List ℕ × List (List ℕ)) → Option Stop
named_stop files None = Some Usage
named_stop files (Some names) = files_stop files (file_names names)

-- the first refusal of a call with these words, where the shelf holds these files
abbrev pub first_refusal : List (List ℕ) → Files → Option Stop
first_refusal words files = named_stop files (accepted words)
