-- What a schema and lanes that were read ask for.
use Rattle.std.specs.Prelude.{◌<◌, ◌^◌, List, length}
use Rattle.std.specs.List.{AllByRecursion}
use Rattle.map_history.specs.LegalReport.{Line}
use Rattle.report_forms.specs.Reports.{IsReadRun}
use Rattle.script.specs.Lane.{AreLaneLines}
use Rattle.script.specs.Schema.{SchemaText, IsSchema}

-- the number of a line fits 32 bits
abbrev pub HasSmallNumber : Line → Type 0
HasSmallNumber line = line.line < 2 ^ 32

-- a run of a schema and lanes that were read is one whose reports are a form of lines
abbrev pub ReadRunsAreAsked : Type 0
ReadRunsAreAsked = (schema : SchemaText) (lanes : List (List Line))
    → IsSchema schema.names schema.fields → length lanes < 2 ^ 32
    → AllByRecursion (AreLaneLines schema) lanes
    → AllByRecursion (AllByRecursion HasSmallNumber) lanes
    → IsReadRun (record { sizes = schema.sizes; names = schema.names; lanes = lanes })
    schema.fields
