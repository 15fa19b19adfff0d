-- What is known of a script that was read, and how its run may end.
use Rattle.std.specs.Prelude.{ℕ, ◌≡◌, ◌≤◌, List, length, Some, None}
use Rattle.map_history.specs.declared.TheConstants.{MAX_INDEXES, MAX_LANES}
use Rattle.map_history.specs.LegalReport.{Line}
use Rattle.script.specs.Schema.{SchemaText}
use Rattle.script.specs.Views.{schema_text}
use Rattle.lane_threads.specs.Together.{lane_texts, AllAreLinesOf}
use Rattle.ahi_cli.specs.declared.files.Script.{Script}
use Rattle.ahi_cli.specs.declared.stop.Stop.{Stop}
use Rattle.ahi_cli.specs.FirstRefusal.{sizes_stop}

-- There are 1 to 64 indexes and 1 to 64 lanes. Each line asks an index for a key of its number of
-- fields.
pub record IsScript (script : Script) : Type 0 where
  pub names : (1 ≤ length script.schema.names.items)
      × (length script.schema.names.items ≤ MAX_INDEXES)
  pub fields : length script.schema.fields.items ≡ length script.schema.names.items
  pub lanes : (1 ≤ length script.lanes.items) × (length script.lanes.items ≤ MAX_LANES)
  pub lines : AllAreLinesOf script.schema.fields.items script.lanes.items

-- the sizes are within their limits, and of the script's lanes the bytes tell so
pub record TellsScript (IsTold : SchemaText → List (List Line) → List ℕ → Type 0)
    (script : Script) (bytes : List ℕ) : Type 0 where
  pub sizes : sizes_stop (schema_text script.schema) (length script.lanes.items) ≡ None
  pub told : IsTold (schema_text script.schema) (lane_texts script.lanes.items) bytes

-- the sizes have this refusal
abbrev pub RefusesSizes : Script → Stop → Type 0
RefusesSizes script refusal =
    sizes_stop (schema_text script.schema) (length script.lanes.items) ≡ Some refusal
