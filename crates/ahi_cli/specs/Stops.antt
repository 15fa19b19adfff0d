-- Refusals, their lines and their statuses.
use Rattle.std.specs.Prelude.{ℕ, ◌+◌, List, [], ◌∷◌, codes, decimal, Option, Some, None, Result, Ok, Err, nat_lt, if◌then◌else◌, length}
use Rattle.map_history.specs.Text.{line_of}
use Rattle.script.specs.declared.TheConstants.{MAX_FILE_BYTES}
use Rattle.script.specs.declared.error.ScriptError.{ScriptError}
use Rattle.script.specs.declared.error.ScriptError.TheVariants as error
use Rattle.script.specs.declared.error.Flaw.{Flaw}
use Rattle.script.specs.declared.error.Flaw.TheVariants as flaw
use Rattle.script.specs.Schema.{SchemaText, schema_of}
use Rattle.script.specs.Lane.{lane_of}
use Rattle.settings.specs.Words.{setting_word}
use Rattle.ahi_cli.specs.declared.status.Status.{Status}
use Rattle.ahi_cli.specs.declared.status.Status.TheVariants as status
use Rattle.ahi_cli.specs.declared.stop.Stop.{Stop}
use Rattle.ahi_cli.specs.declared.stop.Stop.TheVariants.{Usage, Script, Shelf, TooLarge, Sizes, NoMemory}

-- the status that a refusal ends the program with
abbrev pub status_of : Stop → Status
status_of Usage = status.Usage
status_of (Script file line code) = status.Script
status_of (Shelf file) = status.ShelfFault
status_of (TooLarge file) = status.TooLarge
status_of (Sizes setting) = status.TooLarge
status_of NoMemory = status.NoMemory

-- the line that tells a refusal
abbrev pub stop_text : Stop → List ℕ
stop_text Usage =
    line_of (codes "usage: ahi run SCHEMA LANE.. | ahi page FILE | ahi gen NUMBER LANES LINES" ∷ [])
stop_text (Script file line code) =
    line_of (codes "script" ∷ decimal file ∷ decimal line ∷ decimal code ∷ [])
stop_text (Shelf file) = line_of (codes "shelf" ∷ decimal file ∷ [])
stop_text (TooLarge file) = line_of (codes "too-large" ∷ decimal file ∷ [])
stop_text (Sizes setting) = line_of (codes "sizes" ∷ setting_word setting ∷ [])
stop_text NoMemory = []

-- the code of a flaw
abbrev pub flaw_code : Flaw → ℕ
flaw_code flaw.BadLine = 1
flaw_code flaw.UnknownIndex = 2
flaw_code flaw.TooLong = 3

-- the refusal that an error of a file is
abbrev pub refused : ℕ → ScriptError → Stop
refused file (error.Flawed line kind) = Script file line (flaw_code kind)
refused file error.NoMemory = NoMemory

-- the refusal in the outcome of a reading, if any
abbrev pub stop_in : {A : Type 0} → ℕ → Result A ScriptError → Option Stop
stop_in file (Ok x) = None
stop_in file (Err e) = Some (refused file e)

-- the refusal of a schema file, if any: its length is judged first
abbrev pub schema_stop : List ℕ → Option Stop
schema_stop bytes = if nat_lt MAX_FILE_BYTES (length bytes)
    then Some (TooLarge 0) else stop_in 0 (schema_of bytes)

-- the refusal of the lane file with this number, with so many bytes in the files before it, if any
abbrev pub lane_stop : ℕ → ℕ → SchemaText → List ℕ → Option Stop
lane_stop file before schema bytes = if nat_lt MAX_FILE_BYTES (before + length bytes)
    then Some (TooLarge file) else stop_in file (lane_of schema bytes)
