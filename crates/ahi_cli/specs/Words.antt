-- Which words are accepted.
use Rattle.std.specs.Prelude.{ℕ, Bool, false, not, ◌&&◌, ◌==◌, Option, Some, None, if◌then◌else◌, List, [], ◌∷◌, length, map, codes, string_bytes}
use Rattle.std.specs.List.{list_all}
use Rattle.std.specs.Str.{bytes_eq}
use Rattle.map_history.specs.declared.TheConstants.{MAX_LANES}
use Rattle.settings.specs.Limits.{is_within}
use Rattle.ahi_cli.specs.declared.words.Command.{Command}

-- a word that can name a file: it isn't empty and doesn't begin with `-`
abbrev pub names_file : List ℕ → Bool
names_file [] = false
names_file (b ∷ bytes) = not (b == 45)

-- 1 to 64 words that can each name a file
abbrev pub are_lanes : List (List ℕ) → Bool
are_lanes lanes = list_all names_file lanes && is_within 1 MAX_LANES (length lanes)

-- the names of the schema file and the lane files of accepted words: `run SCHEMA LANE..`
abbrev pub accepted : List (List ℕ) → Option (List ℕ × List (List ℕ))
accepted [] = None
accepted (verb ∷ []) = None
accepted (verb ∷ schema ∷ lanes) =
    if bytes_eq verb (codes "run") && names_file schema && are_lanes lanes
    then Some (schema, lanes) else None

-- the names that a command has
abbrev pub names_of : Command → List ℕ × List (List ℕ)
names_of command = (command.schema.now, map string_bytes command.lanes.now)

-- the files of these names in the order of their numbers: the schema, then the lanes
abbrev pub file_names : List ℕ × List (List ℕ) → List (List ℕ)
file_names names = names.0 ∷ names.1
