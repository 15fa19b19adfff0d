-- The first refusal of files, from what is read of each.
use Rattle.std.proofs.Common.{◌≡◌, ℕ, ◌+◌, ◌≤◌, Option, Some, None, Ok, List, [], ◌∷◌, ◌++◌, length, refl, ap, ◌∙◌, sym, arith, cond}
use Rattle.std.proofs.lemmas.Bool.{le-ltb}
use Rattle.std.specs.Option.{option_or}
use Rattle.io_port.specs.Shelf.{Files}
use Rattle.map_history.specs.LegalReport.{Line}
use Rattle.script.specs.declared.TheConstants.{MAX_FILE_BYTES}
use Rattle.script.specs.Schema.{SchemaText, schema_of}
use Rattle.script.specs.Lane.{lane_of}
use Rattle.ahi_cli.specs.declared.stop.Stop.{Stop}
use Rattle.ahi_cli.specs.declared.stop.Stop.TheVariants.{TooLarge}
use Rattle.ahi_cli.specs.Files.{SpellsSchema, SpellsLane, SpellsLanes, Spells}
use Rattle.ahi_cli.specs.FirstRefusal.{file_stop, lanes_stop, with_schema, reading_stop, sizes_stop, files_stop}
use Rattle.ahi_cli.specs.Stops.{schema_stop, lane_stop, stop_in}
use Rattle.ahi_cli.specs.Words.{file_names}

-- a file that spells its part has no refusal
good_schema : (bytes : List ℕ) (schema : SchemaText) → length bytes ≤ MAX_FILE_BYTES → schema_of bytes ≡ Ok schema → schema_stop bytes ≡ None
good_schema bytes schema fits spelled = ap (λ b. cond b (Some (TooLarge 0)) (stop_in 0 (schema_of bytes))) (le-ltb MAX_FILE_BYTES (length bytes) fits) ∙ ap (stop_in 0) spelled

good_lane : (file before : ℕ) (schema : SchemaText) (bytes : List ℕ) (lines : List Line) → before + length bytes ≤ MAX_FILE_BYTES → lane_of schema bytes ≡ Ok lines → lane_stop file before schema bytes ≡ None
good_lane file before schema bytes lines fits spelled = ap (λ b. cond b (Some (TooLarge file)) (stop_in file (lane_of schema bytes))) (le-ltb MAX_FILE_BYTES (before + length bytes) fits) ∙ ap (stop_in file) spelled

-- behind a schema that is spelled the lanes are judged
pub schema_passes : (files : Files) (name : List ℕ) (lanes : List (List ℕ)) (schema : SchemaText) (size : ℕ) → SpellsSchema files name schema size → reading_stop files (name ∷ lanes) ≡ lanes_stop files schema 1 size lanes
schema_passes files name lanes schema size s =
    let short : length s.bytes ≤ MAX_FILE_BYTES = omega (arith, s.sized, s.fits) in
    ap (λ o. file_stop 0 o judge) s.there
    ∙ ap (λ o. option_or o (with_schema (schema_of s.bytes) (λ t. lanes_stop files t 1 (length s.bytes) lanes))) (good_schema s.bytes schema short s.spelled)
    ∙ ap (λ r. with_schema r (λ t. lanes_stop files t 1 (length s.bytes) lanes)) s.spelled
    ∙ ap (λ n. lanes_stop files schema 1 n lanes) (sym s.sized)
  where
    judge : List ℕ → Option Stop
    judge bytes = option_or (schema_stop bytes) (with_schema (schema_of bytes) (λ t. lanes_stop files t 1 (length bytes) lanes))

-- and behind them all its sizes
schema_sizes : (files : Files) (name : List ℕ) (lanes : ℕ) (schema : SchemaText) (size : ℕ) → SpellsSchema files name schema size → file_stop 0 (files name) (λ bytes. with_schema (schema_of bytes) (λ t. sizes_stop t lanes)) ≡ sizes_stop schema lanes
schema_sizes files name lanes schema size s =
    ap (λ o. file_stop 0 o (λ bytes. with_schema (schema_of bytes) (λ t. sizes_stop t lanes))) s.there
    ∙ ap (λ r. with_schema r (λ t. sizes_stop t lanes)) s.spelled

-- behind a lane that is spelled the next ones are
lane_passes : (files : Files) (schema : SchemaText) (file before : ℕ) (name : List ℕ) (names : List (List ℕ)) (lines : List Line) → (s : SpellsLane files name schema before lines) → lanes_stop files schema file before (name ∷ names) ≡ lanes_stop files schema (file + 1) (before + length s.bytes) names
lane_passes files schema file before name names lines s =
    ap (λ o. file_stop file o (λ bytes. option_or (lane_stop file before schema bytes) (lanes_stop files schema (file + 1) (before + length bytes) names))) s.there
    ∙ ap (λ o. option_or o (lanes_stop files schema (file + 1) (before + length s.bytes) names)) (good_lane file before schema s.bytes lines s.fits s.spelled)

-- the files of these names spell the lanes, and with them there are so many bytes
abbrev pub SpellsUpTo : Files → SchemaText → ℕ → List (List ℕ) → List (List Line) → ℕ → Type 0
SpellsUpTo files schema before [] [] after = before ≡ after
SpellsUpTo files schema before (name ∷ names) (lines ∷ lanes) after =
    (lane : SpellsLane files name schema before lines)
    × SpellsUpTo files schema (before + length lane.bytes) names lanes after
SpellsUpTo files schema before names lanes after = ⊥

-- so they spell them
pub spells_lanes : (files : Files) (schema : SchemaText) (before : ℕ) (names : List (List ℕ)) (lanes : List (List Line)) (after : ℕ) → SpellsUpTo files schema before names lanes after → SpellsLanes files schema before names lanes
spells_lanes files schema before [] [] after s = tt
spells_lanes files schema before [] (lines ∷ lanes) after s = absurd s
spells_lanes files schema before (name ∷ names) [] after s = absurd s
spells_lanes files schema before (name ∷ names) (lines ∷ lanes) after s = (s.0, spells_lanes files schema (before + length s.0.bytes) names lanes after s.1)

-- one lane more
pub one_lane_more : (files : Files) (schema : SchemaText) (before : ℕ) (names : List (List ℕ)) (lanes : List (List Line)) (between after : ℕ) (name : List ℕ) (lines : List Line) → SpellsUpTo files schema before names lanes between → (lane : SpellsLane files name schema between lines) → between + length lane.bytes ≡ after → SpellsUpTo files schema before (names ++ name ∷ []) (lanes ++ lines ∷ []) after
one_lane_more files schema before [] [] between after name lines s lane e =
    let fits : before + length lane.bytes ≤ MAX_FILE_BYTES = omega (arith, s, lane.fits) in
    let count : before + length lane.bytes ≡ after = omega (arith, s, e) in
    (record { bytes = lane.bytes; there = lane.there; spelled = lane.spelled; fits = fits }, count)
one_lane_more files schema before [] (l ∷ lanes) between after name lines s lane e = absurd s
one_lane_more files schema before (n ∷ names) [] between after name lines s lane e = absurd s
one_lane_more files schema before (n ∷ names) (l ∷ lanes) between after name lines s lane e = (s.0, one_lane_more files schema (before + length s.0.bytes) names lanes between after name lines s.1 lane e)

-- behind lanes that are spelled the next ones are judged
pub lanes_pass : (files : Files) (schema : SchemaText) (file before : ℕ) (names : List (List ℕ)) (lanes : List (List Line)) (after : ℕ) (rest : List (List ℕ)) → SpellsUpTo files schema before names lanes after → lanes_stop files schema file before (names ++ rest) ≡ lanes_stop files schema (file + length names) after rest
lanes_pass files schema file before [] [] after rest s = (λ j. lanes_stop files schema (same j) (s j) rest)
  where
    same : file ≡ file + 0
    same = omega arith
lanes_pass files schema file before [] (lines ∷ lanes) after rest s = absurd s
lanes_pass files schema file before (name ∷ names) [] after rest s = absurd s
lanes_pass files schema file before (name ∷ names) (lines ∷ lanes) after rest s =
    let number : file + 1 + length names ≡ file + length (name ∷ names) = omega arith in
    lane_passes files schema file before name (names ++ rest) lines s.0
    ∙ lanes_pass files schema (file + 1) (before + length s.0.bytes) names lanes after rest s.1
    ∙ ap (λ n. lanes_stop files schema n after rest) number

-- lanes that are spelled have no refusal
pub all_pass : (files : Files) (schema : SchemaText) (file before : ℕ) (names : List (List ℕ)) (lanes : List (List Line)) → SpellsLanes files schema before names lanes → lanes_stop files schema file before names ≡ None
all_pass files schema file before [] [] s = refl
all_pass files schema file before [] (lines ∷ lanes) s = absurd s
all_pass files schema file before (name ∷ names) [] s = absurd s
all_pass files schema file before (name ∷ names) (lines ∷ lanes) s = lane_passes files schema file before name names lines s.0 ∙ all_pass files schema (file + 1) (before + length s.0.bytes) names lanes s.1

-- a file's refusal is that of it and the files behind it
behind : (file : ℕ) (o : Option (List ℕ)) (refusal : List ℕ → Option Stop) (more : List ℕ → Option Stop) (stop : Stop) → file_stop file o refusal ≡ Some stop → file_stop file o (λ bytes. option_or (refusal bytes) (more bytes)) ≡ Some stop
behind file None refusal more stop e = e
behind file (Some bytes) refusal more stop e = ap (λ r. option_or r (more bytes)) e

-- a refusal in reading is the first one of the files
pub reading_refuses : (files : Files) (names : List (List ℕ)) (stop : Stop) → reading_stop files names ≡ Some stop → files_stop files names ≡ Some stop
reading_refuses files [] stop e = e
reading_refuses files (name ∷ lanes) stop e = ap (λ r. option_or r (file_stop 0 (files name) (λ bytes. with_schema (schema_of bytes) (λ schema. sizes_stop schema (length lanes))))) e

pub schema_refuses : (files : Files) (name : List ℕ) (lanes : List (List ℕ)) (stop : Stop) → file_stop 0 (files name) schema_stop ≡ Some stop → files_stop files (name ∷ lanes) ≡ Some stop
schema_refuses files name lanes stop e = reading_refuses files (name ∷ lanes) stop (behind 0 (files name) schema_stop (λ bytes. with_schema (schema_of bytes) (λ schema. lanes_stop files schema 1 (length bytes) lanes)) stop e)

pub lane_refuses : (files : Files) (schema : SchemaText) (file before : ℕ) (name : List ℕ) (names : List (List ℕ)) (stop : Stop) → file_stop file (files name) (lane_stop file before schema) ≡ Some stop → lanes_stop files schema file before (name ∷ names) ≡ Some stop
lane_refuses files schema file before name names stop e = behind file (files name) (lane_stop file before schema) (λ bytes. lanes_stop files schema (file + 1) (before + length bytes) names) stop e

-- files that spell a run have no refusal but that of the sizes
pub unrefused : (files : Files) (names : List ℕ × List (List ℕ)) (schema : SchemaText) (lanes : List (List Line)) → Spells files names schema lanes → files_stop files (file_names names) ≡ sizes_stop schema (length names.1)
unrefused files names schema lanes s =
    ap (λ r. option_or r (file_stop 0 (files names.0) (λ bytes. with_schema (schema_of bytes) (λ t. sizes_stop t (length names.1))))) (schema_passes files names.0 names.1 schema s.size s.schema_file ∙ all_pass files schema 1 s.size names.1 lanes s.lane_files)
    ∙ schema_sizes files names.0 (length names.1) schema s.size s.schema_file

-- there are as many lanes as names
pub as_many : (files : Files) (schema : SchemaText) (before : ℕ) (names : List (List ℕ)) (lanes : List (List Line)) → SpellsLanes files schema before names lanes → length names ≡ length lanes
as_many files schema before [] [] s = refl
as_many files schema before [] (lines ∷ lanes) s = absurd s
as_many files schema before (name ∷ names) [] s = absurd s
as_many files schema before (name ∷ names) (lines ∷ lanes) s = let e = as_many files schema (before + length s.0.bytes) names lanes s.1 in omega (arith, e)
