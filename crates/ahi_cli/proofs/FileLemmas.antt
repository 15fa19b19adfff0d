-- Why files aren't read.
use Rattle.std.proofs.Common.{◌≡◌, ℕ, zero, suc, ◌+◌, ◌-◌, ◌<◌, ◌≤◌, Option, Some, None, Err, Vec, true, false, ltb, List, [], ◌∷◌, ◌++◌, length, get_or, take, drop, drop-cons, refl, ap, ◌∙◌, sym, subst, arith, cond, ◌⊎◌, inl, inr}
use Rattle.std.proofs.lemmas.Bool.Decides.{nat_tests}
use Rattle.std.proofs.lemmas.List.{take-append-drop, length-take-le}
use Rattle.std.proofs.lemmas.Option.{slice_get-get_or}
use Rattle.std.specs.Option.{ForSome, IsSomeAnd}
use Rattle.std.specs.Prelude.{slice_index}
use mathlib.Core.Option.{some}
use lib.ListN.{get_elem?}
use Rattle.io_port.specs.Faults.{ShowsFault}
use Rattle.std.specs.declared.alloc.Global.{Global}
use Rattle.io_port.specs.Shelf.{Files, IsFileOf, OnFailed}
use Rattle.io_port.specs.declared.shelf.ShelfError.{ShelfError}
use Rattle.io_port.specs.declared.shelf.ShelfError.TheVariants.{Failed}
use Rattle.map_history.specs.declared.op.Op.{Op}
use Rattle.map_history.specs.declared.op.Op.TheVariants as op
use Rattle.map_history.specs.Operation.{operation_of}
use Rattle.map_history.specs.LegalReport.{Line}
use Rattle.script.specs.declared.TheConstants.{MAX_FILE_BYTES}
use Rattle.map_history.specs.declared.line.Line as script
use Rattle.script.specs.declared.error.Flaw.{Flaw}
use Rattle.script.specs.declared.error.ScriptError.{ScriptError}
use Rattle.script.specs.declared.error.ScriptError.TheVariants as error
use Rattle.script.specs.Schema.{SchemaText, schema_of}
use Rattle.script.specs.Lane.{lane_of, AreLaneLines, FitsFields}
use Rattle.map_history.specs.Lines.{line_texts}
use Rattle.lane_law.specs.Lines.{IsOpOf, AreLinesOf}
use Rattle.ahi_cli.specs.declared.stop.Stop.{Stop}
use Rattle.ahi_cli.specs.declared.stop.Stop.TheVariants.{Usage, Script, Shelf, TooLarge, Sizes, NoMemory}
use Rattle.ahi_cli.specs.Stops.{schema_stop, lane_stop, stop_in, refused}
use Rattle.ahi_cli.specs.FirstRefusal.{file_stop, lanes_stop, reading_stop, files_stop}
use Rattle.ahi_cli.specs.Files.{Failures, FailsAt, StopsLoading, StopsFile, StopsReading, SpellsSchema}
use Rattle.ahi_cli.specs.Words.{file_names}
use Rattle.ahi_cli.proofs.FirstLemmas.{SpellsUpTo, spells_lanes, schema_passes, lanes_pass, all_pass, reading_refuses, schema_refuses, lane_refuses}

-- a fault of a later part of a call is one of the call
faults-le : (a b c : ℕ) → a ≤ b → ShowsFault b c → ShowsFault a c
faults-le a b c le (inl rose) = inl (omega arith)
faults-le a b c le (inr last) = inr last

-- a flaw isn't want of memory
error_clash : (line : ℕ) (kind : Flaw) → error.Flawed line kind ≡ error.NoMemory → ⊥
error_clash line kind e = cc

-- a file that is longer is refused for that
longer_file : (o : Option (List ℕ)) (file limit : ℕ) (refusal : List ℕ → Option Stop) → ((bytes : List ℕ) → limit < length bytes → refusal bytes ≡ Some (TooLarge file)) → IsSomeAnd o (λ bytes. limit < length bytes) → file_stop file o refusal ≡ Some (TooLarge file)
longer_file None file limit refusal longer h = absurd h
longer_file (Some bytes) file limit refusal longer h = longer bytes h

-- a file that isn't loaded isn't read
pub unloaded : (told : Option Files) (failures : Failures) (file : ℕ) (name : List ℕ) (limit : ℕ) (refusal : List ℕ → Option Stop) (stop : Stop) → ((bytes : List ℕ) → limit < length bytes → refusal bytes ≡ Some (TooLarge file)) → StopsLoading told failures file name limit stop → StopsFile told failures file name refusal stop
unloaded told failures file name limit refusal Usage longer h = absurd h
unloaded told failures file name limit refusal (Script n line code) longer h = absurd h
unloaded told failures file name limit refusal (Shelf n) longer h = h
unloaded told failures file name limit refusal (TooLarge n) longer h = λ files e. longer_file (files name) file limit refusal longer (h.1 files e) ∙ ap (λ m. Some (TooLarge m)) (sym h.0)
unloaded told failures file name limit refusal (Sizes setting) longer h = absurd h
unloaded told failures file name limit refusal NoMemory longer h = h

-- a load that failed tells so of this name
pub of_failed : (faults faults' : ℕ) (failed : Option (List ℕ)) (name : List ℕ) (e : ShelfError) → e ≡ Failed → OnFailed {T = Vec ℕ Global} (Err e) (ShowsFault faults faults' × (failed ≡ Some name)) → ShowsFault faults faults' × (failed ≡ Some name)
of_failed faults faults' failed name e is told = subst (λ (x : ShelfError). OnFailed {T = Vec ℕ Global} (Err x) (ShowsFault faults faults' × (failed ≡ Some name))) is told

-- what is wrong with a file's bytes is its refusal
pub unread : (told : Option Files) (failures : Failures) (file : ℕ) (name bytes : List ℕ) (refusal : List ℕ → Option Stop) (e : ScriptError) (stop : Stop) → IsFileOf told name bytes → stop ≡ refused file e → (e ≡ error.NoMemory) ⊎ (refusal bytes ≡ Some (refused file e)) → StopsFile told failures file name refusal stop
unread told failures file name bytes refusal e stop there is cause = subst (StopsFile told failures file name refusal) (sym is) (by_error e cause)
  where
    by_error : (e : ScriptError) → (e ≡ error.NoMemory) ⊎ (refusal bytes ≡ Some (refused file e)) → StopsFile told failures file name refusal (refused file e)
    by_error error.NoMemory cause = tt
    by_error (error.Flawed line kind) (inl lacked) = absurd (error_clash line kind lacked)
    by_error (error.Flawed line kind) (inr refuses) = λ files e. ap (λ o. file_stop file o refusal) (there files e) ∙ refuses

-- the cause of an error is the refusal of bytes that aren't too long
pub schema_cause : (bytes : List ℕ) (e : ScriptError) → length bytes ≤ MAX_FILE_BYTES → (e ≡ error.NoMemory) ⊎ (schema_of bytes ≡ Err e) → (e ≡ error.NoMemory) ⊎ (schema_stop bytes ≡ Some (refused 0 e))
schema_cause bytes e fits (inl lacked) = inl lacked
schema_cause bytes e fits (inr read) =
    let short : ltb MAX_FILE_BYTES (length bytes) ≡ false = grind (arith, nat_tests) in
    inr (ap (λ b. cond b (Some (TooLarge 0)) (stop_in 0 (schema_of bytes))) short ∙ ap (stop_in 0) read)

pub lane_cause : (file before : ℕ) (schema : SchemaText) (bytes : List ℕ) (e : ScriptError) → before + length bytes ≤ MAX_FILE_BYTES → (e ≡ error.NoMemory) ⊎ (lane_of schema bytes ≡ Err e) → (e ≡ error.NoMemory) ⊎ (lane_stop file before schema bytes ≡ Some (refused file e))
lane_cause file before schema bytes e fits (inl lacked) = inl lacked
lane_cause file before schema bytes e fits (inr read) =
    let short : ltb MAX_FILE_BYTES (before + length bytes) ≡ false = grind (arith, nat_tests) in
    inr (ap (λ b. cond b (Some (TooLarge file)) (stop_in file (lane_of schema bytes))) short ∙ ap (stop_in file) read)

-- bytes within what is left fit
pub fits_left : (before bytes : ℕ) → before ≤ MAX_FILE_BYTES → bytes ≤ MAX_FILE_BYTES - before → before + bytes ≤ MAX_FILE_BYTES
fits_left before bytes fits within = omega arith

-- files that are too long are refused for that
pub long_schema : (bytes : List ℕ) → MAX_FILE_BYTES < length bytes → schema_stop bytes ≡ Some (TooLarge 0)
long_schema bytes long = let e : ltb MAX_FILE_BYTES (length bytes) ≡ true = grind (arith, nat_tests) in ap (λ b. cond b (Some (TooLarge 0)) (stop_in 0 (schema_of bytes))) e

pub long_lane : (file before : ℕ) (schema : SchemaText) (bytes : List ℕ) → before ≤ MAX_FILE_BYTES → MAX_FILE_BYTES - before < length bytes → lane_stop file before schema bytes ≡ Some (TooLarge file)
long_lane file before schema bytes fits long =
    let past : MAX_FILE_BYTES < before + length bytes = omega arith in
    let e : ltb MAX_FILE_BYTES (before + length bytes) ≡ true = grind (arith, nat_tests) in
    ap (λ b. cond b (Some (TooLarge file)) (stop_in file (lane_of schema bytes))) e

-- the key of an operation has as many fields as its index, and a tuple no more
key_of : (fields : List ℕ) (index n : ℕ) → index < length fields → n ≡ slice_index fields index → get_elem? fields index ≡ some n
key_of [] index n below e = absurd (omega arith)
key_of (f ∷ fields) zero n below e = ap some (sym e)
key_of (f ∷ fields) (suc index) n below e = key_of fields index n (omega arith) e

op_of : (fields : List ℕ) (o : Op) → (operation_of o).index < length fields → FitsFields (slice_index fields (operation_of o).index) (operation_of o).ask → IsOpOf fields o
op_of fields (op.Get index k) below e = key_of fields index (length k.tuple) below e
op_of fields (op.Put index k value) below e = key_of fields index (length k.tuple) below e
op_of fields (op.Set index k value) below e = key_of fields index (length k.tuple) below e
op_of fields (op.Del index k) below e = key_of fields index (length k.tuple) below e
op_of fields (op.Seek index mode tuple) below e = (slice_index fields index, key_of fields index (slice_index fields index) below refl, e)
op_of fields (op.Scan index from to limit) below e = absurd e

-- the lines of a lane ask what its schema's indexes can be asked
pub lines_ask : (schema : SchemaText) (lines : List script.Line) → length schema.fields ≡ length schema.names → AreLaneLines schema (line_texts lines) → AreLinesOf schema.fields lines
lines_ask schema [] paired all = tt
lines_ask schema (line ∷ lines) paired all = (op_of schema.fields line.op (omega (arith, all.0.known, paired)) all.0.fields, lines_ask schema lines paired all.1)

-- what stops the schema stops the reading
pub unread_schema : (told : Option Files) (failures : Failures) (names : List ℕ × List (List ℕ)) (stop : Stop) → StopsFile told failures 0 names.0 schema_stop stop → StopsReading told failures (file_names names) stop
unread_schema told failures names Usage h = absurd h
unread_schema told failures names (Script n line code) h = λ files e. schema_refuses files names.0 names.1 (Script n line code) (h files e)
unread_schema told failures names (Shelf n) h = subst (FailsAt told failures (file_names names)) (sym h.0) record { name = names.0; named = refl; failed = h.1; before = λ files e. refl }
unread_schema told failures names (TooLarge n) h = λ files e. schema_refuses files names.0 names.1 (TooLarge n) (h files e)
unread_schema told failures names (Sizes setting) h = absurd h
unread_schema told failures names NoMemory h = h

-- the names up to a place, the one there, and those behind it
split_at : (names : List (List ℕ)) (i : ℕ) → i < length names → names ≡ take i names ++ (get_or names i [] ∷ drop (suc i) names)
split_at names i below = sym (take-append-drop i names) ∙ ap (λ r. take i names ++ r) (drop-cons names i [] below)

-- Lanes up to a place were read: what was told then is told now of it, and of the files behind it.
module _ (told : Option Files) (names : List ℕ × List (List ℕ)) (schema : SchemaText) (first i size : ℕ) (lanes : List (List Line)) (below : i < length names.1)
    (spelled : ForSome told (λ files. SpellsSchema files names.0 schema first)) (so_far : ForSome told (λ files. SpellsUpTo files schema first (take i names.1) lanes size)) where
  rest : List (List ℕ)
  rest = drop (suc i) names.1

  reached : (files : Files) → told ≡ Some files → reading_stop files (file_names names) ≡ lanes_stop files schema (i + 1) size (get_or names.1 i [] ∷ rest)
  unfolding rest
  reached files e =
      let le : i ≤ length names.1 = omega arith in
      let number : 1 + length (take i names.1) ≡ i + 1 = omega (arith, length-take-le i names.1 le) in
      schema_passes files names.0 names.1 schema first (spelled files e)
      ∙ ap (lanes_stop files schema 1 first) (split_at names.1 i below)
      ∙ lanes_pass files schema 1 first (take i names.1) lanes size (get_or names.1 i [] ∷ rest) (so_far files e)
      ∙ ap (λ n. lanes_stop files schema n size (get_or names.1 i [] ∷ rest)) number

  refuses : (files : Files) (stop : Stop) → told ≡ Some files → file_stop (i + 1) (files (get_or names.1 i [])) (lane_stop (i + 1) size schema) ≡ Some stop → files_stop files (file_names names) ≡ Some stop
  refuses files stop e refused = reading_refuses files (file_names names) stop (reached files e ∙ lane_refuses files schema (i + 1) size (get_or names.1 i []) rest stop refused)

  passed : (files : Files) → told ≡ Some files → reading_stop files (take (suc i) (file_names names)) ≡ None
  passed files e = schema_passes files names.0 (take i names.1) schema first (spelled files e) ∙ all_pass files schema 1 first (take i names.1) lanes (spells_lanes files schema first (take i names.1) lanes size (so_far files e))

  -- what stops a lane stops the reading
  pub unread_lane : (told' : Option Files) (before between now : ℕ) (failed : Option (List ℕ)) (stop : Stop) → told' ≡ told → before ≤ between → StopsFile told' (record { before = between; now = now; name = failed }) (i + 1) (get_or names.1 i []) (lane_stop (i + 1) size schema) stop → StopsReading told (record { before = before; now = now; name = failed }) (file_names names) stop
  unread_lane told' before between now failed Usage same le h = absurd h
  unread_lane told' before between now failed (Script n line code) same le h = λ files e. refuses files (Script n line code) e (h files (same ∙ e))
  unread_lane told' before between now failed (Shelf n) same le h =
      let number : suc i ≡ n = omega (arith, h.0) in
      subst (FailsAt told (record { before = before; now = now; name = failed }) (file_names names)) number record {
        name = get_or names.1 i [];
        named = slice_get-get_or names.1 i [] below;
        failed = (faults-le before between now le h.1.0, h.1.1);
        before = passed;
      }
  unread_lane told' before between now failed (TooLarge n) same le h = λ files e. refuses files (TooLarge n) e (h files (same ∙ e))
  unread_lane told' before between now failed (Sizes setting) same le h = absurd h
  unread_lane told' before between now failed NoMemory same le h = h

-- what stops the lanes stops the reading, from before the schema's load on
pub unread_lanes : (told told' : Option Files) (before between now : ℕ) (failed : Option (List ℕ)) (names : List (List ℕ)) (stop : Stop) → told' ≡ told → before ≤ between → StopsReading told' (record { before = between; now = now; name = failed }) names stop → StopsReading told (record { before = before; now = now; name = failed }) names stop
unread_lanes told told' before between now failed names Usage same le h = absurd h
unread_lanes told told' before between now failed names (Script n line code) same le h = λ files e. h files (same ∙ e)
unread_lanes told told' before between now failed names (Shelf n) same le h = record {
  name = h.name;
  named = h.named;
  failed = (faults-le before between now le h.failed.0, h.failed.1);
  before = λ files e. h.before files (same ∙ e);
}
unread_lanes told told' before between now failed names (TooLarge n) same le h = λ files e. h files (same ∙ e)
unread_lanes told told' before between now failed names (Sizes setting) same le h = absurd h
unread_lanes told told' before between now failed names NoMemory same le h = h
