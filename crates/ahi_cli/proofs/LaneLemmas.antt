-- Lanes that a loop reads one after another.
use Rattle.std.proofs.Common.{◌≡◌, ℕ, ◌+◌, ◌<◌, List, [], ◌∷◌, ◌++◌, length, get_or, map, take, ap, ◌∙◌, sym, subst, arith, String, Vec}
use Rattle.std.proofs.lemmas.List.{get_or-map, length-map, map-append, take_more}
use Rattle.std.specs.List.{AllByRecursion}
use Rattle.std.specs.String.{string_bytes}
use Rattle.std.specs.declared.alloc.Global.{Global}
use Rattle.io_port.specs.Shelf.{Files}
use Rattle.io_port.specs.declared.shelf.Shelf.{Ghosts}
use Rattle.map_history.specs.declared.line.Line as script
use Rattle.script.specs.Schema.{SchemaText}
use Rattle.map_history.specs.Lines.{line_texts}
use Rattle.lane_threads.specs.Together.{lane_texts}
use Rattle.ahi_cli.specs.Files.{KeepsFiles, SpellsLane}
use Rattle.ahi_cli.proofs.FirstLemmas.{SpellsUpTo, one_lane_more}

-- one more element that is as the others
pub all_more : {X : Type 0} (P : X → Type 0) (xs ys : List X) (x : X) → ys ≡ xs ++ x ∷ [] → AllByRecursion P xs → P x → AllByRecursion P ys
all_more P xs ys x e all one = subst (AllByRecursion P) (sym e) (at_end xs all)
  where
    at_end : (xs : List _) → AllByRecursion P xs → AllByRecursion P (xs ++ x ∷ [])
    at_end [] all = (one, tt)
    at_end (y ∷ xs) all = (all.0, at_end xs all.1)

-- the name at a place, as the program has it
pub name_at : (names : List (String Global)) (i : ℕ) (name : String Global) (text : List ℕ) → i < length names → name ≡ get_or names i name → text ≡ string_bytes name → text ≡ get_or (map string_bytes names) i []
name_at names i name text below here is = is ∙ ap string_bytes here ∙ sym (get_or-map string_bytes names i name [] below)

-- the lines of one lane more
texts_more : (lanes lanes' : List (Vec script.Line Global)) (lines : Vec script.Line Global) → lanes' ≡ lanes ++ lines ∷ [] → lane_texts lanes' ≡ lane_texts lanes ++ line_texts lines.items ∷ []
texts_more lanes lanes' lines e = ap lane_texts e ∙ map-append (λ (l : Vec script.Line Global). line_texts l.items) lanes (lines ∷ [])

-- one lane more is spelled
pub spelled_more : (files : Files) (schema : SchemaText) (before : ℕ) (names : List (List ℕ)) (i : ℕ) (name : List ℕ) (lanes lanes' : List (Vec script.Line Global)) (lines : Vec script.Line Global) (size bytes : ℕ) → i < length names → name ≡ get_or names i [] → lanes' ≡ lanes ++ lines ∷ [] → SpellsUpTo files schema before (take i names) (lane_texts lanes) size → (lane : SpellsLane files name schema size (line_texts lines.items)) → bytes ≡ length lane.bytes → SpellsUpTo files schema before (take (i + 1) names) (lane_texts lanes') (size + bytes)
spelled_more files schema before names i name lanes lanes' lines size bytes below is e so_far lane count =
    let more = one_lane_more files schema before (take i names) (lane_texts lanes) size (size + bytes) name (line_texts lines.items) so_far lane (ap (λ n. size + n) (sym count)) in
    let named : take (i + 1) names ≡ take i names ++ name ∷ [] = take_more names i [] below ∙ ap (λ n. take i names ++ n ∷ []) (sym is) in
    subst (λ ns. SpellsUpTo files schema before ns (lane_texts lanes') (size + bytes)) (sym named)
    (subst (λ ls. SpellsUpTo files schema before (take i names ++ name ∷ []) ls (size + bytes)) (sym (texts_more lanes lanes' lines e)) more)

-- a place among lanes is one among their names
pub lane_is_named : (names : List (String Global)) (i : ℕ) → i < length names → i < length (map string_bytes names)
lane_is_named names i below = subst (λ n. i < n) (sym (length-map names string_bytes)) below

-- what is kept by two calls, one behind the other, is kept by both
pub keeps_files_on : {F : Type 0} (shelf : Ghosts F) (old between new : F) → KeepsFiles shelf old between → KeepsFiles shelf between new → KeepsFiles shelf old new
keeps_files_on shelf old between new first second = (second.0 ∙ first.0, omega (arith, first.1, second.1))
