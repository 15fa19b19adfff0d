-- Elements at their places, as the loops read them.
use Rattle.std.proofs.Common.{◌≡◌, ℕ, zero, suc, ◌+◌, ◌<◌, Some, List, [], ◌∷◌, length, get_or, map, Vec, String, Result, refl, ap, ◌∙◌, sym, subst, arith}
use Rattle.std.specs.List.{slice_get, enumerate_from}
use Rattle.std.specs.String.{string_bytes}
use Rattle.std.specs.declared.alloc.Global.{Global}
use Rattle.std.proofs.lemmas.Option.{slice_get_read, slice_get-get_or}
use Rattle.list_facts.proofs.Elements.{map_get}
use Rattle.list_facts.proofs.Places.{one_at}
use Rattle.std.proofs.lemmas.List.{length-map}
use Rattle.io_port.specs.declared.sink.Sink.{Ghosts}
use Rattle.change_log.specs.declared.change.LaneChange.{LaneChange}
use Rattle.change_log.specs.Log.{note_of}
use Rattle.change_log.specs.Merge.{note_lists}
use Rattle.report_print.specs.declared.halt.Halt.{Halt}
use Rattle.report_print.specs.Prints.{PrintsTo}
use Rattle.report_print.specs.Texts.{changes_line}

-- an element that was read
pub item_there : {X : Type 0} (xs : List X) (i : ℕ) (x : X) → i < length xs → x ≡ get_or xs i x → slice_get xs i ≡ Some x
item_there xs i x below is = slice_get_read xs (length xs) i x refl below is

-- a text that was read
pub text_there : (texts : List (List ℕ)) (i : ℕ) (text : List ℕ) → i < length texts → text ≡ get_or texts i [] → slice_get texts i ≡ Some text
text_there texts i text below is = slice_get-get_or texts i [] below ∙ ap Some (sym is)

-- a lane's answers, with the number of the lane
numbered_there : (k n i : ℕ) (answers : List (List (List ℕ))) (lane : List (List ℕ)) → n ≡ k + i → slice_get answers i ≡ Some lane → slice_get (enumerate_from k answers) i ≡ Some (n, lane)
numbered_there k n i [] lane is at = absurd cc
numbered_there k n zero (x ∷ answers) lane is at = let same : k ≡ n = omega arith in let one = one_at (x ∷ answers) zero x lane refl at in λ j. Some (same j, one j)
numbered_there k n (suc i) (x ∷ answers) lane is at = numbered_there (k + 1) n i answers lane (omega arith) at

pub lane_there : (answers : List (List (List ℕ))) (i : ℕ) (lane : List (List ℕ)) → i < length answers → lane ≡ get_or answers i lane → slice_get (enumerate_from 1 answers) i ≡ Some (i + 1, lane)
lane_there answers i lane below is = numbered_there 1 (i + 1) i answers lane (omega arith) (item_there answers i lane below is)

-- the name of an index
pub name_there : (names : List (String Global)) (i : ℕ) (string : String Global) (name : List ℕ) → i < length names → string ≡ get_or names i string → name ≡ string_bytes string → slice_get (map string_bytes names) i ≡ Some name
name_there names i string name below is same = map_get string_bytes names i string (item_there names i string below is) ∙ ap Some (sym same)

-- its changes
pub list_there : (lists : List (Vec LaneChange Global)) (i : ℕ) (list : Vec LaneChange Global) (changes : List LaneChange) → i < length lists → list ≡ get_or lists i list → changes ≡ list.items → slice_get (note_lists lists) i ≡ Some (map note_of changes)
list_there lists i list changes below is same = map_get (λ (list : Vec LaneChange Global). map note_of list.items) lists i list (item_there lists i list below is) ∙ ap (λ cs. Some (map note_of cs)) (sym same)

-- one of them
pub note_there : (changes : List LaneChange) (i : ℕ) (change : LaneChange) → i < length changes → change ≡ get_or changes i change → slice_get (map note_of changes) i ≡ Some (note_of change)
note_there changes i change below is = map_get note_of changes i change (item_there changes i change below is)

-- the line that counts them
pub counted_line : {K : Type 0} (sink : Ghosts K) (k l : K) (name : List ℕ) (changes : List LaneChange) (r : Result (Unit {0}) Halt) → PrintsTo sink k l (changes_line name (length changes)) r → PrintsTo sink k l (changes_line name (length (map note_of changes))) r
counted_line sink k l name changes r put = subst (λ n. PrintsTo sink k l (changes_line name n) r) (sym (length-map changes note_of)) put
