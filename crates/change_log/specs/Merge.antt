-- What a merge of logs is.
use Rattle.std.specs.Prelude.{ℕ, ◌≡◌, ◌==◌, Some, List, ◌++◌, length, map, Vec}
use Rattle.std.specs.List.{slice_get, filter, flat_map}
use Rattle.std.specs.List.Sorted.{IsPermutation, IsNonDecreasingBy}
use Rattle.std.specs.declared.alloc.Global.{Global}
use Rattle.change_log.specs.declared.change.LaneChange.{LaneChange}
use Rattle.change_log.specs.Log.{ChangeNote, note_of, Log}

-- those of some changes that are of an index, in the same order
abbrev pub notes_on : ℕ → List ChangeNote → List ChangeNote
notes_on index notes = filter (λ (c : ChangeNote). c.line.op.index == index) notes

-- the changes of an index in all logs
abbrev pub notes_in : ℕ → List Log → List ChangeNote
notes_in index logs = flat_map (λ (log : Log). notes_on index log.noted) logs

-- these are the same changes, none added and none lost, and their numbers ascend
pub record IsSorted (notes sorted : List ChangeNote) : Type 0 where
  pub same : IsPermutation notes sorted
  pub ascending : IsNonDecreasingBy (λ (c : ChangeNote). c.number) sorted

-- these are the changes of the index in all logs, by ascending number
abbrev pub IsMerge : ℕ → List Log → List ChangeNote → Type 0
IsMerge index logs merged = IsSorted (notes_in index logs) merged

-- for each of so many indexes its changes are merged
pub record AreMerges (indexes : ℕ) (logs : List Log) (all : List (List ChangeNote)) : Type 0 where
  pub count : length all ≡ indexes
  pub each : (i : ℕ) (merged : List ChangeNote) → slice_get all i ≡ Some merged
      → IsMerge i logs merged

-- lists of changes that stand in vectors
abbrev pub note_lists : List (Vec LaneChange Global) → List (List ChangeNote)
note_lists lists = map (λ (list : Vec LaneChange Global). map note_of list.items) lists

-- the changes were put behind those in the list of their index, where there is one
pub record Spreads (notes : List ChangeNote) (old new : List (List ChangeNote)) : Type 0 where
  pub count : length new ≡ length old
  pub each : (i : ℕ) (list : List ChangeNote) → slice_get old i ≡ Some list
      → slice_get new i ≡ Some (list ++ notes_on i notes)

-- for each of so many indexes its changes are there, in the order of the logs
pub record AreSpread (indexes : ℕ) (logs : List Log) (all : List (List ChangeNote)) : Type 0 where
  pub count : length all ≡ indexes
  pub each : (i : ℕ) (list : List ChangeNote) → slice_get all i ≡ Some list → list ≡ notes_in i logs
