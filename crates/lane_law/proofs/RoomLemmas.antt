-- The rows that the report's entries write are those that the lists have.
use Rattle.std.proofs.Common.{◌≡◌, ℕ, suc, ◌+◌, ◌*◌, ◌≤◌, Bool, cond, Some, List, [], ◌∷◌, length, map, refl, ap, sym, ◌∙◌, arith, sum_by}
use Rattle.std.proofs.lemmas.List.Sums.{sum_by-cons}
use Rattle.std.specs.List.{slice_get, count_by}
use mathlib.Core.Option.{some}
use lib.ListN.{get_elem?}
use Rattle.latch_law.specs.declared.knows.Entry.{Entry}
use Rattle.map_history.specs.Map.{writes}
use Rattle.map_history.specs.Report.{SpaceFull, ChangeLine, IndexPart, Report, entries_in}
use Rattle.map_history.specs.LegalReport.{Run, writes_row, rows_written, HasRoom}
use Rattle.index_law.specs.Answers.{MadeChange}
use Rattle.index_law.specs.Rightness.{IsShort}
use Rattle.index_law.specs.State.{Entries, changes, written_in, written_in_all}
use Rattle.forest_law.specs.State.{ForestState}
use Rattle.call_law.specs.Spoken.{View}
use Rattle.lane_law.specs.Runs.{RunsAll, AreEntries}
use Rattle.lane_law.proofs.AnswerLemmas.{answer_so, parts_counted}
use Rattle.lane_law.proofs.EntryLemmas.{changes_same}

-- what passes of a mapped list is what passes by the map
count_mapped : {X Y : Type 0} (f : X → Y) (p : Y → Bool) (xs : List X) → count_by p (map f xs) ≡ count_by (λ x. p (f x)) xs
count_mapped f p [] = refl
count_mapped f p (x ∷ xs) = sum_by-cons (λ y. cond (p y) 1 0) (f x) (map f xs)
    ∙ (ap (λ (k : ℕ). cond (p (f x)) 1 0 + k) (count_mapped f p xs) ∙ sym (sum_by-cons (λ x. cond (p (f x)) 1 0) x xs))

-- two sums are one where what is at each place is counted alike
same_sums : {X Y : Type 0} (f : X → ℕ) (g : Y → ℕ) (xs : List X) (ys : List Y) → length xs ≡ length ys → ((i : ℕ) (x : X) (y : Y) → slice_get xs i ≡ Some x → get_elem? ys i ≡ some y → f x ≡ g y) → sum_by f xs ≡ sum_by g ys
same_sums f g [] [] long each = refl
same_sums f g [] (y ∷ ys) long each = absurd (omega arith)
same_sums f g (x ∷ xs) [] long each = absurd (omega arith)
same_sums f g (x ∷ xs) (y ∷ ys) long each =
    let here : f x ≡ g y = each 0 x y refl refl in
    let rest : sum_by f xs ≡ sum_by g ys = same_sums f g xs ys (omega arith) (λ i a b at at'. each (suc i) a b at at') in
    sum_by-cons f x xs ∙ ((λ i. here i + rest i) ∙ sym (sum_by-cons g y ys))

module _ (run : Run) (report : Report) (w : ForestState) (v : View) (all : RunsAll run report w v) (entries : AreEntries run report w) where
  -- a part has as many entries that write a row as the list
  part_written : (i : ℕ) (part : IndexPart) (xs : Entries) → slice_get report.indexes i ≡ Some part → get_elem? w.lists i ≡ some xs → count_by writes_row part.entries ≡ written_in xs
  part_written i part xs at at' =
      let same : map (λ (e : ChangeLine). e.change) part.entries ≡ changes xs = ap (λ o. map (λ (e : ChangeLine). e.change) (entries_in o)) (sym at) ∙ changes_same run report w v all entries i xs at' in
      sym (count_mapped (λ (e : ChangeLine). e.change) writes part.entries)
      ∙ (ap (count_by writes) same ∙ count_mapped (λ (e : Entry MadeChange). e.change.change) writes xs)

  -- all parts have as many as all lists
  rows_counted : rows_written report ≡ written_in_all w.lists
  rows_counted = same_sums (λ (part : IndexPart). count_by writes_row part.entries) written_in report.indexes w.lists (parts_counted run report w v all) part_written

  short_room : IsShort w → run.sizes.pages ≤ 2 * (length run.names + rows_written report) + length run.lanes
  short_room short = omega (arith, short, rows_counted, all.pages, all.indexes, all.passes)

  -- `space-full` only where the pages are few for the rows that were written
  pub room : HasRoom run report
  room lane place line columns a = let so = answer_so run report w v all lane place line (SpaceFull columns) a in short_room so.1
