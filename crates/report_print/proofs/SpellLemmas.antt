-- The text of a report is its spelling.
use Rattle.std.proofs.Common.{◌≡◌, ℕ, suc, ◌+◌, Some, List, [], ◌∷◌, ◌++◌, length, map, refl, ap, ◌∙◌, sym, arith}
use Rattle.std.proofs.lemmas.List.{length-map}
use Rattle.std.proofs.lemmas.List.Concat.{concat_is}
use Rattle.std.proofs.lemmas.List.Folds.{flat_map-map}
use Rattle.std.specs.List.{slice_get, AllByRecursion, AllZip, flat_map, enumerate_from, zip}
use Rattle.map_history.specs.declared.counts.Counts.{Counts}
use Rattle.map_history.specs.Report.{AnswerLine, ChangeLine, IndexPart}
use Rattle.map_history.specs.Spelling.{spell, change_text, changes_text, stats_text, lane_text}
use Rattle.report_text.specs.Texts.{answer_line_text}
use Rattle.change_log.specs.Log.{ChangeNote}
use Rattle.change_log.specs.Entries.{printed_entry, ArePrinted, AreCountedUp}
use Rattle.report_text.specs.Printed.{entry_text, noted_text}
use Rattle.list_facts.proofs.Elements.{all_zip_length}
use Rattle.report_print.specs.Texts as text
use Rattle.report_print.specs.Texts.{first_line, end_line, lane_line, lanes_text, changes_line, index_text, indexes_text, index_stats, statistics_text, report_text_of}
use Rattle.lane_law.specs.Reports.{part_with, report_with}

-- the lanes from the number k + 1 on
lanes_spelled : (k : ℕ) (answers : List (List AnswerLine)) → flat_map text.lane_answers (enumerate_from (k + 1) (map (map answer_line_text) answers)) ≡ flat_map lane_text (enumerate_from k answers)
lanes_spelled k [] = refl
lanes_spelled k (lane ∷ answers) =
    let answers_are = concat_is (map answer_line_text lane) ∙ flat_map-map (λ (t : List ℕ). t) answer_line_text lane in
    λ j. lane_line (k + 1) ++ answers_are j ++ lanes_spelled (k + 1) answers j

-- a change that is printed
note_spelled : (note : ChangeNote) (number : ℕ) (entry : ChangeLine) → note.number ≡ number → printed_entry note ≡ Some entry → noted_text note ≡ change_text number entry
note_spelled note number entry counted printed = λ j. entry_text (counted j) (printed j)

-- the changes from the number k + 1 on
changes_spelled : (k : ℕ) (notes : List ChangeNote) (entries : List ChangeLine) → ArePrinted notes entries → ((n : ℕ) (note : ChangeNote) → slice_get notes n ≡ Some note → note.number ≡ k + (n + 1))
    → flat_map noted_text notes ≡ flat_map (λ (e : ℕ × ChangeLine). change_text (e.0 + 1) e.1) (enumerate_from k entries)
changes_spelled k [] [] printed counted = refl
changes_spelled k [] (e ∷ entries) printed counted = absurd cc
changes_spelled k (note ∷ notes) [] printed counted = absurd cc
changes_spelled k (note ∷ notes) (e ∷ entries) printed counted =
    let first : printed_entry note ≡ Some e = cc in
    let others : ArePrinted notes entries = cc in
    let rest = changes_spelled (k + 1) notes entries others (λ n x at. let is = counted (suc n) x at in omega arith) in
    λ j. note_spelled note (k + 1) e (counted 0 note refl) first j ++ rest j

-- as many entries as changes
printed_long : (notes : List ChangeNote) (entries : List ChangeLine) → ArePrinted notes entries → length notes ≡ length entries
printed_long notes entries printed = sym (length-map notes printed_entry) ∙ (ap length printed ∙ length-map entries (λ (e : ChangeLine). Some e))

-- an index
index_spelled : (name : List ℕ) (notes : List ChangeNote) (entries : List ChangeLine) (counts : Counts) → ArePrinted notes entries → AreCountedUp notes → index_text (name, notes) ≡ changes_text (part_with (name, (entries, counts)))
index_spelled name notes entries counts printed counted =
    let rest = changes_spelled 0 notes entries printed (λ n note at. let is = counted n note at in omega arith) in
    λ j. changes_line name (printed_long notes entries printed j) ++ rest j

indexes_spelled : (names : List (List ℕ)) (changes : List (List ChangeNote)) (entries : List (List ChangeLine)) (counts : List Counts) → length counts ≡ length names → AllZip ArePrinted changes entries → AllByRecursion AreCountedUp changes → indexes_text names changes ≡ flat_map changes_text (map part_with (zip names (zip entries counts)))
indexes_spelled [] changes entries counts long printed counted = refl
indexes_spelled (name ∷ names) [] [] counts long printed counted = refl
indexes_spelled (name ∷ names) [] (list ∷ entries) counts long printed counted = absurd printed
indexes_spelled (name ∷ names) (notes ∷ changes) [] counts long printed counted = absurd printed
indexes_spelled (name ∷ names) (notes ∷ changes) (list ∷ entries) [] long printed counted = absurd (omega (arith, long))
indexes_spelled (name ∷ names) (notes ∷ changes) (list ∷ entries) (n ∷ counts) long printed counted = λ j. index_spelled name notes list n printed.0 counted.0 j ++ indexes_spelled names changes entries counts (omega (arith, long)) printed.1 counted.1 j

-- the statistics
statistics_spelled : (names : List (List ℕ)) (entries : List (List ChangeLine)) (counts : List Counts) → length entries ≡ length names → statistics_text names counts ≡ flat_map (λ (part : IndexPart). stats_text part.name part.counts) (map part_with (zip names (zip entries counts)))
statistics_spelled [] entries counts long = refl
statistics_spelled (name ∷ names) [] counts long = absurd (omega (arith, long))
statistics_spelled (name ∷ names) (list ∷ entries) [] long = refl
statistics_spelled (name ∷ names) (list ∷ entries) (n ∷ counts) long = ap (λ t. index_stats (name, n) ++ t) (statistics_spelled names entries counts (omega (arith, long)))

-- and all of it
pub report_spelled : (names : List (List ℕ)) (answers : List (List AnswerLine)) (changes : List (List ChangeNote)) (entries : List (List ChangeLine)) (counts : List Counts) → length changes ≡ length names → length counts ≡ length names → AllZip ArePrinted changes entries → AllByRecursion AreCountedUp changes
    → report_text_of names (map (map answer_line_text) answers) changes counts ≡ spell (report_with answers names entries counts)
report_spelled names answers changes entries counts long counts_long printed counted =
    let statistics = statistics_spelled names entries counts (all_zip_length ArePrinted changes entries printed ∙ long) in
    λ j. first_line ++ lanes_spelled 0 answers j ++ indexes_spelled names changes entries counts counts_long printed counted j ++ statistics j ++ end_line
