-- The lines of an index's entries are read again.
use Rattle.std.proofs.Common.{◌≡◌, ℕ, ◌+◌, ◌<◌, ◌≤◌, ◌^◌, Bool, true, ◌&&◌, ltb, Some, List, [], ◌∷◌, ◌++◌, length, codes, refl, sym, ap, ◌∙◌, subst, arith}
use Rattle.std.specs.Prelude.{option_map}
use Rattle.std.specs.Fmt.{decimal}
use Rattle.std.specs.List.{AllByRecursion, AllZip}
use Rattle.key_tuple.specs.Order.{FieldList}
use Rattle.map_history.specs.Bytes.{AreFields}
use Rattle.map_history.specs.Map.{MapChange, Put, Set, Del}
use Rattle.map_history.specs.Report.{ChangeLine}
use Rattle.map_history.specs.Spelling.{change_words, change_text}
use Rattle.report_laws.specs.SpellingLaws.{IsPlainName}
use Rattle.report_laws.proofs.TextLemmas.{decimal_in, key_in, value_in}
use Rattle.report_laws.proofs.PieceLemmas.{IsWord}
use Rattle.script.specs.Grammar.{decimal_from}
use Rattle.script_laws.proofs.Escapes.{field_again}
use Rattle.script_laws.proofs.Commas.{key_again}
use Rattle.audit_law.specs.Verdicts.{IsKey, ChangesRow}
use Rattle.line_forms.specs.LineForms.{Lines, IsLineForm, in_line, read_both, both_lines, both_fit}
use Rattle.line_forms.specs.Anew.{words_of}
use Rattle.line_forms.proofs.FormLemmas.{two_forms}
use Rattle.line_forms.proofs.SeenLemmas.{seen_form}
use Rattle.line_forms.proofs.AnewLemmas.{both_true, anew_form, words_again}
use Rattle.report_forms.specs.Limits.{changes_row}
use Rattle.report_forms.specs.Lists.{read_each, each_lines, numbers_from}
use Rattle.report_forms.specs.Entries.{change_told, entry_told, is_entry, IsEntryOf, read_entry, count_text, third_number, read_count, entry_lines, read_entries, part_lines, AreEntriesOf, EntriesAreRead}
use Rattle.report_forms.proofs.LimitLemmas.{below, is_below, change_is, change_passes, empty_key, empty_is}
use Rattle.report_forms.proofs.NumberLemmas.{number_again}
use Rattle.report_forms.proofs.EachLemmas.{each_form, each_number, zip_numbers, zipped_numbers}

entry_is : (fields : ℕ) (e : ChangeLine) → is_entry fields e ≡ true → IsEntryOf fields e
entry_is fields e t =
    let a = both_true (ltb e.lane (2 ^ 64) && ltb e.line (2 ^ 64)) (changes_row fields e.change) t in
    let b = both_true (ltb e.lane (2 ^ 64)) (ltb e.line (2 ^ 64)) a.0 in
    record { lane = below e.lane (2 ^ 64) b.0; line = below e.line (2 ^ 64) b.1; change = change_is fields e.change a.1 }

entry_passes : (fields : ℕ) (e : ChangeLine) → IsEntryOf fields e → is_entry fields e ≡ true
entry_passes fields e h = rw (is_below e.lane (2 ^ 64) h.lane, is_below e.line (2 ^ 64) h.line) (change_passes fields e.change h.change)

module _ (fields : ℕ) (some : 0 < fields) where
  fields_are : (k : FieldList) → IsKey fields k → AreFields k
  fields_are k h = record { some = omega (arith, h.count, some); bytes = h.bytes }

  change_again : (c : MapChange) → ChangesRow fields c → change_told (change_words c) ≡ Some c
  change_again (Put k v) h = rw (key_again k (fields_are k h.0), field_again v h.1.bytes) refl
  change_again (Set k v) h = rw (key_again k (fields_are k h.0), field_again v h.1.bytes) refl
  change_again (Del k) h = rw (key_again k (fields_are k h)) refl

  change_in : (c : MapChange) → AllByRecursion IsWord (change_words c)
  change_in (Put k v) = (refl, (key_in k, (value_in v, tt)))
  change_in (Set k v) = (refl, (key_in k, (value_in v, tt)))
  change_in (Del k) = (refl, (key_in k, tt))

  entry_again : (number : ℕ) → number < 2 ^ 64 → (e : ChangeLine) → IsEntryOf fields e → entry_told (words_of (change_text number e)) ≡ Some e
  entry_again number small e h =
      let words = words_again (decimal number) (decimal e.lane ∷ decimal e.line ∷ change_words e.change) (decimal_in number small, (decimal_in e.lane h.lane, (decimal_in e.line h.line, change_in e.change))) in
      let lane = number_again e.lane h.lane in
      let line = number_again e.line h.line in
      ap entry_told words ∙ (ap (option_map (λ (c : MapChange). record { lane = decimal_from 0 (decimal e.lane); line = decimal_from 0 (decimal e.line); change = c })) (change_again e.change h.change)
      ∙ ap (λ (x : ChangeLine). Some x) (λ i. record { lane = lane i; line = line i; change = e.change }))

  -- one entry
  entry_form : (number : ℕ) → number < 2 ^ 64 → IsLineForm (IsEntryOf fields) (in_line (change_text number)) (read_entry fields number)
  entry_form number small =
      let empty = empty_is fields in
      let e : ChangeLine = record { lane = 0; line = 0; change = Del (empty_key fields) } in
      anew_form (IsEntryOf fields) (λ (line : List ℕ). entry_told (words_of line)) (is_entry fields) (change_text number) e
      (record { lane = omega arith; line = omega arith; change = record { count = empty.0; bytes = empty.1.0; short = omega (arith, empty.1.1) } })
      (entry_again number small) (entry_passes fields) (entry_is fields)

  module _ (name : List ℕ) (plain : IsPlainName name) where
    count_again : (count : ℕ) → count < 2 ^ 64 → third_number (words_of (count_text name count)) ≡ Some count
    count_again count small = ap third_number (words_again (codes "changes") (name ∷ decimal count ∷ []) (refl, (plain, (decimal_in count small, tt)))) ∙ ap (λ (n : ℕ). Some n) (number_again count small)

    -- how many there are
    count_form : IsLineForm (λ (count : ℕ). count < 2 ^ 64) (in_line (count_text name)) (read_count name)
    count_form =
        anew_form (λ (count : ℕ). count < 2 ^ 64) (λ (line : List ℕ). third_number (words_of line)) (λ (count : ℕ). ltb count (2 ^ 64)) (count_text name) 0 (omega arith)
        count_again (λ count small. is_below count (2 ^ 64) small) (λ count t. below count (2 ^ 64) t)

    abbrev Counted : ℕ → List ChangeLine → Type 0
    Counted count entries = AllZip (λ (number : ℕ). IsEntryOf fields) (numbers_from 1 count) entries

    -- so many of them
    counted_form : (count : ℕ) → count < 2 ^ 64 → IsLineForm (Counted count) (entry_lines count) (read_each (read_entry fields) (numbers_from 1 count))
    counted_form count small =
        each_form (λ (number : ℕ). IsEntryOf fields) (λ (number : ℕ). in_line (change_text number)) (read_entry fields) (numbers_from 1 count)
        (each_number _ 1 count (λ number low high. entry_form number (omega (arith, high, small))))

    pub entries_form : IsLineForm (AreEntriesOf fields) (part_lines name) (read_entries fields name)
    entries_form =
        seen_form (both_fit (λ (count : ℕ). count < 2 ^ 64) Counted) (AreEntriesOf fields) (both_lines (in_line (count_text name)) entry_lines) (part_lines name)
        (read_both (read_count name) (λ (count : ℕ). read_each (read_entry fields) (numbers_from 1 count))) (λ (x : ℕ × List ChangeLine). x.1) (λ entries. (length entries, entries))
        (λ x h. let all = zipped_numbers (IsEntryOf fields) 1 x.0 x.1 h.1 in record { few = omega (arith, all.0, h.0); each = all.1 })
        (λ entries h. (h.few, zip_numbers (IsEntryOf fields) 1 entries h.each))
        (λ entries h. refl)
        (λ x h. let all = zipped_numbers (IsEntryOf fields) 1 x.0 x.1 h.1 in ap (λ (n : ℕ). count_text name n ∷ entry_lines n x.1) all.0)
        (two_forms (λ (count : ℕ). count < 2 ^ 64) Counted (in_line (count_text name)) entry_lines (read_count name) (λ (count : ℕ). read_each (read_entry fields) (numbers_from 1 count)) count_form counted_form)

pub entries_are_read : EntriesAreRead
entries_are_read fields name some plain = entries_form fields some name plain
