-- What holds of each schema that is spelled.
use Rattle.std.proofs.Common.{Option, Some, None, ◌≡◌, ◌≢◌, ℕ, ◌+◌, ◌<◌, ◌≤◌, Bool, true, false, cond, eqb, leb, ltb, List, [], ◌∷◌, length, get_or, Ok, Err, refl, subst, arith}
use Rattle.std.specs.Prelude.{is_none, option_and_then}
use Rattle.std.specs.List.{All, AllPairs, position_or_len}
use Rattle.std.specs.Str.{bytes_eq}
use Rattle.std.proofs.lemmas.List.{length-append}
use Rattle.std.proofs.lemmas.List.Elements.{All-push, All-nil}
use Rattle.std.proofs.lemmas.List.Quantifiers.{all_pairs_push}
use Rattle.std.proofs.lemmas.List.Sums.{fails_before_first}
use Rattle.std.proofs.lemmas.Slice.Eq.{bytes_eq-Decides}
use Rattle.std.proofs.lemmas.Bool.{leb-true, ltb-false, ltb-true, eqb-false}
use Rattle.key_tuple.specs.declared.TheConstants.{MAX_FIELDS}
use Rattle.map_history.specs.declared.TheConstants.{MAX_INDEXES}
use Rattle.script.specs.declared.entry.Entry.{Entry}
use Rattle.script.specs.declared.entry.Entry.TheVariants.{Index, Set}
use Rattle.settings.specs.declared.setting.Setting.{Setting}
use Rattle.script.specs.declared.error.ScriptError.TheVariants as error
use Rattle.script.specs.declared.error.Flaw.TheVariants.{BadLine}
use Rattle.script.specs.Steps.{or_bad, numbered}
use Rattle.script.specs.Grammar.{is_from, number_spelled, is_name, only, both, says_nothing, line_words, lines_of}
use Rattle.script.specs.Schema.{SchemaText, SchemaDraft, IsFieldCount, IsSchema, index_by_name, count_spelled, takes_name, takes_setting, with_index, with_setting, draft_with_index, index_line, setting_line, entry_named, after_entry, after_words, schema_line, schema_from, schema_of, empty_draft}
use Rattle.script.proofs.Results.{bind_ok, some_of, chosen, given, both_so, unnumbered}

-- what holds from the first line on
record IsDraft (s : SchemaText) : Type 0 where
  paired : length s.fields ≡ length s.names
  few : length s.names ≤ MAX_INDEXES
  named : All (λ (name : List ℕ). is_name name ≡ true) s.names
  apart : AllPairs (λ (a b : List ℕ). a ≢ b) s.names
  counts : All IsFieldCount s.fields

in_range : (o : Option ℕ) (n : ℕ) → option_and_then (λ (k : ℕ). cond (is_from 1 MAX_FIELDS k) (Some k) None) o ≡ Some n → IsFieldCount n
in_range None n h = absurd cc
in_range (Some k) n h =
    let g = given (is_from 1 MAX_FIELDS k) k n h in
    let ends = both_so (leb 1 k) (leb k MAX_FIELDS) g.0 in
    subst (λ (m : ℕ). IsFieldCount m) g.1 (leb-true _ _ ends.0, leb-true _ _ ends.1)

count_in : (word : List ℕ) (n : ℕ) → count_spelled word ≡ Some n → IsFieldCount n
count_in word n h = in_range (number_spelled word) n h

not_there : (below : Bool) (o : Option ℕ) (n : ℕ) → o ≡ cond below (Some n) None → is_none o ≡ true → below ≡ false
not_there false o n e h = refl
not_there true o n e h = absurd cc

-- a name that isn't found is none of the names
is_new : (names : List (List ℕ)) (name : List ℕ) → is_none (index_by_name names name) ≡ true → (k : ℕ) (d : List ℕ) → k < length names → get_or names k d ≢ name
is_new names name h k d lt same =
    let test = λ (known : List ℕ). bytes_eq known name in
    let past : ltb (position_or_len test names) (length names) ≡ false = not_there _ (index_by_name names name) _ refl h in
    let fails : bytes_eq (get_or names k d) name ≡ false = fails_before_first test names k d (omega (arith, lt, ltb-false _ _ past)) in
    let passes : bytes_eq (get_or names k d) name ≡ true = (bytes_eq-Decides (get_or names k d) name).1 same in
    cc

-- a name that is taken has the form of one
pub taken_name : (s : SchemaText) (name : List ℕ) → takes_name s name ≡ true → is_name name ≡ true
taken_name s name takes = (both_so (is_name name) (ltb (length s.names) MAX_INDEXES) (both_so _ (is_none (index_by_name s.names name)) takes).0).0

-- one index more, of a new name
with_index_keeps : (s : SchemaText) (name : List ℕ) (n : ℕ) → IsDraft s → takes_name s name ≡ true → IsFieldCount n → IsDraft (with_index s name n)
with_index_keeps s name n d takes count =
    let parted = both_so _ (is_none (index_by_name s.names name)) takes in
    let front = both_so (is_name name) (ltb (length s.names) MAX_INDEXES) parted.0 in
    record {
      paired = omega (arith, d.paired, length-append s.fields (n ∷ []), length-append s.names (name ∷ []));
      few = omega (arith, ltb-true _ _ front.1, length-append s.names (name ∷ []));
      named = All-push (λ (a : List ℕ). is_name a ≡ true) s.names name d.named front.0;
      apart = all_pairs_push (λ (a b : List ℕ). a ≢ b) s.names name d.apart (is_new s.names name parted.1);
      counts = All-push IsFieldCount s.fields n d.counts count;
    }

index_line_keeps : (s t : SchemaDraft) (parts : List (List ℕ)) → IsDraft s.text → index_line s parts ≡ Ok t → IsDraft t.text
index_line_keeps s t parts d h =
    let two = bind_ok (or_bad (both parts)) _ t h in
    let count = bind_ok (or_bad (count_spelled two.0.1)) _ t two.2 in
    let taken = chosen (takes_name s.text two.0.0) (draft_with_index s two.0.0 count.0) t BadLine count.2 in
    subst (λ (u : SchemaDraft). IsDraft u.text) taken.1 (with_index_keeps s.text two.0.0 count.0 d taken.0 (count_in two.0.1 count.0 (some_of _ _ count.1)))

-- a setting leaves the indexes as they are
with_setting_keeps : (s : SchemaDraft) (setting : Setting) (n : ℕ) → IsDraft s.text → IsDraft (with_setting s setting n).text
with_setting_keeps s setting n d = record { paired = d.paired; few = d.few; named = d.named; apart = d.apart; counts = d.counts }

setting_line_keeps : (setting : Setting) (s t : SchemaDraft) (parts : List (List ℕ)) → IsDraft s.text → setting_line setting s parts ≡ Ok t → IsDraft t.text
setting_line_keeps setting s t parts d h =
    let word = bind_ok (or_bad (only parts)) _ t h in
    let n = bind_ok (or_bad (number_spelled word.0)) _ t word.2 in
    let taken = chosen (takes_setting s setting) (with_setting s setting n.0) t BadLine n.2 in
    subst (λ (u : SchemaDraft). IsDraft u.text) taken.1 (with_setting_keeps s setting n.0 d)

after_entry_keeps : (entry : Entry) (s t : SchemaDraft) (parts : List (List ℕ)) → IsDraft s.text → after_entry entry s parts ≡ Ok t → IsDraft t.text
after_entry_keeps Index s t parts d h = index_line_keeps s t parts d h
after_entry_keeps (Set setting) s t parts d h = setting_line_keeps setting s t parts d h

after_words_keeps : (s t : SchemaDraft) (words : List (List ℕ)) → IsDraft s.text → after_words s words ≡ Ok t → IsDraft t.text
after_words_keeps s t [] d h = absurd cc
after_words_keeps s t (word ∷ parts) d h =
    let entry = bind_ok (or_bad (entry_named word)) (λ (e : Entry). after_entry e s parts) t h in
    after_entry_keeps entry.0 s t parts d entry.2

line_keeps : (silent : Bool) (s t : SchemaDraft) (words : List (List ℕ)) → IsDraft s.text → cond silent (Ok s) (after_words s words) ≡ Ok t → IsDraft t.text
line_keeps true s t words d h = let is : s ≡ t = cc in subst (λ (u : SchemaDraft). IsDraft u.text) is d
line_keeps false s t words d h = after_words_keeps s t words d h

schema_line_keeps : (s t : SchemaDraft) (line : List ℕ) → IsDraft s.text → schema_line s line ≡ Ok t → IsDraft t.text
unfolding schema_line
schema_line_keeps s t line d h = line_keeps (says_nothing line) s t (line_words line) d h

done : (n : ℕ) (empty : Bool) (s t : SchemaText) → eqb (length s.names) 0 ≡ empty → IsDraft s → cond empty (Err (error.Flawed n BadLine)) (Ok s) ≡ Ok t → IsSchema t.names t.fields
done n true s t e d h = absurd cc
done n false s t e d h =
    let is : s ≡ t = cc in
    let ne : length s.names ≡ 0 → ⊥ = eqb-false _ _ e in
    subst (λ (u : SchemaText). IsSchema u.names u.fields) is (record { paired = d.paired; some = omega arith; few = d.few; named = d.named; apart = d.apart; counts = d.counts })

from_keeps : (n : ℕ) (s : SchemaDraft) (t : SchemaText) (lines : List (List ℕ)) → IsDraft s.text → schema_from n s lines ≡ Ok t → IsSchema t.names t.fields
from_keeps n s t [] d h = done n (eqb (length s.text.names) 0) s.text t refl d h
from_keeps n s t (line ∷ lines) d h =
    let one = bind_ok (numbered n (schema_line s line)) (λ (u : SchemaDraft). schema_from (n + 1) u lines) t h in
    from_keeps (n + 1) one.0 t lines (schema_line_keeps s one.0 line d (unnumbered n _ _ one.1)) one.2

-- a schema that a file spells is one: paired lists within their limits, of names that differ
pub spelled_schema : (bytes : List ℕ) (t : SchemaText) → schema_of bytes ≡ Ok t → IsSchema t.names t.fields
unfolding schema_of
spelled_schema bytes t h = from_keeps 1 empty_draft t (lines_of bytes) (record {
  paired = refl;
  few = omega arith;
  named = All-nil _;
  apart = λ i j d lt within. absurd (omega (arith, within));
  counts = All-nil _;
}) h
