-- What a word or two tell, as it passes the limits.
use Rattle.std.proofs.Common.{◌≡◌, ℕ, ◌≤◌, ◌&&◌, Bool, true, false, cond, eqb, ltb, List, [], ◌∷◌, length, Option, Some, None, Ok, Err, refl, sym, ap, ◌∙◌, subst}
use Rattle.std.proofs.lemmas.Bool.{eqb-true, ltb-true, ltb-false, lt-leb}
use Rattle.std.specs.Str.{bytes_eq}
use Rattle.key_tuple.specs.Order.{FieldList, byte_count}
use Rattle.key_tuple.specs.declared.TheConstants.{MAX_KEY_BYTES, MAX_VALUE_BYTES}
use Rattle.map_history.specs.Map.{Pair}
use Rattle.audit_law.specs.Verdicts.{IsKey}
use Rattle.report_forms.specs.Limits.{are_bytes, is_key, is_value, is_row}
use Rattle.report_forms.proofs.LimitLemmas.{key_passes, value_passes}
use Rattle.script.specs.declared.error.Flaw.{Flaw}
use Rattle.script.specs.declared.error.Flaw.TheVariants.{TooLong}
use Rattle.script.specs.declared.error.Refusal.{Refusal}
use Rattle.script.specs.declared.error.Refusal.TheVariants as refusal
use Rattle.script.specs.Grammar.{both, exactly, field_of, tuple_of, key_spelled, short_key, short_value}
use Rattle.script.specs.Steps.{Fails, or_bad}
use Rattle.script.proofs.ByteFacts.{field_small, tuple_written}
use Rattle.script.proofs.Results.{some_of, given, not_chosen, and_false, both_so}
use Rattle.report_reading.specs.declared.misread.Misread.{Misread}
use Rattle.report_reading.specs.declared.misread.Misread.TheVariants as misread
use Rattle.report_reading.specs.Reads.{passing, TellsNone}
use Rattle.report_reading.specs.Refusals.{misread_of}
use Rattle.report_reading.specs.Rows.{row_in}

-- a word that is compared with another
pub word_is : (xs ys : List ℕ) → bytes_eq xs ys ≡ true → xs ≡ ys
word_is [] [] e = refl
word_is [] (y ∷ ys) e = absurd cc
word_is (x ∷ xs) [] e = absurd cc
word_is (x ∷ xs) (y ∷ ys) e =
    let h = both_so (eqb x y) (bytes_eq xs ys) e in
    let first : x ≡ y = eqb-true _ _ h.0 in
    let rest = word_is xs ys h.1 in
    cc

none_passes : {A : Type 0} (passes : A → Bool) (o : Option A) (f : Flaw) → or_bad o ≡ Err f → passing passes o ≡ None
none_passes passes None f h = refl
none_passes passes (Some x) f h = absurd cc

fails_test : {A : Type 0} (passes : A → Bool) (o : Option A) (x : A) → o ≡ Some x → passes x ≡ false → passing passes o ≡ None
fails_test passes o x is failed = ap (passing passes) is ∙ ap (λ (t : Bool). cond t (Some x) None) failed

passes_test : {A : Type 0} (passes : A → Bool) (o : Option A) (x : A) → o ≡ Some x → passes x ≡ true → passing passes o ≡ Some x
passes_test passes o x is passed = ap (passing passes) is ∙ ap (λ (t : Bool). cond t (Some x) None) passed

chosen_error : {A : Type 0} (b : Bool) (x : A) (e f : Flaw) → cond b (Err e) (Ok x) ≡ Err f → b ≡ true
chosen_error true x e f h = refl
chosen_error false x e f h = absurd cc

-- a value that isn't spelled
pub value_refused : (e : Refusal) (word : List ℕ) → Fails e (or_bad (field_of word)) → TellsNone (misread_of e) (passing is_value (field_of word))
value_refused refusal.NoMemory word h = tt
value_refused (refusal.Flawed f) word h = none_passes is_value (field_of word) f h

-- one that is too long
pub value_long : (e : Refusal) (word bytes : List ℕ) → or_bad (field_of word) ≡ Ok bytes → Fails e (short_value bytes) → TellsNone (misread_of e) (passing is_value (field_of word))
value_long refusal.NoMemory word bytes is h = tt
value_long (refusal.Flawed f) word bytes is h =
    let long = chosen_error (ltb MAX_VALUE_BYTES (length bytes)) bytes TooLong f h in
    fails_test is_value (field_of word) bytes (some_of _ _ is) (and_false (are_bytes bytes) _ (lt-leb _ _ (ltb-true _ _ long)))

-- one that is read
pub value_read : (word bytes value : List ℕ) → or_bad (field_of word) ≡ Ok bytes → short_value bytes ≡ Ok value → passing is_value (field_of word) ≡ Some value
value_read word bytes value is h =
    let kept = not_chosen (ltb MAX_VALUE_BYTES (length bytes)) bytes value TooLong h in
    let told : field_of word ≡ Some bytes = some_of _ _ is in
    let fits = value_passes bytes (record { bytes = field_small word bytes told; short = ltb-false _ _ kept.0 }) in
    passes_test is_value (field_of word) bytes told fits ∙ ap Some kept.1

-- a key that is read
pub key_read : (count : ℕ) (word : List ℕ) (fields key : FieldList) → or_bad (key_spelled count word) ≡ Ok fields → short_key fields ≡ Ok key → passing (is_key count) (tuple_of word) ≡ Some key
key_read count word fields key is h = go (tuple_of word) refl is
  where
    go : (o : Option FieldList) → tuple_of word ≡ o → or_bad (exactly count o) ≡ Ok fields → passing (is_key count) (tuple_of word) ≡ Some key
    go None told e = absurd cc
    go (Some xs) told e =
        let so = given (eqb (length xs) count) xs fields (some_of _ _ e) in
        let kept = not_chosen (ltb MAX_KEY_BYTES (byte_count fields)) fields key TooLong h in
        let short = subst (λ (f : FieldList). byte_count f ≤ MAX_KEY_BYTES) (sym so.1) (ltb-false _ _ kept.0) in
        let key_is : IsKey count xs = record { count = eqb-true _ _ so.0; bytes = (tuple_written word xs told).bytes; short = short } in
        passes_test (is_key count) (tuple_of word) xs told (key_passes count xs key_is) ∙ ap Some (so.1 ∙ kept.1)

row_of : (count : ℕ) (k v : List ℕ) → passing (is_row count) (row_in (k ∷ v ∷ [])) ≡ elim (passing (is_key count) (tuple_of k)) [ None ↦ None | Some key ↦ elim (passing is_value (field_of v)) [ None ↦ None | Some value ↦ Some (record { key = key; value = value }) ] ]
row_of count k v = go (tuple_of k) (field_of v)
  where
    test : (key : FieldList) (value : List ℕ) (a b : Bool) → ◌≡◌ {A = Option Pair} (cond (a && b) (Some (record { key = key; value = value })) None) (elim (cond a (Some key) None) [ None ↦ None | Some x ↦ elim (cond b (Some value) None) [ None ↦ None | Some y ↦ Some (record { key = x; value = y }) ] ])
    test key value true true = refl
    test key value true false = refl
    test key value false b = refl

    other : (key : FieldList) (a : Bool) → ◌≡◌ {A = Option Pair} None (elim (cond a (Some key) None) [ None ↦ None | Some x ↦ None ])
    other key true = refl
    other key false = refl

    go : (o : Option FieldList) (p : Option (List ℕ)) → passing (is_row count) (elim o [ None ↦ None | Some key ↦ elim p [ None ↦ None | Some value ↦ Some (record { key = key; value = value }) ] ]) ≡ elim (passing (is_key count) o) [ None ↦ None | Some key ↦ elim (passing is_value p) [ None ↦ None | Some value ↦ Some (record { key = key; value = value }) ] ]
    go None p = refl
    go (Some key) None = other key (is_key count key)
    go (Some key) (Some value) = test key value (is_key count key) (is_value value)

pub two_are : (parts : List (List ℕ)) (a b : List ℕ) → Some (a, b) ≡ both parts → parts ≡ a ∷ b ∷ []
two_are [] a b h = absurd cc
two_are (x ∷ []) a b h = absurd cc
two_are (x ∷ y ∷ []) a b h =
    let pair : (a, b) ≡ (x, y) = cc in
    let first : a ≡ x = ap (λ (p : List ℕ × List ℕ). p.0) pair in
    let second : b ≡ y = ap (λ (p : List ℕ × List ℕ). p.1) pair in
    cc
two_are (x ∷ y ∷ z ∷ parts) a b h = absurd cc

-- a row without a value
pub row_refused : (count : ℕ) (parts : List (List ℕ)) (k v : List ℕ) (key : FieldList) (e : Misread) → Some (k, v) ≡ both parts → passing (is_key count) (tuple_of k) ≡ Some key
    → TellsNone e (passing is_value (field_of v)) → TellsNone e (passing (is_row count) (row_in parts))
row_refused count parts k v key misread.NoMemory two is h = tt
row_refused count parts k v key misread.BadLine two is h = rw (two_are parts k v two, row_of count k v, is, h) refl

-- a row without a key
pub row_unnamed : (count : ℕ) (parts : List (List ℕ)) (k v : List ℕ) (e : Misread) → Some (k, v) ≡ both parts → TellsNone e (passing (is_key count) (tuple_of k)) → TellsNone e (passing (is_row count) (row_in parts))
row_unnamed count parts k v misread.NoMemory two h = tt
row_unnamed count parts k v misread.BadLine two h = rw (two_are parts k v two, row_of count k v, h) refl

-- a row that is read
pub row_read : (count : ℕ) (parts : List (List ℕ)) (k v : List ℕ) (key : FieldList) (value : List ℕ) → Some (k, v) ≡ both parts → passing (is_key count) (tuple_of k) ≡ Some key
    → passing is_value (field_of v) ≡ Some value → passing (is_row count) (row_in parts) ≡ Some (record { key = key; value = value })
row_read count parts k v key value two is told = rw (two_are parts k v two, row_of count k v, is, told) refl
