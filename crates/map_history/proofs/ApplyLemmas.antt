-- What the calls of a map of the program make of its rows, as changes.
use Rattle.std.proofs.Common.{◌≡◌, ℕ, Bool, true, false, Option, Some, None, List, [], ◌∷◌, sym, ap, ◌∙◌, is_some, is_none, cond, refl}
use Rattle.std.specs.List.Sorted.{IsStrictlySortedBy}
use Rattle.std.specs.Map.{lookup, remove_entry, set_value, keys_of}
use Rattle.std.specs.BTreeMap.{insert_entry, is_at}
use Rattle.key_tuple.specs.Order.{FieldList}
use Rattle.key_tuple.specs.declared.key.Key.{Key}
use Rattle.map_history.specs.Map.{Map, Put, Set, Del, Ascends, value_at, write, is_allowed, after_change, key_of, value_of, MapChange}
use Rattle.map_history.proofs.PairsLemmas.{entry_cmp, rows_of, lookup-rows, rows-ascend, insert_entry-rows, remove_entry-rows, set_value-rows}

-- a change that is allowed, and one that isn't
pub after-allowed : (m : Map) (c : MapChange) → is_allowed m c ≡ true → after_change m c ≡ write (key_of c) (value_of c) m
after-allowed m c e = ap (λ b. cond b (write (key_of c) (value_of c) m) m) e

pub after-refused : (m : Map) (c : MapChange) → is_allowed m c ≡ false → after_change m c ≡ m
after-refused m c e = ap (λ b. cond b (write (key_of c) (value_of c) m) m) e

is_none-absent : (o : Option (List ℕ)) → is_some o ≡ false → is_none o ≡ true
is_none-absent None e = refl
is_none-absent (Some v) e = absurd cc

is_none-present : (o : Option (List ℕ)) → is_some o ≡ true → is_none o ≡ false
is_none-present None e = absurd cc
is_none-present (Some v) e = refl

-- a removal of a key that isn't there
remove_entry-absent : {K X : Type 0} (test : K → Bool) (es : List (K × X)) → is_some (lookup test es) ≡ false → remove_entry test es ≡ es
remove_entry-absent test [] e = refl
remove_entry-absent test (x ∷ es) e = go (test x.0) e (remove_entry-absent test es)
  where
    go : (b : Bool) → is_some (cond b (Some x.1) (lookup test es)) ≡ false → (is_some (lookup test es) ≡ false → remove_entry test es ≡ es) → cond b es (x ∷ remove_entry test es) ≡ x ∷ es
    go true e more = absurd cc
    go false e more = ap (λ r. x ∷ r) (more e)

module _ (k : Key) (es : List (Key × List ℕ)) where
  found : (b : Bool) → is_some (lookup (is_at (entry_cmp k)) es) ≡ b → is_some (value_at k.tuple (rows_of es)) ≡ b
  found b e = ap is_some (sym (lookup-rows k es)) ∙ e

  pub after_put : (j : Key) (v : List ℕ) → IsStrictlySortedBy entry_cmp (keys_of es) → j.tuple ≡ k.tuple → is_some (lookup (is_at (entry_cmp k)) es) ≡ false → rows_of (insert_entry entry_cmp es j v) ≡ after_change (rows_of es) (Put k.tuple v)
  after_put j v sorted same absent =
      insert_entry-rows j v es (rows-ascend es sorted) ∙ ap (λ (t : FieldList). write t (Some v) (rows_of es)) same
      ∙ sym (after-allowed (rows_of es) (Put k.tuple v) (is_none-absent _ (found false absent)))

  pub after_put_present : (v : List ℕ) → is_some (lookup (is_at (entry_cmp k)) es) ≡ true → rows_of es ≡ after_change (rows_of es) (Put k.tuple v)
  after_put_present v there = sym (after-refused (rows_of es) (Put k.tuple v) (is_none-present _ (found true there)))

  pub after_set : (v : List ℕ) → IsStrictlySortedBy entry_cmp (keys_of es) → is_some (lookup (is_at (entry_cmp k)) es) ≡ true → rows_of (set_value (is_at (entry_cmp k)) es v) ≡ after_change (rows_of es) (Set k.tuple v)
  after_set v sorted there = set_value-rows k v es (rows-ascend es sorted) (found true there) ∙ sym (after-allowed (rows_of es) (Set k.tuple v) (found true there))

  pub after_set_absent : (v : List ℕ) → is_some (lookup (is_at (entry_cmp k)) es) ≡ false → rows_of es ≡ after_change (rows_of es) (Set k.tuple v)
  after_set_absent v absent = sym (after-refused (rows_of es) (Set k.tuple v) (found false absent))

  pub after_del : Ascends (rows_of es) → rows_of (remove_entry (is_at (entry_cmp k)) es) ≡ after_change (rows_of es) (Del k.tuple)
  after_del asc = go (is_some (lookup (is_at (entry_cmp k)) es)) refl
    where
      go : (b : Bool) → is_some (lookup (is_at (entry_cmp k)) es) ≡ b → rows_of (remove_entry (is_at (entry_cmp k)) es) ≡ after_change (rows_of es) (Del k.tuple)
      go true e = remove_entry-rows k es asc (found true e) ∙ sym (after-allowed (rows_of es) (Del k.tuple) (found true e))
      go false e = ap rows_of (remove_entry-absent (is_at (entry_cmp k)) es e) ∙ sym (after-refused (rows_of es) (Del k.tuple) (found false e))
