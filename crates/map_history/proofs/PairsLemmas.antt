-- The entries of a map of the program against its rows.
use Rattle.std.proofs.Common.{◌≡◌, ℕ, true, false, Option, Some, None, List, [], ◌∷◌, ◌++◌, refl, sym, ap, ◌∙◌, map, is_lt, is_eq, Ordering, Less, Equal, Greater, is_some, cond}
use Rattle.std.specs.List.{filter, AllByRecursion}
use Rattle.std.specs.List.Sorted.{IsStrictlySortedBy}
use Rattle.std.specs.Map.{lookup, remove_entry, set_value, keys_of}
use Rattle.std.specs.Ordering.{on, match_ordering, ordering_reverse}
use Rattle.std.specs.BTreeMap.{insert_entry, is_at}
use Rattle.key_tuple.specs.Order.{FieldList, key_cmp}
use Rattle.key_tuple.specs.KeyPlace.{At, before}
use Rattle.key_tuple.specs.declared.key.Key.{Key}
use Rattle.key_tuple.proofs.PlaceLemmas.{total, key_exact, before-itself, before-trans, before_not_after}
use Rattle.map_history.specs.Map.{Pair, Map, Ascends, value_at, row_of, write}
use Rattle.map_history.specs.Pairs.{pair_of}
use Rattle.list_facts.proofs.Each.{filter_each, filter_none, each_weaker}

-- the order of the entries' keys
abbrev pub entry_cmp : Key → Key → Ordering
entry_cmp = on (λ (k : Key). k.tuple) key_cmp

abbrev pub rows_of : List (Key × List ℕ) → Map
rows_of es = map pair_of es

-- a search finds the value at the key
pub lookup-rows : (k : Key) (es : List (Key × List ℕ)) → lookup (is_at (entry_cmp k)) es ≡ value_at k.tuple (rows_of es)
lookup-rows k [] = refl
lookup-rows k (e ∷ es) = ap (λ r. cond (is_eq (key_cmp k.tuple e.0.tuple)) (Some e.1) r) (lookup-rows k es)

-- the keys ascend
above_first : (k : Key) (es : List (Key × List ℕ)) → AllByRecursion (λ (j : Key). entry_cmp k j ≡ Less) (keys_of es) → AllByRecursion (λ (y : Pair). before (At k.tuple) (At y.key) ≡ true) (rows_of es)
unfolding before
above_first k [] a = tt
above_first k (e ∷ es) a = (ap is_lt a.0, above_first k es a.1)

pub rows-ascend : (es : List (Key × List ℕ)) → IsStrictlySortedBy entry_cmp (keys_of es) → Ascends (rows_of es)
unfolding IsStrictlySortedBy
rows-ascend [] s = tt
rows-ascend (e ∷ es) s = (above_first e.0 es s.0, rows-ascend es s.1)

-- a write among rows that ascend, by how the key stands to the first
module _ (k : FieldList) (x : Pair) (m : Map) (asc : Ascends (x ∷ m)) where
  all_above : before (At k) (At x.key) ≡ true → AllByRecursion (λ (y : Pair). before (At k) (At y.key) ≡ true) (x ∷ m)
  all_above b = (b, each_weaker _ _ (λ (y : Pair) c. before-trans (At k) (At x.key) (At y.key) b c) m asc.0)

  none_below : before (At k) (At x.key) ≡ true → filter (λ (e : Pair). before (At e.key) (At k)) (x ∷ m) ≡ []
  none_below b = filter_none _ (x ∷ m) (each_weaker _ _ (λ (y : Pair) c. before_not_after (At k) (At y.key) c) (x ∷ m) (all_above b))

  pub write-first : (v : Option (List ℕ)) → before (At k) (At x.key) ≡ true → write k v (x ∷ m) ≡ row_of k v ++ x ∷ m
  write-first v b = ap (λ r. (r ++ row_of k v) ++ filter (λ (e : Pair). before (At k) (At e.key)) (x ∷ m)) (none_below b) ∙ ap (λ r. row_of k v ++ r) (filter_each _ (x ∷ m) (all_above b))

  pub write-here : (v : Option (List ℕ)) → k ≡ x.key → write k v (x ∷ m) ≡ row_of k v ++ m
  write-here v e =
      let above : AllByRecursion (λ (y : Pair). before (At k) (At y.key) ≡ true) m = rw e asc.0 in
      let below = each_weaker _ _ (λ (y : Pair) c. before_not_after (At k) (At y.key) c) m above in
      let same : before (At x.key) (At k) ≡ false = rw e (before-itself (At x.key)) in
      let same' : before (At k) (At x.key) ≡ false = rw e (before-itself (At x.key)) in
      rw (same, same', filter_none (λ (e : Pair). before (At e.key) (At k)) m below, filter_each (λ (e : Pair). before (At k) (At e.key)) m above) refl

  pub write-later : (v : Option (List ℕ)) → before (At x.key) (At k) ≡ true → write k v (x ∷ m) ≡ x ∷ write k v m
  write-later v b = rw (b, before_not_after (At x.key) (At k) b) refl

before_less : (j k : FieldList) → key_cmp j k ≡ Less → before (At j) (At k) ≡ true
unfolding before
before_less j k e = ap is_lt e

after_greater : (j k : FieldList) → key_cmp j k ≡ Greater → before (At k) (At j) ≡ true
unfolding before
after_greater j k e = ap is_lt (total.antisymm k j ∙ ap ordering_reverse e)

-- an insertion writes the value
pub insert_entry-rows : (k : Key) (v : List ℕ) (es : List (Key × List ℕ)) → Ascends (rows_of es) → rows_of (insert_entry entry_cmp es k v) ≡ write k.tuple (Some v) (rows_of es)
insert_entry-rows k v [] asc = refl
insert_entry-rows k v (e ∷ es) asc = go (key_cmp k.tuple e.0.tuple) refl (insert_entry-rows k v es asc.1)
  where
    go : (o : Ordering) → key_cmp k.tuple e.0.tuple ≡ o → rows_of (insert_entry entry_cmp es k v) ≡ write k.tuple (Some v) (rows_of es)
        → rows_of (match_ordering o ((k, v) ∷ e ∷ es) ((e.0, v) ∷ es) (e ∷ insert_entry entry_cmp es k v)) ≡ write k.tuple (Some v) (rows_of (e ∷ es))
    go Less q more = sym (write-first k.tuple (pair_of e) (rows_of es) asc (Some v) (before_less k.tuple e.0.tuple q))
    go Equal q more = ap (λ (t : FieldList). record { key = t; value = v } ∷ rows_of es) (sym (key_exact k.tuple e.0.tuple q)) ∙ sym (write-here k.tuple (pair_of e) (rows_of es) asc (Some v) (key_exact k.tuple e.0.tuple q))
    go Greater q more = ap (λ r. pair_of e ∷ r) more ∙ sym (write-later k.tuple (pair_of e) (rows_of es) asc (Some v) (after_greater k.tuple e.0.tuple q))

not_equal : (o : Ordering) → is_lt o ≡ true → is_eq o ≡ false
not_equal Less e = refl
not_equal Equal e = absurd cc
not_equal Greater e = absurd cc

-- a key that is below all rows has no value
pub value_at-below : (k : FieldList) (m : Map) → AllByRecursion (λ (y : Pair). before (At k) (At y.key) ≡ true) m → value_at k m ≡ None
unfolding before
value_at-below k [] a = refl
value_at-below k (x ∷ m) a = ap (λ b. cond b (Some x.value) (value_at k m)) (not_equal (key_cmp k x.key) a.0) ∙ value_at-below k m a.1

-- a key that is there isn't below the first row
not_there : {X : Type 0} (o : Option (List ℕ)) → is_some o ≡ true → o ≡ None → X
not_there None t e = absurd cc
not_there (Some v) t e = absurd cc

below_first : {X : Type 0} (k : FieldList) (x : Pair) (m : Map) → Ascends (x ∷ m) → key_cmp k x.key ≡ Less → is_some (value_at k m) ≡ true → X
below_first k x m asc q t = not_there (value_at k m) t (value_at-below k m (each_weaker _ _ (λ (y : Pair) c. before-trans (At k) (At x.key) (At y.key) (before_less k x.key q) c) m asc.0))

-- a removal writes that there is none, where the key is there
pub remove_entry-rows : (k : Key) (es : List (Key × List ℕ)) → Ascends (rows_of es) → is_some (value_at k.tuple (rows_of es)) ≡ true → rows_of (remove_entry (is_at (entry_cmp k)) es) ≡ write k.tuple None (rows_of es)
remove_entry-rows k [] asc there = absurd cc
remove_entry-rows k (e ∷ es) asc there = go (key_cmp k.tuple e.0.tuple) refl there (remove_entry-rows k es asc.1)
  where
    go : (o : Ordering) → key_cmp k.tuple e.0.tuple ≡ o → is_some (cond (is_eq o) (Some e.1) (value_at k.tuple (rows_of es))) ≡ true → (is_some (value_at k.tuple (rows_of es)) ≡ true → rows_of (remove_entry (is_at (entry_cmp k)) es) ≡ write k.tuple None (rows_of es))
        → rows_of (cond (is_eq o) es (e ∷ remove_entry (is_at (entry_cmp k)) es)) ≡ write k.tuple None (rows_of (e ∷ es))
    go Less q t more = below_first k.tuple (pair_of e) (rows_of es) asc q t
    go Equal q t more = sym (write-here k.tuple (pair_of e) (rows_of es) asc None (key_exact k.tuple e.0.tuple q))
    go Greater q t more = ap (λ r. pair_of e ∷ r) (more t) ∙ sym (write-later k.tuple (pair_of e) (rows_of es) asc None (after_greater k.tuple e.0.tuple q))

-- a new value of a key that is there is written
pub set_value-rows : (k : Key) (v : List ℕ) (es : List (Key × List ℕ)) → Ascends (rows_of es) → is_some (value_at k.tuple (rows_of es)) ≡ true → rows_of (set_value (is_at (entry_cmp k)) es v) ≡ write k.tuple (Some v) (rows_of es)
set_value-rows k v [] asc there = absurd cc
set_value-rows k v (e ∷ es) asc there = go (key_cmp k.tuple e.0.tuple) refl there (set_value-rows k v es asc.1)
  where
    go : (o : Ordering) → key_cmp k.tuple e.0.tuple ≡ o → is_some (cond (is_eq o) (Some e.1) (value_at k.tuple (rows_of es))) ≡ true → (is_some (value_at k.tuple (rows_of es)) ≡ true → rows_of (set_value (is_at (entry_cmp k)) es v) ≡ write k.tuple (Some v) (rows_of es))
        → rows_of (cond (is_eq o) ((e.0, v) ∷ es) (e ∷ set_value (is_at (entry_cmp k)) es v)) ≡ write k.tuple (Some v) (rows_of (e ∷ es))
    go Less q t more = below_first k.tuple (pair_of e) (rows_of es) asc q t
    go Equal q t more = ap (λ (j : FieldList). record { key = j; value = v } ∷ rows_of es) (sym (key_exact k.tuple e.0.tuple q)) ∙ sym (write-here k.tuple (pair_of e) (rows_of es) asc (Some v) (key_exact k.tuple e.0.tuple q))
    go Greater q t more = ap (λ r. pair_of e ∷ r) (more t) ∙ sym (write-later k.tuple (pair_of e) (rows_of es) asc (Some v) (after_greater k.tuple e.0.tuple q))
