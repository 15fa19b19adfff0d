-- A put that is allowed adds one row, a del takes one out, and a set leaves their number.
use Rattle.std.proofs.Common.{◌≡◌, ℕ, ◌+◌, Bool, true, false, cond, Option, Some, None, List, [], ◌∷◌, ◌++◌, length, take, refl, sym, ap, ◌∙◌, arith, is_lt, Ordering, Less, Equal, Greater}
use Rattle.std.specs.Prelude.{count_by, slice_get, is_some, is_none, suc}
use Rattle.std.specs.List.{filter}
use Rattle.std.proofs.lemmas.List.{length-append}
use Rattle.std.proofs.lemmas.List.Sums.{sum_by-cons}
use Rattle.std.proofs.lemmas.Cmp.{tied_itself}
use Rattle.key_tuple.specs.Order.{FieldList, key_cmp}
use Rattle.key_tuple.specs.KeyPlace.{KeyPlace, At, Start, End, before}
use Rattle.key_tuple.proofs.PlaceLemmas.{total, key_exact, before-itself, before_not_after, before-tied}
use Rattle.map_history.specs.Map.{Pair, Map, MapChange, Put, Set, Del, Ascends, value_at, row_of, write, key_of, value_of, is_allowed, after_change, after_changes}
use Rattle.map_history.proofs.HistoryLemmas.{after_change-ascends}
use Rattle.map_history.proofs.ApplyLemmas.{after-allowed}
use Rattle.map_history.proofs.PairsLemmas.{value_at-below}
use Rattle.gen_law.specs.Counts.{RowsByChanges, is_put, is_del}

-- the rows below the key, and those above it
abbrev lower : FieldList → Map → Map
lower k m = filter (λ (e : Pair). before (At e.key) (At k)) m

abbrev upper : FieldList → Map → Map
upper k m = filter (λ (e : Pair). before (At k) (At e.key)) m

abbrev one_if : Bool → ℕ
one_if b = cond b 1 0

-- each row is below the key, above it, or the key's own
record Parted (k : FieldList) (x : Pair) (xs : Map) : Type 0 where
  parts : one_if (before (At x.key) (At k)) + one_if (before (At k) (At x.key)) + one_if (is_some (value_at k (x ∷ xs))) ≡ 1 + one_if (is_some (value_at k xs))

key_in : KeyPlace → FieldList
key_in (At k) = k
key_in Start = []
key_in End = []

not_greater : {X : Type 0} {o : Ordering} → o ≡ Equal → o ≡ Greater → X
not_greater e g = absurd (let bad = sym e ∙ g in cc)

same_cmp : {j k : FieldList} → At j ≡ At k → key_cmp k j ≡ Equal
unfolding key_in
same_cmp {j} {k} e = ap (key_cmp k) (ap key_in e) ∙ tied_itself total k

parted : (k : FieldList) (x : Pair) (xs : Map) → Ascends (x ∷ xs) → Parted k x xs
unfolding before
parted k x xs asc = go (key_cmp k x.key) refl
  where
    go : (o : Ordering) → key_cmp k x.key ≡ o → Parted k x xs
    go Less e =
        let above : before (At k) (At x.key) ≡ true = ap is_lt e in
        record { parts = rw (before_not_after (At k) (At x.key) above, e) refl }
    go Greater e =
        let not_above : before (At k) (At x.key) ≡ false = ap is_lt e in
        let below : before (At x.key) (At k) ≡ true = below_by (before (At x.key) (At k)) refl not_above e in
        record { parts = rw (below, e) refl }
      where
        below_by : (t : Bool) → before (At x.key) (At k) ≡ t → before (At k) (At x.key) ≡ false → key_cmp k x.key ≡ Greater → t ≡ true
        below_by true s n g = refl
        below_by false s n g = not_greater (same_cmp (before-tied (At x.key) (At k) s n)) g
    go Equal e =
        let same : k ≡ x.key = key_exact k x.key e in
        let none : value_at k xs ≡ None = ap (λ j. value_at j xs) same ∙ value_at-below x.key xs asc.0 in
        let itself : before (At k) (At k) ≡ false = before-itself (At k) in
        record { parts = rw (none, e, sym same, itself) refl }

split_count : (k : FieldList) (m : Map) → Ascends m → length (lower k m) + length (upper k m) + one_if (is_some (value_at k m)) ≡ length m
split_count k [] asc = refl
split_count k (x ∷ xs) asc =
    let first = (parted k x xs asc).parts in
    let rest = split_count k xs asc.1 in
    let low = taken (λ (e : Pair). before (At e.key) (At k)) x xs in
    let high = taken (λ (e : Pair). before (At k) (At e.key)) x xs in
    omega (arith, first, rest, low, high)
  where
    taken : (t : Pair → Bool) (x : Pair) (xs : Map) → length (filter t (x ∷ xs)) ≡ one_if (t x) + length (filter t xs)
    taken t x xs = go (t x)
      where
        go : (b : Bool) → length (cond b (x ∷ filter t xs) (filter t xs)) ≡ one_if b + length (filter t xs)
        go true = omega arith
        go false = omega arith

written : (k : FieldList) (o : Option (List ℕ)) (m : Map) → Ascends m → length (write k o m) + one_if (is_some (value_at k m)) ≡ length m + one_if (is_some o)
written k o m asc =
    let all = split_count k m asc in
    let one = length-append (lower k m ++ row_of k o) (upper k m) in
    let two = length-append (lower k m) (row_of k o) in
    let row = row_count o in
    omega (arith, all, one, two, row)
  where
    row_count : (o : Option (List ℕ)) → length (row_of k o) ≡ one_if (is_some o)
    row_count None = refl
    row_count (Some v) = refl

step : (m : Map) (c : MapChange) → Ascends m → is_allowed m c ≡ true → length (after_change m c) + one_if (is_del c) ≡ length m + one_if (is_put c)
step m c asc fine = ap (λ n. length n + one_if (is_del c)) (after-allowed m c fine) ∙ go c fine
  where
    none_there : (o : Option (List ℕ)) → is_none o ≡ true → one_if (is_some o) ≡ 0
    none_there None e = refl
    none_there (Some v) e = absurd cc

    one_there : (o : Option (List ℕ)) → is_some o ≡ true → one_if (is_some o) ≡ 1
    one_there None e = absurd cc
    one_there (Some v) e = refl

    go : (c : MapChange) → is_allowed m c ≡ true → length (write (key_of c) (value_of c) m) + one_if (is_del c) ≡ length m + one_if (is_put c)
    go (Put k v) fine = let w = written k (Some v) m asc in let n = none_there (value_at k m) fine in omega (arith, w, n)
    go (Set k v) fine = let w = written k (Some v) m asc in let n = one_there (value_at k m) fine in omega (arith, w, n)
    go (Del k) fine = let w = written k None m asc in let n = one_there (value_at k m) fine in omega (arith, w, n)

rows_from : (m : Map) (cs : List MapChange) → Ascends m
    → ((n : ℕ) (c : MapChange) → slice_get cs n ≡ Some c → is_allowed (after_changes m (take n cs)) c ≡ true)
    → length (after_changes m cs) + count_by is_del cs ≡ length m + count_by is_put cs
rows_from m [] asc lawful = refl
rows_from m (c ∷ cs) asc lawful =
    let first = step m c asc (lawful 0 c refl) in
    let rest = rows_from (after_change m c) cs (after_change-ascends m c asc) (λ n d e. lawful (suc n) d e) in
    let dels = counted is_del c cs in
    let puts = counted is_put c cs in
    omega (arith, first, rest, dels, puts)
  where
    counted : (t : MapChange → Bool) (c : MapChange) (cs : List MapChange) → count_by t (c ∷ cs) ≡ one_if (t c) + count_by t cs
    counted t c cs = sum_by-cons (λ (d : MapChange). one_if (t d)) c cs

pub rows_by_changes : RowsByChanges
rows_by_changes cs lawful = let all = rows_from [] cs tt lawful in omega (arith, all)
