-- A write: the order it keeps, the values, and its slices.
use Rattle.std.proofs.Common.{◌≡◌, ◌≢◌, ℕ, Bool, true, false, ◌&&◌, cond, Option, Some, None, List, [], ◌∷◌, ◌++◌, refl, sym, ap, ◌∙◌, subst, arith, append-nil, is_eq, is_lt, Ordering, Less, Equal, Greater}
use Rattle.std.specs.List.{filter, AllByRecursion}
use Rattle.std.proofs.lemmas.Bool.{both_ways}
use Rattle.std.proofs.lemmas.List.Elements.{filter-append, filter_agree}
use Rattle.std.proofs.lemmas.Cmp.{tied_itself}
use Rattle.std.specs.Ordering.{ordering_reverse}
use Rattle.key_tuple.specs.Order.{FieldList, key_cmp}
use Rattle.key_tuple.specs.KeyPlace.{KeyPlace, At, before, within}
use Rattle.key_tuple.proofs.PlaceLemmas.{total, key_exact, before-itself, before-trans, before_upto, before_not_after}
use Rattle.key_tuple.proofs.PositionLemmas.{within_parts}
use Rattle.map_history.specs.Map.{Pair, Map, Ascends, slice, value_at, row_of, write}
use Rattle.list_facts.proofs.Each.{filter-and, filter_each, filter_none, each_weaker, each_all, each_filter}
use Rattle.list_facts.proofs.Orders.{is_equal}

-- filters upon filters
and_swap : (a b : Bool) → (a && b) ≡ (b && a)
and_swap a b = grind arith

pub filter-swap : {A : Type 0} (p q : A → Bool) (xs : List A) → filter q (filter p xs) ≡ filter p (filter q xs)
filter-swap p q xs = filter-and p q xs ∙ (filter_agree _ _ (λ x. and_swap (p x) (q x)) xs ∙ sym (filter-and q p xs))

-- the order
pub ascends-filter : (t : Pair → Bool) (m : Map) → Ascends m → Ascends (filter t m)
ascends-filter t [] asc = tt
ascends-filter t (x ∷ xs) asc = go (t x) (each_filter _ t xs asc.0) (ascends-filter t xs asc.1)
  where
    go : (b : Bool) → AllByRecursion (λ (y : Pair). (t y ≡ true) × (before (At x.key) (At y.key) ≡ true)) (filter t xs) → Ascends (filter t xs) → Ascends (cond b (x ∷ filter t xs) (filter t xs))
    go true a r = (each_weaker _ _ (λ y c. c.1) _ a, r)
    go false a r = r

join : (xs ys : Map) → Ascends xs → Ascends ys → AllByRecursion (λ (x : Pair). AllByRecursion (λ (y : Pair). before (At x.key) (At y.key) ≡ true) ys) xs → Ascends (xs ++ ys)
join [] ys a b h = b
join (x ∷ xs) ys a b h = (front xs a.0 h.0, join xs ys a.1 b h.1)
  where
    front : (xs : Map) → AllByRecursion (λ (y : Pair). before (At x.key) (At y.key) ≡ true) xs → AllByRecursion (λ (y : Pair). before (At x.key) (At y.key) ≡ true) ys → AllByRecursion (λ (y : Pair). before (At x.key) (At y.key) ≡ true) (xs ++ ys)
    front [] a b = b
    front (z ∷ zs) a b = (a.0, front zs a.1 b)

passing : (t : Pair → Bool) (m : Map) → AllByRecursion (λ (e : Pair). t e ≡ true) (filter t m)
passing t m = each_weaker _ _ (λ (e : Pair) b. b.0) (filter t m) (each_filter (λ (e : Pair). Unit {0}) t m (each_all _ (λ e. tt) m))

pub write-ascends : (k : FieldList) (o : Option (List ℕ)) (m : Map) → Ascends m → Ascends (write k o m)
write-ascends k o m asc =
    join (lower ++ row_of k o) upper (join lower (row_of k o) (ascends-filter (λ (e : Pair). before (At e.key) (At k)) m asc) (one o) (each_weaker _ _ (λ (x : Pair) b. to_row x b o) lower below)) (ascends-filter (λ (e : Pair). before (At k) (At e.key)) m asc)
    (both lower (each_weaker _ _ (λ (x : Pair) b. each_weaker _ _ (λ (y : Pair) c. before-trans (At x.key) (At k) (At y.key) b c) upper above) lower below) o)
  where
    lower : Map
    lower = filter (λ (e : Pair). before (At e.key) (At k)) m

    upper : Map
    upper = filter (λ (e : Pair). before (At k) (At e.key)) m

    below : AllByRecursion (λ (e : Pair). before (At e.key) (At k) ≡ true) lower
    below = passing (λ (e : Pair). before (At e.key) (At k)) m

    above : AllByRecursion (λ (e : Pair). before (At k) (At e.key) ≡ true) upper
    above = passing (λ (e : Pair). before (At k) (At e.key)) m

    one : (o : Option (List ℕ)) → Ascends (row_of k o)
    one None = tt
    one (Some v) = (tt, tt)

    to_row : (x : Pair) → before (At x.key) (At k) ≡ true → (o : Option (List ℕ)) → AllByRecursion (λ (y : Pair). before (At x.key) (At y.key) ≡ true) (row_of k o)
    to_row x b None = tt
    to_row x b (Some v) = (b, tt)

    both : (xs : Map) → AllByRecursion (λ (x : Pair). AllByRecursion (λ (y : Pair). before (At x.key) (At y.key) ≡ true) upper) xs → (o : Option (List ℕ)) → AllByRecursion (λ (x : Pair). AllByRecursion (λ (y : Pair). before (At x.key) (At y.key) ≡ true) upper) (xs ++ row_of k o)
    both [] h None = tt
    both [] h (Some v) = (above, tt)
    both (x ∷ xs) h o = (h.0, both xs h.1 o)

-- the values
same_key : (j k : FieldList) → is_eq (key_cmp j k) ≡ true → j ≡ k
same_key j k e = key_exact j k (is_equal (key_cmp j k) e)

-- a filter by key keeps a key's value, or loses it
pub value_at-kept : (t : KeyPlace → Bool) (k : FieldList) (m : Map) → t (At k) ≡ true → value_at k (filter (λ (e : Pair). t (At e.key)) m) ≡ value_at k m
value_at-kept t k [] h = refl
value_at-kept t k (x ∷ xs) h = go (is_eq (key_cmp k x.key)) (t (At x.key)) refl refl (value_at-kept t k xs h)
  where
    go : (a b : Bool) → is_eq (key_cmp k x.key) ≡ a → t (At x.key) ≡ b → value_at k (filter (λ (e : Pair). t (At e.key)) xs) ≡ value_at k xs → value_at k (cond b (x ∷ filter (λ (e : Pair). t (At e.key)) xs) (filter (λ (e : Pair). t (At e.key)) xs)) ≡ cond a (Some x.value) (value_at k xs)
    go a true e f ih = rw e (ap (λ r. cond a (Some x.value) r) ih)
    go true false e f ih = absurd (both_ways (t (At k)) (subst (λ (j : FieldList). t (At j) ≡ false) (sym (same_key k x.key e)) f) h)
    go false false e f ih = ih

pub value_at-lost : (t : KeyPlace → Bool) (k : FieldList) (m : Map) → t (At k) ≡ false → value_at k (filter (λ (e : Pair). t (At e.key)) m) ≡ None
value_at-lost t k [] h = refl
value_at-lost t k (x ∷ xs) h = go (is_eq (key_cmp k x.key)) (t (At x.key)) refl refl (value_at-lost t k xs h)
  where
    go : (a b : Bool) → is_eq (key_cmp k x.key) ≡ a → t (At x.key) ≡ b → value_at k (filter (λ (e : Pair). t (At e.key)) xs) ≡ None → value_at k (cond b (x ∷ filter (λ (e : Pair). t (At e.key)) xs) (filter (λ (e : Pair). t (At e.key)) xs)) ≡ None
    go true true e f ih = absurd (both_ways (t (At k)) h (subst (λ (j : FieldList). t (At j) ≡ true) (sym (same_key k x.key e)) f))
    go false true e f ih = rw e ih
    go a false e f ih = ih

-- a range that has the key has the map's value
pub value_at-slice : (low high : KeyPlace) (k : FieldList) (m : Map) → within low high (At k) ≡ true → value_at k (slice low high m) ≡ value_at k m
value_at-slice low high k m h = value_at-kept (within low high) k m h

-- a key that is neither equal nor below is above
above_it : (j k : FieldList) → is_eq (key_cmp j k) ≡ false → before (At j) (At k) ≡ false → before (At k) (At j) ≡ true
unfolding before
above_it j k ne e = ap is_lt (total.antisymm k j) ∙ go (key_cmp j k) ne e
  where
    go : (o : Ordering) → is_eq o ≡ false → is_lt o ≡ false → is_lt (ordering_reverse o) ≡ true
    go Less n l = absurd cc
    go Equal n l = absurd cc
    go Greater n l = refl

-- of two values the first that is there
abbrev or_value : Option (List ℕ) → Option (List ℕ) → Option (List ℕ)
or_value None o = o
or_value (Some v) o = Some v

value_at-append : (k : FieldList) (xs ys : Map) → value_at k (xs ++ ys) ≡ or_value (value_at k xs) (value_at k ys)
value_at-append k [] ys = refl
value_at-append k (x ∷ xs) ys = go (is_eq (key_cmp k x.key)) (value_at-append k xs ys)
  where
    go : (a : Bool) → value_at k (xs ++ ys) ≡ or_value (value_at k xs) (value_at k ys) → cond a (Some x.value) (value_at k (xs ++ ys)) ≡ or_value (cond a (Some x.value) (value_at k xs)) (value_at k ys)
    go true e = refl
    go false e = e

or_none : (o : Option (List ℕ)) → or_value o None ≡ o
or_none None = refl
or_none (Some v) = refl

-- a write gives its key the value, and leaves every other key
pub value_at-write : (k : FieldList) (o : Option (List ℕ)) (m : Map) → value_at k (write k o m) ≡ o
value_at-write k o m =
    let a = value_at-lost (λ x. before x (At k)) k m (before-itself (At k)) in
    let b = value_at-lost (λ x. before (At k) x) k m (before-itself (At k)) in
    value_at-append k (filter (λ (e : Pair). before (At e.key) (At k)) m ++ row_of k o) _ ∙ (rw b (or_none _) ∙ (value_at-append k (filter (λ (e : Pair). before (At e.key) (At k)) m) (row_of k o) ∙ rw a (here o)))
  where
    here : (o : Option (List ℕ)) → value_at k (row_of k o) ≡ o
    here None = refl
    here (Some v) = ap (λ r. cond (is_eq r) (Some v) None) (tied_itself total k)

pub value_at-write_other : (k j : FieldList) (o : Option (List ℕ)) (m : Map) → is_eq (key_cmp j k) ≡ false → value_at j (write k o m) ≡ value_at j m
value_at-write_other k j o m ne =
    value_at-append j (filter (λ (e : Pair). before (At e.key) (At k)) m ++ row_of k o) _ ∙ (ap (λ r. or_value r (value_at j upper)) (value_at-append j lower (row_of k o) ∙ (rw (none o) (or_none _))) ∙ go (before (At j) (At k)) refl)
  where
    lower : Map
    lower = filter (λ (e : Pair). before (At e.key) (At k)) m

    upper : Map
    upper = filter (λ (e : Pair). before (At k) (At e.key)) m

    none : (o : Option (List ℕ)) → value_at j (row_of k o) ≡ None
    none None = refl
    none (Some v) = rw ne

    go : (b : Bool) → before (At j) (At k) ≡ b → or_value (value_at j lower) (value_at j upper) ≡ value_at j m
    go true e = rw (value_at-lost (λ x. before (At k) x) j m (before_not_after (At j) (At k) e), or_none) (value_at-kept (λ x. before x (At k)) j m e)
    go false e = rw (value_at-lost (λ x. before x (At k)) j m e) (value_at-kept (λ x. before (At k) x) j m (above_it j k ne e))

-- keys that differ compare so
differs : (j k : FieldList) → j ≢ k → is_eq (key_cmp j k) ≡ false
differs j k ne = go (key_cmp j k) refl
  where
    go : (o : Ordering) → key_cmp j k ≡ o → is_eq o ≡ false
    go Less e = refl
    go Equal e = absurd (ne (key_exact j k e))
    go Greater e = refl

pub value_at-write_elsewhere : (k j : FieldList) (o : Option (List ℕ)) (m : Map) → k ≢ j → value_at j (write k o m) ≡ value_at j m
value_at-write_elsewhere k j o m ne = value_at-write_other k j o m (differs j k (λ e. ne (sym e)))

-- the slices
slice-row_in : (low high : KeyPlace) (k : FieldList) (o : Option (List ℕ)) → within low high (At k) ≡ true → slice low high (row_of k o) ≡ row_of k o
slice-row_in low high k None h = refl
slice-row_in low high k (Some v) h = rw h

slice-row_out : (low high : KeyPlace) (k : FieldList) (o : Option (List ℕ)) → within low high (At k) ≡ false → slice low high (row_of k o) ≡ []
slice-row_out low high k None h = refl
slice-row_out low high k (Some v) h = rw h

slice-write : (low high : KeyPlace) (k : FieldList) (o : Option (List ℕ)) (m : Map)
    → slice low high (write k o m) ≡ (filter (λ (e : Pair). before (At e.key) (At k)) (slice low high m) ++ slice low high (row_of k o)) ++ filter (λ (e : Pair). before (At k) (At e.key)) (slice low high m)
slice-write low high k o m = simp (filter-append, filter-swap (λ (e : Pair). within low high (At e.key)))

-- within a range that has the key the write is a write of the range
pub slice-write_in : (low high : KeyPlace) (k : FieldList) (o : Option (List ℕ)) (m : Map) → within low high (At k) ≡ true → slice low high (write k o m) ≡ write k o (slice low high m)
slice-write_in low high k o m h = slice-write low high k o m ∙ rw (slice-row_in low high k o h)

low_side : (low high x y : KeyPlace) → before y low ≡ true → within low high x ≡ true → (before x y ≡ false) × (before y x ≡ true)
low_side low high x y e h = let a = before_upto y low x e (within_parts low high x h).0 in (before_not_after y x a, a)

high_side : (low high x y : KeyPlace) → before y high ≡ false → within low high x ≡ true → (before x y ≡ true) × (before y x ≡ false)
high_side low high x y e h = let a = before_upto x high y (within_parts low high x h).1 e in (a, before_not_after x y a)

-- any other range stays
pub slice-write_out : (low high : KeyPlace) (k : FieldList) (o : Option (List ℕ)) (m : Map) → within low high (At k) ≡ false → slice low high (write k o m) ≡ slice low high m
slice-write_out low high k o m h = slice-write low high k o m ∙ rw (slice-row_out low high k o h) (go (before (At k) low) refl)
  where
    in_slice : AllByRecursion (λ (e : Pair). within low high (At e.key) ≡ true) (slice low high m)
    in_slice = passing (λ (e : Pair). within low high (At e.key)) m

    go : (b : Bool) → before (At k) low ≡ b → (filter (λ (e : Pair). before (At e.key) (At k)) (slice low high m) ++ []) ++ filter (λ (e : Pair). before (At k) (At e.key)) (slice low high m) ≡ slice low high m
    go true e =
        rw (filter_none (λ (e : Pair). before (At e.key) (At k)) (slice low high m) (each_weaker _ _ (λ (x : Pair) w. (low_side low high (At x.key) (At k) e w).0) _ in_slice))
        (filter_each (λ (e : Pair). before (At k) (At e.key)) (slice low high m) (each_weaker _ _ (λ (x : Pair) w. (low_side low high (At x.key) (At k) e w).1) _ in_slice))
    go false e =
        let f : before (At k) high ≡ false = grind arith in
        rw (
          filter_each (λ (e : Pair). before (At e.key) (At k)) (slice low high m) (each_weaker _ _ (λ (x : Pair) w. (high_side low high (At x.key) (At k) f w).0) _ in_slice),
          filter_none (λ (e : Pair). before (At k) (At e.key)) (slice low high m) (each_weaker _ _ (λ (x : Pair) w. (high_side low high (At x.key) (At k) f w).1) _ in_slice),
          append-nil,
          append-nil,
        )
