-- The cuts of a tuple as cuts at a key.
use Rattle.std.proofs.Common.{◌≡◌, ℕ, zero, suc, ◌+◌, ◌<◌, ◌≤◌, true, false, not, List, [], ◌∷◌, ◌++◌, length, replicate, refl, sym, ap, arith, is_lt, is_gt, Ordering, Less, Equal, Greater}
use Rattle.std.specs.Cmp.{nat_cmp_total}
use Rattle.std.specs.Cmp.Lexicographic.{slice_cmp}
use Rattle.std.specs.Ordering.{nat_cmp, ordering_then, ordering_reverse}
use Rattle.std.proofs.lemmas.Bool.Decides.{nat_tests}
use Rattle.std.proofs.lemmas.Cmp.{nat_list_cmp_total}
use Rattle.std.proofs.lemmas.List.Sums.{sum_by-cons}
use Rattle.key_tuple.specs.Order.{FieldList, byte_count, key_cmp, tuple_cmp}
use Rattle.key_tuple.specs.KeyPlace.{At, before, not_below, above}
use Rattle.key_tuple.proofs.PlaceLemmas.{key_exact}
use Rattle.map_history.specs.Ranges.{from_key}
use Rattle.map_ranges.specs.Bounds.{lengthened}

-- a first part that differs decides in both orders
not_after_then : (a b o r : Ordering) → b ≡ ordering_reverse a → not (is_gt o) ≡ not (is_lt r)
    → not (is_gt (ordering_then a o)) ≡ not (is_lt (ordering_then b r))
not_after_then Less b o r turned rest = rw turned refl
not_after_then Equal b o r turned rest = rw turned rest
not_after_then Greater b o r turned rest = rw turned refl

before_then : (a b o r : Ordering) → b ≡ ordering_reverse a → is_lt o ≡ not (is_lt r)
    → is_lt (ordering_then a o) ≡ not (is_lt (ordering_then b r))
before_then Less b o r turned rest = rw turned refl
before_then Equal b o r turned rest = rw turned rest
before_then Greater b o r turned rest = rw turned refl

-- a key that isn't below the tuple isn't before the key of just its fields
pub not_below_is_from : (tuple key : FieldList) → not_below tuple (At key) ≡ from_key tuple (At key)
unfolding not_below before
not_below_is_from [] [] = refl
not_below_is_from [] (part ∷ parts) = refl
not_below_is_from (field ∷ fields) [] = refl
not_below_is_from (field ∷ fields) (part ∷ parts) =
    not_after_then (slice_cmp nat_cmp field part) (slice_cmp nat_cmp part field)
    (tuple_cmp fields parts) (key_cmp parts fields)
    (nat_list_cmp_total.antisymm part field) (not_below_is_from fields parts)

above_zero : (c : ℕ) → nat_cmp (suc c) 0 ≡ Greater
above_zero c = grind (arith, nat_tests)

-- bytes that are after these aren't before these with one more, 0
zero_more : (bytes part : List ℕ)
    → is_lt (slice_cmp nat_cmp bytes part) ≡ not (is_lt (slice_cmp nat_cmp part (bytes ++ 0 ∷ [])))
zero_more [] [] = refl
zero_more [] (zero ∷ []) = refl
zero_more [] (zero ∷ c ∷ cs) = refl
zero_more [] (suc c ∷ cs) = rw (above_zero c) refl
zero_more (b ∷ bs) [] = refl
zero_more (b ∷ bs) (c ∷ cs) =
    before_then (nat_cmp b c) (nat_cmp c b) (slice_cmp nat_cmp bs cs)
    (slice_cmp nat_cmp cs (bs ++ 0 ∷ [])) (nat_cmp_total.antisymm c b) (zero_more bs cs)

-- no key is before the one of no fields
none_before : (key : FieldList) → is_lt (key_cmp key []) ≡ false
none_before [] = refl
none_before (part ∷ parts) = refl

last_then : (a b r : Ordering) → is_lt a ≡ not (is_lt b) → is_lt r ≡ false
    → is_lt (ordering_then a Equal) ≡ not (is_lt (ordering_then b r))
last_then Less Less r turned none = turned
last_then Less Equal r turned none = ap not (sym none)
last_then Less Greater r turned none = refl
last_then Equal Less r turned none = refl
last_then Equal Equal r turned none = absurd cc
last_then Equal Greater r turned none = turned
last_then Greater Less r turned none = refl
last_then Greater Equal r turned none = absurd cc
last_then Greater Greater r turned none = turned

-- a key that is above the tuple isn't before the lengthened one
pub above_is_from : (tuple key : FieldList) → 0 < length tuple
    → above tuple (At key) ≡ from_key (lengthened tuple) (At key)
unfolding above before
above_is_from [] key some = absurd (omega (arith, some))
above_is_from (field ∷ []) [] some = refl
above_is_from (field ∷ []) (part ∷ parts) some =
    last_then (slice_cmp nat_cmp field part) (slice_cmp nat_cmp part (field ++ 0 ∷ []))
    (key_cmp parts []) (zero_more field part) (none_before parts)
above_is_from (field ∷ next ∷ fields) [] some = refl
above_is_from (field ∷ next ∷ fields) (part ∷ parts) some =
    before_then (slice_cmp nat_cmp field part) (slice_cmp nat_cmp part field)
    (tuple_cmp (next ∷ fields) parts) (key_cmp parts (lengthened (next ∷ fields)))
    (nat_list_cmp_total.antisymm part field) (above_is_from (next ∷ fields) parts (omega arith))

-- a key that is above the tuple is after all that begin with it
above_then : (a o r : Ordering) → (is_lt o ≡ true → is_lt r ≡ true)
    → is_lt (ordering_then a o) ≡ true → is_lt (ordering_then a r) ≡ true
above_then Less o r rest is = refl
above_then Equal o r rest is = rest is
above_then Greater o r rest is = absurd cc

above_all : (tuple more key : FieldList) → is_lt (tuple_cmp tuple key) ≡ true
    → is_lt (key_cmp (tuple ++ more) key) ≡ true
above_all [] more key is = absurd cc
above_all (field ∷ fields) more [] is = absurd cc
above_all (field ∷ fields) more (part ∷ parts) is =
    above_then (slice_cmp nat_cmp field part) (tuple_cmp fields parts)
    (key_cmp (fields ++ more) parts) (above_all fields more parts) is

pub above_is_after : (tuple more key : FieldList) → above tuple (At key) ≡ true
    → before (At (tuple ++ more)) (At key) ≡ true
unfolding above before
above_is_after tuple more key is = above_all tuple more key is

-- no key of so many fields and no bytes is after that of so many empty fields
none_after : (count : ℕ) (key : FieldList) → length key ≤ count → byte_count key ≤ 0
    → is_lt (key_cmp (replicate count []) key) ≡ false
none_after zero [] few short = refl
none_after zero (part ∷ parts) few short = absurd (omega (arith, few))
none_after (suc count) [] few short = refl
none_after (suc count) ([] ∷ parts) few short =
    none_after count parts (omega (arith, few)) (omega (arith, short, sum_by-cons length [] parts))
none_after (suc count) ((b ∷ bs) ∷ parts) few short =
    absurd (omega (arith, short, sum_by-cons length (b ∷ bs) parts))

-- equal first fields have as many bytes
as_long : (field part : List ℕ) → slice_cmp nat_cmp field part ≡ Equal → length field ≡ length part
as_long field part same =
    let one : key_cmp (field ∷ []) (part ∷ []) ≡ Equal = ap (λ (o : Ordering). ordering_then o Equal) same in
    let count = ap byte_count (key_exact (field ∷ []) (part ∷ []) one) in
    omega (arith, count)

-- a key of no more bytes and so many fields, after those that begin with the tuple, is above it
after_all : (tuple : FieldList) (count : ℕ) (key : FieldList) → length key ≤ length tuple + count
    → byte_count key ≤ byte_count tuple
    → is_lt (key_cmp (tuple ++ replicate count []) key) ≡ true → is_lt (tuple_cmp tuple key) ≡ true
after_all [] count key few short is = absurd (cc (none_after count key (omega (arith, few)) (omega (arith, short))))
after_all (field ∷ fields) count [] few short is = absurd cc
after_all (field ∷ fields) count (part ∷ parts) few short is =
    go (slice_cmp nat_cmp field part) refl is (after_all fields count parts (omega (arith, few)))
  where
    go : (o : Ordering) → slice_cmp nat_cmp field part ≡ o
        → is_lt (ordering_then o (key_cmp (fields ++ replicate count []) parts)) ≡ true
        → (byte_count parts ≤ byte_count fields
        → is_lt (key_cmp (fields ++ replicate count []) parts) ≡ true
        → is_lt (tuple_cmp fields parts) ≡ true)
        → is_lt (ordering_then o (tuple_cmp fields parts)) ≡ true
    go Less e is rest = refl
    go Equal e is rest =
        let left = sum_by-cons length field fields in
        let right = sum_by-cons length part parts in
        rest (omega (arith, short, left, right, as_long field part e)) is
    go Greater e is rest = absurd cc

pub after_is_above : (tuple : FieldList) (count : ℕ) (key : FieldList)
    → length key ≤ length tuple + count → byte_count key ≤ byte_count tuple
    → before (At (tuple ++ replicate count [])) (At key) ≡ true → above tuple (At key) ≡ true
unfolding above before
after_is_above tuple count key few short is = after_all tuple count key few short is
