-- The place just after a key, and slices that are cut at a place.
use Rattle.std.proofs.Common.{◌≡◌, ℕ, Bool, true, false, not, ◌&&◌, [], ◌∷◌, ◌++◌, length, sym, ap, ◌∙◌, arith, refl, is_lt, Ordering, Less, Equal, Greater, append-nil}
use Rattle.std.proofs.lemmas.Bool.{both_ways}
use Rattle.std.proofs.lemmas.Cmp.{nat_list_cmp_total}
use Rattle.std.proofs.lemmas.List.Elements.{filter-append, filter_agree}
use Rattle.std.specs.Cmp.Lexicographic.{slice_cmp}
use Rattle.std.specs.List.{filter, AllByRecursion}
use Rattle.std.specs.Ordering.{nat_cmp, ordering_then, ordering_reverse}
use Rattle.list_facts.proofs.Each.{each_weaker, filter_each, filter_none, filter-and}
use Rattle.key_tuple.specs.Order.{FieldList, key_cmp}
use Rattle.key_tuple.specs.KeyPlace.{KeyPlace, At, End, before, within}
use Rattle.key_tuple.proofs.PlaceLemmas.{before-itself, before-trans, before_not_after, before_upto}
use Rattle.map_history.specs.Map.{Pair, Map, Ascends, slice}
use Rattle.scan_law.specs.AfterKey.{after_key}

-- a key with as many fields is before the place just after a key exactly where it isn't above that
-- key
next_place : (x k : FieldList) → length x ≡ length k
    → is_lt (key_cmp x (k ++ [] ∷ [])) ≡ not (is_lt (key_cmp k x))
next_place [] [] same = refl
next_place [] (k ∷ ks) same = absurd (omega arith)
next_place (x ∷ xs) [] same = absurd (omega arith)
next_place (x ∷ xs) (k ∷ ks) same =
    go (slice_cmp nat_cmp x k) (slice_cmp nat_cmp k x) (nat_list_cmp_total.antisymm k x)
    (next_place xs ks (omega arith))
  where
    go : (o r : Ordering) → r ≡ ordering_reverse o
        → is_lt (key_cmp xs (ks ++ [] ∷ [])) ≡ not (is_lt (key_cmp ks xs))
        → is_lt (ordering_then o (key_cmp xs (ks ++ [] ∷ [])))
        ≡ not (is_lt (ordering_then r (key_cmp ks xs)))
    go Less r e more = sym (ap (λ z. not (is_lt (ordering_then z (key_cmp ks xs)))) e)
    go Equal r e more = more ∙ sym (ap (λ z. not (is_lt (ordering_then z (key_cmp ks xs)))) e)
    go Greater r e more = sym (ap (λ z. not (is_lt (ordering_then z (key_cmp ks xs)))) e)

pub before_after : (x k : FieldList) → length x ≡ length k
    → before (At x) (after_key k) ≡ not (before (At k) (At x))
unfolding before
before_after x k same = next_place x k same

-- a key is before the place just after it
pub after_itself : (k : FieldList) → before (At k) (after_key k) ≡ true
after_itself k = before_after k k refl ∙ ap not (before-itself (At k))

-- what isn't before a place has the place just after it not before that either
pub after_later : (k : FieldList) (low : KeyPlace) → before (At k) low ≡ false
    → before (after_key k) low ≡ false
after_later k low e = go (before (after_key k) low) refl
  where
    go : (b : Bool) → before (after_key k) low ≡ b → b ≡ false
    go false f = refl
    go true f = absurd (both_ways (before (At k) low) e
        (before-trans (At k) (after_key k) low (after_itself k) f))

-- the rows of a slice that are before a place in it are the slice up to there
pub cut_slice : (low p high : KeyPlace) (m taken rest : Map) → before high p ≡ false
    → taken ++ rest ≡ slice low high m
    → AllByRecursion (λ (e : Pair). before (At e.key) p ≡ true) taken
    → AllByRecursion (λ (e : Pair). before (At e.key) p ≡ false) rest
    → taken ≡ slice low p m
cut_slice low p high m taken rest upto are is isnt =
    sym (filter-append (λ (e : Pair). before (At e.key) p) taken rest
    ∙ (λ i. filter_each (λ (e : Pair). before (At e.key) p) taken is i
    ++ filter_none (λ (e : Pair). before (At e.key) p) rest isnt i)
    ∙ append-nil taken)
    ∙ (ap (filter (λ (e : Pair). before (At e.key) p)) are
    ∙ (filter-and (λ (e : Pair). within low high (At e.key)) (λ (e : Pair). before (At e.key) p) m
    ∙ filter_agree _ _ (λ (e : Pair). same (At e.key)) m))
  where
    same : (x : KeyPlace) → (within low high x && before x p) ≡ within low p x
    same x = go (before x low) (before x high) (before x p) (λ f. before_upto x p high f upto)
      where
        go : (a b c : Bool) → (c ≡ true → b ≡ true) → ((not a && b) && c) ≡ (not a && c)
        go true b c h = refl
        go false true c h = refl
        go false false true h = absurd (cc (h refl))
        go false false false h = refl

-- and those that aren't are the slice from there on
pub rest_slice : (low p high : KeyPlace) (m fore on : Map) → before p low ≡ false
    → fore ++ on ≡ slice low high m
    → AllByRecursion (λ (e : Pair). before (At e.key) p ≡ true) fore
    → AllByRecursion (λ (e : Pair). before (At e.key) p ≡ false) on
    → on ≡ slice p high m
rest_slice low p high m fore on from are is isnt =
    sym (filter-append (λ (e : Pair). not (before (At e.key) p)) fore on
    ∙ (λ i. filter_none (λ (e : Pair). not (before (At e.key) p)) fore
    (each_weaker _ _ (λ e h. ap not h) fore is) i
    ++ filter_each (λ (e : Pair). not (before (At e.key) p)) on
    (each_weaker _ _ (λ e h. ap not h) on isnt) i))
    ∙ (ap (filter (λ (e : Pair). not (before (At e.key) p))) are
    ∙ (filter-and (λ (e : Pair). within low high (At e.key))
    (λ (e : Pair). not (before (At e.key) p)) m
    ∙ filter_agree _ _ (λ (e : Pair). same (At e.key)) m))
  where
    same : (x : KeyPlace) → (within low high x && not (before x p)) ≡ within p high x
    same x = go (before x low) (before x high) (before x p) (λ f. before_upto x low p f from)
      where
        go : (a b c : Bool) → (a ≡ true → c ≡ true) → ((not a && b) && not c) ≡ (not c && b)
        go a true true h = grind arith
        go a false true h = grind arith
        go true b false h = absurd (cc (h refl))
        go false true false h = refl
        go false false false h = refl

-- rows of an ascending list: those before one of them, and those after it
pub below_one : (xs ys : Map) (e : Pair) → Ascends (xs ++ e ∷ ys)
    → AllByRecursion (λ (x : Pair). before (At x.key) (At e.key) ≡ true) xs
below_one [] ys e asc = tt
below_one (x ∷ xs) ys e asc = (mid xs asc.0, below_one xs ys e asc.1)
  where
    mid : (zs : Map)
        → AllByRecursion (λ (y : Pair). before (At x.key) (At y.key) ≡ true) (zs ++ e ∷ ys)
        → before (At x.key) (At e.key) ≡ true
    mid [] a = a.0
    mid (z ∷ zs) a = mid zs a.1

pub above_one : (xs ys : Map) (e : Pair) → Ascends (xs ++ e ∷ ys)
    → AllByRecursion (λ (y : Pair). before (At e.key) (At y.key) ≡ true) ys
above_one [] ys e asc = asc.0
above_one (x ∷ xs) ys e asc = above_one xs ys e asc.1

-- the rows before a row of a slice are the slice up to that row
pub upto_row : (low high : KeyPlace) (m taken rest : Map) (x : Pair) → Ascends (taken ++ x ∷ rest)
    → taken ++ x ∷ rest ≡ slice low high m → before high (At x.key) ≡ false
    → taken ≡ slice low (At x.key) m
upto_row low high m taken rest x asc are upto =
    cut_slice low (At x.key) high m taken (x ∷ rest) upto are (below_one taken rest x asc) (
      before-itself (At x.key),
      each_weaker _ _ (λ y h. before_not_after (At x.key) (At y.key) h) rest (above_one taken rest x asc),
    )

-- the rows up to a row of a slice are the slice up to the place just after that row
pub upto_after : (low high : KeyPlace) (m taken rest : Map) (e : Pair) (n : ℕ)
    → Ascends (taken ++ e ∷ rest) → (taken ++ e ∷ []) ++ rest ≡ slice low high m
    → AllByRecursion (λ (x : Pair). length x.key ≡ n) taken
    → AllByRecursion (λ (x : Pair). length x.key ≡ n) rest → length e.key ≡ n
    → before high (after_key e.key) ≡ false
    → taken ++ e ∷ [] ≡ slice low (after_key e.key) m
upto_after low high m taken rest e n asc are front back long upto =
    cut_slice low (after_key e.key) high m (taken ++ e ∷ []) rest upto are
    (snoc taken (both taken front (below_one taken rest e asc)))
    (late rest back (above_one taken rest e asc))
  where
    both : (xs : Map) → AllByRecursion (λ (x : Pair). length x.key ≡ n) xs
        → AllByRecursion (λ (x : Pair). before (At x.key) (At e.key) ≡ true) xs
        → AllByRecursion (λ (x : Pair). before (At x.key) (after_key e.key) ≡ true) xs
    both [] a b = tt
    both (x ∷ xs) a b = (
      before_after x.key e.key (a.0 ∙ sym long)
          ∙ ap not (before_not_after (At x.key) (At e.key) b.0),
      both xs a.1 b.1,
    )

    late : (ys : Map) → AllByRecursion (λ (y : Pair). length y.key ≡ n) ys
        → AllByRecursion (λ (y : Pair). before (At e.key) (At y.key) ≡ true) ys
        → AllByRecursion (λ (y : Pair). before (At y.key) (after_key e.key) ≡ false) ys
    late [] a b = tt
    late (y ∷ ys) a b = (before_after y.key e.key (a.0 ∙ sym long) ∙ ap not b.0, late ys a.1 b.1)

    snoc : (xs : Map)
        → AllByRecursion (λ (x : Pair). before (At x.key) (after_key e.key) ≡ true) xs
        → AllByRecursion (λ (x : Pair). before (At x.key) (after_key e.key) ≡ true) (xs ++ e ∷ [])
    snoc [] a = (after_itself e.key, tt)
    snoc (x ∷ xs) a = (a.0, snoc xs a.1)

-- the place just after a key that is before a high key with as many fields isn't above that
pub after_upto : (k h : FieldList) → length k ≡ length h → before (At k) (At h) ≡ true
    → before (At h) (after_key k) ≡ false
after_upto k h same e = before_after h k (sym same) ∙ ap not e

-- and it isn't above the end of all keys
pub End_after : (k : FieldList) → before End (after_key k) ≡ false
unfolding before
End_after k = refl
