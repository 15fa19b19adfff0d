-- A scan that is said range by range is a scan.
use Rattle.std.proofs.Common.{◌≡◌, inl, inr, ℕ, ◌+◌, ◌≤◌, Bool, true, false, not, ◌&&◌, Option, Some, None, List, [], ◌∷◌, ◌++◌, length, length-append, map, refl, sym, ap, ◌∙◌, subst, arith}
use Rattle.std.proofs.lemmas.Bool.{both_ways}
use Rattle.std.proofs.lemmas.List.Sums.{sum_by-cons, sum_by-append}
use Rattle.std.proofs.lemmas.List.Elements.{filter_agree}
use Rattle.std.proofs.lemmas.Cmp.{nat_list_cmp_total}
use Rattle.std.specs.Cmp.{IsTotalOrder}
use Rattle.std.specs.Cmp.Lexicographic.{slice_cmp}
use Rattle.std.specs.Ordering.{nat_cmp, ordering_then, ordering_reverse, is_gt, is_lt}
use Rattle.std.specs.declared.cmp.Ordering.{Ordering}
use Rattle.std.specs.declared.cmp.Ordering.TheVariants.{Less, Equal, Greater}
use Rattle.std.specs.List.{filter, AllByRecursion}
use Rattle.list_facts.proofs.Each.{each_all, each_append, each_filter, each_weaker, filter_each, filter_none, filter-and}
use Rattle.key_tuple.specs.Order.{FieldList, key_cmp, tuple_cmp}
use Rattle.key_tuple.specs.KeyPlace.{KeyPlace, At, End, before, within, not_below}
use Rattle.key_tuple.proofs.PlaceLemmas.{before-itself}
use Rattle.map_history.specs.Map.{Pair, Map, MapChange, slice}
use Rattle.map_history.specs.Scans.{is_below, IsAtEnd, IsScan}
use Rattle.map_history.proofs.HistoryLemmas.{map_after-stays}
use Rattle.scan_law.specs.ScanLaws.{ReadRange, map_of, HasItsRows, Follow, last_of, BeginsBy, row_count}
use Rattle.scan_law.specs.SaidScans.{Chain, IsRangeFor, IsPastTo, EndsScan, IsSaidScan, HasMapRows, SaidScansAreScans}
use Rattle.scan_law.proofs.RowLemmas.{not_before}
use Rattle.scan_law.proofs.EdgeLemmas.{at_from, edges_of_scans}
use Rattle.scan_law.proofs.RangeLemmas.{ranges_are_scan}

bytes : IsTotalOrder (slice_cmp nat_cmp)
bytes = nat_list_cmp_total

-- a key below a tuple is before the key of the tuple's fields
below_early : (t k : FieldList) → is_gt (tuple_cmp t k) ≡ true → is_lt (key_cmp k t) ≡ true
below_early [] k e = absurd cc
below_early (x ∷ ts) [] e = refl
below_early (x ∷ ts) (y ∷ ks) e =
    go (slice_cmp nat_cmp y x) (slice_cmp nat_cmp x y) (bytes.antisymm x y) e (below_early ts ks)
  where
    go : (o r : Ordering) → r ≡ ordering_reverse o → is_gt (ordering_then r (tuple_cmp ts ks)) ≡ true
        → (is_gt (tuple_cmp ts ks) ≡ true → is_lt (key_cmp ks ts) ≡ true)
        → is_lt (ordering_then o (key_cmp ks ts)) ≡ true
    go Less r f e more = refl
    go Equal r f e more = more (ap (λ (z : Ordering). is_gt (ordering_then z (tuple_cmp ts ks))) (sym f) ∙ e)
    go Greater r f e more = absurd (cc (f, e))

-- what isn't before FROM is from FROM on
pub from_on : (from key : FieldList) → before (At key) (At from) ≡ false → not_below from (At key) ≡ true
unfolding not_below before
from_on from key e = go (is_gt (tuple_cmp from key)) refl
  where
    go : (b : Bool) → is_gt (tuple_cmp from key) ≡ b → not b ≡ true
    go false f = refl
    go true f = absurd (both_ways (is_lt (key_cmp key from)) e (below_early from key f))

chain_snoc : (from at : KeyPlace) (ranges : List ReadRange) (range : ReadRange) → Chain from ranges at
    → range.low ≡ at → Chain from (ranges ++ range ∷ []) range.high
chain_snoc from at [] range chain low = (low ∙ sym chain, refl)
chain_snoc from at (r ∷ rs) range chain low = (chain.0, chain_snoc r.high at rs range chain.1 low)

count_snoc : (ranges : List ReadRange) (range : ReadRange)
    → row_count (ranges ++ range ∷ []) ≡ row_count ranges + length range.piece.rows
count_snoc ranges range =
    let both = sum_by-append (λ (r : ReadRange). length r.piece.rows) ranges (range ∷ []) in
    let one = sum_by-cons (λ (r : ReadRange). length r.piece.rows) range [] in omega (arith, both, one)

-- a chain that begins with a range
follow_of : (r : ReadRange) (rs : List ReadRange) (at : KeyPlace) → Chain r.high rs at
    → Follow r rs × ((last_of r rs).high ≡ at)
follow_of r [] at chain = (tt, chain)
follow_of r (x ∷ xs) at chain = let more = follow_of x xs at chain.1 in ((chain.0, more.0), more.1)

-- two filters may change places
swapped : (A W : Pair → Bool) (m : Map) → filter A (filter W m) ≡ filter W (filter A m)
swapped A W m = filter-and W A m
    ∙ (filter_agree _ _ (λ (e : Pair). go (W e) (A e)) m ∙ sym (filter-and A W m))
  where
    go : (a b : Bool) → (a && b) ≡ (b && a)
    go true true = refl
    go true false = refl
    go false true = refl
    go false false = refl

-- rows of a filter that pass two others are those of all three
wanted : (A B W : Pair → Bool) (m rows : Map) → rows ≡ filter W m
    → AllByRecursion (λ (r : Pair). A r ≡ true) rows → AllByRecursion (λ (r : Pair). B r ≡ true) rows
    → rows ≡ filter B (filter W (filter A m))
wanted A B W m rows are a b = sym (filter_each B rows b)
    ∙ ap (filter B) (sym (filter_each A rows a) ∙ (ap (filter A) are ∙ swapped A W m))

-- each row of a slice isn't before where that begins
not_sooner : (low high : KeyPlace) (m rows : Map) → rows ≡ slice low high m
    → AllByRecursion (λ (r : Pair). before (At r.key) low ≡ false) rows
not_sooner low high m rows are = subst
    (AllByRecursion (λ (r : Pair). before (At r.key) low ≡ false)) (sym are)
    (each_weaker _ _ (λ (r : Pair) h. go (before (At r.key) low) (before (At r.key) high) h.0)
    (slice low high m)
    (each_filter (λ (r : Pair). Unit {0}) (λ (r : Pair). within low high (At r.key)) m
    (each_all _ (λ r. tt) m)))
  where
    go : (a b : Bool) → (not a && b) ≡ true → a ≡ false
    go true b h = absurd cc
    go false b h = refl

module _ (from : FieldList) (to : Option FieldList) (changes : List MapChange) where
  -- a range from FROM on that has its map's rows, all below TO, has those that are asked for
  has_rows : (range : ReadRange) → before range.low (At from) ≡ false → IsRangeFor to range
      → HasMapRows changes range → HasItsRows from to changes range
  has_rows range low is has = record {
    within = has.within;
    in_order = is.in_order;
    rows = wanted (λ (row : Pair). not_below from (At row.key))
        (λ (row : Pair). is_below to (At row.key))
        (λ (row : Pair). within range.low range.high (At row.key)) (map_of changes range)
        range.piece.rows has.rows
        (each_weaker _ _
        (λ (r : Pair) h. from_on from r.key (not_before (At r.key) range.low (At from) h low))
        range.piece.rows (not_sooner range.low range.high (map_of changes range) range.piece.rows has.rows))
        is.below;
  }

  -- so it is with each range of a chain that begins from FROM on
  all_rows : (start at : KeyPlace) (ranges : List ReadRange) → before start (At from) ≡ false
      → Chain start ranges at → AllByRecursion (IsRangeFor to) ranges
      → AllByRecursion (HasMapRows changes) ranges → AllByRecursion (HasItsRows from to changes) ranges
  all_rows begin at [] low chain each has = tt
  all_rows begin at (r ∷ rs) low chain each has =
      let here : before r.low (At from) ≡ false = subst (λ z. before z (At from) ≡ false) (sym chain.0) low in (
        has_rows r here each.0 has.0,
        all_rows r.high at rs (not_before r.high r.low (At from) each.0.in_order here) chain.1 each.1 has.1,
      )

  -- it may end where it does
  none_at_end : (m : Map) → slice End End m ≡ []
  none_at_end m = filter_none _ m (each_all _ (λ (e : Pair). go (before (At e.key) End)) m)
    where
      go : (b : Bool) → (not b && b) ≡ false
      go true = refl
      go false = refl

  may_end : (left : ℕ) (high : KeyPlace) (m : Map) → EndsScan to left high → IsAtEnd to left high m
  may_end left high m (inl none) = subst (λ n. IsAtEnd to n high m) (sym none)
      (edges_of_scans.ends_at_limit to high m)
  may_end left high m (inr (inl end)) = edges_of_scans.ends_with_map to left high m
      (ap (λ z. slice z End m) end ∙ none_at_end m)
  may_end left high m (inr (inr past)) = at_to to past
    where
      at_to : (t : Option FieldList) → IsPastTo t high → IsAtEnd t left high m
      at_to None p = absurd p
      at_to (Some x) p = edges_of_scans.ends_at_to x left high m p

  is_scan : (limit : ℕ) (first : ReadRange) (later : List ReadRange)
      → IsSaidScan from to limit first later → AllByRecursion (HasMapRows changes) (first ∷ later)
      → IsScan from to limit changes (map (λ (range : ReadRange). range.piece) (first ∷ later))
  is_scan limit first later said has =
      let so = said.so_far in let count = so.count in
      let follow = follow_of first later said.at so.chain.1 in
      ranges_are_scan from to limit changes first later (record {
        begins = subst (BeginsBy from) (sym so.chain.0) (at_from from);
        each = all_rows (At from) said.at (first ∷ later) (before-itself (At from)) so.chain so.each has;
        contiguous = follow.0;
        few = omega (arith, count);
        ended = subst (λ n. IsAtEnd to n (last_of first later).high (map_of changes (last_of first later)))
            (omega (arith, count))
            (subst (λ z. IsAtEnd to said.left z (map_of changes (last_of first later))) (sym follow.1)
            (may_end said.left said.at (map_of changes (last_of first later)) said.ended));
      })

stays : (changes more : List MapChange) (range : ReadRange) → HasMapRows changes range
    → HasMapRows (changes ++ more) range
stays changes more range h = let within = h.within in record {
  within = omega (arith, within, length-append changes more);
  rows = h.rows ∙ ap (slice range.low range.high)
      (sym (map_after-stays changes more range.piece.point h.within));
}

stood : (changes more : List MapChange) (range : ReadRange) → HasMapRows (changes ++ more) range
    → range.piece.point ≤ length changes → HasMapRows changes range
stood changes more range h within = record {
  within = within;
  rows = h.rows ∙ ap (slice range.low range.high)
      (map_after-stays changes more range.piece.point within);
}

pub said_scans : SaidScansAreScans
said_scans = record {
  nothing = λ from to limit. record { chain = refl; each = tt; count = omega arith };
  one_more = λ from to limit left at ranges range so is low few. record {
    chain = chain_snoc (At from) at ranges range so.chain low;
    each = each_append (IsRangeFor to) ranges (range ∷ []) so.each (is, tt);
    count = (let count = so.count in let more = count_snoc ranges range in
        omega (arith, count, more, few));
  };
  stays = stays;
  stood = stood;
  is_scan = λ from to limit changes first later. is_scan from to changes limit first later;
}
