-- What was taken of a leaf reaches to where the piece ends, and whether that ends the scan.
use Rattle.std.proofs.Common.{◌≡◌, ◌⊎◌, inl, inr, ℕ, suc, ◌<◌, Bool, true, false, not, Option, Some, None, List, [], ◌∷◌, ◌++◌, length, sym, ap, subst, ◌∙◌, refl, append-nil, arith}
use Rattle.std.proofs.lemmas.Bool.{both_ways}
use Rattle.std.specs.List.{AllByRecursion}
use Rattle.list_facts.proofs.Each.{each_left, each_right, each_weaker}
use Rattle.key_tuple.specs.Order.{FieldList}
use Rattle.key_tuple.specs.KeyPlace.{KeyPlace, At, End, before, not_below}
use Rattle.key_tuple.proofs.TupleLemmas.{not_below_cut}
use Rattle.map_history.specs.Map.{Pair, Map}
use Rattle.map_history.specs.Scans.{is_below}
use Rattle.index_page.specs.Page.{RowsAscend, IsRowOf, IsPageInOrder}
use Rattle.index_page.specs.Rows.{Row, first_of_rows, last_row_after}
use Rattle.index_page.proofs.RowLemmas.{ascends_right}
use Rattle.tree_law.specs.Pages.{HasFields, high_place, row_pairs}
use Rattle.tree_law.specs.TreeShape.{In}
use Rattle.tree_law.proofs.LeafLemmas.{IsRow, rows_each, row_pairs-row, pairs_each, each_in}
use Rattle.tree_law.proofs.PageRowLemmas.{row_pairs-append}
use Rattle.forest_law.specs.State.{bound}
use Rattle.tree_facts.specs.TreeFrames.{high_of}
use Rattle.call_law.specs.Spoken.{View}
use Rattle.tree_descent.specs.Ways.{HoldsPage}
use Rattle.page_view.specs.declared.taking.Stop.{Stop}
use Rattle.page_view.specs.declared.taking.Stop.TheVariants.{AtLimit, AtTo, AtPageEnd}
use Rattle.page_view.specs.Taking.{rows_from_place, AreBelow, StopsAt}
use Rattle.page_view.proofs.TakingLemmas.{ends_with}
use Rattle.scan_law.specs.AfterKey.{after_key, place_at}
use Rattle.scan_law.proofs.EdgeLemmas.{at_from}
use Rattle.tree_cursor.specs.declared.cursor.Cursor.{Cursor}
use Rattle.tree_cursor.specs.declared.filling.Ending.{Ending}
use Rattle.tree_cursor.specs.declared.filling.Ending.TheVariants.{Full, Past, Onward}
use Rattle.tree_cursor.specs.Fills.{is_past_at, HasRowPast, StandsBehind, EndsBy, Fills}
use Rattle.tree_cursor.specs.MapRows.{AreMapRows}
use Rattle.tree_cursor.specs.Starts.{place_of}
use Rattle.tree_cursor.specs.Telling.{last_key_after, end_at, end_of}
use Rattle.tree_cursor.proofs.RangeEndLemmas.{ReachTo, EndsAt, all_reach, some_reach, below_reach}

-- as many rows as pairs, where each carries a value
pub pairs_count : (xs : List Row) → AllByRecursion IsRow xs → length (row_pairs xs) ≡ length xs
pairs_count [] each = refl
pairs_count (x ∷ xs) each = ap length (row_pairs-row x xs each.0.0 each.0.1)
    ∙ ap (λ n. suc n) (pairs_count xs each.1)

-- the pairs of some rows end with that of the last row
record EndsWithKey (m : Map) (key : FieldList) : Type 0 where
  fore : Map
  pair : Pair
  split : m ≡ fore ++ pair ∷ []
  key_is : pair.key ≡ key
  last : (k : FieldList) → last_key_after k m ≡ key

last_pair : (x : Row) (xs : List Row) → AllByRecursion IsRow (x ∷ xs)
    → EndsWithKey (row_pairs (x ∷ xs)) (last_row_after x xs).key
last_pair x [] each =
    let one = row_pairs-row x [] each.0.0 each.0.1 in record {
      fore = [];
      pair = record { key = x.key; value = each.0.0 };
      split = one;
      key_is = refl;
      last = λ k. ap (last_key_after k) one;
    }
last_pair x (y ∷ ys) each =
    let one = row_pairs-row x (y ∷ ys) each.0.0 each.0.1 in
    let more = last_pair y ys each.1 in
    let first : Pair = record { key = x.key; value = each.0.0 } in record {
      fore = first ∷ more.fore;
      pair = more.pair;
      split = one ∙ ap (λ m. first ∷ m) more.split;
      key_is = more.key_is;
      last = λ k. ap (last_key_after k) one ∙ more.last x.key;
    }

-- a key of a bound that isn't below TO isn't before TO
past_bound : (t : FieldList) (high : Option FieldList) → is_past_at (Some t) high ≡ true
    → before (high_place high) (At t) ≡ false
unfolding before
past_bound t None past = refl
past_bound t (Some k) past = at_from t k (go (not_below t (At k)) past)
  where
    go : (b : Bool) → not (not b) ≡ true → b ≡ true
    go true e = refl
    go false e = absurd cc

past_all : (high : Option FieldList) → is_past_at None high ≡ true → high_place high ≡ End
past_all None past = refl
past_all (Some k) past = absurd cc

not_past : (t : FieldList) (x : Row) → is_below (Some t) (At x.key) ≡ true
    → not_below t (At x.key) ≡ false
not_past t x e = go (not_below t (At x.key)) e
  where
    go : (b : Bool) → not b ≡ true → b ≡ false
    go false e = refl
    go true e = absurd cc

is_past : (t : FieldList) (x : Row) → is_below (Some t) (At x.key) ≡ false
    → not_below t (At x.key) ≡ true
is_past t x e = go (not_below t (At x.key)) e
  where
    go : (b : Bool) → not b ≡ false → b ≡ true
    go true e = refl
    go false e = absurd cc

-- where the first of some rising rows isn't below TO, none is
all_past : (t : FieldList) (rest : List Row) (x : Row) → first_of_rows rest ≡ Some x
    → is_below (Some t) (At x.key) ≡ false → RowsAscend rest
    → AllByRecursion (λ (y : Row). not_below t (At y.key) ≡ true) rest
all_past t [] x first past rise = absurd (let none : None ≡ Some x = first in cc)
all_past t (y ∷ ys) x first past rise =
    let some : Some y ≡ Some x = first in let same : y ≡ x = cc in
    let here : not_below t (At y.key) ≡ true =
    subst (λ (z : Row). not_below t (At z.key) ≡ true) (sym same) (is_past t x past) in (
      here,
      each_weaker (λ (z : Row). before (At y.key) (At z.key) ≡ true)
          (λ (z : Row). not_below t (At z.key) ≡ true)
          (λ z above. (not_below_cut t).rises (At y.key) (At z.key) above here) ys rise.0,
    )

-- rows without pairs are none
empty_rest : (y : Row) (xs : List Row) → row_pairs xs ≡ [] → AllByRecursion IsRow xs
    → first_of_rows xs ≡ Some y → ⊥
empty_rest y [] none each first = let e : None ≡ Some y = first in cc
empty_rest y (x ∷ xs) none each first =
    let one = row_pairs-row x xs each.0.0 each.0.1 in
    let pair : Pair = record { key = x.key; value = each.0.0 } in
    let clash : pair ∷ row_pairs xs ≡ [] = sym one ∙ none in cc

module _ (v : View) (b i : ℕ) (h : HoldsPage v b i 0) (start : Option ℕ) (low : KeyPlace)
    (order : IsPageInOrder h.is.page)
    (are : AreMapRows v i low (high_of h.frame) (row_pairs (rows_from_place start h.is.page.rows)))
    (later : AllByRecursion (λ (x : Row). before (At x.key) low ≡ false)
    (rows_from_place start h.is.page.rows))
    (upto : before (high_of h.frame) low ≡ false) where
  abbrev rows : List Row
  rows = rows_from_place start h.is.page.rows

  abbrev high : KeyPlace
  high = high_of h.frame

  rise : RowsAscend rows
  rise = let s = ends_with start h.is.page.rows in
      ascends_right s.0 rows (subst RowsAscend s.1 order.ascend)

  suits : AllByRecursion (IsRowOf h.is.page.head) rows
  suits = let s = ends_with start h.is.page.rows in
      each_right (IsRowOf h.is.page.head) s.0 rows
      (subst (AllByRecursion (IsRowOf h.is.page.head)) s.1 order.each)

  pub values : AllByRecursion IsRow rows
  values = rows_each h.is.page.head.level h.is.at_level rows
      (each_weaker (IsRowOf h.is.page.head) _ (λ x of. of.body) rows suits)

  long : AllByRecursion (λ (e : Pair). length e.key ≡ h.is.page.head.fields) (row_pairs rows)
  long = pairs_each (λ (k : FieldList). length k ≡ h.is.page.head.fields) rows
      (each_weaker (IsRowOf h.is.page.head) (λ (x : Row). length x.key ≡ h.is.page.head.fields)
      (λ x of. of.fields) rows suits)

  pair_later : AllByRecursion (λ (e : Pair). before (At e.key) low ≡ false) (row_pairs rows)
  pair_later = pairs_each (λ (k : FieldList). before (At k) low ≡ false) rows later

  ends : EndsAt h.is.page.head.fields high
  ends = go (bound h.frame.high) h.order.high
    where
      go : (o : Option FieldList) → HasFields h.is.page.head.fields o
          → EndsAt h.is.page.head.fields (high_place o)
      go None has = inl refl
      go (Some k) has = inr (k, refl, has)

  -- up to the last of some rows
  reach_behind : (x : Row) (xs rest : List Row) → rows ≡ (x ∷ xs) ++ rest
      → ReachTo v i low (after_key (last_row_after x xs).key) (row_pairs (x ∷ xs))
  reach_behind x xs rest all =
      let l = last_pair x xs
      (each_left IsRow (x ∷ xs) rest (subst (AllByRecursion IsRow) all values)) in
      let pairs : row_pairs rows ≡ (l.fore ++ l.pair ∷ []) ++ row_pairs rest =
      ap row_pairs all ∙ (row_pairs-append (x ∷ xs) rest ∙ ap (λ m. m ++ row_pairs rest) l.split) in
      subst (ReachTo v i low (after_key (last_row_after x xs).key)) (sym l.split)
      (subst (λ k. ReachTo v i low (after_key k) (l.fore ++ l.pair ∷ [])) l.key_is
      (some_reach v i low high (row_pairs rows) are upto pair_later l.fore l.pair (row_pairs rest)
      h.is.page.head.fields pairs long ends))

  reach_full : (to : Option FieldList) (c' : Cursor) (taken rest : List Row) (left : ℕ)
      → rows ≡ taken ++ rest → length taken ≡ left → 0 < left
      → ReachTo v i low (end_of to low (row_pairs taken) c' Full) (row_pairs taken)
  reach_full to c' [] rest left all count some = absurd (omega arith)
  reach_full to c' (x ∷ xs) rest left all count some =
      let l = last_pair x xs
      (each_left IsRow (x ∷ xs) rest (subst (AllByRecursion IsRow) all values)) in
      subst (λ k. ReachTo v i low (after_key k) (row_pairs (x ∷ xs))) (sym (l.last []))
      (reach_behind x xs rest all)

  reach_onward : (to : Option FieldList) (c' : Cursor) (taken : List Row) → taken ≡ rows
      → StandsBehind h.frame taken c'
      → ReachTo v i low (place_of c') (row_pairs taken)
  reach_onward to c' [] all (at, before_it) =
      let key_end : high ≡ place_of c' =
      ap high_place at ∙ ap (λ a. place_at c'.key.tuple a) (sym before_it) in
      subst (λ p. ReachTo v i low p []) key_end
      (all_reach v i low high (row_pairs rows) are upto pair_later []
      (ap row_pairs (sym all)))
  reach_onward to c' (x ∷ xs) all (key_is, behind) =
      let key_end : after_key (last_row_after x xs).key ≡ place_of c' =
      ap after_key (sym key_is) ∙ ap (λ a. place_at c'.key.tuple a) (sym behind) in
      subst (λ p. ReachTo v i low p (row_pairs (x ∷ xs))) key_end
      (reach_behind x xs [] (sym all ∙ sym (append-nil (x ∷ xs))))

  -- where the piece ends at TO, or with the last leaf
  module _ (taken rest : List Row) (left : ℕ) (all : rows ≡ taken ++ rest)
      (fewer : length taken < left) where
    pairs_all : row_pairs rows ≡ row_pairs taken ++ row_pairs rest
    pairs_all = ap row_pairs all ∙ row_pairs-append taken rest

    none_past : (to : Option FieldList) → AreBelow to taken → rest ≡ [] → HasRowPast to rows → ⊥
    none_past to below none past =
        let among : In past.row taken =
        subst (In past.row) (all ∙ (ap (λ zs. taken ++ zs) none ∙ append-nil taken)) past.among in
        both_ways (is_below to (At past.row.key)) past.past
        (each_in (λ (x : Row). is_below to (At x.key) ≡ true) taken below past.row among)

    reach_past : (to : Option FieldList) (stop : Stop) → AreBelow to taken
        → StopsAt to left (length taken) rest stop
        → HasRowPast to rows ⊎ (is_past_at to (bound h.frame.high) ≡ true)
        → ReachTo v i low (end_at to low) (row_pairs taken)
    reach_past to AtLimit below why past = absurd (omega (arith, why, fewer))
    reach_past None AtTo below why past = absurd (let e : true ≡ false = why.1.2 in cc)
    reach_past None AtPageEnd below why (inl past) =
        absurd (none_past None below why.1 past)
    reach_past None AtPageEnd below why (inr past) =
        subst (λ p. ReachTo v i low p (row_pairs taken)) (past_all (bound h.frame.high) past)
        (all_reach v i low high (row_pairs rows) are upto pair_later (row_pairs taken)
        (pairs_all ∙ (ap (λ zs. row_pairs taken ++ row_pairs zs) why.1 ∙ append-nil (row_pairs taken))))
    reach_past (Some t) AtTo below why past =
        below_reach v i low high (row_pairs rows) are upto pair_later t (row_pairs taken)
        (row_pairs rest) pairs_all (λ none. absurd (no_rest none))
        (pairs_each (λ (k : FieldList). not_below t (At k) ≡ false) taken
        (each_weaker (λ (x : Row). is_below (Some t) (At x.key) ≡ true)
        (λ (x : Row). not_below t (At x.key) ≡ false) (not_past t) taken below))
        (pairs_each (λ (k : FieldList). not_below t (At k) ≡ true) rest
        (all_past t rest why.1.0 why.1.1 why.1.2
        (ascends_right taken rest (subst RowsAscend all rise))))
      where
        no_rest : row_pairs rest ≡ [] → ⊥
        no_rest none = empty_rest why.1.0 rest none
            (each_right IsRow taken rest (subst (AllByRecursion IsRow) all values)) why.1.1
    reach_past (Some t) AtPageEnd below why (inl past) =
        absurd (none_past (Some t) below why.1 past)
    reach_past (Some t) AtPageEnd below why (inr past) =
        below_reach v i low high (row_pairs rows) are upto pair_later t (row_pairs taken)
        (row_pairs rest) pairs_all (λ none. past_bound t (bound h.frame.high) past)
        (pairs_each (λ (k : FieldList). not_below t (At k) ≡ false) taken
        (each_weaker (λ (x : Row). is_below (Some t) (At x.key) ≡ true)
        (λ (x : Row). not_below t (At x.key) ≡ false) (not_past t) taken below))
        (subst (AllByRecursion (λ (e : Pair). not_below t (At e.key) ≡ true))
        (sym (ap row_pairs why.1)) tt)

  -- so the piece reaches to its end
  pub piece_reaches : (to : Option FieldList) (left : ℕ) (old new : Map) (ending : Ending)
      (c c' : Cursor) (fills : Fills h.frame h.is.page b start to left old new ending c c')
      → 0 < left
      → ReachTo v i low (end_of to low (row_pairs fills.took.taken) c' ending)
      (row_pairs fills.took.taken)
  piece_reaches to left old new ending c c' fills some =
      go ending fills.ends
    where
      go : (e : Ending) → EndsBy h.frame h.is.page b to left rows fills.took.taken e c c'
          → ReachTo v i low (end_of to low (row_pairs fills.took.taken) c' e)
          (row_pairs fills.took.taken)
      go Full ends = reach_full to c' fills.took.taken fills.took.rest left fills.took.split ends.0
          some
      go Past ends = reach_past fills.took.taken fills.took.rest left fills.took.split ends.0 to
          fills.stop fills.took.below fills.took.why ends.1
      go Onward ends = reach_onward to c' fills.took.taken ends.1
          (subst (λ (zs : List Row). StandsBehind h.frame zs c') (sym ends.1) ends.3.behind)
