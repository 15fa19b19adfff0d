-- A cursor on the leaf in hand, and a piece that may begin there.
use Rattle.std.proofs.Common.{◌≡◌, ◌⊎◌, inl, inr, ℕ, ◌<◌, Bool, true, false, not, Option, Some, None, IsSome, is_some, List, [], ◌∷◌, ◌++◌, append-nil, length, sym, ap, subst, ◌∙◌, refl}
use Rattle.std.proofs.lemmas.Bool.{both_ways}
use Rattle.std.specs.List.{AllByRecursion}
use Rattle.list_facts.proofs.Each.{each_all, each_append, each_both, each_weaker}
use Rattle.list_facts.proofs.Places.{same_some}
use Rattle.key_tuple.specs.Order.{FieldList}
use Rattle.key_tuple.specs.declared.key.Key.{Key}
use Rattle.key_tuple.specs.KeyPlace.{KeyPlace, At, before}
use Rattle.key_tuple.proofs.PlaceLemmas.{before-itself, before_not_after}
use Rattle.key_tuple.proofs.PositionLemmas.{within_parts}
use Rattle.latch_space.specs.Passes.{view}
use Rattle.index_page.specs.Page.{PageRows, RowsAscend}
use Rattle.index_page.specs.Rows.{Row, find_row, first_of_rows, IsAt}
use Rattle.clock_law.specs.ModifyClock.{NumberedPage, last_clock}
use Rattle.tree_law.specs.Pages.{Page, HasFields, high_place}
use Rattle.forest_law.specs.State.{bound, page_within, fields_for}
use Rattle.forest_world.specs.Held.{TreePass}
use Rattle.call_law.specs.Spoken.{View}
use Rattle.buffer_pool.specs.Forests.{IsFittedTree}
use Rattle.tree_facts.specs.TreeFrames.{low_of, high_of}
use Rattle.tree_descent.specs.Ways.{HoldsPage}
use Rattle.engine_law.proofs.KnownLemmas.{same_page}
use Rattle.scan_law.specs.AfterKey.{after_key, place_at}
use Rattle.scan_law.proofs.PlaceLemmas.{after_itself, after_upto, End_after}
use Rattle.scan_law.proofs.RowLemmas.{not_before}
use Rattle.tree_cursor.specs.declared.cursor.Cursor.{Cursor}
use Rattle.tree_cursor.specs.Cursors.{StandsAt, StandsIn, HasCursor}
use Rattle.tree_cursor.specs.EmptyPieces.{HoldsEnd}
use Rattle.tree_cursor.specs.Pieces.{HoldsStand}
use Rattle.tree_cursor.specs.Starts.{place_of, BeginsAt}
use Rattle.tree_cursor.specs.Storing.{Stores, MayStore}
use Rattle.tree_cursor.proofs.DescentLemmas.{row_there}
use Rattle.tree_cursor.proofs.NextLemmas.{all_among}
use Rattle.tree_cursor.proofs.RestoreLemmas.{guard_of}
use Rattle.tree_cursor.proofs.StartLemmas.{key_found, rows_below, rows_above}
use Rattle.tree_cursor.proofs.StoreLemmas.{row_within}
use Rattle.index_scans.specs.FirstLeaves.{HoldsFirst}

-- the page that the cursor's frame guards is the one in hand
module _ (v : View) (b i : ℕ) (h : HoldsPage v b i 0) (c : Cursor) (has : HasCursor h.frame c) where
  abbrev pub leaf : Page
  leaf = page_within h.is.page h.frame.low h.frame.high

  pub leaf_is : leaf ≡ has.page
  leaf_is =
      let guard = guard_of h.frame (record { number = c.page; page = has.page }) has.guards in
      ap (λ (rows : PageRows). page_within rows h.frame.low h.frame.high)
      (sym (same_page h.frame h.frame h.is.page guard.rows refl h.is.paged guard.paged))
      ∙ ap (λ (x : NumberedPage). x.page) guard.is

  pub stands_here : StandsAt leaf c.place c.key.tuple c.after
  stands_here = subst (λ (x : Page). StandsAt x c.place c.key.tuple c.after) (sym leaf_is) has.at

  pub inside_here : StandsIn leaf c.key.tuple c.after
  inside_here = subst (λ (x : Page). StandsIn x c.key.tuple c.after) (sym leaf_is) has.inside

-- the place of a key isn't before the bound below it, nor the bound above it before that
place_low : (key : FieldList) (after : Bool) (low : KeyPlace) → before (At key) low ≡ false
    → before (place_at key after) low ≡ false
place_low key false low from = from
place_low key true low from = not_before (after_key key) (At key) low
    (before_not_after (At key) (after_key key) (after_itself key)) from

place_upto : (fields : ℕ) (key : FieldList) (after : Bool) (high : Option FieldList)
    → length key ≡ fields → HasFields fields high → before (At key) (high_place high) ≡ true
    → before (high_place high) (place_at key after) ≡ false
place_upto fields key false high long suits upto = before_not_after (At key) (high_place high) upto
place_upto fields key true None long suits upto = End_after key
place_upto fields key true (Some k) long suits upto = after_upto key k (long ∙ sym suits) upto

place_high : (fields : ℕ) (key : FieldList) (after : Bool) (high : Option FieldList)
    → length key ≡ fields → HasFields fields high
    → (before (At key) (high_place high) ≡ true) ⊎ ((high ≡ Some key) × (after ≡ false))
    → before (high_place high) (place_at key after) ≡ false
place_high fields key after high long suits (inl upto) =
    place_upto fields key after high long suits upto
place_high fields key after high long suits (inr here) =
    subst (λ a. before (high_place high) (place_at key a) ≡ false) (sym here.1)
    (subst (λ o. before (high_place o) (At key) ≡ false) (sym here.0) (before-itself (At key)))

-- a piece may begin where a cursor stands on the leaf in hand
pub stands_so : (v : View) (b i : ℕ) (h : HoldsPage v b i 0) (c : Cursor)
    → StandsIn (page_within h.is.page h.frame.low h.frame.high) c.key.tuple c.after
    → (b ≡ c.block → h.frame.clock ≡ c.clock → c.clock < last_clock
    → StandsAt (page_within h.is.page h.frame.low h.frame.high) c.place c.key.tuple c.after)
    → length c.key.tuple ≡ fields_for v.terms.shape i
    → c.key.room ≡ fields_for v.terms.shape i
    → HoldsStand v b i c (place_of c)
stands_so v b i h c inside at fields room = record {
  holds = h;
  inside = inside;
  at = at;
  low = place_low c.key.tuple c.after (low_of h.frame) inside.low;
  high = place_high h.is.page.head.fields c.key.tuple c.after (bound h.frame.high)
      (fields ∙ sym (h.order.fields ∙ ap (fields_for v.terms.shape) h.is.index)) h.order.high
      inside.high;
  none_between = each_all
      (λ (x : Row). before (At x.key) (place_of c) ≡ before (At x.key) (place_of c)) (λ x. refl)
      h.is.page.rows;
  fields = fields;
  room = room;
}

-- where a leaf has no row from a place on, each is before it
module _ (rows : List Row) (place : KeyPlace) (begins : BeginsAt rows place None) where
  pub none_on : begins.on ≡ []
  none_on = go begins.on begins.at
    where
      go : (xs : List Row) → IsAt rows None (first_of_rows xs) → xs ≡ []
      go [] at = refl
      go (x ∷ xs) at = absurd (let none = at.0 in cc)

  pub all_sooner : AllByRecursion (λ (x : Row). before (At x.key) place ≡ true) rows
  all_sooner = subst (AllByRecursion (λ (x : Row). before (At x.key) place ≡ true))
      (sym (begins.split ∙ (ap (λ xs. begins.fore ++ xs) none_on ∙ append-nil begins.fore)))
      begins.sooner

-- the first leaf may be the last one
pub first_ends : (v : View) (b i : ℕ) (place : KeyPlace) (start : Option ℕ)
    → (first : HoldsFirst v b i place start) → start ≡ None
    → bound first.holds.frame.high ≡ None → HoldsEnd v b i place
first_ends v b i place start first none last = record {
  holds = first.holds;
  last = last;
  low = first.low;
  none = all_sooner first.holds.is.page.rows place
      (subst (BeginsAt first.holds.is.page.rows place) none first.begins);
}

-- else a cursor may be stored there
pub first_stores : (v : View) (b i : ℕ) (place : KeyPlace) (start : Option ℕ)
    → (first : HoldsFirst v b i place start) → (start ≡ None → IsSome first.holds.frame.high)
    → MayStore v b start
first_stores v b i place None first high =
    record { index = i; holds = first.holds; stand = high refl }
first_stores v b i place (Some n) first high = record {
  index = i;
  holds = first.holds;
  stand = row_there first.holds.is.page.rows n (first_of_rows first.begins.on) first.begins.at;
}

-- no row is between FROM and a key, where the same rows are before both
same_both : (rows : List Row) (from key : FieldList) (fore on : List Row) → rows ≡ fore ++ on
    → AllByRecursion (λ (x : Row). before (At x.key) (At from) ≡ true) fore
    → AllByRecursion (λ (x : Row). before (At x.key) (At from) ≡ false) on
    → AllByRecursion (λ (x : Row). before (At x.key) (At key) ≡ true) fore
    → AllByRecursion (λ (x : Row). before (At x.key) (At key) ≡ false) on
    → AllByRecursion (λ (x : Row). before (At x.key) (At from) ≡ before (At x.key) (At key)) rows
same_both rows from key fore on split sooner later below above =
    subst (AllByRecursion (λ (x : Row). before (At x.key) (At from) ≡ before (At x.key) (At key)))
    (sym split)
    (each_append (λ (x : Row). before (At x.key) (At from) ≡ before (At x.key) (At key)) fore on
    (each_both (λ (x : Row). before (At x.key) (At from) ≡ true)
    (λ (x : Row). before (At x.key) (At key) ≡ true)
    (λ (x : Row). before (At x.key) (At from) ≡ before (At x.key) (At key))
    (λ x one two. one ∙ sym two) fore sooner below)
    (each_both (λ (x : Row). before (At x.key) (At from) ≡ false)
    (λ (x : Row). before (At x.key) (At key) ≡ false)
    (λ (x : Row). before (At x.key) (At from) ≡ before (At x.key) (At key))
    (λ x one two. one ∙ sym two) on later above))

module _ (p : TreePass) (b i : ℕ) (from : FieldList) (fitted : IsFittedTree (view p))
    (h : HoldsPage (view p) b i 0) where
  abbrev rows : List Row
  rows = h.is.page.rows

  -- the rows are below the high key
  upto_high : (key : FieldList) → bound h.frame.high ≡ Some key
      → AllByRecursion (λ (x : Row). before (At x.key) (At key) ≡ true) rows
  upto_high key is = all_among (λ (x : Row). before (At x.key) (At key) ≡ true) rows
      (λ x among. subst (λ z. before (At x.key) z ≡ true) (ap high_place is)
      (within_parts (low_of h.frame) (high_of h.frame) (At x.key)
      (row_within fitted.whole fitted.is_lawful (view p) fitted.fits b i h x among)).1)

  none_between : (rise : RowsAscend rows) (start : Option ℕ) (key : FieldList)
      → (begins : BeginsAt rows (At from) start)
      → StandsAt (page_within h.is.page h.frame.low h.frame.high) start key false
      → AllByRecursion (λ (x : Row). before (At x.key) (At from) ≡ before (At x.key) (At key)) rows
  none_between rise None key begins stands = each_both
      (λ (x : Row). before (At x.key) (At from) ≡ true)
      (λ (x : Row). before (At x.key) (At key) ≡ true)
      (λ (x : Row). before (At x.key) (At from) ≡ before (At x.key) (At key))
      (λ x one two. one ∙ sym two) rows (all_sooner rows (At from) begins) (upto_high key stands)
  none_between rise (Some place) key begins stands = go begins.on begins.split begins.later begins.at
    where
      go : (on : List Row) → rows ≡ begins.fore ++ on
          → AllByRecursion (λ (x : Row). before (At x.key) (At from) ≡ false) on
          → IsAt rows (Some place) (first_of_rows on)
          → AllByRecursion (λ (x : Row). before (At x.key) (At from) ≡ before (At x.key) (At key))
          rows
      go [] split later at = absurd cc
      go (x ∷ xs) split later at =
          let there : find_row place rows ≡ Some x =
          subst (λ n. find_row n rows ≡ Some x) (sym (same_some place x.place at.0)) at.1 in
          let same : x ≡ stands.row = same_some x stands.row
          (sym there ∙ key_found rows place key h.order.places stands) in
          let key_is : x.key ≡ key = ap (λ (z : Row). z.key) same ∙ stands.key_is in
          let rising = subst RowsAscend split rise in
          same_both rows from key begins.fore (x ∷ xs) split begins.sooner later
          (subst (λ k. AllByRecursion (λ (y : Row). before (At y.key) (At k) ≡ true) begins.fore)
          key_is (rows_below begins.fore x xs rising))
          (subst (λ k. AllByRecursion (λ (y : Row). before (At y.key) (At k) ≡ false) (x ∷ xs))
          key_is (
            before-itself (At x.key),
            each_weaker (λ (y : Row). before (At x.key) (At y.key) ≡ true)
                (λ (y : Row). before (At y.key) (At x.key) ≡ false)
                (λ y above. before_not_after (At x.key) (At y.key) above) xs
                (rows_above begins.fore x xs rising),
          ))

-- so the first piece may begin at FROM
pub first_stands : (p : TreePass) (b i : ℕ) (from : FieldList) (start : Option ℕ)
    → IsFittedTree (view p) → HoldsFirst (view p) b i (At from) start → (c : Cursor)
    → Stores (view p) b start c → HoldsStand (view p) b i c (At from)
first_stands p b i from start fitted first c stores =
    let h = first.holds in let s = stores i h in
    let stands : StandsAt (page_within h.is.page h.frame.low h.frame.high) start c.key.tuple false =
    subst (λ o. StandsAt (page_within h.is.page h.frame.low h.frame.high) o c.key.tuple false)
    s.place_is
    (subst (StandsAt (page_within h.is.page h.frame.low h.frame.high) c.place c.key.tuple)
    s.stands_before (stands_here (view p) b i h c s.has)) in
    record {
      holds = h;
      inside = inside_here (view p) b i h c s.has;
      at = λ block clock below. stands_here (view p) b i h c s.has;
      low = first.low;
      high = first.high;
      none_between = subst
          (λ after. AllByRecursion (λ (x : Row). before (At x.key) (At from)
          ≡ before (At x.key) (place_at c.key.tuple after)) h.is.page.rows) (sym s.stands_before)
          (none_between p b i from fitted h first.order.ascend start c.key.tuple first.begins stands);
      fields = s.fields;
      room = s.room;
    }

-- where no high key was found there is none
pub no_high : (o : Option Key) (m : Bool) → not m ≡ true → (IsSome o → m ≡ true) → bound o ≡ None
no_high None m out in_key = refl
no_high (Some key) m out in_key = absurd (both_ways (not m) (ap not (in_key refl)) out)

-- and where no place was told there is none
pub no_place : (o : Option ℕ) (m : Bool) → is_some o ≡ not m → m ≡ true → o ≡ None
no_place None m told is = refl
no_place (Some n) m told is = absurd (both_ways (not m) (ap not is) (sym told))
