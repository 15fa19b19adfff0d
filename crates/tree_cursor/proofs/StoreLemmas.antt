-- A cursor on a leaf in hand: its key is that of a row, or the high key.
use Rattle.std.proofs.Common.{◌≡◌, ℕ, ◌≤◌, ◌<◌, Bool, true, false, Option, Some, None, List, length, inl, inr, refl, sym, ap, subst, ◌∙◌, arith}
use Rattle.std.specs.List.{AllByRecursion}
use Rattle.key_tuple.specs.KeyPlace.{KeyPlace, At, before, within}
use Rattle.key_tuple.specs.Order.{FieldList}
use Rattle.key_tuple.specs.declared.key.Key.{Key}
use Rattle.key_tuple.proofs.PlaceLemmas.{before_not_after}
use Rattle.key_tuple.proofs.PositionLemmas.{within_parts}
use Rattle.list_facts.proofs.Each.{each_all, each_filter, each_weaker}
use Rattle.map_history.specs.Map.{Pair, Map, slice}
use Rattle.latch_space.specs.Passes.{view}
use Rattle.index_page.specs.Page.{PageRows}
use Rattle.index_page.specs.Rows.{Row, find_row}
use Rattle.index_page.proofs.RowLemmas.{find_stands}
use Rattle.clock_law.specs.ModifyClock.{HasKeyAt}
use Rattle.tree_law.specs.TreeShape.{In}
use Rattle.tree_law.specs.Pages.{Page, HasFields, is_own, high_place}
use Rattle.tree_law.proofs.LeafLemmas.{IsRow, rows_each, pair_in, each_in, in_middle}
use Rattle.index_law.specs.Shape.{Shape}
use Rattle.forest_law.specs.declared.objects.Frame.{Frame}
use Rattle.forest_law.specs.FramePages.{TellsPage}
use Rattle.forest_law.specs.Law.{IsLawful}
use Rattle.forest_law.specs.State.{ForestState, bound, page_within, numbered_if, maps_of, fields_for}
use Rattle.forest_law.proofs.FramePageLemmas.{frames_tell_pages}
use Rattle.tree_facts.specs.TreeFrames.{IsTreeFrame, low_of, high_of}
use Rattle.tree_facts.proofs.LeafLemmas.{slice_is}
use Rattle.forest_world.specs.Held.{TreePass, shape_of_pass}
use Rattle.call_law.specs.Spoken.{View}
use Rattle.buffer_pool.specs.Forests.{FitsTrees, IsFittedTree}
use Rattle.tree_descent.specs.Ways.{HoldsPage}
use Rattle.tree_descent.proofs.PageLemmas.{same_page, known_tree_frame, read_fields, read_high}
use Rattle.tree_cursor.specs.declared.cursor.Cursor.{Cursor}
use Rattle.tree_cursor.specs.Cursors.{StandsAt, StandsIn, HasCursor}
use Rattle.tree_cursor.specs.Storing.{HasStand, IsKeyOf, StoresCursor}

-- the row at a place has its key there
pub row_has_key : (rows : List Row) (place : ℕ) (row : Row) → find_row place rows ≡ Some row
    → HasKeyAt rows place row.key
row_has_key rows place row found = let s = find_stands rows place row found in record {
  row = row;
  among = subst (In row) (sym s.split) (in_middle s.left row s.right);
  place_is = s.place_is;
  key_is = refl;
}

-- the keys of a slice are within its bounds
slice_within : (low high : KeyPlace) (m : Map)
    → AllByRecursion (λ (e : Pair). within low high (At e.key) ≡ true) (slice low high m)
slice_within low high m = let inside = λ (e : Pair). within low high (At e.key) in
    each_weaker (λ (e : Pair). (inside e ≡ true) × Unit {0}) (λ (e : Pair). inside e ≡ true)
    (λ e both. both.0) (slice low high m)
    (each_filter (λ (e : Pair). Unit {0}) inside m (each_all (λ (e : Pair). Unit {0}) (λ e. tt) m))

-- a cursor with these parts
abbrev pub cursor_with : (block clock number : ℕ) → Option ℕ → Key → Bool → Cursor
cursor_with block clock number place key after = record {
  block = block;
  clock = clock;
  page = number;
  place = place;
  key = key;
  after = after;
}

module _ (w : ForestState) (law : IsLawful w) (v : View) (fits : FitsTrees w v) (b i : ℕ)
    (h : HoldsPage v b i 0) where
  abbrev leaf : Page
  leaf = page_within h.is.page h.frame.low h.frame.high

  is_tree : IsTreeFrame w b h.frame h.is.page
  is_tree = known_tree_frame w law v fits b i 0 h.frame h.knows h.is

  tells : TellsPage w h.frame h.is.page
  tells = frames_tell_pages w law b h.frame h.is.page is_tree.at h.is.paged

  bounds_rise : before (low_of h.frame) (high_of h.frame) ≡ true
  bounds_rise = (tells.sound h.is.tree).bounds

  -- the keys of an index have a field
  pub some_fields : 1 ≤ fields_for v.terms.shape i
  some_fields = subst (λ (s : Shape). 1 ≤ fields_for s i) fits.shape
      (subst (λ j. 1 ≤ fields_for w.shape j) h.is.index
      (law.objects.counted.hash.keyed h.is.page.head.index (tells.sound h.is.tree).index))

  -- the key of a row is within the leaf's bounds
  pub row_within : (x : Row) → In x h.is.page.rows
      → within (low_of h.frame) (high_of h.frame) (At x.key) ≡ true
  row_within x among =
      let low = low_of h.frame in let high = high_of h.frame in
      let value = each_in IsRow h.is.page.rows
      (rows_each h.is.page.head.level h.is.at_level h.is.page.rows tells.order.bodies) x among in
      pair_in (λ (e : Pair). within low high (At e.key) ≡ true) h.is.page.rows
      (subst (AllByRecursion (λ (e : Pair). within low high (At e.key) ≡ true))
      (sym (slice_is w law b h.frame h.is.page is_tree h.is.at_level))
      (slice_within low high (maps_of w.lists h.is.page.head.index)))
      x value.0 among value.1

  within_in : (key : FieldList) (after : Bool)
      → within (low_of h.frame) (high_of h.frame) (At key) ≡ true → StandsIn leaf key after
  within_in key after is =
      let parts = within_parts (low_of h.frame) (high_of h.frame) (At key) is in
      record { low = parts.0; high = inl parts.1 }

  -- where a cursor stands on the leaf is within its bounds, or at its high key
  pub stands_in : (place : Option ℕ) (key : FieldList) (after : Bool)
      → StandsAt leaf place key after → StandsIn leaf key after
  stands_in (Some place) key after s = within_in key after
      (subst (λ k. within (low_of h.frame) (high_of h.frame) (At k) ≡ true) s.key_is
      (row_within s.row s.among))
  stands_in None key false s = record {
    low = subst (λ z. before z (low_of h.frame) ≡ false) (ap high_place s)
        (before_not_after (low_of h.frame) (high_of h.frame) bounds_rise);
    high = inr (s, refl);
  }
  stands_in None key true s = within_in key true s

  -- so the frame has each cursor that stands on the leaf
  pub has_cursor : (clock number : ℕ) (place : Option ℕ) (key : Key) (after : Bool)
      → h.frame.clock ≡ clock → h.is.page.head.number ≡ number
      → StandsAt leaf place key.tuple after
      → HasCursor h.frame (cursor_with b clock number place key after)
  has_cursor clock number place key after clock_is number_is s = record {
    clock = clock_is;
    page = leaf;
    guards = ap (λ o. numbered_if o h.frame.low h.frame.high) h.is.paged
        ∙ ap (λ n. Some (record { number = n; page = leaf })) number_is;
    tree = subst (λ n. is_own n leaf.prev ≡ false) number_is h.is.tree;
    leaf = h.is.at_level;
    at = s;
    inside = stands_in place key.tuple after s;
  }

  -- and one before the key of a row, or before the high key
  pub key_stands : (place : Option ℕ) (key : FieldList)
      → IsKeyOf h.is.page.rows h.frame.high place key → StandsAt leaf place key false
  key_stands (Some place) key is = is
  key_stands None key is = is

-- what was read of the frame in hand is what is known of it
module _ (p : TreePass) (fitted : IsFittedTree (view p)) (b i : ℕ) (h : HoldsPage (view p) b i 0)
    (found : Frame) (rows : PageRows) (same : found ≡ h.frame) (paged : found.page ≡ Some rows) where
  page_is : rows ≡ h.is.page
  page_is = same_page h.frame found h.is.page rows same h.is.paged paged

  fields_are : rows.head.fields ≡ fields_for (shape_of_pass p) i
  fields_are = read_fields (shape_of_pass p) b i 0 h.frame h.is h.order rows page_is

  -- so a cursor's key may be made
  pub read_some : 0 < rows.head.fields
  read_some = let some = some_fields fitted.whole fitted.is_lawful (view p) fitted.fits b i h in
      omega (arith, some, fields_are)

  pub read_ends : HasFields rows.head.fields (bound found.high)
  read_ends = read_high (shape_of_pass p) b i 0 h.frame h.is h.order rows page_is found same

  pub read_stand : (place : Option ℕ) → HasStand h.is.page.rows h.frame.high place
      → HasStand rows.rows found.high place
  read_stand place stand = subst (λ (f : Frame). HasStand rows.rows f.high place) (sym same)
      (subst (λ (x : PageRows). HasStand x.rows h.frame.high place) (sym page_is) stand)

  -- and the cursor with that key stands on the frame
  pub read_stores : (number : ℕ) (place : Option ℕ) (key : Key) → rows.head.number ≡ number
      → IsKeyOf rows.rows found.high place key.tuple → length key.tuple ≡ rows.head.fields
      → key.room ≡ rows.head.fields
      → StoresCursor (view p) b i h.frame place
      (cursor_with b found.clock number place key false)
  read_stores number place key number_is is fields room =
      let w = fitted.whole in let law = fitted.is_lawful in let fits = fitted.fits in
      record {
        block = refl;
        place_is = refl;
        stands_before = refl;
        has = has_cursor w law (view p) fits b i h found.clock number place key false
            (ap (λ (f : Frame). f.clock) (sym same))
            (ap (λ (x : PageRows). x.head.number) (sym page_is) ∙ number_is)
            (key_stands w law (view p) fits b i h place key.tuple
            (subst (λ (f : Frame). IsKeyOf h.is.page.rows f.high place key.tuple) same
            (subst (λ (x : PageRows). IsKeyOf x.rows found.high place key.tuple) page_is is)));
        fields = fields ∙ fields_are;
        room = room ∙ fields_are;
      }
