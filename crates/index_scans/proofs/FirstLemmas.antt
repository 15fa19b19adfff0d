-- The first leaf: what a hit of the hash, or a way down that was learnt from, leaves in hand.
use Rattle.std.proofs.Common.{◌≡◌, inl, inr, ℕ, Bool, true, false, Option, Some, None, List, [], ◌∷◌, ◌++◌, length, sym, ap, subst, ◌∙◌, refl, arith}
use Rattle.std.specs.List.{AllByRecursion}
use Rattle.key_tuple.specs.Order.{FieldList}
use Rattle.key_tuple.specs.KeyPlace.{Start, At, before, not_below}
use Rattle.key_tuple.specs.Position.{IsOfFields}
use Rattle.key_tuple.specs.declared.mode.Mode.TheVariants.{Ge}
use Rattle.key_tuple.proofs.PlaceLemmas.{before-Start, before_not_after, key_exact}
use Rattle.key_tuple.proofs.PositionLemmas.{within_parts}
use Rattle.key_tuple.proofs.TupleLemmas.{tuple_cmp-whole}
use Rattle.latch_space.specs.Passes.{view}
use Rattle.list_facts.proofs.Each.{each_weaker, each_left}
use Rattle.map_history.specs.declared.columns.Note.{Note}
use Rattle.search_info.specs.declared.knows.Knows.{Knows}
use Rattle.index_page.specs.Page.{PageRows, RowsAscend, PlacesDiffer, IsPageInOrder}
use Rattle.index_page.specs.Rows.{Row, find_row, last_of_rows, last_row_after}
use Rattle.index_page.proofs.RowLemmas.{find_among}
use Rattle.tree_law.specs.GuessCheck.{MatchesAll, PrevIsOut, PassesCheck}
use Rattle.tree_law.specs.Pages.{Page, HasFields, IsOrderly, low_place, high_place, outline, forest}
use Rattle.tree_law.specs.TreeShape.{In, tag_of, PrevFits}
use Rattle.tree_law.proofs.LeafLemmas.{each_in, in_middle}
use Rattle.tree_law.proofs.PageRowLemmas.{tree_is}
use Rattle.guess_check.proofs.CheckLemmas.{checked}
use Rattle.index_law.specs.Shape.{Shape}
use Rattle.forest_law.specs.declared.objects.Frame.{Frame}
use Rattle.forest_law.specs.FramePages.{TellsPage}
use Rattle.forest_law.specs.Numbers.{frame_id}
use Rattle.forest_law.specs.State.{bound, page_within, fields_for, pages_of}
use Rattle.forest_law.proofs.FramePageLemmas.{frames_tell_pages}
use Rattle.forest_world.specs.Held.{TreePass, shape_of_pass}
use Rattle.call_law.specs.Spoken.{View}
use Rattle.buffer_pool.specs.Forests.{IsFittedTree}
use Rattle.buffer_pool.specs.Tries.{tries_and_given}
use Rattle.hash_guess.specs.Guesses.{HitsRow, part_given}
use Rattle.hash_guess.specs.Hits.{HoldsHit}
use Rattle.learning.specs.declared.info.Info.{Info}
use Rattle.tree_facts.specs.TreeFrames.{low_of, high_of}
use Rattle.tree_descent.specs.declared.descending.Leaf.{Leaf}
use Rattle.tree_descent.specs.Descents.{Descends}
use Rattle.tree_descent.specs.Leaves.{IsLeafFor}
use Rattle.tree_descent.specs.Ways.{HoldsPage}
use Rattle.tree_descent.proofs.PageLemmas.{known_frame}
use Rattle.leaf_search.specs.Downs.{figures_at}
use Rattle.leaf_search.specs.Lessons.{HasSamePage, Teaches}
use Rattle.leaf_search.proofs.DownLemmas.{taught_leaf}
use Rattle.engine_law.proofs.KnownLemmas.{one_frame, part_no_frame, same_page}
use Rattle.tree_neighbours.specs.LeafHands.{HoldsLeavesAlone}
use Rattle.tree_neighbours.proofs.HandLemmas.{only_then, frames_apart}
use Rattle.scan_law.proofs.EdgeLemmas.{at_from}
use Rattle.scan_law.proofs.RowLemmas.{not_before}
use Rattle.tree_cursor.specs.Starts.{BeginsAt}
use Rattle.tree_cursor.proofs.StartLemmas.{rows_below, rows_above}
use Rattle.tree_cursor.proofs.StoreLemmas.{row_within}
use Rattle.index_seeks.proofs.SeekLearnLemmas.{leaf_then}
use Rattle.index_scans.specs.FirstLeaves.{HoldsFirst}
use Rattle.index_scans.proofs.OrderLemmas.{before_from, begins_from, all_before, low_before, high_after}

-- a bound has its index's number of fields
pub low_suits : (fields : ℕ) (o : Option FieldList) → HasFields fields o → IsOfFields fields (low_place o)
low_suits fields None has = tt
low_suits fields (Some k) has = has

pub high_suits : (fields : ℕ) (o : Option FieldList) → HasFields fields o
    → IsOfFields fields (high_place o)
high_suits fields None has = tt
high_suits fields (Some k) has = has

-- a leaf that has FROM's position, with the spot of a search for it
way_first : (v : View) (shape : Shape) (b i : ℕ) (from : FieldList) (way : Leaf)
    → (h : HoldsPage v b i 0) → IsPageInOrder h.is.page
    → (leaf : IsLeafFor shape h.frame i Ge from way.spot) → h.is.page ≡ leaf.page.is.page
    → HoldsFirst v b i (At from) way.spot.after
way_first v shape b i from way h order leaf same =
    let fields_are = leaf.page.order.fields ∙ ap (fields_for shape) leaf.page.is.index in
    record {
      holds = h;
      order = order;
      begins = subst (λ (p : PageRows). BeginsAt p.rows (At from) way.spot.after) (sym same)
          (begins_from from leaf.page.is.page.rows way.spot leaf.finds);
      low = low_before (fields_for shape i) from (low_of h.frame)
          (subst (λ n. IsOfFields n (low_of h.frame)) fields_are
          (low_suits leaf.page.is.page.head.fields (bound h.frame.low) leaf.page.order.low))
          leaf.page.within.low;
      high = high_after (fields_for shape i) from (high_of h.frame)
          (subst (λ n. IsOfFields n (high_of h.frame)) fields_are
          (high_suits leaf.page.is.page.head.fields (bound h.frame.high) leaf.page.order.high))
          leaf.page.within.high;
    }

-- a way down leaves its leaf alone in hand
pub went_alone : (p q : TreePass) (i : ℕ) (tuple : FieldList) (leaf : Leaf)
    → Descends p i Ge tuple leaf q → HoldsLeavesAlone p [] → HoldsLeavesAlone q (leaf.block ∷ [])
went_alone p q i tuple leaf went none = only_then p q [] (leaf.block ∷ [])
    (frame_id (shape_of_pass p) leaf.block ∷ []) none went.silently
    (λ c apart. (tt, (frames_apart (shape_of_pass p) leaf.block c apart.0, tt)))
    ((λ e. omega (arith, e)), tt)
    (λ k below. (part_no_frame (shape_of_pass p) k leaf.block below, tt))
    (let more = went.count in let zero = none.count in omega (arith, more, zero))

-- and a hit leaves its leaf so
pub hit_alone : (p q : TreePass) (i : ℕ) (from : FieldList) (info : Info) (block place : ℕ)
    (found : Bool) → HoldsLeavesAlone p [] → HitsRow p i Ge from info block place found q
    → HoldsLeavesAlone q (block ∷ [])
hit_alone p q i from info block place found none hits = only_then p q [] (block ∷ [])
    (frame_id (shape_of_pass p) block ∷ []) none
    (record {
      added = tries_and_given [] (part_given p i hits.part ∷ []);
      does = hits.does;
      silent = refl;
    })
    (λ c apart. (tt, (frames_apart (shape_of_pass p) block c apart.0, tt)))
    ((λ e. omega (arith, e)), tt)
    (λ k below. (part_no_frame (shape_of_pass p) k block below, tt))
    (let more = hits.count in let zero = none.count in omega (arith, more, zero))

-- a leaf was learnt from that has FROM's position
module _ (p q r : TreePass) (l m : Knows) (i : ℕ) (from : FieldList) (way : Leaf) (note : Note)
    (went : Descends p i Ge from way q)
    (taught : Teaches q l i way.block (figures_at way.spot) note r m) where
  one : taught.leaf.frame ≡ went.frame
  one = one_frame (view q) way.block taught.leaf.frame went.frame taught.leaf.knows went.knows

  pub taught_first : ((h : HoldsPage (view r) way.block i 0) → IsPageInOrder h.is.page)
      → HoldsFirst (view r) way.block i (At from) way.spot.after
  taught_first order =
      let leaf = taught_leaf q r l m i way.block (figures_at way.spot) note taught in
      let same = subst (λ (f : Frame). HasSamePage f taught.new) one taught.same in
      way_first (view r) (shape_of_pass p) way.block i from way leaf
      (order leaf)
      (leaf_then (shape_of_pass p) went.frame taught.new same i Ge from way.spot went.is)
      (same_page went.frame taught.leaf.frame went.is.page.is.page taught.leaf.is.page one
      went.is.page.is.paged taught.leaf.is.paged)

-- rows that ascend ascend to the left of others
ascends_left : (left right : List Row) → RowsAscend (left ++ right) → RowsAscend left
ascends_left [] right rise = tt
ascends_left (x ∷ left) right rise = (
  each_left (λ (y : Row). before (At x.key) (At y.key) ≡ true) left right rise.0,
  ascends_left left right rise.1,
)

-- what is among some rows is among them and others
in_left : (x : Row) (xs ys : List Row) → In x xs → In x (xs ++ ys)
in_left x [] ys among = absurd among
in_left x (y ∷ xs) ys (inl is) = inl is
in_left x (y ∷ xs) ys (inr among) = inr (in_left x xs ys among)

last_among : (x : Row) (xs : List Row) → In (last_row_after x xs) (x ∷ xs)
last_among x [] = inl refl
last_among x (y ∷ ys) = inr (last_among y ys)

-- a row that a guess hit on a leaf
module _ (v : View) (i : ℕ) (from : FieldList) (block place : ℕ) (found : Bool)
    (hit : HoldsHit v i Ge from block place found) (fitted : IsFittedTree v) where
  pub tells : TellsPage fitted.whole hit.frame hit.is.page
  tells = frames_tell_pages fitted.whole fitted.is_lawful block hit.frame hit.is.page
      (known_frame fitted.whole fitted.is_lawful v fitted.fits block hit.frame hit.knows)
      hit.is.paged

  abbrev page_there : Page
  page_there = page_within hit.is.page hit.frame.low hit.frame.high

  abbrev pub hit_held : HoldsPage v block i 0
  hit_held = record {
    frame = hit.frame;
    knows = hit.knows;
    is = hit.is;
    order = subst (λ (s : Shape). IsOrderly (fields_for s) page_there) fitted.fits.shape
        tells.order;
  }

  abbrev left : List Row
  left = hit.checks.left

  abbrev row : Row
  row = hit.checks.row

  abbrev right : List Row
  right = hit.checks.right

  passes : PassesCheck Ge from page_there left row right
  passes = checked.told Ge from hit.is.page (bound hit.frame.low) (bound hit.frame.high) left row
      right found (sym hit.checks.is)

  rise : IsPageInOrder hit.is.page → RowsAscend (left ++ row ∷ right)
  rise order = subst RowsAscend hit.checks.split order.ascend

  bounds : (x : Row) → In x hit.is.page.rows
      → (before (At x.key) (low_of hit.frame) ≡ false) × (before (At x.key) (high_of hit.frame) ≡ true)
  bounds x among = within_parts (low_of hit.frame) (high_of hit.frame) (At x.key)
      (row_within fitted.whole fitted.is_lawful v fitted.fits block i hit_held x among)

  row_among : In row hit.is.page.rows
  row_among = subst (In row) (sym hit.checks.split) (in_middle left row right)

  -- FROM isn't after the row
  not_after : before (At row.key) (At from) ≡ false
  not_after = at_from from row.key passes.0

  -- where no page is before it, the leaf begins with all keys
  starts : hit.is.page.head.prev ≡ None → low_of hit.frame ≡ Start
  starts e =
      let tree : forest (pages_of fitted.whole.shape fitted.whole.objects) hit.is.page.head.number
      ≡ Some (outline page_there) =
      tree_is (pages_of fitted.whole.shape fitted.whole.objects) hit.is.page.head.number page_there
      tells.is hit.is.tree in
      subst (PrevFits (forest (pages_of fitted.whole.shape fitted.whole.objects))
      (tag_of (outline page_there))) e
      (fitted.is_lawful.objects.pages.shape.prevs hit.is.page.head.number (outline page_there) tree)

  -- the rows to the left are before FROM, and FROM isn't before the leaf's low end
  abbrev BeforeFrom : Type 0
  BeforeFrom = AllByRecursion (λ (x : Row). before (At x.key) (At from) ≡ true) left
      × (before (At from) (low_of hit.frame) ≡ false)

  by_match : IsPageInOrder hit.is.page → MatchesAll from page_there row.key → BeforeFrom
  by_match order m =
      let whole : length row.key ≡ hit.is.page.head.fields = row_long in
      let same : from ≡ row.key =
      key_exact from row.key (sym (tuple_cmp-whole from row.key (m.0 ∙ sym whole)) ∙ m.1) in
      subst (λ k. AllByRecursion (λ (x : Row). before (At x.key) (At k) ≡ true) left
      × (before (At k) (low_of hit.frame) ≡ false)) (sym same)
      (rows_below left row right (rise order), (bounds row row_among).0)
    where
      row_long : length row.key ≡ hit.is.page.head.fields
      row_long = each_in (λ (x : Row). length x.key ≡ hit.is.page.head.fields) hit.is.page.rows
          tells.order.keys row row_among

  by_prev : (xs : List Row) → RowsAscend (xs ++ row ∷ right)
      → ((x : Row) → In x xs → In x hit.is.page.rows)
      → PrevIsOut (not_below from) hit.is.page.head.prev (last_of_rows xs)
      → AllByRecursion (λ (x : Row). before (At x.key) (At from) ≡ true) xs
      × (before (At from) (low_of hit.frame) ≡ false)
  by_prev [] rising among none =
      (tt, subst (λ z. before (At from) z ≡ false) (sym (starts none)) (before-Start (At from)))
  by_prev (x ∷ xs) rising among out =
      let sooner = before_from from (last_row_after x xs).key out in
      let all = all_before x xs (At from) (ascends_left (x ∷ xs) (row ∷ right) rising) sooner in (
        all,
        not_before (At from) (At (last_row_after x xs).key) (low_of hit.frame)
            (before_not_after (At (last_row_after x xs).key) (At from) sooner)
            (bounds (last_row_after x xs) (among (last_row_after x xs) (last_among x xs))).0,
      )

  before_both : IsPageInOrder hit.is.page → BeforeFrom
  before_both order = elim passes.1 [
    | inl match ↦ by_match order match
    | inr prev ↦ by_prev left (rise order)
        (λ x among. subst (In x) (sym hit.checks.split) (in_left x left (row ∷ right) among)) prev
  ]

  pub hit_first : IsPageInOrder hit.is.page → HoldsFirst v block i (At from) (Some place)
  hit_first order = record {
    holds = hit_held;
    order = order;
    begins = record {
      fore = left;
      on = row ∷ right;
      split = hit.checks.split;
      sooner = (before_both order).0;
      later = (
        not_after,
        each_weaker (λ (y : Row). before (At row.key) (At y.key) ≡ true)
            (λ (y : Row). before (At y.key) (At from) ≡ false)
            (λ y above. not_before (At y.key) (At row.key) (At from)
            (before_not_after (At row.key) (At y.key) above) not_after) right
            (rows_above left row right (rise order)),
      );
      at = (
        ap Some (sym hit.checks.place_is),
        subst (λ (xs : List Row). find_row row.place xs ≡ Some row) (sym hit.checks.split)
            (find_among left row right (subst PlacesDiffer hit.checks.split tells.order.places)),
      );
    };
    low = (before_both order).1;
    high = not_before (high_of hit.frame) (At row.key) (At from)
        (before_not_after (At row.key) (high_of hit.frame) (bounds row row_among).1) not_after;
  }
