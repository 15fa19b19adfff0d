-- The key of a row that isn't its page's first, between the bounds of the page.
use Rattle.std.proofs.Common.{◌≡◌, ℕ, ◌<◌, Bool, true, false, Some, List, ◌∷◌, ◌++◌, length, refl, sym, ap, ap₂, subst, ◌∙◌, inl, inr, arith}
use Rattle.std.specs.List.{AllByRecursion}
use Rattle.std.proofs.lemmas.Bool.{cases_eq}
use lib.ListN.{get_elem?}
use Rattle.key_tuple.specs.KeyPlace.{KeyPlace, At, before}
use Rattle.list_facts.proofs.Each.{each_right}
use Rattle.map_history.specs.Map.{Pair, Ascends}
use Rattle.map_history.proofs.HistoryLemmas.{map_after-ascends}
use Rattle.map_history.proofs.WriteLemmas.{ascends-filter}
use Rattle.index_page.specs.Page.{PageRows}
use Rattle.index_page.specs.Rows.{Row, Child}
use Rattle.tree_law.specs.TreeShape.{first_from, Rise, pointer_to}
use Rattle.tree_law.specs.Pages.{from_place, is_empty, pointers_of, row_pairs}
use Rattle.tree_law.proofs.DescentLemmas.{inner_bounds, leaf_bounds}
use Rattle.tree_law.proofs.FitLemmas.{pointer_level, from_some, from_key}
use Rattle.tree_law.proofs.LeafLemmas.{IsRow, rows_each, row_pairs-row, row_pairs-parts}
use Rattle.tree_law.proofs.PageRowLemmas.{pointers-append, pointer_is}
use Rattle.tree_law.proofs.RowLemmas.{below_it}
use Rattle.tree_law.specs.PickLaws.{AreInner}
use Rattle.index_law.specs.State.{changes}
use Rattle.forest_law.specs.declared.objects.Frame.{Frame}
use Rattle.forest_law.specs.State.{ForestState, page_within, pages_of, heights_of, maps_of, list_of, fields_for}
use Rattle.forest_law.specs.Law.{IsLawful}
use Rattle.tree_facts.specs.TreeFrames.{IsTreeFrame, low_of, high_of}
use Rattle.tree_facts.specs.Ranges.{CutsAreInRanges}
use Rattle.tree_facts.proofs.FrameLemmas.{tells_page, known_page}
use Rattle.tree_facts.proofs.LeafLemmas.{slice_is}
use Rattle.tree_facts.proofs.KeyLemmas.{empty_before}
use Rattle.tree_facts.proofs.InnerLemmas.{inner_pages_point}
use Rattle.tree_facts.proofs.ChildLemmas.{pointers_bound_children}
use Rattle.tree_facts.proofs.RangeLemmas.{ranges_have_cuts}

-- the key of the row comes after the low place and before the high one, and after that of the first
pub record IsBetween (first cut : Row) (low high : KeyPlace) : Type 0 where
  pub from : before low (At cut.key) ≡ true
  pub to : before (At cut.key) high ≡ true
  pub above : before (At first.key) (At cut.key) ≡ true

-- a pointer's row whose place comes after another's
place_above : (x y : Row) → length x.key ≡ length y.key
    → before (from_place x.key) (from_place y.key) ≡ true → before (At x.key) (At y.key) ≡ true
place_above x y l b = pick (is_empty x.key) refl
  where
    some : is_empty y.key ≡ false
    some = from_some (from_place x.key) y.key b

    pick : (e : Bool) → is_empty x.key ≡ e → before (At x.key) (At y.key) ≡ true
    pick true e = empty_before x.key y.key e some l
    pick false e = ap₂ before (sym (from_key x.key e)) (sym (from_key y.key some)) ∙ b

module _ (w : ForestState) (law : IsLawful w) (c : ℕ) (g : Frame) (page : PageRows)
    (is : IsTreeFrame w c g page) (first : Row) (lower : List Row) (cut : Row) (upper : List Row)
    (parts : page.rows ≡ first ∷ lower ++ cut ∷ upper) where
  -- the keys of both rows have as many fields
  long : AllByRecursion (λ (x : Row). length x.key ≡ page.head.fields)
      (first ∷ lower ++ cut ∷ upper)
  long = subst (AllByRecursion (λ (x : Row). length x.key ≡ page.head.fields)) parts
      (tells_page w law c g page is).order.keys

  pub cut_long : length cut.key ≡ page.head.fields
  cut_long = (each_right (λ (x : Row). length x.key ≡ page.head.fields) (first ∷ lower)
      (cut ∷ upper) long).0

  pub same_long : length first.key ≡ length cut.key
  same_long = long.0 ∙ sym cut_long

  -- on a leaf
  leaf_between : page.head.level ≡ 0 → IsBetween first cut (low_of g) (high_of g)
  leaf_between leaf = let rows = subst (AllByRecursion IsRow) parts
      (rows_each page.head.level leaf page.rows (tells_page w law c g page is).order.bodies) in
      let last = (each_right IsRow (first ∷ lower) (cut ∷ upper) rows).0 in
      let x : Pair = record { key = first.key; value = rows.0.0 } in
      let y : Pair = record { key = cut.key; value = last.0 } in
      let pairs = sym (slice_is w law c g page is leaf) ∙ (ap row_pairs parts
      ∙ (row_pairs-parts (first ∷ lower) cut upper last.0 last.1
      ∙ ap (λ z. z ++ y ∷ row_pairs upper) (row_pairs-row first lower rows.0.0 rows.0.1))) in
      let map = maps_of w.lists page.head.index in
      let rises = map_after-ascends (changes (list_of (get_elem? w.lists page.head.index))) in
      let inside = leaf_bounds (low_of g) (high_of g) map rises x y (row_pairs lower)
      (row_pairs upper) pairs in
      record {
        from = inside.0;
        to = inside.1;
        above = (below_it (x ∷ row_pairs lower) (row_pairs upper) y
            (subst Ascends pairs (ascends-filter _ map rises))).0;
      }

  -- on an inner page
  inner_between : 0 < page.head.level → IsBetween first cut (low_of g) (high_of g)
  inner_between above = let fills = inner_pages_point w law c g page is above in
      let inner = subst AreInner parts fills.inner in
      let last = (each_right (λ (x : Row). (n : ℕ) × (x.body ≡ Child n)) (first ∷ lower)
      (cut ∷ upper) inner).0 in
      let x = pointer_to (from_place first.key) inner.0.0 in
      let y = pointer_to (from_place cut.key) last.0 in
      let all : pointers_of page.rows ≡ (x ∷ pointers_of lower) ++ y ∷ pointers_of upper =
      ap pointers_of parts ∙ (pointers-append (first ∷ lower) (cut ∷ upper)
      ∙ ap₂ (λ a b. a ++ b)
      (pointer_is first inner.0.0 (from_place first.key) lower (inner.0.1, refl))
      (pointer_is cut last.0 (from_place cut.key) upper (last.1, refl))) in
      let begins : from_place first.key ≡ low_of g =
      sym (ap (λ ps. first_from ps (high_of g)) all) ∙ fills.begins in
      let inside = inner_bounds x y (pointers_of lower) (pointers_of upper) (low_of g) (high_of g)
      begins (subst (λ ps. Rise ps (high_of g)) all fills.rise) in
      let place = from_key cut.key (from_some (low_of g) cut.key inside.0) in
      record {
        from = ap (before (low_of g)) (sym place) ∙ inside.0;
        to = ap (λ z. before z (high_of g)) (sym place) ∙ inside.1;
        above = place_above first cut same_long
            (ap (λ z. before z (from_place cut.key)) begins ∙ inside.0);
      }

  pub between : IsBetween first cut (low_of g) (high_of g)
  between = elim (cases_eq page.head.level 0) [
    | inl leaf ↦ leaf_between leaf
    | inr inner ↦ inner_between (omega (arith, inner))
  ]

pub cuts_are_in_ranges : CutsAreInRanges
cuts_are_in_ranges w law b f page is fore row aft parts n body c g child under number first lower cut
    upper rows =
    let pages = pages_of w.shape w.objects in
    let up = page_within page f.low f.high in
    let tells = tells_page w law b f page is in
    let there = tells.is ∙ ap (λ xs. Some (record up { rows = xs })) parts in
    let level = pointer_level w.shape.indexes (fields_for w.shape) (heights_of w.objects)
    (maps_of w.lists) pages law.objects.pages page.head.number n up fore row aft there body in
    let known = known_page w law n page.head.index level.0 (from_place row.key)
    (first_from (pointers_of aft) (high_of f))
    (pointers_bound_children w law b f page is level.0 level.1 fore row aft parts n body)
    c g child under number in
    let inside = between w law c g child under first lower cut upper rows in
    let fields : child.head.fields ≡ page.head.fields =
    (tells_page w law c g child under).order.fields
    ∙ (ap (fields_for w.shape) known.0 ∙ sym tells.order.fields) in
    ranges_have_cuts page tells.order.keys tells.order.bodies fore row aft parts n body (high_of f)
    cut.key (cut_long w law c g child under first lower cut upper rows ∙ fields)
    (record {
      from = subst (λ z. before z (At cut.key) ≡ true) known.2 inside.from;
      to = subst (λ z. before (At cut.key) z ≡ true) known.3 inside.to;
      lesser = first.key;
      as_many = same_long w law c g child under first lower cut upper rows;
      above = inside.above;
    })
