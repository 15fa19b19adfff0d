-- A leaf in a frame with a row more or a row less.
use Rattle.std.proofs.Common.{◌≡◌, ◌≤◌, ℕ, true, Some, None, List, [], ◌∷◌, ◌++◌, refl, sym, ap, subst, ◌∙◌}
use Rattle.std.specs.List.{AllByRecursion}
use Rattle.std.specs.Option.{option_map}
use Rattle.key_tuple.specs.Order.{FieldList}
use Rattle.key_tuple.specs.KeyPlace.{At, before}
use Rattle.list_facts.proofs.Places.{same_some}
use Rattle.map_history.specs.Map.{Del, key_of, value_at}
use Rattle.index_page.specs.Changes.{Inserts, page_without}
use Rattle.index_page.specs.Laws.{StandsAt}
use Rattle.index_page.specs.Page.{PageRows, RowsAscend, IsPageInOrder}
use Rattle.index_page.specs.Rows.{Row, Bytes, placed_row}
use Rattle.index_page.proofs.RowLemmas.{find_stands}
use Rattle.index_page.proofs.WithoutLemmas.{each_middle, deleted_is}
use Rattle.tree_law.specs.Pages.{row_pairs}
use Rattle.clock_law.specs.ModifyClock.{last_clock}
use Rattle.clock_law.proofs.LaterLemmas.{changes}
use Rattle.forest_law.specs.declared.objects.Frame.{Frame}
use Rattle.leaf_rows.specs.Changing.{PutsRow, HasRowOf, TakesRowOut, hashed_as}
use Rattle.leaf_rows.specs.Laws.{RowsAreTakenOut}
use Rattle.page_view.proofs.ValueLemmas.{not_before, pairs_ascend}

-- a row among rows that rise is the only one of its key
one_key : (xs : List Row) (x : Row) (ys ls : List Row) (r : Row) (rs : List Row)
    → RowsAscend (xs ++ x ∷ ys) → xs ++ x ∷ ys ≡ ls ++ r ∷ rs → x.key ≡ r.key → x ≡ r
one_key [] x ys [] r rs rise e same = cc
one_key [] x ys (l ∷ ls) r rs rise e same = let rest : ys ≡ ls ++ r ∷ rs = cc in
    absurd (not_before x.key r.key same
    (each_middle (λ (y : Row). before (At x.key) (At y.key) ≡ true) ls r rs
    (subst (AllByRecursion (λ (y : Row). before (At x.key) (At y.key) ≡ true)) rest rise.0)))
one_key (z ∷ xs) x ys [] r rs rise e same = let first : z ≡ r = cc in
    absurd (not_before z.key x.key (ap (λ (y : Row). y.key) first ∙ sym same)
    (each_middle (λ (y : Row). before (At z.key) (At y.key) ≡ true) xs x ys rise.0))
one_key (z ∷ xs) x ys (l ∷ ls) r rs rise e same =
    let rest : xs ++ x ∷ ys ≡ ls ++ r ∷ rs = cc in one_key xs x ys ls r rs rise.1 rest same

-- a row that was put into the page was put into the frame
pub puts_row : (f : Frame) (page new : PageRows) (place : ℕ) (key : FieldList) (value : List ℕ)
    → f.page ≡ Some page → value_at key (row_pairs page.rows) ≡ None → IsPageInOrder new
    → Inserts page new (placed_row place key (Bytes value))
    → PutsRow f (record f { page = Some new }) place key value
puts_row f page new place key value paged absent order put = record {
  page = page;
  new = new;
  had = paged;
  kept = refl;
  head = put.head;
  absent = absent;
  there = put.stands;
  inserts = record {
    below = put.below;
    row = placed_row place key (Bytes value);
    above = put.above;
    value = value;
    is_put = refl;
    body = refl;
    was = put.was;
    is = put.is;
    ascend = pairs_ascend new.rows order.ascend;
    clock_stays = refl;
  };
  order = order;
}

module _ (f g : Frame) (place : ℕ) (key : FieldList) (value : List ℕ)
    (puts : PutsRow f g place key value) where
  put_place : puts.inserts.row.place ≡ place
  put_place = let i = puts.inserts in let s = find_stands puts.new.rows place _ puts.there in
      ap (λ (y : Row). y.place) (one_key i.below i.row i.above s.left _ s.right
      (subst RowsAscend i.is puts.order.ascend) (sym i.is ∙ s.split) (sym (ap key_of i.is_put)))

  put_page : page_without place puts.new ≡ puts.page
  put_page = let i = puts.inserts in
      sym (deleted_is puts.new puts.page place puts.order.places (record {
        left = i.below;
        row = i.row;
        right = i.above;
        was = i.is;
        place_is = put_place;
        is = i.was;
        head = sym puts.head;
      }))

  -- the frame without a row that was put in is what it was, where the clock is as it was, but for how
  -- it is hashed
  pub taken_back : record g { page = option_map (page_without place) g.page } ≡ hashed_as g f
  taken_back =
      ap (λ (h : Frame). record h { page = option_map (page_without place) h.page }) puts.kept
      ∙ ap (λ o. hashed_as g (record f { page = o })) (ap Some put_page ∙ sym puts.had)

-- the rows without the one at a place are those around it
rows_around : (page : PageRows) (place : ℕ) (row : Row) → IsPageInOrder page
    → (s : StandsAt page.rows place row) → (page_without place page).rows ≡ s.left ++ s.right
rows_around page place row order s =
    let without = record page { rows = s.left ++ s.right } in
    sym (ap (λ (p : PageRows). p.rows) (deleted_is page without place order.places (record {
      left = s.left;
      row = row;
      right = s.right;
      was = s.split;
      place_is = s.place_is;
      is = refl;
      head = refl;
    })))

pub rows_are_taken_out : RowsAreTakenOut
rows_are_taken_out f place key has order within = let h = has.has in
    let s = find_stands has.page.rows place h.row h.there in search (ap Del (sym h.key_is), rows_around has.page place h.row order s, pairs_ascend has.page.rows order.ascend, changes.one_step f.clock within)

-- what is taken out of a leaf in order is what a del takes out
pub takes_out : (f : Frame) (place : ℕ) (page : PageRows) → f.page ≡ Some page
    → IsPageInOrder page → f.clock ≤ last_clock → (key : FieldList) → HasRowOf f place key
    → TakesRowOut f place key
takes_out f place page paged order within key has = rows_are_taken_out f place key has
    (subst IsPageInOrder (same_some page has.page (sym paged ∙ has.paged)) order) within
