-- A row that carries a value, and the record of it.
use Rattle.std.proofs.Common.{◌≡◌, ℕ, Some, List, [], get_or, set, refl, sym, subst}
use Rattle.std.specs.List.{slice_get}
use Rattle.key_tuple.specs.Order.{FieldList}
use Rattle.index_page.specs.Rows.{Row, Bytes}
use Rattle.index_page.specs.Store.{PlaceLists, Content, rows_in, IsStore, HasValueAt, Rewrites}
use Rattle.index_page.proofs.RowLemmas.{get_below}
use Rattle.index_page.proofs.StoreLemmas.{live_at, rewritten, carried}

-- the record at a place carries this value, and with another one there the row with a number has that
pub record CarriesFor (slots : List Content) (live : List ℕ) (rows : List Row) (at place : ℕ) (value : List ℕ) : Type 0 where
  pub key : FieldList
  pub there : slice_get slots place ≡ Some (record { key = key; body = Bytes value })
  pub written : (bytes : List ℕ) → Rewrites rows (rows_in (set slots place (record { key = key; body = Bytes bytes })) live) at bytes

-- the record of a row that carries a value, where its place was read from the list of them
pub carries_for : (slots : List Content) (places : PlaceLists) (lent : List ℕ) (rows : List Row) (at place : ℕ) → IsStore slots places → rows_in slots places.live ≡ rows → lent ≡ places.live → place ≡ get_or lent at 0 → (has : HasValueAt rows at) → CarriesFor slots places.live rows at place has.value
carries_for slots places lent rows at place store view same read has =
    let nothing : Content = record { key = []; body = Bytes [] } in
    let listed = subst (λ (n : ℕ). slice_get places.live at ≡ Some n) (sym read) (live_at slots places.live lent rows at view (get_below rows at has.row has.there) same) in
    let here = subst (λ (r : List Row). slice_get r at ≡ Some has.row) (sym view) has.there in
    record {
      key = (get_or slots place nothing).key;
      there = carried slots places at place store listed (record { row = has.row; value = has.value; there = here; is = has.is });
      written = λ bytes.
          let new : Content = record { key = (get_or slots place nothing).key; body = Bytes bytes } in
          let put = rewritten slots places at place store listed (get_or slots place nothing) new bytes refl refl in
          subst (λ (r : List Row). Rewrites r (rows_in (set slots place new) places.live) at bytes) view put;
    }
