-- The rows of a leaf as pairs, and the value of a key among them.
use Rattle.std.proofs.Common.{◌≡◌, ◌≢◌, ℕ, Bool, true, false, cond, Some, None, List, [], ◌∷◌, ◌++◌, refl, sym, ap, subst, ◌∙◌, is_eq}
use Rattle.std.proofs.lemmas.Bool.{both_ways}
use Rattle.std.proofs.lemmas.Cmp.{tied_itself}
use Rattle.std.specs.List.{AllByRecursion}
use Rattle.key_tuple.specs.Order.{FieldList, key_cmp}
use Rattle.key_tuple.specs.KeyPlace.{At, before}
use Rattle.key_tuple.proofs.PlaceLemmas.{total, key_exact, before-itself}
use Rattle.list_facts.proofs.Each.{each_weaker}
use Rattle.list_facts.proofs.Orders.{is_equal}
use Rattle.map_history.specs.Map.{Pair, Map, Ascends, value_at}
use Rattle.index_page.specs.Page.{PageRows, RowsAscend, FitsLevel, IsRowOf, IsPageInOrder}
use Rattle.index_page.specs.Rows.{RowBody, Bytes, Child, Row, LacksKey, find_row}
use Rattle.index_page.proofs.RowLemmas.{find_stands, each_found}
use Rattle.index_page.proofs.WithoutLemmas.{each_middle}
use Rattle.tree_law.specs.Pages.{with_pair, row_pairs}
use Rattle.page_view.specs.Finding.{HasRow}

-- each row carries a value
abbrev pub HaveValues : List Row → Type 0
HaveValues rows = AllByRecursion (λ (x : Row). FitsLevel 0 x.body) rows

-- on a leaf that is so
pub leaf_values : (page : PageRows) → IsPageInOrder page → page.head.level ≡ 0
    → HaveValues page.rows
leaf_values page order level = each_weaker (IsRowOf page.head) _
    (λ (x : Row) of. subst (λ n. FitsLevel n x.body) level of.body) page.rows order.each

pub has_bytes : (body : RowBody) → FitsLevel 0 body → (v : List ℕ) × (body ≡ Bytes v)
has_bytes (Bytes v) fits = (v, refl)
has_bytes (Child n) fits = absurd (fits refl)

-- no key is before itself
pub not_before : (j k : FieldList) → j ≡ k → before (At j) (At k) ≡ true → ⊥
not_before j k same less = both_ways _ (before-itself (At k))
    (subst (λ i. before (At i) (At k) ≡ true) same less)

alike : (k j : FieldList) → j ≡ k → is_eq (key_cmp k j) ≡ true
alike k j e = ap is_eq (ap (key_cmp k) e ∙ tied_itself total k)

unlike : (k j : FieldList) → j ≢ k → is_eq (key_cmp k j) ≡ false
unlike k j apart = go (is_eq (key_cmp k j)) refl
  where
    go : (b : Bool) → is_eq (key_cmp k j) ≡ b → is_eq (key_cmp k j) ≡ false
    go true e = absurd (apart (sym (key_exact k j (is_equal (key_cmp k j) e))))
    go false e = e

module _ (k : FieldList) where
  -- a row of another key says nothing of this one
  value-past : (x : Row) (m : Map) → x.key ≢ k
      → value_at k (with_pair x.key x.body m) ≡ value_at k m
  value-past x m other = go x.body
    where
      go : (b : RowBody) → value_at k (with_pair x.key b m) ≡ value_at k m
      go (Bytes v) = ap (λ b. cond b (Some v) (value_at k m)) (unlike k x.key other)
      go (Child n) = refl

  -- rows without the key have no value for it
  pub value-none : (rows : List Row) → LacksKey k rows → value_at k (row_pairs rows) ≡ None
  value-none [] lacks = refl
  value-none (x ∷ rows) lacks =
      value-past x (row_pairs rows) lacks.0 ∙ value-none rows lacks.1

  -- the first row with the key has its value
  pub value-first : (left : List Row) (row : Row) (right : List Row) (v : List ℕ)
      → LacksKey k left → row.key ≡ k → row.body ≡ Bytes v
      → value_at k (row_pairs (left ++ row ∷ right)) ≡ Some v
  value-first [] row right v lacks same is =
      ap (λ b. value_at k (with_pair row.key b (row_pairs right))) is
      ∙ ap (λ b. cond b (Some v) (value_at k (row_pairs right))) (alike k row.key same)
  value-first (x ∷ left) row right v lacks same is =
      value-past x (row_pairs (left ++ row ∷ right)) lacks.0
      ∙ value-first left row right v lacks.1 same is

  -- where each row carries a value, rows without one for the key lack it
  pub none-lacks : (rows : List Row) → HaveValues rows → value_at k (row_pairs rows) ≡ None
      → LacksKey k rows
  none-lacks [] each none = tt
  none-lacks (x ∷ rows) each none =
      (other, none-lacks rows each.1 (sym (value-past x (row_pairs rows) other) ∙ none))
    where
      other : x.key ≢ k
      other same = let b = has_bytes x.body each.0 in
          let some = value-first [] x rows b.0 tt same b.1 in
          let clash : Some b.0 ≡ None = sym some ∙ none in absurd cc

  -- the rows before a row with the key lack it
  left_lacks : (left : List Row) (row : Row) (right : List Row) → row.key ≡ k
      → RowsAscend (left ++ row ∷ right) → LacksKey k left
  left_lacks [] row right same rise = tt
  left_lacks (x ∷ left) row right same rise = (
    λ e. not_before x.key row.key (e ∙ sym same)
        (each_middle (λ (y : Row). before (At x.key) (At y.key) ≡ true) left row right rise.0),
    left_lacks left row right same rise.1,
  )

  -- the row at a place has the key's value, where it has the key
  pub has_row : (page : PageRows) (place : ℕ) (row : Row) → IsPageInOrder page
      → page.head.level ≡ 0 → find_row place page.rows ≡ Some row → row.key ≡ k
      → HasRow page place k
  has_row page place row order level there same =
      let s = find_stands page.rows place row there in
      let b = has_bytes row.body (each_found (λ (x : Row). FitsLevel 0 x.body) page.rows place row
      (leaf_values page order level) there) in
      let lacks = left_lacks s.left row s.right same (subst RowsAscend s.split order.ascend) in
      record {
        row = row;
        value = b.0;
        there = there;
        key_is = same;
        body = b.1;
        has = ap (λ rows. value_at k (row_pairs rows)) s.split
            ∙ value-first s.left row s.right b.0 lacks same b.1;
      }

-- what holds of the keys of rows holds of those of their pairs
each_pair : (P : FieldList → Type 0) (rows : List Row)
    → AllByRecursion (λ (x : Row). P x.key) rows
    → AllByRecursion (λ (x : Pair). P x.key) (row_pairs rows)
each_pair P [] each = tt
each_pair P (x ∷ rows) each = go x.body (each_pair P rows each.1)
  where
    go : (b : RowBody) → AllByRecursion (λ (y : Pair). P y.key) (row_pairs rows)
        → AllByRecursion (λ (y : Pair). P y.key) (with_pair x.key b (row_pairs rows))
    go (Bytes v) rest = (each.0, rest)
    go (Child n) rest = rest

-- so the pairs rise as the rows do
pub pairs_ascend : (rows : List Row) → RowsAscend rows → Ascends (row_pairs rows)
pairs_ascend [] rise = tt
pairs_ascend (x ∷ rows) rise = go x.body (pairs_ascend rows rise.1)
  where
    go : (b : RowBody) → Ascends (row_pairs rows) → Ascends (with_pair x.key b (row_pairs rows))
    go (Bytes v) rest =
        (each_pair (λ (k : FieldList). before (At x.key) (At k) ≡ true) rows rise.0, rest)
    go (Child n) rest = rest
