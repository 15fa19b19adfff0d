-- A page's form without a row.
use Rattle.std.proofs.Common.{◌≡◌, ◌≢◌, ℕ, ◌+◌, ◌-◌, Bool, cond, eq-eqb, arith, Some, IsSome, List, [], ◌∷◌, ◌++◌, length, refl, sym, ap, ap₂, subst, ◌∙◌}
use Rattle.std.specs.List.{slice_get, remove}
use Rattle.index_page.specs.declared.head.PageHead.{PageHead}
use Rattle.index_page.specs.Rows.{Row, find_row}
use Rattle.index_page.specs.Page.{PageRows, IsPageInOrder, PlacesDiffer}
use Rattle.index_page.specs.Search.{IsPosition}
use Rattle.index_page.specs.Laws.{StandsAt}
use Rattle.index_page.specs.Loads.{charge_of}
use Rattle.index_page.specs.Changes.{Deletes}
use Rattle.std.proofs.lemmas.Bool.{ne_eqb}
use Rattle.index_page.proofs.WithoutLemmas.{each_middle}
use Rattle.index_page.proofs.RowLemmas.{find_stands}
use Rattle.index_page.proofs.OrderLemmas.{deleted_order}
use Rattle.list_facts.proofs.Places.{same_some}
use Rattle.page_rows.specs.Reading.{rows_in_bytes, row_in_bytes}
use Rattle.page_rows.specs.Inserting.{gaps_in_bytes}
use Rattle.page_rows.specs.Slots.{sizes_in_bytes}
use Rattle.page_rows.specs.Deleting.{gaps_after, CanDeleteRow, DeletesInBytes}
use Rattle.page_rows.proofs.SpellingLemmas.{row_found}
use Rattle.page_rows.proofs.DifferLemmas.{rows_differ}
use Rattle.byte_page.specs.Form.{page_in_bytes, GappedPage, form_in_bytes, IsBytePage}
use Rattle.byte_page.specs.Setting.{rows_before, gaps_less}
use Rattle.byte_page.proofs.FrontLemmas.{head_same}

-- the row that stands at the place
pub row_stands : {bytes : List ℕ} {fields place : ℕ} → IsBytePage bytes fields → IsSome (find_row place (rows_in_bytes bytes fields))
    → StandsAt (rows_in_bytes bytes fields) place (row_in_bytes bytes fields place)
row_stands {bytes} {fields} {place} b there = find_stands (rows_in_bytes bytes fields) place (row_in_bytes bytes fields place) (row_found place b.rows there)

pub can_be_deleted : {bytes : List ℕ} {fields place : ℕ} → (b : IsBytePage bytes fields) → (there : IsSome (find_row place (rows_in_bytes bytes fields)))
    → (let s = row_stands b there in CanDeleteRow bytes fields s.left (row_in_bytes bytes fields place) s.right place)
can_be_deleted b there =
    let s = row_stands b there in
    record { page = b.rows; rows = s.split; place_is = s.place_is }

-- the rows around the one with a number
pub get_middle : (left : List Row) (row : Row) (right : List Row) → slice_get (left ++ row ∷ right) (length left) ≡ Some row
get_middle [] row right = refl
get_middle (x ∷ left) row right = get_middle left row right

remove_middle : (left : List Row) (row : Row) (right : List Row) → remove (left ++ row ∷ right) (length left) ≡ left ++ right
remove_middle [] row right = refl
remove_middle (x ∷ left) row right = ap (λ (xs : List Row). x ∷ xs) (remove_middle left row right)

-- the number of the row in the middle
counted_before : (left : List Row) (row : Row) (right : List Row) → PlacesDiffer (left ++ row ∷ right) → rows_before row.place (left ++ row ∷ right) ≡ length left
counted_before [] row right d = ap (λ (t : Bool). cond t 0 (rows_before row.place right + 1)) (eq-eqb row.place row.place refl)
counted_before (x ∷ left) row right d =
    let apart = each_middle (λ (y : Row). y.place ≢ x.place) left row right d.0 in
    let later = counted_before left row right d.1 in
    ap (λ (t : Bool). cond t 0 (rows_before row.place (left ++ row ∷ right) + 1)) (ne_eqb x.place row.place (λ e. apart (sym e))) ∙ omega arith

-- the gaps without the row at the place
pub gaps_at : {bytes : List ℕ} {fields : ℕ} (place : ℕ) (b : IsBytePage bytes fields) (there : IsSome (find_row place (rows_in_bytes bytes fields)))
    → (let row = row_in_bytes bytes fields place in gaps_after (gaps_in_bytes bytes fields) (sizes_in_bytes bytes) (length (row_stands b there).left) (charge_of row.key row.body - 1) ≡ gaps_less (form_in_bytes bytes fields) row)
gaps_at {bytes} {fields} place b there =
    let s = row_stands b there in
    let row = row_in_bytes bytes fields place in
    let count : rows_before row.place (rows_in_bytes bytes fields) ≡ length s.left =
    ap (rows_before row.place) s.split ∙ counted_before s.left row s.right (subst PlacesDiffer s.split b.order.places) in
    ap (λ (n : ℕ). gaps_after (gaps_in_bytes bytes fields) (sizes_in_bytes bytes) n (charge_of row.key row.body - 1)) (sym count)

pub record RowGoes (old new : List ℕ) (fields place : ℕ) : Type 0 where
  pub page : IsBytePage new fields
  pub deletes : Deletes (page_in_bytes old fields) (page_in_bytes new fields) place
  pub gaps : (row : Row) → find_row place (rows_in_bytes old fields) ≡ Some row → gaps_in_bytes new fields ≡ gaps_less (form_in_bytes old fields) row

pub row_goes : {old new : List ℕ} {fields place : ℕ} (b : IsBytePage old fields) (there : IsSome (find_row place (rows_in_bytes old fields)))
    → (let s = row_stands b there in DeletesInBytes old new fields s.left (row_in_bytes old fields place) s.right) → RowGoes old new fields place
row_goes {old} {new} {fields} {place} b there d =
    let page = page_in_bytes old fields in
    let s = row_stands b there in
    let row = row_in_bytes old fields place in
    let k = length s.left in
    let head = head_same fields (record { low = d.low; high = d.high }) in
    let position : IsPosition (rows_in_bytes old fields) place k = record {
      row = row;
      there = ap (λ (xs : List Row). slice_get xs k) s.split ∙ get_middle s.left row s.right;
      place_is = s.place_is;
    } in
    let rows : remove (rows_in_bytes old fields) k ≡ rows_in_bytes new fields = ap (λ (xs : List Row). remove xs k) s.split ∙ remove_middle s.left row s.right ∙ sym d.rows in
    let differ : PlacesDiffer (remove (rows_in_bytes old fields) k) = subst PlacesDiffer (sym rows) (rows_differ d.page) in
    let order = deleted_order page place k b.order position differ in
    let whole : (let q : PageRows = record { head = page.head; rows = remove page.rows k } in q) ≡ page_in_bytes new fields =
    ap₂ (λ (h : PageHead) (xs : List Row). let q : PageRows = record { head = h; rows = xs } in q) (sym head) rows in
    record {
      page = record { rows = d.page; order = subst IsPageInOrder whole order };
      deletes = record {
        left = s.left;
        row = row;
        right = s.right;
        was = s.split;
        place_is = s.place_is;
        is = d.rows;
        head = head;
      };
      gaps = λ x found.
          let same : row ≡ x = same_some row x (sym (row_found place b.rows there) ∙ found) in
          subst (λ (y : Row). gaps_in_bytes new fields ≡ gaps_less (form_in_bytes old fields) y) same
          (d.gaps ∙ gaps_at place b there);
    }

-- the same of the form of a page
pub record GoesFrom (old new : GappedPage) (place : ℕ) : Type 0 where
  pub rows : Deletes old.page new.page place
  pub gaps : (row : Row) → find_row place old.page.rows ≡ Some row → new.gaps ≡ gaps_less old row

pub goes_from : {old new : List ℕ} {fields place : ℕ} (form : GappedPage) → form_in_bytes old fields ≡ form → RowGoes old new fields place → GoesFrom form (form_in_bytes new fields) place
goes_from {old} {new} {fields} {place} form is g = subst (λ (f : GappedPage). GoesFrom f (form_in_bytes new fields) place) is (record { rows = g.deletes; gaps = g.gaps })
