-- A page's form where a row has another value, as long as before.
use Rattle.std.proofs.Common.{◌≡◌, ℕ, suc, ◌+◌, Some, IsSome, List, [], ◌∷◌, ◌++◌, length, take, drop, refl, sym, ap, ap₂, subst, ◌∙◌, arith}
use Rattle.list_facts.proofs.Each.{each_right}
use Rattle.std.specs.List.{slice_get, AllByRecursion}
use Rattle.key_tuple.specs.Order.{FieldList}
use Rattle.index_page.specs.declared.head.PageHead.{PageHead}
use Rattle.index_page.specs.Rows.{RowBody, Bytes, Child, Row, placed_row, find_row}
use Rattle.index_page.specs.Page.{PageRows, PlacesDiffer, IsPageInOrder, IsRowOf, FitsLevel, HasShortValue}
use Rattle.index_page.specs.Loads.{charge_of, load_of}
use Rattle.index_page.specs.Changes.{Sets}
use Rattle.index_page.specs.Store.{Rewrites}
use Rattle.index_page.proofs.RowLemmas.{find_among}
use Rattle.index_page.proofs.LoadLemmas.{load_of-among}
use Rattle.index_page.proofs.SetLemmas.{rewritten_order}
use Rattle.page_rows.specs.Reading.{rows_in_bytes, row_in_bytes}
use Rattle.page_rows.specs.Slots.{sizes_in_bytes}
use Rattle.page_rows.specs.Inserting.{gaps_in_bytes}
use Rattle.page_rows.specs.Setting.{CanSetValue, SetsInBytes}
use Rattle.page_rows.proofs.SpellingLemmas.{row_found}
use Rattle.page_rows.proofs.DifferLemmas.{rows_differ}
use Rattle.byte_page.specs.Form.{head_in_bytes, page_in_bytes, GappedPage, form_in_bytes, IsBytePage}
use Rattle.byte_page.proofs.FrontLemmas.{head_same}
use Rattle.byte_page.proofs.DeleteLemmas.{row_stands, can_be_deleted, get_middle}

-- the new value is as long as the one of the row at the place
abbrev pub AsLong : List Row → ℕ → List ℕ → Type 0
AsLong rows place value = (row : Row) (before : List ℕ) → find_row place rows ≡ Some row → row.body ≡ Bytes before → length value ≡ length before

-- on level 0 a row carries a value
carried : (level : ℕ) (body : RowBody) → level ≡ 0 → FitsLevel level body → (before : List ℕ) × (body ≡ Bytes before)
carried level (Bytes value) leaf fits = (value, refl)
carried level (Child number) leaf fits = absurd (fits leaf)

take_left : (left : List Row) (row : Row) (right : List Row) → take (length left) (left ++ row ∷ right) ≡ left
take_left [] row right = refl
take_left (x ∷ left) row right = ap (λ (xs : List Row). x ∷ xs) (take_left left row right)

drop_right : (left : List Row) (row : Row) (right : List Row) → drop (suc (length left)) (left ++ row ∷ right) ≡ right
drop_right [] row right = refl
drop_right (x ∷ left) row right = drop_right left row right

pub can_be_set : {bytes : List ℕ} {fields place : ℕ} {value : List ℕ} → (b : IsBytePage bytes fields) → (there : IsSome (find_row place (rows_in_bytes bytes fields)))
    → (head_in_bytes bytes fields).level ≡ 0 → AsLong (rows_in_bytes bytes fields) place value
    → (let s = row_stands b there in CanSetValue bytes fields s.left (row_in_bytes bytes fields place) s.right place value)
can_be_set {bytes} {fields} {place} b there level long =
    let s = row_stands b there in
    let row = row_in_bytes bytes fields place in
    let head = head_in_bytes bytes fields in
    let suits = (each_right (IsRowOf head) s.left (row ∷ s.right) (subst (AllByRecursion (IsRowOf head)) s.split b.order.each)).0 in
    let carries = carried head.level row.body level suits.body in
    record { row_there = can_be_deleted b there; before = carries.0; carries = carries.1; long = long row carries.0 (row_found place b.rows there) carries.1 }

-- the charge is the same
charge_same : (key : FieldList) (body : RowBody) (value before : List ℕ) → body ≡ Bytes before → length value ≡ length before → charge_of key (Bytes value) ≡ charge_of key body
charge_same key body value before is e = rw (is, e) refl

pub record RowSet (old new : List ℕ) (fields place : ℕ) (value : List ℕ) : Type 0 where
  pub page : IsBytePage new fields
  pub sets : Sets (page_in_bytes old fields) (page_in_bytes new fields) place place value
  pub gaps : gaps_in_bytes new fields ≡ gaps_in_bytes old fields
  pub slots : sizes_in_bytes new ≡ sizes_in_bytes old

pub row_set : {old new : List ℕ} {fields place : ℕ} {value : List ℕ} (b : IsBytePage old fields) (there : IsSome (find_row place (rows_in_bytes old fields)))
    → (let s = row_stands b there in CanSetValue old fields s.left (row_in_bytes old fields place) s.right place value)
    → (head_in_bytes old fields).level ≡ 0 → HasShortValue (Bytes value)
    → (let s = row_stands b there in SetsInBytes old new fields s.left (row_in_bytes old fields place) s.right value) → RowSet old new fields place value
row_set {old} {new} {fields} {place} {value} b there can level short d =
    let page = page_in_bytes old fields in
    let s = row_stands b there in
    let row = row_in_bytes old fields place in
    let put : Row = placed_row row.place row.key (Bytes value) in
    let k = length s.left in
    let head = head_same fields (record { low = d.low; high = d.high }) in
    let low : take k (rows_in_bytes old fields) ≡ s.left = ap (take k) s.split ∙ take_left s.left row s.right in
    let high : drop (suc k) (rows_in_bytes old fields) ≡ s.right = ap (drop (suc k)) s.split ∙ drop_right s.left row s.right in
    let rewrites : Rewrites (rows_in_bytes old fields) (rows_in_bytes new fields) k value = record {
      row = row;
      there = ap (λ (xs : List Row). slice_get xs k) s.split ∙ get_middle s.left row s.right;
      is = d.rows ∙ ap₂ (λ (xs ys : List Row). xs ++ put ∷ ys) (sym low) (sym high);
    } in
    let load : load_of (rows_in_bytes new fields) ≡ load_of (rows_in_bytes old fields) =
    ap load_of d.rows ∙ load_of-among s.left put s.right ∙ ap (λ (n : ℕ). load_of (s.left ++ s.right) + n) (charge_same row.key row.body value can.before can.carries can.long)
    ∙ sym (load_of-among s.left row s.right) ∙ sym (ap load_of s.split) in
    let fits = b.order.fits in
    let order = rewritten_order page.head (rows_in_bytes old fields) (rows_in_bytes new fields) k value b.order rewrites level short (omega (arith, load)) in
    let rows : rows_in_bytes new fields ≡ s.left ++ placed_row place row.key (Bytes value) ∷ s.right = d.rows ∙ ap (λ (n : ℕ). s.left ++ placed_row n row.key (Bytes value) ∷ s.right) s.place_is in
    let whole : (let q : PageRows = record { head = page.head; rows = rows_in_bytes new fields } in q) ≡ page_in_bytes new fields =
    ap (λ (h : PageHead). let q : PageRows = record { head = h; rows = rows_in_bytes new fields } in q) (sym head) in
    record {
      page = record { rows = d.page; order = subst IsPageInOrder whole order };
      sets = record {
        left = s.left;
        row = row;
        right = s.right;
        was = s.split;
        place_is = s.place_is;
        is = rows;
        stands = subst (λ (xs : List Row). find_row place xs ≡ Some (placed_row place row.key (Bytes value))) (sym rows)
            (find_among s.left (placed_row place row.key (Bytes value)) s.right (subst PlacesDiffer rows (rows_differ d.page)));
        in_place = λ before e f. refl;
        head = head;
      };
      gaps = d.gaps;
      slots = d.slots;
    }

-- the same of the form of a page
pub record SetFrom (old new : GappedPage) (place : ℕ) (value : List ℕ) : Type 0 where
  pub rows : Sets old.page new.page place place value
  pub gaps : new.gaps ≡ old.gaps
  pub slots : new.slots ≡ old.slots

pub set_from : {old new : List ℕ} {fields place : ℕ} {value : List ℕ} (form : GappedPage) → form_in_bytes old fields ≡ form → RowSet old new fields place value
    → SetFrom form (form_in_bytes new fields) place value
set_from {old} {new} {fields} {place} {value} form is g =
    subst (λ (f : GappedPage). SetFrom f (form_in_bytes new fields) place value) is (record { rows = g.sets; gaps = g.gaps; slots = g.slots })
