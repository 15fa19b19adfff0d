-- A row that goes and comes again with another value.
use Rattle.std.proofs.Common.{◌≡◌, ◌≢◌, ℕ, ◌+◌, ◌-◌, ◌≤◌, Bool, true, false, cond, nat_lt, Some, None, List, [], ◌∷◌, ◌++◌, length, eq-eqb, refl, sym, ap, ap₂, subst, ◌∙◌, arith}
use Rattle.std.proofs.lemmas.Bool.{both_ways}
use Rattle.std.proofs.lemmas.Bool.Decides.{nat_tests}
use Rattle.std.specs.List.{AllByRecursion}
use Rattle.list_facts.proofs.Each.{each_weaker}
use Rattle.key_tuple.specs.Order.{FieldList}
use Rattle.key_tuple.specs.KeyPlace.{At, before}
use Rattle.key_tuple.proofs.PlaceLemmas.{before-itself, before-trans}
use Rattle.compact_record.specs.declared.kind.RecordKind.{RecordKind}
use Rattle.compact_record.specs.declared.kind.RecordKind.TheVariants as kinds
use Rattle.page_rows.specs.Reading.{body_of_kind}
use Rattle.index_page.specs.declared.TheConstants.{PAGE_ROOM}
use Rattle.index_page.specs.declared.error.PageError.TheVariants.{PageFull, Scattered}
use Rattle.index_page.specs.declared.room.Gaps.{Gaps}
use Rattle.index_page.specs.Rows.{Row, RowBody, Bytes, placed_row, find_row, LacksKey}
use Rattle.index_page.specs.Page.{PageRows, RowsAscend, PlacesDiffer, FitsLevel, IsRowOf, IsPageInOrder}
use Rattle.index_page.specs.Loads.{charge_of, load_of}
use Rattle.index_page.specs.Changes.{Inserts, Deletes, Sets, page_without}
use Rattle.index_page.specs.Refusals.{free_of, takes, room_refusal, is_as_long}
use Rattle.index_page.proofs.RowLemmas.{find_among, each_found}
use Rattle.index_page.proofs.HalvesLemmas.{some_charge}
use Rattle.index_page.proofs.WithoutLemmas.{each_middle, deleted_is}
use Rattle.byte_page.specs.Form.{GappedPage}
use Rattle.byte_page.specs.Setting.{gaps_less, gap_refusal_to_set, SetsAgain}

-- of two keys not each is before the other
both_before : (j k l : FieldList) → j ≡ l → before (At j) (At k) ≡ true → before (At k) (At l) ≡ true → ⊥
both_before j k l e p q =
    both_ways (before (At j) (At j)) (before-itself (At j)) (before-trans (At j) (At k) (At j) p (subst (λ (x : FieldList). before (At k) (At x) ≡ true) (sym e) q))

not_before : (j k : FieldList) → j ≡ k → before (At j) (At k) ≡ true → ⊥
not_before j k e p = both_ways (before (At j) (At j)) (before-itself (At j)) (subst (λ (x : FieldList). before (At j) (At x) ≡ true) (sym e) p)

-- rising rows have one place for a key
same_cut : (left : List Row) (row : Row) (right below : List Row) (new : Row) (above : List Row) → RowsAscend (left ++ row ∷ right) → RowsAscend (below ++ new ∷ above) → row.key ≡ new.key
    → left ++ right ≡ below ++ above → (left ≡ below) × (right ≡ above)
same_cut [] row right [] new above a b k e = (refl, e)
same_cut [] row right (y ∷ below) new above a b k e =
    let first : AllByRecursion (λ (z : Row). before (At row.key) (At z.key) ≡ true) (y ∷ (below ++ above)) = subst (AllByRecursion (λ (z : Row). before (At row.key) (At z.key) ≡ true)) e a.0 in
    absurd (both_before row.key y.key new.key k first.0 (each_middle (λ (z : Row). before (At y.key) (At z.key) ≡ true) below new above b.0))
same_cut (x ∷ left) row right [] new above a b k e =
    let first : AllByRecursion (λ (z : Row). before (At new.key) (At z.key) ≡ true) (x ∷ (left ++ right)) = subst (AllByRecursion (λ (z : Row). before (At new.key) (At z.key) ≡ true)) (sym e) b.0 in
    absurd (both_before new.key x.key row.key (sym k) first.0 (each_middle (λ (z : Row). before (At x.key) (At z.key) ≡ true) left row right a.0))
same_cut (x ∷ left) row right (y ∷ below) new above a b k e =
    let head : x ≡ y = cc in
    let tail : left ++ right ≡ below ++ above = cc in
    let r = same_cut left row right below new above a.1 b.1 k tail in
    (ap₂ (λ (z : Row) (zs : List Row). z ∷ zs) head r.0, r.1)

-- the other rows lack the key of a row
lacks_key : (left : List Row) (row : Row) (right : List Row) (key : FieldList) → row.key ≡ key → RowsAscend (left ++ row ∷ right) → LacksKey key (left ++ right)
lacks_key [] row right key k a = each_weaker (λ (z : Row). before (At row.key) (At z.key) ≡ true) (λ (z : Row). z.key ≢ key) (λ z p e. not_before row.key z.key (k ∙ sym e) p) right a.0
lacks_key (x ∷ left) row right key k a =
    (λ e. not_before x.key row.key (e ∙ sym k) (each_middle (λ (z : Row). before (At x.key) (At z.key) ≡ true) left row right a.0), lacks_key left row right key k a.1)

-- what isn't refused has room, and a gap
room_left : (need free : ℕ) (gaps : Gaps) → room_refusal need free gaps ≡ None → (need ≤ free) × (takes gaps (need - 1) ≡ true)
room_left need free gaps none = go (nat_lt free need) (takes gaps (need - 1)) refl refl none
  where
    go : (b t : Bool) → nat_lt free need ≡ b → takes gaps (need - 1) ≡ t → cond b (Some (PageFull need free)) (cond t None (Some (Scattered need gaps.rest))) ≡ None → (need ≤ free) × (takes gaps (need - 1) ≡ true)
    go true t e f n = absurd cc
    go false false e f n = absurd cc
    go false true e f n = (grind (arith, nat_tests, e), f)

-- a value of another length is refused as the new row is by the page without the old one
refused_by_gaps : (form : GappedPage) (place : ℕ) (row : Row) (value : List ℕ) → find_row place form.page.rows ≡ Some row → is_as_long value row.body ≡ false
    → gap_refusal_to_set form place value ≡ room_refusal (charge_of row.key (Bytes value)) (free_of (page_without place form.page)) (gaps_less form row)
refused_by_gaps form place row value there other =
    let rest = room_refusal (charge_of row.key (Bytes value)) (free_of (page_without place form.page)) (gaps_less form row) in
    rw there (ap (λ (t : Bool). cond t None rest) other)

-- so it is told by what is asked of the page
pub refusal_told : (form : GappedPage) (place : ℕ) (row : Row) (value : List ℕ) (need free : ℕ) (gaps : Gaps) → find_row place form.page.rows ≡ Some row → is_as_long value row.body ≡ false
    → need ≡ charge_of row.key (Bytes value) → free ≡ free_of (page_without place form.page) → gaps ≡ gaps_less form row → room_refusal need free gaps ≡ gap_refusal_to_set form place value
refusal_told form place row value need free gaps found other need_is free_is gaps_is =
    rw (need_is, free_is, gaps_is) (sym (refused_by_gaps form place row value found other))

-- on level 0 a record is a row
pub level_row : (kind : RecordKind) (tail : List ℕ) (level : ℕ) → level ≡ 0 → FitsLevel level (body_of_kind kind tail) → body_of_kind kind tail ≡ Bytes tail
level_row kinds.Row tail level leaf fits = refl
level_row kinds.Pointer tail level leaf fits = absurd (fits leaf)
level_row kinds.LeftmostPointer tail level leaf fits = absurd (fits leaf)

-- the page once the row is gone, with room for the same key and the value
pub record IsVacated (old new : GappedPage) (place : ℕ) (key : FieldList) (value : List ℕ) : Type 0 where
  pub left : List Row
  pub row : Row
  pub right : List Row
  pub was : old.page.rows ≡ left ++ row ∷ right
  pub place_is : row.place ≡ place
  pub key_is : row.key ≡ key
  pub other : is_as_long value row.body ≡ false
  pub is : new.page.rows ≡ left ++ right
  pub head : new.page.head ≡ old.page.head
  pub suits : IsRowOf old.page.head row
  pub lacks : LacksKey key new.page.rows
  pub room : load_of new.page.rows + charge_of key (Bytes value) ≤ PAGE_ROOM
  pub gap : takes new.gaps (charge_of key (Bytes value) - 1) ≡ true

pub vacated : (old new : GappedPage) (place : ℕ) (key : FieldList) (value : List ℕ) → IsPageInOrder old.page → ((row : Row) → find_row place old.page.rows ≡ Some row → row.key ≡ key)
    → ((row : Row) → find_row place old.page.rows ≡ Some row → is_as_long value row.body ≡ false) → gap_refusal_to_set old place value ≡ None → Deletes old.page new.page place
    → ((row : Row) → find_row place old.page.rows ≡ Some row → new.gaps ≡ gaps_less old row) → IsVacated old new place key value
vacated old new place key value order key_is other none d gaps =
    let row = d.row in
    let differ : PlacesDiffer (d.left ++ row ∷ d.right) = subst PlacesDiffer d.was order.places in
    let found : find_row place old.page.rows ≡ Some row =
    ap₂ (λ (n : ℕ) (rows : List Row). find_row n rows) (sym d.place_is) d.was ∙ find_among d.left row d.right differ in
    let k = key_is row found in
    let o = other row found in
    let refusal : room_refusal (charge_of row.key (Bytes value)) (free_of (page_without place old.page)) (gaps_less old row) ≡ None = sym (refused_by_gaps old place row value found o) ∙ none in
    let here : room_refusal (charge_of key (Bytes value)) (free_of new.page) new.gaps ≡ None =
    ap (λ (j : FieldList). room_refusal (charge_of j (Bytes value)) (free_of new.page) new.gaps) (sym k)
    ∙ ap₂ (λ (q : PageRows) (g : Gaps). room_refusal (charge_of row.key (Bytes value)) (free_of q) g) (deleted_is old.page new.page place order.places d) (gaps row found) ∙ refusal in
    let left = room_left (charge_of key (Bytes value)) (free_of new.page) new.gaps here in
    record {
      left = d.left;
      row = row;
      right = d.right;
      was = d.was;
      place_is = d.place_is;
      key_is = k;
      other = o;
      is = d.is;
      head = d.head;
      suits = each_found (IsRowOf old.page.head) old.page.rows place row order.each found;
      lacks = subst (LacksKey key) (sym d.is) (lacks_key d.left row d.right key k (subst RowsAscend d.was order.ascend));
      room = omega (arith, left.0, some_charge key (Bytes value));
      gap = left.1;
    }

-- a value as long as the one before isn't of another length
not_other : (body : RowBody) (value before : List ℕ) → is_as_long value body ≡ false → body ≡ Bytes before → length value ≡ length before → ⊥
not_other body value before other is same =
    both_ways (is_as_long value (Bytes before)) (subst (λ (b : RowBody). is_as_long value b ≡ false) is other) (eq-eqb (length value) (length before) same)

-- the row stands where it stood among the others, with the value
pub comes_again : (old mid : GappedPage) (new : PageRows) (place other : ℕ) (key : FieldList) (value : List ℕ) → IsVacated old mid place key value → IsPageInOrder old.page → IsPageInOrder new
    → Inserts mid.page new (placed_row other key (Bytes value)) → SetsAgain old.page new place other value
comes_again old mid new place other key value v order after i =
    let put : Row = placed_row other key (Bytes value) in
    let cut = same_cut v.left v.row v.right i.below put i.above (subst RowsAscend v.was order.ascend) (subst RowsAscend i.is after.ascend) v.key_is (sym v.is ∙ i.was) in
    record {
      left = v.left;
      row = v.row;
      right = v.right;
      was = v.was;
      place_is = v.place_is;
      is = i.is ∙ ap₂ (λ (xs ys : List Row). xs ++ put ∷ ys) (sym cut.0) (sym cut.1) ∙ ap (λ (j : FieldList). v.left ++ placed_row other j (Bytes value) ∷ v.right) (sym v.key_is);
      stands = i.stands ∙ ap (λ (j : FieldList). Some (placed_row other j (Bytes value))) (sym v.key_is);
      stays = λ before is same. absurd (not_other v.row.body value before v.other is same);
      head = i.head ∙ v.head;
    }

-- what is set in place is set
pub sets_again : {old new : PageRows} {place other : ℕ} {value : List ℕ} → Sets old new place other value → SetsAgain old new place other value
sets_again s = record {
  left = s.left;
  row = s.row;
  right = s.right;
  was = s.was;
  place_is = s.place_is;
  is = s.is;
  stands = s.stands;
  stays = λ before is same. s.in_place before is (omega (arith, same));
  head = s.head;
}
