-- What is told of a row at the end of what a mode asks for, and of one that isn't.
use Rattle.std.proofs.Common.{◌≡◌, ◌≢◌, ℕ, Bool, true, false, not, cond, eqb, ◌&&◌, ◌||◌, Some, None, List, ◌∷◌, ◌++◌, length, refl, sym, ap, subst, ◌∙◌}
use Rattle.std.proofs.lemmas.Bool.{true≢false, and_parts, and_from, or_right, eqb-true}
use Rattle.std.proofs.lemmas.Option.{same_Some}
use mathlib.Core.Bool.{beq}
use Rattle.std.specs.Ordering.{is_eq}
use Rattle.std.specs.declared.cmp.Ordering.{Ordering}
use Rattle.key_tuple.specs.Order.{FieldList, tuple_cmp}
use Rattle.key_tuple.specs.KeyPlace.{At, cut_of, looks_ahead}
use Rattle.key_tuple.specs.declared.mode.Mode.{Mode}
use Rattle.index_page.specs.declared.head.PageHead.{PageHead}
use Rattle.index_page.specs.Page.{PageRows, IsPageInOrder}
use Rattle.index_page.specs.Laws.{PlacesTellRows}
use Rattle.index_page.specs.Rows.{Row, find_row, first_of_rows, last_of_rows}
use Rattle.guess_check.specs.Check.{is_left_out, is_admitted, is_end, is_ge, is_the_key, meets, ChecksRow, TellsFirst, TellsLast}
use Rattle.guess_check.proofs.CheckLemmas.{same_so}

-- whether the row at the place is at the end of what the mode asks for
pub record TellsEnd (mode : Mode) (tuple : FieldList) (page : PageRows) (place : ℕ)
    (told : Bool) : Type 0 where
  pub left : List Row
  pub row : Row
  pub right : List Row
  pub split : page.rows ≡ left ++ row ∷ right
  pub place_is : row.place ≡ place
  pub is : told ≡ is_end mode tuple page.head left right

pub first_ends : (mode : Mode) (tuple : FieldList) (page : PageRows) (place : ℕ) (told end : Bool)
    → looks_ahead mode ≡ true → end ≡ told → TellsFirst (cut_of mode tuple) page place told
    → TellsEnd mode tuple page place end
first_ends mode tuple page place told end ahead same t =
    let out = is_left_out (cut_of mode tuple) page.head.prev (last_of_rows t.left) in
    let in_cut = is_admitted (cut_of mode tuple) page.head.next (first_of_rows t.right) in
    record {
      left = t.left;
      row = t.row;
      right = t.right;
      split = t.split;
      place_is = t.place_is;
      is = same ∙ t.is ∙ sym (ap (λ (b : Bool). cond b out in_cut) ahead);
    }

pub last_ends : (mode : Mode) (tuple : FieldList) (page : PageRows) (place : ℕ) (told end : Bool)
    → looks_ahead mode ≡ false → end ≡ told → TellsLast (cut_of mode tuple) page place told
    → TellsEnd mode tuple page place end
last_ends mode tuple page place told end behind same t =
    let out = is_left_out (cut_of mode tuple) page.head.prev (last_of_rows t.left) in
    let in_cut = is_admitted (cut_of mode tuple) page.head.next (first_of_rows t.right) in
    record {
      left = t.left;
      row = t.row;
      right = t.right;
      split = t.split;
      place_is = t.place_is;
      is = same ∙ t.is ∙ sym (ap (λ (b : Bool). cond b out in_cut) behind);
    }

-- a row on the mode's side of the cut passes at the end, and elsewhere only as the key itself
passes_there : (ahead past key end : Bool) → past ≡ ahead → end ≡ true
    → cond ahead (past && (key || end)) (not past && end) ≡ true
passes_there true past key end side e = and_from _ _ side (or_right _ _ e)
passes_there false past key end side e = and_from _ _ (ap not side) e

fails_there : (ahead past key end : Bool) → past ≡ ahead → key ≡ false → end ≡ false
    → cond ahead (past && (key || end)) (not past && end) ≡ false
fails_there true past key end side other e = rw (side, other, e) refl
fails_there false past key end side other e = rw (side, e) refl

-- the row that is read at the place is the one that stands there
same_row : (page : PageRows) (place : ℕ) (row there : Row) (left right : List Row)
    → PlacesTellRows → IsPageInOrder page → find_row place page.rows ≡ Some row
    → page.rows ≡ left ++ there ∷ right → there.place ≡ place → row ≡ there
same_row page place row there left right law order read split place_is =
    same_Some row there (sym read ∙ ap (λ (n : ℕ). find_row n page.rows) (sym place_is)
    ∙ law.found page left there right order split)

-- what the check knows once it has read the row: on which side of the cut that is, and whether the
-- tuple's fields are those of its key
pub record IsRead (mode : Mode) (tuple : FieldList) (page : PageRows) (place : ℕ) (row : Row)
    (found : Bool) : Type 0 where
  pub law : PlacesTellRows
  pub order : IsPageInOrder page
  pub read : find_row place page.rows ≡ Some row
  pub side : cut_of mode tuple (At row.key) ≡ looks_ahead mode
  pub found_is : found ≡ meets tuple row.key

pub read_so : {mode : Mode} {tuple : FieldList} {page : PageRows} {place : ℕ} {row : Row}
    (past ahead found : Bool) (order : Ordering) → PlacesTellRows → IsPageInOrder page
    → find_row place page.rows ≡ Some row → past ≡ cut_of mode tuple (At row.key)
    → ahead ≡ looks_ahead mode → not (beq past ahead) ≡ false → found ≡ is_eq order
    → order ≡ tuple_cmp tuple row.key → IsRead mode tuple page place row found
read_so past ahead found order law in_order read past_is ahead_is same found_is order_is = record {
  law = law;
  order = in_order;
  read = read;
  side = sym past_is ∙ same_so past ahead same ∙ ahead_is;
  found_is = found_is ∙ ap is_eq order_is;
}

read_there : {mode : Mode} {tuple : FieldList} {page : PageRows} {place : ℕ} {row : Row}
    {found end : Bool} (t : TellsEnd mode tuple page place end)
    → IsRead mode tuple page place row found → row ≡ t.row
read_there {page = page} {place = place} {row = row} t r =
    same_row page place row t.row t.left t.right r.law r.order r.read t.split t.place_is

pub checks_at_end : (mode : Mode) (tuple : FieldList) (page : PageRows) (place : ℕ) (row : Row)
    (found end : Bool) → IsRead mode tuple page place row found
    → TellsEnd mode tuple page place end → end ≡ true
    → ChecksRow mode tuple page place (Some found)
checks_at_end mode tuple page place row found end r t e =
    let same = read_there t r in
    let side = subst (λ (x : Row). cut_of mode tuple (At x.key) ≡ looks_ahead mode) same r.side in
    let found_is = subst (λ (x : Row). found ≡ meets tuple x.key) same r.found_is in
    record {
      left = t.left;
      row = t.row;
      right = t.right;
      split = t.split;
      place_is = t.place_is;
      is = ap (λ (x : Bool). Some x) found_is
          ∙ sym (ap (λ (b : Bool). cond b (Some (meets tuple t.row.key)) None)
          (passes_there (looks_ahead mode) (cut_of mode tuple (At t.row.key))
          (is_the_key mode tuple page.head t.row) (is_end mode tuple page.head t.left t.right)
          side (sym t.is ∙ e)));
    }

pub checks_elsewhere : (mode : Mode) (tuple : FieldList) (page : PageRows) (place : ℕ) (row : Row)
    (found end : Bool) → IsRead mode tuple page place row found
    → is_the_key mode tuple page.head row ≡ false
    → TellsEnd mode tuple page place end → end ≡ false → ChecksRow mode tuple page place None
checks_elsewhere mode tuple page place row found end r other t e =
    let same = read_there t r in
    let side = subst (λ (x : Row). cut_of mode tuple (At x.key) ≡ looks_ahead mode) same r.side in
    let not_key = subst (λ (x : Row). is_the_key mode tuple page.head x ≡ false) same other in
    record {
      left = t.left;
      row = t.row;
      right = t.right;
      split = t.split;
      place_is = t.place_is;
      is = sym (ap (λ (b : Bool). cond b (Some (meets tuple t.row.key)) None)
          (fails_there (looks_ahead mode) (cut_of mode tuple (At t.row.key))
          (is_the_key mode tuple page.head t.row) (is_end mode tuple page.head t.left t.right)
          side not_key (sym t.is ∙ e)));
    }

false_unless : (b : Bool) → b ≢ true → b ≡ false
false_unless true isnt = absurd (isnt refl)
false_unless false isnt = refl

-- the row isn't the key itself where the mode doesn't ask for that first, where the fields differ,
-- and where the tuple isn't whole
pub other_mode : (mode : Mode) (tuple : FieldList) (head : PageHead) (row : Row)
    → is_ge mode ≡ false → is_the_key mode tuple head row ≡ false
other_mode mode tuple head row other =
    ap (λ (b : Bool). b && meets tuple row.key && eqb (length tuple) head.fields) other

pub other_fields : (mode : Mode) (tuple : FieldList) (head : PageHead) (row : Row)
    → meets tuple row.key ≡ false → is_the_key mode tuple head row ≡ false
other_fields mode tuple head row other = false_unless (is_the_key mode tuple head row)
    (λ key. true≢false (sym (and_parts (is_ge mode) (meets tuple row.key)
    (and_parts (is_ge mode && meets tuple row.key) (eqb (length tuple) head.fields) key).0).1 ∙ other))

pub part_of_key : (mode : Mode) (tuple : FieldList) (head : PageHead) (row : Row)
    → length tuple ≢ head.fields → is_the_key mode tuple head row ≡ false
part_of_key mode tuple head row part = false_unless (is_the_key mode tuple head row)
    (λ key. part (eqb-true (length tuple) head.fields
    (and_parts (is_ge mode && meets tuple row.key) (eqb (length tuple) head.fields) key).1))
