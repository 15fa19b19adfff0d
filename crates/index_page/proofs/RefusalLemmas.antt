-- Rows that have room, and rows that are refused.
use Rattle.std.proofs.Common.{◌≡◌, ◌≢◌, ℕ, ◌+◌, ◌-◌, ◌<◌, ◌≤◌, ◌==◌, Bool, true, false, cond, nat_lt, Option, Some, None, option_and_then, List, length, sum_by, refl, sym, ap, ◌∙◌, arith}
use Rattle.std.proofs.lemmas.Bool.{ne_eqb}
use Rattle.std.proofs.lemmas.Bool.Decides.{nat_tests}
use Rattle.index_page.specs.declared.TheConstants.{PAGE_ROOM}
use Rattle.index_page.specs.declared.error.PageError.TheVariants.{PageFull, Scattered}
use Rattle.key_tuple.specs.Order.{FieldList}
use Rattle.key_tuple.specs.Sizes.{field_size}
use Rattle.index_page.specs.Rows.{RowBody, Bytes, Row, find_row}
use Rattle.index_page.specs.Page.{PageRows}
use Rattle.index_page.specs.Loads.{charge_of, load_of}
use Rattle.index_page.specs.Changes.{page_without}
use Rattle.index_page.specs.Refusals.{free_of, ample_gaps, takes, room_refusal, insert_refusal, is_as_long, set_refusal, NoneIsScattered}

takes_any : (need : ℕ) → need ≤ PAGE_ROOM → takes ample_gaps (need - 1) ≡ true
takes_any need most = grind (arith, nat_tests)

-- a row that needs more than is free is refused as such, and no other
pub refused_full : (need free : ℕ) → free < need → room_refusal need free ample_gaps ≡ Some (PageFull need free)
refused_full need free more = grind (arith, nat_tests)

pub not_refused : (need free : ℕ) → need ≤ free → need ≤ PAGE_ROOM → room_refusal need free ample_gaps ≡ None
not_refused need free less most = go (nat_lt free need) refl
  where
    go : (b : Bool) → nat_lt free need ≡ b → cond b (Some (PageFull need free)) (cond (takes ample_gaps (need - 1)) None (Some (Scattered need ample_gaps.rest))) ≡ None
    go true is = absurd (grind (arith, nat_tests))
    go false is = ap (λ b. cond b None (Some (Scattered need ample_gaps.rest))) (takes_any need most)

-- what isn't refused has room
pub has_room : (need free : ℕ) → room_refusal need free ample_gaps ≡ None → need ≤ free
has_room need free none = go (nat_lt free need) refl none
  where
    go : (b : Bool) → nat_lt free need ≡ b → cond b (Some (PageFull need free)) (cond (takes ample_gaps (need - 1)) None (Some (Scattered need ample_gaps.rest))) ≡ None → need ≤ free
    go true is n = absurd cc
    go false is n = grind (arith, nat_tests)

-- so what it needs fits beside the rows
pub fits_beside : (rows : List Row) (need free : ℕ) → load_of rows ≤ PAGE_ROOM → free ≡ PAGE_ROOM - load_of rows → room_refusal need free ample_gaps ≡ None → load_of rows + need ≤ PAGE_ROOM
fits_beside rows need free within is none = omega (arith, has_room need free none, is)

-- no row is scattered where any is taken
not_scattered : (need free n run : ℕ) → free ≤ PAGE_ROOM → room_refusal need free ample_gaps ≢ Some (Scattered n run)
not_scattered need free n run within e = go (nat_lt free need) refl
  where
    go : (b : Bool) → nat_lt free need ≡ b → ⊥
    go true is =
        let more : free < need = grind (arith, nat_tests) in
        let same : Some (PageFull need free) ≡ Some (Scattered n run) = sym (refused_full need free more) ∙ e in
        cc
    go false is =
        let less : need ≤ free = grind (arith, nat_tests) in
        let same : None ≡ Some (Scattered n run) = sym (not_refused need free less (omega arith)) ∙ e in
        cc

-- the refusal of another value, by the row that is there
pub set_refusal-is : (page : PageRows) (place : ℕ) (row : Row) (old value : List ℕ) → find_row place page.rows ≡ Some row → row.body ≡ Bytes old → set_refusal page place value ≡ cond (length value == length old) None (insert_refusal (page_without place page) row.key (Bytes value))
set_refusal-is page place row old value there body =
    let rest = insert_refusal (page_without place page) row.key (Bytes value) in
    rw there (ap (λ (b : RowBody). cond (is_as_long value b) None rest) body)

-- what a row with a value is charged
pub value_charge : (key : FieldList) (body : RowBody) (value : List ℕ) (n beside : ℕ) → body ≡ Bytes value → beside ≡ field_size value → n ≡ 5 + sum_by field_size key + beside + 1 → n ≡ charge_of key body
value_charge key body value n beside is size e = e ∙ ap (λ b. 5 + sum_by field_size key + b + 1) size ∙ ap (charge_of key) (sym is)

-- a value of another length is refused as the new row is by the page without the old one
pub set_refused : (page : PageRows) (place : ℕ) (row : Row) (old value : List ℕ) (need free : ℕ) → find_row place page.rows ≡ Some row → row.body ≡ Bytes old → length value ≢ length old → need ≡ charge_of row.key (Bytes value) → free ≡ free_of (page_without place page) → room_refusal need free ample_gaps ≡ set_refusal page place value
set_refused page place row old value need free there body other charged left =
    let rest = insert_refusal (page_without place page) row.key (Bytes value) in
    ap (λ n. room_refusal n free ample_gaps) charged ∙ ap (λ f. room_refusal (charge_of row.key (Bytes value)) f ample_gaps) left
    ∙ ap (λ b. cond b None rest) (sym (ne_eqb (length value) (length old) other)) ∙ sym (set_refusal-is page place row old value there body)

pub none_is_scattered : NoneIsScattered
none_is_scattered = record {
  insert = λ page key body need run. not_scattered (charge_of key body) (free_of page) need run (omega arith);
  set = λ page place value need run. of page place value need run (find_row place page.rows);
}
  where
    of : (page : PageRows) (place : ℕ) (value : List ℕ) (need run : ℕ) (o : Option Row) → option_and_then (λ (row : Row). cond (is_as_long value row.body) None (insert_refusal (page_without place page) row.key (Bytes value))) o ≢ Some (Scattered need run)
    of page place value need run None e = absurd cc
    of page place value need run (Some row) e = go (is_as_long value row.body) e
      where
        go : (b : Bool) → cond b None (insert_refusal (page_without place page) row.key (Bytes value)) ≡ Some (Scattered need run) → ⊥
        go true e = absurd cc
        go false e = not_scattered (charge_of row.key (Bytes value)) (free_of (page_without place page)) need run (omega arith) e
