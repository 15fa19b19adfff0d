-- Values that fit on a page in the place of others.
use Rattle.std.proofs.Common.{◌≡◌, ℕ, ◌+◌, ◌-◌, ◌≤◌, ◌==◌, Bool, true, false, cond, Some, None, List, length, refl, sym, ap, ◌∙◌, subst, arith}
use Rattle.std.proofs.lemmas.Bool.Decides.{nat_tests}
use Rattle.index_page.specs.declared.TheConstants.{PAGE_ROOM}
use Rattle.key_tuple.specs.Order.{FieldList}
use Rattle.key_tuple.specs.Sizes.{field_size}
use Rattle.index_page.specs.Rows.{RowBody, Bytes, Row, find_row}
use Rattle.index_page.specs.Page.{PageRows, IsPageInOrder}
use Rattle.index_page.specs.Loads.{charge_of, load_of}
use Rattle.index_page.specs.Changes.{rows_without}
use Rattle.index_page.specs.Refusals.{ample_gaps, room_refusal, set_refusal}
use Rattle.index_page.specs.Search.{IsPosition}
use Rattle.index_page.specs.Store.{Rewrites}
use Rattle.list_facts.proofs.Places.{same_some}
use Rattle.index_page.proofs.RowLemmas.{find_get}
use Rattle.index_page.proofs.SetLemmas.{rewritten_load, value_at}
use Rattle.index_page.proofs.WithoutLemmas.{load_of-without}
use Rattle.index_page.proofs.RefusalLemmas.{not_refused, has_room, set_refusal-is}

-- a value that is no longer takes no more bytes
pub no_longer_size : (short long : List ℕ) → length short ≤ length long → field_size short ≤ field_size long
no_longer_size short long less = grind (arith, nat_tests, less)

pub no_longer_charge : (key : FieldList) (short long : List ℕ) → length short ≤ length long → charge_of key (Bytes short) ≤ charge_of key (Bytes long)
no_longer_charge key short long less = omega (arith, no_longer_size short long less)

module _ (page : PageRows) (place : ℕ) (row : Row) (before value : List ℕ) (order : IsPageInOrder page) (there : find_row place page.rows ≡ Some row) (is : row.body ≡ Bytes before) where
  -- the load without the row, and its charge
  parts : load_of page.rows ≡ load_of (rows_without place page.rows) + charge_of row.key (Bytes before)
  parts = load_of-without page.rows place row order.places there ∙ ap (λ (b : RowBody). load_of (rows_without place page.rows) + charge_of row.key b) is

  abbrev pub need : ℕ
  need = charge_of row.key (Bytes value)

  abbrev pub free : ℕ
  free = PAGE_ROOM - load_of (rows_without place page.rows)

  refusal-is : set_refusal page place value ≡ cond (length value == length before) None (room_refusal need free ample_gaps)
  refusal-is = set_refusal-is page place row before value there is

  -- a value that is no longer than the one that is there is never refused
  pub none_for_no_longer : length value ≤ length before → set_refusal page place value ≡ None
  none_for_no_longer less = refusal-is ∙ go (length value == length before)
    where
      least : need ≤ free
      least = omega (arith, parts, order.fits, no_longer_charge row.key value before less)

      go : (b : Bool) → cond b None (room_refusal need free ample_gaps) ≡ None
      go true = refl
      go false = not_refused need free least (omega (arith, least))

  -- one that isn't refused fits beside the others
  pub fits_in_place : set_refusal page place value ≡ None → load_of (rows_without place page.rows) + need ≤ PAGE_ROOM
  fits_in_place none = go (length value == length before) refl (sym refusal-is ∙ none)
    where
      go : (b : Bool) → (length value == length before) ≡ b → cond b None (room_refusal need free ample_gaps) ≡ None → load_of (rows_without place page.rows) + need ≤ PAGE_ROOM
      go true same n =
          let less : length value ≤ length before = grind (arith, nat_tests, same) in
          omega (arith, parts, order.fits, no_longer_charge row.key value before less)
      go false other n = omega (arith, parts, order.fits, has_room need free n)

-- rows of which the one at a place got another value
module _ (page : PageRows) (new : List Row) (place at : ℕ) (value : List ℕ) (order : IsPageInOrder page) (position : IsPosition page.rows place at) (put : Rewrites page.rows new at value) where
  there : find_row place page.rows ≡ Some put.row
  there =
      let same = same_some position.row put.row (sym position.there ∙ put.there) in
      let found = find_get page.rows at position.row order.places position.there in
      subst (λ n. find_row n page.rows ≡ Some position.row) position.place_is found ∙ ap Some same

  -- their load is that of the others and the charge with the new value
  new_load : load_of new ≡ load_of (rows_without place page.rows) + charge_of put.row.key (Bytes value)
  new_load = omega (arith, rewritten_load page.head page.rows new at value order put, load_of-without page.rows place put.row order.places there)

  pub new_load-is : (n : ℕ) → ((row : Row) → find_row place page.rows ≡ Some row → n ≡ load_of (rows_without place page.rows) + charge_of row.key (Bytes value)) → n ≡ load_of new
  new_load-is n counted = counted put.row there ∙ sym new_load

  pub new_load-fits : page.head.level ≡ 0 → set_refusal page place value ≡ None → load_of new ≤ PAGE_ROOM
  new_load-fits level none =
      let has = value_at page.head page.rows place at order position level in
      let same = same_some has.row put.row (sym has.there ∙ put.there) in
      omega (arith, new_load, fits_in_place page place put.row has.value value order there (ap (λ (x : Row). x.body) (sym same) ∙ has.is) none)
