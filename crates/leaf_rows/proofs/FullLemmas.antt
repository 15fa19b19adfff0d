-- Rows for which there is no room.
use Rattle.std.proofs.Common.{◌≡◌, ◌∙◌, ℕ, ◌+◌, ◌<◌, ◌≤◌, ◌==◌, Bool, true, false, cond, nat_lt, length, ap, Option, Some, None, option_and_then, refl, sym, arith}
use Rattle.std.proofs.lemmas.Bool.Decides.{nat_tests}
use Rattle.key_tuple.specs.Order.{FieldList}
use Rattle.list_facts.proofs.Places.{same_some}
use Rattle.index_page.specs.declared.TheConstants.{PAGE_ROOM}
use Rattle.index_page.specs.declared.error.PageError.{PageError}
use Rattle.index_page.specs.declared.error.PageError.TheVariants.{PageFull}
use Rattle.index_page.specs.Changes.{page_without, rows_without}
use Rattle.index_page.specs.Loads.{charge_of, load_of}
use Rattle.index_page.specs.Page.{PageRows}
use Rattle.index_page.specs.Refusals.{free_of, ample_gaps, room_refusal, insert_refusal, set_refusal}
use Rattle.index_page.specs.Rows.{Row, Bytes}
use Rattle.index_page.proofs.RefusalLemmas.{refused_full, not_refused, set_refusal-is}
use Rattle.index_page.proofs.WithoutLemmas.{load_of-without}
use Rattle.leaf_rows.specs.Changing.{IsFullFor}
use Rattle.leaf_rows.specs.Laws.{RefusalsAreFull, RefusedValuesLackRoom}
use Rattle.leaf_rows.specs.Setting.{value_refusal, LacksRoomFor}

-- what is refused needs more than is free, and the error says so
refused_as : (need free : ℕ) (e : PageError) → free ≤ PAGE_ROOM
    → room_refusal need free ample_gaps ≡ Some e → (free < need) × (e ≡ PageFull need free)
refused_as need free e within refused = go (nat_lt free need) refl
  where
    go : (b : Bool) → nat_lt free need ≡ b → (free < need) × (e ≡ PageFull need free)
    go true is = let more : free < need = grind (arith, nat_tests) in
        (more, same_some _ _ (sym refused ∙ refused_full need free more))
    go false is = let less : need ≤ free = grind (arith, nat_tests) in
        let none : None ≡ Some e = sym (not_refused need free less (omega (arith, less, within)))
        ∙ refused in absurd cc

pub refusals_are_full : RefusalsAreFull
refusals_are_full f key value e refused = go f.page refl refused
  where
    go : (o : Option PageRows) → f.page ≡ o
        → option_and_then (λ (page : PageRows). insert_refusal page key (Bytes value)) o ≡ Some e
        → IsFullFor f key value e
    go None is refused = absurd cc
    go (Some page) is refused = let said = refused_as (charge_of key (Bytes value)) (free_of page) e
        (omega arith) refused in
        record { page = page; paged = is; more = said.0; is = said.1 }

pub refused_values_lack_room : RefusedValuesLackRoom
refused_values_lack_room f place key value e has order refused =
    go (length value == length has.has.value) refl (sym is ∙ refused)
  where
    page : PageRows
    page = has.page

    row : Row
    row = has.has.row

    is : value_refusal f place value ≡ cond (length value == length has.has.value) None
        (insert_refusal (page_without place page) row.key (Bytes value))
    is = ap (option_and_then (λ (p : PageRows). set_refusal p place value)) has.paged
        ∙ set_refusal-is page place row has.has.value value has.has.there has.has.body

    parts : load_of page.rows
        ≡ load_of (rows_without place page.rows) + charge_of row.key row.body
    parts = load_of-without page.rows place row order.places has.has.there

    lacks : insert_refusal (page_without place page) row.key (Bytes value) ≡ Some e
        → LacksRoomFor f key value
    lacks said =
        let full = refused_as (charge_of row.key (Bytes value))
        (free_of (page_without place page)) e (omega arith) said in
        let same = ap (λ (k : FieldList). charge_of k (Bytes value)) has.has.key_is in
        record { page = page; paged = has.paged; more = omega (arith, full.0, parts, same) }

    go : (b : Bool) → (length value == length has.has.value) ≡ b
        → cond b None (insert_refusal (page_without place page) row.key (Bytes value)) ≡ Some e
        → LacksRoomFor f key value
    go true same said = absurd cc
    go false same said = lacks said
