-- The largest charge of a row, and pages without room.
use Rattle.std.proofs.Common.{◌+◌, ◌<◌, ◌≤◌, List, [], ◌∷◌, length, arith}
use Rattle.std.specs.List.{AllByRecursion}
use Rattle.key_tuple.specs.Order.{FieldList}
use Rattle.key_tuple.specs.Limits.{IsWithinLimits}
use Rattle.key_tuple.specs.declared.TheConstants.{MAX_FIELDS, MAX_KEY_BYTES, MAX_VALUE_BYTES}
use Rattle.key_tuple.proofs.SizeLemmas.{row_limited, pointer_limited}
use Rattle.index_page.specs.declared.TheConstants.{PAGE_ROOM, MAX_CHARGE}
use Rattle.index_page.specs.declared.head.PageHead.{PageHead}
use Rattle.index_page.specs.Rows.{RowBody, Bytes, Child, Row}
use Rattle.index_page.specs.Page.{PageRows, HasShortValue, IsRowOf, IsPageInOrder}
use Rattle.index_page.specs.Loads.{charge_of, load_of}
use Rattle.index_page.proofs.LoadLemmas.{load_of-cons}

charge_limited : (key : FieldList) (body : RowBody) → IsWithinLimits key → HasShortValue body → charge_of key body ≤ MAX_CHARGE
charge_limited key (Bytes value) limits short = omega (arith, row_limited key value MAX_FIELDS MAX_KEY_BYTES MAX_VALUE_BYTES limits.few limits.short short)
charge_limited key (Child number) limits short = omega (arith, pointer_limited key MAX_FIELDS MAX_KEY_BYTES limits.few limits.short)

pub charge_within : (head : PageHead) (x : Row) → IsRowOf head x → charge_of x.key x.body ≤ MAX_CHARGE
charge_within head x of = charge_limited x.key x.body of.limits of.short

-- a page on which a row has no room has two rows
pub two_rows : (page : PageRows) (x : Row) → IsPageInOrder page → IsRowOf page.head x → PAGE_ROOM < load_of page.rows + charge_of x.key x.body → 1 < length page.rows
two_rows page x order of full = go page.rows order.each full
  where
    go : (rows : List Row) → AllByRecursion (IsRowOf page.head) rows → PAGE_ROOM < load_of rows + charge_of x.key x.body → 1 < length rows
    go [] each more = absurd (omega (arith, charge_within page.head x of))
    go (y ∷ []) each more = absurd (omega (arith, charge_within page.head x of, charge_within page.head y each.0, load_of-cons y []))
    go (y ∷ z ∷ rows) each more = omega arith
