-- What rows are charged on their level, and the loads of a page that was cut.
use Rattle.std.proofs.Common.{◌≡◌, ℕ, ◌+◌, ◌≤◌, List, ◌∷◌, ◌++◌, length, take, drop, sym, ap, subst, ◌∙◌, arith, Bool, cond}
use Rattle.std.proofs.lemmas.Bool.{ne_eqb}
use Rattle.std.proofs.Math.Seq.{take-append_seam, drop-append_seam}
use Rattle.std.specs.List.{AllByRecursion}
use Rattle.key_tuple.specs.Order.{FieldList}
use Rattle.key_tuple.specs.Limits.{IsWithinLimits}
use Rattle.key_tuple.specs.declared.TheConstants.{MAX_FIELDS, MAX_KEY_BYTES}
use Rattle.key_tuple.proofs.SizeLemmas.{pointer_limited}
use Rattle.index_page.specs.declared.TheConstants.{MAX_CHARGE}
use Rattle.index_page.specs.declared.head.PageHead.{PageHead}
use Rattle.index_page.specs.Rows.{RowBody, Bytes, Child, Row}
use Rattle.index_page.specs.Page.{PageRows, FitsLevel, IsRowOf}
use Rattle.index_page.specs.Loads.{charge_of, load_of}
use Rattle.index_page.proofs.HalvesLemmas.{near_half}
use Rattle.index_page.proofs.RoomLemmas.{charge_within}
use Rattle.list_facts.proofs.Each.{each_right, each_weaker}
use Rattle.tree_restructure.specs.Charges.{most_for_pointer, largest_on}
use Rattle.tree_restructure.specs.Cuts.{CutsPage}

-- a pointer within the limits is charged no more than the largest
pointer_within : (key : FieldList) (n : ℕ) → IsWithinLimits key
    → charge_of key (Child n) ≤ most_for_pointer
pointer_within key n limits =
    omega (arith, pointer_limited key MAX_FIELDS MAX_KEY_BYTES limits.few limits.short)

level_charge : (key : FieldList) (body : RowBody) (level : ℕ) → IsWithinLimits key
    → FitsLevel level body → charge_of key body ≤ MAX_CHARGE → charge_of key body ≤ largest_on level
level_charge key (Bytes value) level limits fits most =
    subst (λ n. charge_of key (Bytes value) ≤ largest_on n) (sym fits) most
level_charge key (Child n) level limits fits most =
    subst (λ (b : Bool). charge_of key (Child n) ≤ cond b MAX_CHARGE most_for_pointer)
    (sym (ne_eqb level 0 fits)) (pointer_within key n limits)

-- so is each row of a page, by its level
pub row_charge_on : (head : PageHead) (x : Row) → IsRowOf head x
    → charge_of x.key x.body ≤ largest_on head.level
row_charge_on head x of =
    level_charge x.key x.body head.level of.limits of.body (charge_within head x of)

-- and a row that points to a page is charged no more than the largest pointer
pub child_charge : (head : PageHead) (x : Row) (n : ℕ) → IsRowOf head x → x.body ≡ Child n
    → charge_of x.key x.body ≤ most_for_pointer
child_charge head x n of is = subst (λ (b : RowBody). charge_of x.key b ≤ most_for_pointer) (sym is)
    (pointer_within x.key n of.limits)

-- each row of some that stand behind others, and the one after it
pub this_and_next : (head : PageHead) (rows fore aft : List Row) (x y : Row)
    → AllByRecursion (IsRowOf head) rows → rows ≡ fore ++ x ∷ y ∷ aft
    → IsRowOf head x × IsRowOf head y
this_and_next head rows fore aft x y each is =
    let both = each_right (IsRowOf head) fore (x ∷ y ∷ aft)
    (subst (AllByRecursion (IsRowOf head)) is each) in (both.0, both.1.0)

module _ (page stays fresh new : PageRows) (at : FieldList)
    (c : CutsPage page stays fresh new at) where
  -- the whole load is that of both parts
  pub load_whole : load_of page.rows ≡ load_of (c.lower ++ c.upper)
  load_whole = ap load_of c.was

  -- neither part has more than half of the load and of the largest charge
  pub loads_near : (load_of c.lower + load_of c.lower
      ≤ load_of (c.lower ++ c.upper) + largest_on page.head.level)
      × (load_of c.upper + load_of c.upper
      ≤ load_of (c.lower ++ c.upper) + largest_on page.head.level)
  loads_near =
      let k = length c.lower in
      let most = largest_on page.head.level in
      let near = near_half page.rows k most c.halves (each_weaker (IsRowOf page.head)
      (λ (x : Row). charge_of x.key x.body ≤ most) (row_charge_on page.head) page.rows
      c.whole.each) in
      let low : take k page.rows ≡ c.lower =
      ap (take k) c.was ∙ take-append_seam c.lower c.upper in
      let high : drop k page.rows ≡ c.upper =
      ap (drop k) c.was ∙ drop-append_seam c.lower c.upper in
      let left = near.left in
      let right = near.right in
      let a = ap load_of low in
      let b = ap load_of high in
      let all = load_whole in
      (omega (arith, left, a, all), omega (arith, right, b, all))
