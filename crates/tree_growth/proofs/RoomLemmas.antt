-- What the load of a page tells.
use Rattle.std.proofs.Common.{◌≡◌, ℕ, ◌+◌, ◌-◌, ◌<◌, ◌≤◌, Bool, cond, ◌==◌, List, [], ◌∷◌, length, take, drop, true, false, nat_lt, inl, inr, sym, ap, ◌∙◌, refl, arith}
use Rattle.std.proofs.Math.Seq.{take-append_seam, drop-append_seam}
use Rattle.std.proofs.lemmas.Bool.{cases_lt}
use Rattle.std.specs.List.{AllByRecursion}
use Rattle.std.proofs.lemmas.Bool.Decides.{nat_tests}
use Rattle.index_page.specs.declared.TheConstants.{PAGE_ROOM, MAX_CHARGE}
use Rattle.list_facts.proofs.Each.{each_weaker}
use Rattle.key_tuple.specs.Order.{FieldList}
use Rattle.index_page.specs.Rows.{Row}
use Rattle.index_page.specs.Page.{PageRows, IsRowOf, IsPageInOrder}
use Rattle.index_page.specs.Loads.{charge_of, load_of}
use Rattle.index_page.proofs.AppendLemmas.{load_same}
use Rattle.index_page.proofs.HalvesLemmas.{near_half}
use Rattle.index_page.proofs.LoadLemmas.{load_of-cons}
use Rattle.index_page.proofs.RoomLemmas.{charge_within}
use Rattle.tree_restructure.specs.Charges.{most_for_pointer, largest_on}
use Rattle.tree_restructure.specs.Cuts.{CutsPage}
use Rattle.tree_growth.specs.declared.looking.PageInHand.{PageInHand}
use Rattle.tree_growth.specs.Pages.{needed, TellsRoom, HasRoomForAny}

-- what has to be free is a charge at most
pub needed_small : (level need : ℕ) → need ≤ MAX_CHARGE → needed level need ≤ MAX_CHARGE
needed_small level need small = pick (level == 0)
  where
    pick : (b : Bool) → cond b need most_for_pointer ≤ MAX_CHARGE
    pick true = small
    pick false = omega arith

-- and the largest on its level at most
pub needed_most : (level need : ℕ) → need ≤ MAX_CHARGE → needed level need ≤ largest_on level
needed_most level need small = pick (level == 0)
  where
    pick : (b : Bool) → cond b need most_for_pointer ≤ cond b MAX_CHARGE most_for_pointer
    pick true = small
    pick false = omega arith

module _ (page : PageRows) (order : IsPageInOrder page) where
  -- each row has a charge
  charges_small : AllByRecursion (λ (x : Row). charge_of x.key x.body ≤ MAX_CHARGE) page.rows
  charges_small = each_weaker (IsRowOf page.head)
      (λ (x : Row). charge_of x.key x.body ≤ MAX_CHARGE) (λ x of. charge_within page.head x of)
      page.rows order.each

  -- the halves of a page have room for any row
  pub halves_roomy : (stays fresh new : PageRows) (at : FieldList)
      → CutsPage page stays fresh new at → HasRoomForAny stays × HasRoomForAny new
  halves_roomy stays fresh new at cuts =
      let within = order.fits in
      let near = near_half page.rows (length cuts.lower) MAX_CHARGE cuts.halves charges_small in
      let low : take (length cuts.lower) page.rows ≡ stays.rows =
      ap (take (length cuts.lower)) cuts.was
      ∙ (take-append_seam cuts.lower cuts.upper ∙ sym cuts.stay) in
      let high : drop (length cuts.lower) page.rows ≡ cuts.upper =
      ap (drop (length cuts.lower)) cuts.was ∙ drop-append_seam cuts.lower cuts.upper in
      let left = near.left in let right = near.right in
      let same = load_same cuts.upper new.rows cuts.go in
      let a = ap load_of low in let b = ap load_of high in
      (omega (arith, left, a, within), omega (arith, right, b, same, within))

  -- the load of at most one row is no larger than a charge
  pub one_row : length page.rows ≤ 1 → load_of page.rows ≤ MAX_CHARGE
  one_row few = go page.rows order.each few
    where
      go : (rows : List Row) → AllByRecursion (IsRowOf page.head) rows → length rows ≤ 1
          → load_of rows ≤ MAX_CHARGE
      go [] each few = omega arith
      go (x ∷ []) each few = omega (arith, charge_within page.head x each.0, load_of-cons x [])
      go (x ∷ y ∷ rows) each few = absurd (omega (arith, few))

  -- where a charge has no room there are two rows
  pub two_rows : (most : ℕ) → most ≤ MAX_CHARGE → PAGE_ROOM - most < load_of page.rows
      → 1 < length page.rows
  two_rows most small above = elim (cases_lt 1 (length page.rows)) [
    | inl more ↦ more
    | inr few ↦ let less = one_row few in absurd (omega (arith, small, above, less))
  ]

  pub tells_room : (block need level room free load : ℕ) → level ≡ page.head.level
      → room ≡ needed level need
      → room ≤ MAX_CHARGE → free ≡ PAGE_ROOM - room → load ≡ load_of page.rows
      → TellsRoom block page need
      (record { block = block; level = level; is_full = nat_lt free load })
  tells_room block need level room free load at is small left loaded = record {
    is_block = refl;
    is_level = at;
    order = order;
    room = λ e. room_left e;
    full = λ e. none_left e;
    two = λ e. two_left e;
  }
    where
      room_left : nat_lt free load ≡ false
          → load_of page.rows + needed level need ≤ PAGE_ROOM
      room_left e = let below : load ≤ free = grind (arith, nat_tests) in
          omega (arith, below, is, small, left, loaded)

      none_left : nat_lt free load ≡ true
          → PAGE_ROOM < load_of page.rows + needed level need
      none_left e = let above : free < load = grind (arith, nat_tests) in
          omega (arith, above, is, small, left, loaded)

      two_left : nat_lt free load ≡ true → 1 < length page.rows
      two_left e = let above : free < load = grind (arith, nat_tests) in
          two_rows room small (omega (arith, above, left, loaded))

-- a page with room for any row isn't full
pub is_roomy : (block : ℕ) (page : PageRows) (need : ℕ) (at : PageInHand)
    → TellsRoom block page need at → need ≤ MAX_CHARGE → HasRoomForAny page → at.is_full ≡ false
is_roomy block page need at tells small any = pick at.is_full refl
  where
    pick : (b : Bool) → at.is_full ≡ b → at.is_full ≡ false
    pick false e = e
    pick true e = let none = tells.full e in let most = needed_small at.level need small in
        absurd (omega (arith, none, most, any))
