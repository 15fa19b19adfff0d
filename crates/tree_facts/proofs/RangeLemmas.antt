-- When a key is in the range of a pointer.
use Rattle.std.proofs.Common.{◌≡◌, Bool, true, false, List, [], ◌∷◌, length, refl, sym, ap, subst, ◌∙◌}
use Rattle.std.specs.List.{AllByRecursion}
use Rattle.key_tuple.specs.Order.{FieldList}
use Rattle.key_tuple.specs.KeyPlace.{KeyPlace, At, before}
use Rattle.list_facts.proofs.Each.{each_right}
use Rattle.index_page.specs.Page.{FitsLevel}
use Rattle.index_page.specs.Rows.{Row}
use Rattle.tree_law.specs.PickLaws.{AreInner}
use Rattle.tree_law.specs.TreeShape.{first_from}
use Rattle.tree_law.specs.Pages.{is_empty, from_place, pointers_of}
use Rattle.tree_law.proofs.FitLemmas.{from_some, from_key}
use Rattle.tree_law.proofs.PageRowLemmas.{pointer_is}
use Rattle.tree_law.proofs.PickLemmas.{are_inner}
use Rattle.tree_restructure.specs.Pointers.{BeginsAfter}
use Rattle.tree_facts.proofs.KeyLemmas.{empty_before, some_above}
use Rattle.tree_facts.specs.Ranges.{IsInside, RangesHaveCuts}

-- a key behind the place of a row comes after the row's key
above_row : (row : Row) (aft : List Row) (high : KeyPlace) (at : FieldList)
    → length row.key ≡ length at → IsInside row aft high at → before (At row.key) (At at) ≡ true
above_row row aft high at as_many inside = pick (is_empty row.key) refl
  where
    pick : (b : Bool) → is_empty row.key ≡ b → before (At row.key) (At at) ≡ true
    pick true e = empty_before row.key at e
        (some_above inside.lesser at inside.as_many inside.above) as_many
    pick false e = ap (λ z. before z (At at)) (sym (from_key row.key e)) ∙ inside.from

-- and one before the place of the next row comes before that row's key
below_next : (aft : List Row) (high : KeyPlace) (at : FieldList) → AreInner aft
    → before (At at) (first_from (pointers_of aft) high) ≡ true → BeginsAfter at aft
below_next [] high at inner b = tt
below_next (x ∷ xs) high at inner b =
    let first = ap (λ ps. first_from ps high) (pointer_is x inner.0.0 (from_place x.key) xs
    (inner.0.1, refl)) in
    let from : before (At at) (from_place x.key) ≡ true = ap (before (At at)) (sym first) ∙ b in
    ap (before (At at)) (sym (from_key x.key (from_some (At at) x.key from))) ∙ from

pub ranges_have_cuts : RangesHaveCuts
ranges_have_cuts page keys bodies fore row aft parts child body high at fields inside =
    let suits = each_right (λ (x : Row). FitsLevel page.head.level x.body) fore (row ∷ aft)
    (subst (AllByRecursion (λ (x : Row). FitsLevel page.head.level x.body)) parts bodies) in
    let long = each_right (λ (x : Row). length x.key ≡ page.head.fields) fore (row ∷ aft)
    (subst (AllByRecursion (λ (x : Row). length x.key ≡ page.head.fields)) parts keys) in
    record {
      fore = fore;
      this = row;
      aft = aft;
      was = parts;
      this_is = body;
      above = above_row row aft high at (long.0 ∙ sym fields) inside;
      below = below_next aft high at
          (are_inner page.head.level (subst (FitsLevel page.head.level) body suits.0) aft suits.1)
          inside.to;
      fields = fields;
    }
