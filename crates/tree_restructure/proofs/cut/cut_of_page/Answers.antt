use Rattle.std.proofs.Common.{◌<◌, length, sym, ap, ◌∙◌, subst}
use Rattle.list_facts.proofs.Places.{same_some}
use Rattle.index_page.specs.Rows.{Row}
use Rattle.index_page.specs.Page.{RowsAscend}
use Rattle.tree_restructure.proofs.FieldLemmas.{later_fields}
use Rattle.tree_restructure.proofs.cut.cut_of_page.Goals as goal

pub own_key-requires-clause-some : goal.own_key-requires-clause-some
own_key-requires-clause-some c = let half = c.half_place-place.ensures in
    subst (λ (x : Row). 0 < length x.key) (same_some half.row c.row.result.row
    (sym half.there ∙ c.row.ensures.row))
    (later_fields half.lower half.row half.above half.halves.some_left
    (subst RowsAscend half.was c.is_in_order.ensures.ascend))

pub returns : goal.returns
returns c = let half = c.half_place-place.ensures in record {
  half = half;
  key_is = ap (λ (x : Row). x.key) (same_some half.row c.row.result.row
      (sym half.there ∙ c.row.ensures.row)) ∙ sym c.in_ok-key.ensures;
}
