use Rattle.std.proofs.Common.{sym, ap, ◌∙◌}
use Rattle.key_tuple.specs.Order.{FieldList}
use Rattle.key_tuple.specs.KeyPlace.{not_below}
use Rattle.map_history.specs.Pairs.{pairs}
use Rattle.map_history.specs.Ranges.{from_key, row_from}
use Rattle.map_ranges.proofs.RowLemmas.{same_first}
use Rattle.map_ranges.proofs.TupleCutLemmas.{not_below_is_from}
use Rattle.map_ranges.proofs.seeks.first_not_below.Goals as goal

pub returns : goal.returns
returns c =
    let tuple = c.args.tuple.now.fields in
    let rows = pairs c.args.map.now in
    c.first_from.ensures ∙ ap (λ (key : FieldList). row_from key rows) c.in_ok-key.ensures
    ∙ sym (same_first (not_below tuple) (from_key tuple) (not_below_is_from tuple) rows)
