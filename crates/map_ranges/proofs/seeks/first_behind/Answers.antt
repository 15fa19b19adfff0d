use Rattle.std.proofs.Common.{sym, ap, ◌∙◌}
use Rattle.std.specs.Prelude.{option_map}
use Rattle.map_history.specs.Pairs.{pair_by}
use Rattle.map_ranges.proofs.RowLemmas.{first_in_part}
use Rattle.map_ranges.proofs.seeks.first_behind.Goals as goal

pub returns-clause-row : goal.returns-clause-row
returns-clause-row c =
    sym (ap (option_map pair_by) (c.in_ok-found.was))
    ∙ first_in_part c.args.key.now.tuple c.args.map.now.entries c.range.result c.next.new.self
    c.next.result (c.range.ensures.between tt) c.next.ensures.steps

pub returns-in_err-found-clause-row : goal.returns-in_err-found-clause-row
returns-in_err-found-clause-row c =
    ap (option_map pair_by) (c.from_residual.ensures ∙ sym (c.in_err-found.was))
    ∙ first_in_part c.args.key.now.tuple c.args.map.now.entries c.range.result c.next.new.self
    c.next.result (c.range.ensures.between tt) c.next.ensures.steps
