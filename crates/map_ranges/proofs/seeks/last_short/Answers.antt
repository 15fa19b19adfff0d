use Rattle.std.proofs.Common.{sym, ap, ◌∙◌}
use Rattle.std.specs.Prelude.{option_map}
use Rattle.key_tuple.specs.KeyPlace.{cut_of}
use Rattle.map_history.specs.Pairs.{pairs, pair_by}
use Rattle.map_ranges.proofs.RowLemmas.{below_first_past, last_of_all}
use Rattle.map_ranges.proofs.seeks.last_short.Goals as goal

pub returns-in-Some : goal.returns-in-Some
returns-in-Some c =
    let tuple = c.args.tuple.now.fields in
    let rows = pairs c.args.map.now in
    let first = sym c.in_ok-key.ensures ∙ ap (option_map pair_by) c.in-Some.is in
    c.last_below.ensures
    ∙ sym (below_first_past c.args.mode tuple rows (pair_by (c.in-Some.key, c.in-Some.field-0-1)) c.pairs_ascend.ensures first)

pub returns-in-None : goal.returns-in-None
returns-in-None c =
    let first = sym c.in_ok-key.ensures ∙ ap (option_map pair_by) c.in-None.is in
    last_of_all (cut_of c.args.mode c.args.tuple.now.fields) c.args.map.now.entries c.iter.result c.next_back.new.self c.next_back.result c.iter.ensures.rest first c.next_back.ensures.steps
