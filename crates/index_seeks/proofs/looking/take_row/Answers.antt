use Rattle.std.proofs.Common.{◌∙◌, sym, ap}
use Rattle.index_page.specs.Rows.{Bytes}
use Rattle.tree_neighbours.specs.Sides.{side_of}
use Rattle.index_seeks.proofs.SpotLemmas.{next_on}
use Rattle.index_seeks.proofs.looking.take_row.Goals as goal

pub returns-in-Some-clause-row : goal.returns-in-Some-clause-row
returns-in-Some-clause-row c =
    next_on c.args.mode c.args.tuple.now.fields c.args.page.now.rows c.args.spot.now c.requires.finds
    c.in-Some.place c.row-row.result.row c.row-row.ensures.row c.fill.new.self
    (sym c.fill.ensures.key)
    (c.value.ensures.bytes ∙ ap Bytes (sym c.fill.ensures.value)) (side_of c.args.mode)
    (sym c.place_on.ensures ∙ c.in-Some.is)
