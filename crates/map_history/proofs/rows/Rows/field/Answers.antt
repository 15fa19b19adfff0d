use Rattle.std.proofs.Common.{◌≡◌, ◌+◌, ◌<◌, ◌-◌, ◌∷◌, [], ◌∙◌, ap, sym, get_or, length, arith}
use Rattle.std.proofs.lemmas.List.{get_or_default}
use Rattle.map_history.specs.Rows.{row_at}
use Rattle.map_history.proofs.RowsLemmas.{row_found, each_at}
use Rattle.map_history.proofs.rows.Rows.field.Goals as goal

pub index-requires : goal.index-requires
index-requires c =
    let row = row_found c.self.inside.parts c.self.inside.ends.items c.args.self.now c.args.i c.self.invariant c.self.view_is c.requires.row in
    omega (arith, row.there, c.self.inside.ends.ok.0)

pub overflow_sub-index : goal.overflow_sub-index
overflow_sub-index c =
    let row = row_found c.self.inside.parts c.self.inside.ends.items c.args.self.now c.args.i c.self.invariant c.self.view_is c.requires.row in
    let end = c.index.ensures ∙ get_or_default c.self.inside.ends.items c.args.i c.index.result.now 0 row.there in
    omega (arith, row.climbs, row.fields, c.from-left.ensures, c.field_count.ensures)

pub part-requires : goal.part-requires
part-requires c =
    let row = row_found c.self.inside.parts c.self.inside.ends.items c.args.self.now c.args.i c.self.invariant c.self.view_is c.requires.row in
    let end = c.index.ensures ∙ get_or_default c.self.inside.ends.items c.args.i c.index.result.now 0 row.there in
    omega (arith, row.climbs, row.fits, row.fields, c.from-left.ensures, c.field_count.ensures, c.requires.field)

-- the part that is read is the row's field
field_is : (c : goal.After-part) → c.part.result.now ≡ get_or (row_at c.args.self.now c.args.i).key c.args.field []
field_is c =
    let row = row_found c.self.inside.parts c.self.inside.ends.items c.args.self.now c.args.i c.self.invariant c.self.view_is c.requires.row in
    let end = c.index.ensures ∙ get_or_default c.self.inside.ends.items c.args.i c.index.result.now 0 row.there in
    let place : c.index.result.now - c.from-left.result ≡ get_or (0 ∷ c.self.inside.ends.items) c.args.i 0 + 1 + c.args.field = omega (arith, row.climbs, row.fields, c.from-left.ensures, c.field_count.ensures, c.requires.field) in
    c.part.ensures ∙ ap (λ n. get_or c.self.inside.parts n []) place ∙ sym (row.field c.args.field (omega (arith, row.fields, c.requires.field)))

pub returns-clause-bytes : goal.returns-clause-bytes
returns-clause-bytes c = field_is c

pub returns-clause-fits : goal.returns-clause-fits
returns-clause-fits c =
    let row = row_found c.self.inside.parts c.self.inside.ends.items c.args.self.now c.args.i c.self.invariant c.self.view_is c.requires.row in
    let short = each_at (λ field. length field < 65536) (row_at c.args.self.now c.args.i).key c.args.field [] c.requires.field row.readable.short in
    omega (arith, ap length (field_is c), short)
