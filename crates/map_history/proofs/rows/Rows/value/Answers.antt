use Rattle.std.proofs.Common.{◌∷◌, [], ◌∙◌, ap, sym, get_or, length, arith}
use Rattle.map_history.proofs.RowsLemmas.{row_found}
use Rattle.map_history.proofs.rows.Rows.value.Goals as goal

pub start_of-requires : goal.start_of-requires
start_of-requires c =
    let row = row_found c.self.inside.parts c.self.inside.ends.items c.args.self.now c.args.i c.self.invariant c.self.view_is c.requires in
    omega (arith, row.there, ap length c.deref.ensures.value)

pub part-requires : goal.part-requires
part-requires c =
    let row = row_found c.self.inside.parts c.self.inside.ends.items c.args.self.now c.args.i c.self.invariant c.self.view_is c.requires in
    let start = c.start_of.ensures ∙ ap (λ ends. get_or (0 ∷ ends) c.args.i 0) c.deref.ensures.value in
    omega (arith, row.climbs, row.fits)

pub returns : goal.returns
returns c =
    let row = row_found c.self.inside.parts c.self.inside.ends.items c.args.self.now c.args.i c.self.invariant c.self.view_is c.requires in
    let start = c.start_of.ensures ∙ ap (λ ends. get_or (0 ∷ ends) c.args.i 0) c.deref.ensures.value in
    c.part.ensures ∙ ap (λ n. get_or c.self.inside.parts n []) start ∙ sym row.value
