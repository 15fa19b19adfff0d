use Rattle.std.proofs.Common.{◌∷◌, ◌∙◌, ap, get_or, length, arith}
use Rattle.std.proofs.lemmas.List.{get_or_default}
use Rattle.map_history.proofs.RowsLemmas.{row_found}
use Rattle.map_history.proofs.rows.Rows.field_count.Goals as goal

pub index-requires : goal.index-requires
index-requires c =
    let row = row_found c.self.inside.parts c.self.inside.ends.items c.args.self.now c.args.i c.self.invariant c.self.view_is c.requires in
    omega (arith, row.there, c.self.inside.ends.ok.0)

pub start_of-requires : goal.start_of-requires
start_of-requires c =
    let row = row_found c.self.inside.parts c.self.inside.ends.items c.args.self.now c.args.i c.self.invariant c.self.view_is c.requires in
    omega (arith, row.there, ap length c.deref.ensures.value)

pub overflow_sub-result : goal.overflow_sub-result
overflow_sub-result c =
    let row = row_found c.self.inside.parts c.self.inside.ends.items c.args.self.now c.args.i c.self.invariant c.self.view_is c.requires in
    let start = c.start_of.ensures ∙ ap (λ ends. get_or (0 ∷ ends) c.args.i 0) c.deref.ensures.value in
    let end = c.index.ensures ∙ get_or_default c.self.inside.ends.items c.args.i c.index.result.now 0 row.there in
    omega (arith, row.climbs)

pub overflow_sub-result-2 : goal.overflow_sub-result-2
overflow_sub-result-2 c =
    let row = row_found c.self.inside.parts c.self.inside.ends.items c.args.self.now c.args.i c.self.invariant c.self.view_is c.requires in
    let start = c.start_of.ensures ∙ ap (λ ends. get_or (0 ∷ ends) c.args.i 0) c.deref.ensures.value in
    let end = c.index.ensures ∙ get_or_default c.self.inside.ends.items c.args.i c.index.result.now 0 row.there in
    omega (arith, row.climbs)

pub overflow_cast-result : goal.overflow_cast-result
overflow_cast-result c =
    let row = row_found c.self.inside.parts c.self.inside.ends.items c.args.self.now c.args.i c.self.invariant c.self.view_is c.requires in
    let start = c.start_of.ensures ∙ ap (λ ends. get_or (0 ∷ ends) c.args.i 0) c.deref.ensures.value in
    let end = c.index.ensures ∙ get_or_default c.self.inside.ends.items c.args.i c.index.result.now 0 row.there in
    omega (arith, row.fields, row.readable.few)

pub returns : goal.returns
returns c =
    let row = row_found c.self.inside.parts c.self.inside.ends.items c.args.self.now c.args.i c.self.invariant c.self.view_is c.requires in
    let start = c.start_of.ensures ∙ ap (λ ends. get_or (0 ∷ ends) c.args.i 0) c.deref.ensures.value in
    let end = c.index.ensures ∙ get_or_default c.self.inside.ends.items c.args.i c.index.result.now 0 row.there in
    omega (arith, row.fields)
