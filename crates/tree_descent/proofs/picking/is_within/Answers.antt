use Rattle.std.proofs.Common.{◌≤◌, length, sym, ap, subst, ◌∙◌}
use Rattle.key_tuple.specs.Position.{position_cut}
use Rattle.index_page.specs.declared.head.PageHead.{PageHead}
use Rattle.tree_law.specs.Pages.{HasFields}
use Rattle.forest_law.specs.declared.objects.Frame.{Frame}
use Rattle.forest_law.specs.State.{bound, fields_for}
use Rattle.forest_world.specs.Held.{shape_of_pass}
use Rattle.buffer_pool.proofs.CallLemmas.{frame_has}
use Rattle.tree_descent.specs.Leaves.{HasCutWithin}
use Rattle.tree_descent.proofs.PageLemmas.{read_fields, read_low, read_high}
use Rattle.tree_descent.proofs.picking.is_within.Goals as goal

pub has_position-requires-clause-fields : goal.has_position-requires-clause-fields
has_position-requires-clause-fields g c =
    let level = c.requires.held.0 in
    let h = c.requires.held.1 in
    let p = c.args.pass.now in
    subst (λ k. length (g.T.Fields.fields_of c.args.tuple.now) ≤ k)
    (sym (ap (λ (z : PageHead). z.fields) c.head.ensures
    ∙ read_fields (shape_of_pass p) c.args.block c.args.index level h.frame h.is
    h.order c.held_page.result.now (c.held_page.ensures c.args.index level h)))
    c.requires.fields

pub has_position-requires-clause-low : goal.has_position-requires-clause-low
has_position-requires-clause-low g c =
    let level = c.requires.held.0 in
    let h = c.requires.held.1 in
    let p = c.args.pass.now in
    subst (λ (z : PageHead). HasFields z.fields (bound c.frame.result.now.low)) (sym c.head.ensures)
    (read_low (shape_of_pass p) c.args.block c.args.index level h.frame h.is
    h.order c.held_page.result.now (c.held_page.ensures c.args.index level h) c.frame.result.now
    (c.frame.ensures h.frame h.frame (frame_has p c.requires.known c.args.block h.frame h.knows)))

pub has_position-requires-clause-high : goal.has_position-requires-clause-high
has_position-requires-clause-high g c =
    let level = c.requires.held.0 in
    let h = c.requires.held.1 in
    let p = c.args.pass.now in
    subst (λ (z : PageHead). HasFields z.fields (bound c.frame.result.now.high)) (sym c.head.ensures)
    (read_high (shape_of_pass p) c.args.block c.args.index level h.frame h.is
    h.order c.held_page.result.now (c.held_page.ensures c.args.index level h) c.frame.result.now
    (c.frame.ensures h.frame h.frame (frame_has p c.requires.known c.args.block h.frame h.knows)))

pub returns : goal.returns
returns g c = λ yes level h.
    (let p = c.args.pass.now in
    let tuple = g.T.Fields.fields_of c.args.tuple.now in
    subst
    (λ (f : Frame). HasCutWithin f
    (position_cut (fields_for (shape_of_pass p) c.args.index) c.args.mode tuple))
    (c.frame.ensures h.frame h.frame (frame_has p c.requires.known c.args.block h.frame h.knows))
    (subst (λ k. HasCutWithin c.frame.result.now (position_cut k c.args.mode tuple))
    (ap (λ (z : PageHead). z.fields) c.head.ensures
    ∙ read_fields (shape_of_pass p) c.args.block c.args.index level h.frame h.is
    h.order c.held_page.result.now (c.held_page.ensures c.args.index level h))
    (c.has_position.ensures.0 yes)))
