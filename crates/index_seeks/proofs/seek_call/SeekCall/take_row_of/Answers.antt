use Rattle.std.proofs.Common.{◌≤◌, length, sym, ap, subst, ◌∙◌}
use Rattle.latch_law.specs.declared.knows.Terms.{Terms}
use Rattle.index_page.specs.Page.{PageRows}
use Rattle.index_law.specs.Shape.{Shape}
use Rattle.forest_law.specs.declared.objects.Frame.{Frame}
use Rattle.forest_law.specs.State.{fields_for}
use Rattle.forest_world.specs.Held.{shape_of_pass}
use Rattle.buffer_pool.proofs.CallLemmas.{frame_has}
use Rattle.index_seeks.specs.Seeks.{TellsRow}
use Rattle.engine_law.proofs.KnownLemmas.{same_page}
use Rattle.index_seeks.proofs.seek_call.SeekCall.take_row_of.Goals as goal

pub page_of-page-requires : goal.page_of-page-requires
page_of-page-requires g c = let held = c.requires.held in (
  held.is.page,
  ap (λ (f : Frame). f.page)
      (c.frame.ensures held.frame held.frame
      (frame_has c.args.pass.now c.requires.known c.args.block held.frame held.knows))
      ∙ held.is.paged,
)

pub search-requires : goal.search-requires
search-requires g c = let held = c.requires.held in let call = c.args.self.now in
    let p = c.args.pass.now in
    let is = same_page held.frame c.frame.result.now held.is.page c.page_of-page.result.now
    (c.frame.ensures held.frame held.frame
    (frame_has p c.requires.known c.args.block held.frame held.knows)) held.is.paged
    c.page_of-page.ensures in
    subst (λ (z : PageRows). length call.tuple.now.fields ≤ z.head.fields) (sym is)
    (subst (λ n. length call.tuple.now.fields ≤ n)
    (sym (held.order.fields ∙ ap (fields_for (shape_of_pass p)) held.is.index))
    (subst (λ (t : Terms Shape). length call.tuple.now.fields ≤ fields_for t.shape call.index)
    (sym c.requires.own.1) call.fits))

pub take_row-requires-clause-leaf : goal.take_row-requires-clause-leaf
take_row-requires-clause-leaf g c = let held = c.requires.held in
    let is = same_page held.frame c.frame.result.now held.is.page c.page_of-page.result.now
    (c.frame.ensures held.frame held.frame
    (frame_has c.args.pass.now c.requires.known c.args.block held.frame held.knows))
    held.is.paged c.page_of-page.ensures in
    ap (λ (z : PageRows). z.head.level) is ∙ held.is.at_level

pub take_row-requires-clause-finds : goal.take_row-requires-clause-finds
take_row-requires-clause-finds g c = c.search.ensures

pub returns : goal.returns
returns g c = λ h. (let call = c.args.self.now in
    subst
    (λ (z : PageRows). TellsRow call.mode call.tuple.now.fields z.rows c.take_row.result
    c.take_row.new.out)
    (same_page h.frame c.frame.result.now h.is.page c.page_of-page.result.now
    (c.frame.ensures h.frame h.frame
    (frame_has c.args.pass.now c.requires.known c.args.block h.frame h.knows)) h.is.paged
    c.page_of-page.ensures) c.take_row.ensures.row)

pub frame-requires-clause-held : goal.frame-requires-clause-held
frame-requires-clause-held g c = let held = c.requires.held in (
  held.frame,
  held.frame,
  frame_has c.args.pass.now c.requires.known c.args.block held.frame held.knows,
)
