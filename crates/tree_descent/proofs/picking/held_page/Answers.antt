use Rattle.std.proofs.Common.{ap, ◌∙◌}
use Rattle.forest_law.specs.declared.objects.Frame.{Frame}
use Rattle.buffer_pool.proofs.CallLemmas.{frame_has}
use Rattle.tree_descent.proofs.PageLemmas.{same_page}
use Rattle.tree_descent.proofs.picking.held_page.Goals as goal

pub frame-requires-clause-held : goal.frame-requires-clause-held
frame-requires-clause-held c = let held = c.requires.held.1.1 in (
  held.frame,
  held.frame,
  frame_has c.args.pass.now c.requires.known c.args.block held.frame held.knows,
)

pub page_of-requires : goal.page_of-requires
page_of-requires c = let held = c.requires.held.1.1 in (
  held.is.page,
  ap (λ (f : Frame). f.page)
      (c.frame.ensures held.frame held.frame
      (frame_has c.args.pass.now c.requires.known c.args.block held.frame held.knows))
      ∙ held.is.paged,
)

pub returns : goal.returns
returns c = λ i level h. same_page h.frame c.frame.result.now h.is.page c.page_of.result.now
    (c.frame.ensures h.frame h.frame
    (frame_has c.args.pass.now c.requires.known c.args.block h.frame h.knows)) h.is.paged
    c.page_of.ensures
