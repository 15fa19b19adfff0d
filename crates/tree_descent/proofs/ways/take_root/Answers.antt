use Rattle.std.proofs.Common.{sym, ap, subst, ◌∙◌}
use Rattle.latch_space.specs.Passes.{view}
use Rattle.index_page.specs.declared.head.PageHead.{PageHead}
use Rattle.forest_law.specs.declared.objects.Frame.{Frame}
use Rattle.buffer_pool.proofs.CallLemmas.{frame_has}
use Rattle.tree_descent.specs.Ways.{GoesDown}
use Rattle.tree_descent.proofs.PageLemmas.{none_others}
use Rattle.tree_descent.proofs.WayLemmas.{root_live, root_taken, begins_down}
use Rattle.tree_descent.proofs.ways.take_root.Goals as goal

pub page_in-block-requires-clause-live : goal.page_in-block-requires-clause-live
page_in-block-requires-clause-live g c =
    root_live (view c.args.pass.now) c.args.index c.requires.index

pub page_in-block-requires-clause-others : goal.page_in-block-requires-clause-others
page_in-block-requires-clause-others g c =
    none_others (view c.args.pass.now) c.fits.ensures c.requires.frames c.args.index

pub frame-requires-clause-held : goal.frame-requires-clause-held
frame-requires-clause-held g c = let took = c.page_in-block.ensures.took in (
  took.frame,
  took.frame,
  frame_has c.page_in-block.new.pass took.silently.does.known c.page_in-block.result took.frame
      took.knows,
)

pub page_of-requires : goal.page_of-requires
page_of-requires g c =
    let took = c.page_in-block.ensures.took in
    let q = c.page_in-block.new.pass in
    let b = c.page_in-block.result in
    let root =
    root_taken c.args.pass.now q c.args.index b c.requires.index took c.page_in-block.ensures.fits
    in (
      root.1.page,
      ap (λ (f : Frame). f.page)
          (c.frame.ensures took.frame took.frame
          (frame_has q took.silently.does.known b took.frame took.knows)) ∙ root.1.paged,
    )

pub returns-clause-took : goal.returns-clause-took
returns-clause-took g c = λ cut.
    (let p = c.args.pass.now in
    let took = c.page_in-block.ensures.took in
    let q = c.page_in-block.new.pass in
    let b = c.page_in-block.result in
    subst (λ (h : PageHead). GoesDown p cut c.args.index h.level b q) (sym c.head.ensures)
    (begins_down p q c.args.index b c.requires.index took c.page_in-block.ensures.fits
    c.requires.known c.fits.ensures c.page_of.result.now
    (ap (λ (f : Frame). f.page)
    (sym
    (c.frame.ensures took.frame took.frame
    (frame_has q took.silently.does.known b took.frame took.knows))) ∙ c.page_of.ensures) cut))
