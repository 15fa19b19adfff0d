use Rattle.std.proofs.Common.{◌≡◌, ap, sym, ◌∙◌, Some, None}
use Rattle.index_page.specs.Page.{PageRows}
use Rattle.forest_law.specs.declared.objects.Frame.{Frame}
use Rattle.buffer_pool.proofs.CallLemmas.{frame_has}
use Rattle.tree_descent.proofs.PageLemmas.{same_page}
use Rattle.tree_neighbours.specs.Sides.{page_on}
use Rattle.tree_neighbours.proofs.beside.page_beside.Goals as goal

pub frame-requires-clause-held : goal.frame-requires-clause-held
frame-requires-clause-held c = let held = c.requires.held.1 in (
  held.frame,
  held.frame,
  frame_has c.args.pass.now c.requires.known c.args.block held.frame held.knows,
)

no_page : (page : PageRows) → None ≡ Some page → ⊥
no_page page e = absurd cc

pub unreachable-requires : goal.unreachable-requires
unreachable-requires c = let held = c.requires.held.1 in
    no_page held.is.page
    (sym c.in-None.is
    ∙ (ap (λ (f : Frame). f.page)
    (c.frame.ensures held.frame held.frame
    (frame_has c.args.pass.now c.requires.known c.args.block held.frame held.knows))
    ∙ held.is.paged))

pub returns : goal.returns
returns c = λ i h. c.page_on.ensures
    ∙ ap (page_on c.args.side)
    (same_page h.frame c.frame.result.now h.is.page c.in-Some.page
    (c.frame.ensures h.frame h.frame
    (frame_has c.args.pass.now c.requires.known c.args.block h.frame h.knows)) h.is.paged
    c.in-Some.is)
