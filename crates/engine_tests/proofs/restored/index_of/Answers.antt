use Rattle.std.proofs.Common.{ap, ◌∙◌}
use Rattle.index_page.specs.Page.{PageRows}
use Rattle.buffer_pool.proofs.CallLemmas.{frame_has}
use Rattle.tree_descent.proofs.PageLemmas.{same_page}
use Rattle.engine_tests.proofs.restored.index_of.Goals as goal

pub returns : goal.returns
returns g c = λ i h. ap (λ z. z.index) c.head.ensures
    ∙ (ap (λ (x : PageRows). x.head.index)
    (same_page h.frame c.frame.result.now h.is.page c.in-Some.page
    (c.frame.ensures h.frame h.frame
    (frame_has c.args.pass.now c.requires.known c.args.block h.frame h.knows)) h.is.paged
    c.in-Some.is)
    ∙ h.is.index)
