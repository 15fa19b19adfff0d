use Rattle.index_page.specs.Store.{rows_in}
use Rattle.std.proofs.Common.{◌∙◌}
use Rattle.index_page.proofs.heap.Heap.copy.Goals as goal

pub invariant_of-result : goal.invariant_of-result
invariant_of-result c =
    rw (c.in_ok-copy.ensures, c.in_ok-copy-2.ensures) c.self.invariant

pub returns : goal.returns
returns c = (λ i. rows_in (c.in_ok-copy.ensures i) (c.in_ok-copy-2.ensures i).live) ∙ c.self.view_is
