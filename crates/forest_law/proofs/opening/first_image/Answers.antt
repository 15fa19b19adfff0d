use Rattle.std.proofs.Common.{◌≡◌, Some, None, subst}
use Rattle.index_law.specs.Shape.{Shape}
use Rattle.forest_law.specs.Numbers.{shape_of_layout}
use Rattle.forest_law.specs.Opening.{first_image}
use Rattle.forest_law.proofs.FirstLemmas.{root_is}
use Rattle.forest_law.proofs.opening.first_image.Goals as goal

pub returns-in_ok-page : goal.returns-in_ok-page
returns-in_ok-page c =
    subst (λ (z : Shape). Some (record { page = c.in_ok-page.page; low = None; high = None })
    ≡ first_image z c.args.n) c.layout.view_is
    (root_is (shape_of_layout c.layout.inside) c.args.n c.index.result.now c.in_ok-page.page
    c.if-n-layout.true c.layout.invariant.fields c.index.ensures c.in_ok-page.ensures)
