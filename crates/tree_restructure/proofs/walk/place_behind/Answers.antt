use Rattle.std.proofs.Common.{subst, Option, ℕ}
use Rattle.std.specs.List.{slice_get}
use Rattle.index_page.specs.Rows.{IsAt}
use Rattle.tree_restructure.proofs.WalkLemmas.{next_one, none_next}
use Rattle.tree_restructure.proofs.walk.place_behind.Goals as goal

pub returns-in-Some : goal.returns-in-Some
returns-in-Some c = λ i at. next_one c.args.page.now.rows i c.in-Some.place _
    c.is_in_order.ensures.places
    (subst (λ (o : Option ℕ). IsAt c.args.page.now.rows o (slice_get c.args.page.now.rows i))
    c.in-Some.is at) c.next.ensures

pub returns-in-None : goal.returns-in-None
returns-in-None c = λ i at. none_next c.args.page.now.rows i
    (subst (λ (o : Option ℕ). IsAt c.args.page.now.rows o (slice_get c.args.page.now.rows i))
    c.in-None.is at)
