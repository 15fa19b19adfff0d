use Rattle.std.proofs.Common.{sym, ap, subst, ◌∙◌}
use Rattle.index_page.specs.Search.{Finds}
use Rattle.forest_law.specs.State.{fields_for}
use Rattle.forest_world.specs.Held.{shape_of_pass}
use Rattle.page_view.proofs.SpotLemmas.{own_spot}
use Rattle.leaf_search.proofs.down.own_spot.Goals as goal

pub returns-in-Ge : goal.returns-in-Ge
returns-in-Ge c = λ h. subst (λ m. Finds m c.args.key.now.tuple h.is.page.rows c.args.spot.now)
    c.in-Ge.is (c.requires.finds h)

pub returns-in-Le : goal.returns-in-Le
returns-in-Le c = λ h. own_spot c.args.key.now.tuple h.is.page c.args.spot.now
    (c.leaf_is_in_order.ensures h)
    (c.requires.fields
    ∙ sym (h.order.fields ∙ ap (fields_for (shape_of_pass c.args.pass.now)) h.is.index))
    (subst (λ m. Finds m c.args.key.now.tuple h.is.page.rows c.args.spot.now) c.in-Le.is
    (c.requires.finds h))
    (λ all. c.if-spot-count.true (all ∙ sym c.count.ensures))
