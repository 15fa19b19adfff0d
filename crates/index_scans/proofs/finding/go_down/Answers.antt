use Rattle.std.proofs.Common.{◌≤◌, length, refl, sym, subst, arith}
use Rattle.key_tuple.specs.declared.mode.Mode.TheVariants.{Ge}
use Rattle.search_info.specs.Passes.{knowledge}
use Rattle.forest_law.specs.State.{fields_for}
use Rattle.forest_world.specs.Held.{shape_of_pass}
use Rattle.leaf_search.specs.Downs.{figures_at}
use Rattle.leaf_search.proofs.DownLemmas.{taught_leaf}
use Rattle.leaf_search.proofs.FigureLemmas.{figures_bounded}
use Rattle.tree_neighbours.proofs.PairLemmas.{leaf_page}
use Rattle.index_scans.proofs.FirstLemmas.{taught_first}
use Rattle.index_scans.proofs.finding.go_down.Goals as goal

pub learn_leaf-note-requires-clause-leaf : goal.learn_leaf-note-requires-clause-leaf
learn_leaf-note-requires-clause-leaf g c = leaf_page c.args.pass.now c.descend-leaf.new.pass
    c.args.index Ge c.args.from.now.fields c.descend-leaf.result c.descend-leaf.ensures.went

pub learn_leaf-note-requires-clause-figures : goal.learn_leaf-note-requires-clause-figures
learn_leaf-note-requires-clause-figures g c =
    let went = c.descend-leaf.ensures.went in let q = c.descend-leaf.new.pass in
    let from = c.args.from.now.fields in
    let few : length from ≤ fields_for (shape_of_pass q) c.args.index =
    subst (λ t. length from ≤ fields_for t.shape c.args.index) (sym c.descend-leaf.ensures.own.1.1)
    c.requires.fields in
    let f = figures_bounded Ge from went.is.page.is.page.rows c.descend-leaf.result.spot
    (length from) c.is_within_limits.ensures.short refl went.is.finds in
    let low = f.low_fields in let up = f.up_fields in record {
      low_fields = omega (arith, low, few);
      up_fields = omega (arith, up, few);
      low_bytes = f.low_bytes;
      up_bytes = f.up_bytes;
    }

pub leaf_is_in_order-requires-clause-leaf : goal.leaf_is_in_order-requires-clause-leaf
leaf_is_in_order-requires-clause-leaf g c =
    let leaf = c.descend-leaf.result in
    taught_leaf c.descend-leaf.new.pass c.learn_leaf-note.new.pass (knowledge c.args.learn.now)
    (knowledge c.learn_leaf-note.new.learn) c.args.index leaf.block (figures_at leaf.spot)
    c.learn_leaf-note.result c.learn_leaf-note.ensures.taught

pub returns-clause-holds : goal.returns-clause-holds
returns-clause-holds g c =
    taught_first c.args.pass.now c.descend-leaf.new.pass c.learn_leaf-note.new.pass
    (knowledge c.args.learn.now) (knowledge c.learn_leaf-note.new.learn) c.args.index
    c.args.from.now.fields c.descend-leaf.result c.learn_leaf-note.result
    c.descend-leaf.ensures.went c.learn_leaf-note.ensures.taught c.leaf_is_in_order.ensures
