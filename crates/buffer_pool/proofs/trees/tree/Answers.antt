use Rattle.std.proofs.Common.{sym, subst, ◌∙◌}
use Rattle.latch_space.specs.Passes.{Shows}
use Rattle.forest_law.specs.declared.objects.Object.{Object}
use Rattle.forest_law.specs.declared.objects.Object.TheVariants as object
use Rattle.forest_law.specs.Numbers.{tree_id}
use Rattle.forest_law.proofs.ObjectLemmas.{same_tree}
use Rattle.buffer_pool.proofs.FrameLemmas.{one_shown}
use Rattle.buffer_pool.proofs.trees.tree.Goals as goal

pub look-requires : goal.look-requires
look-requires c = let h = c.requires.held in
    subst (λ k. (x : Object) × Shows c.args.pass.now k x) (sym c.tree_number.ensures)
    (object.Tree h.1, h.2.value)

pub as_tree-requires : goal.as_tree-requires
as_tree-requires c = let h = c.requires.held in let p = c.args.pass.now in (
  h.1,
  one_shown p (tree_id c.args.index) c.look.result.now (object.Tree h.1)
      (subst (λ k. Shows p k c.look.result.now) c.tree_number.ensures c.look.ensures) h.2.value,
)

pub returns : goal.returns
returns c = λ t u has. let p = c.args.pass.now in
    same_tree c.as_tree.result u
    (sym c.as_tree.ensures
    ∙ one_shown p (tree_id c.args.index) c.look.result.now (object.Tree u)
    (subst (λ k. Shows p k c.look.result.now) c.tree_number.ensures c.look.ensures) has.value)
