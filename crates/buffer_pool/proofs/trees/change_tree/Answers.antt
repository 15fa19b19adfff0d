use Rattle.std.proofs.Common.{sym, subst, ap, ◌∙◌, Some, None}
use lib.ListN.{get_elem?}
use Rattle.atomic_table.proofs.Lists.{set_here}
use Rattle.list_facts.proofs.Places.{inside}
use Rattle.latch_space.specs.Hands.{has_value, is_held}
use Rattle.latch_space.specs.Has.{Swapped}
use Rattle.latch_space.specs.Passes.{view, values, Shows}
use Rattle.latch_space.proofs.Pointwise.{swapped_of}
use Rattle.forest_law.specs.declared.objects.Object.{Object}
use Rattle.forest_law.specs.declared.objects.Object.TheVariants as object
use Rattle.forest_law.specs.Numbers.{tree_id}
use Rattle.buffer_pool.proofs.FrameLemmas.{one_shown}
use Rattle.buffer_pool.proofs.TreeLemmas.{changes_tree}
use Rattle.buffer_pool.proofs.trees.change_tree.Goals as goal

pub take_out-requires : goal.take_out-requires
take_out-requires c = let h = c.requires.held in
    subst (λ k. (x : Object) × Shows c.args.pass.now k x) (sym c.tree_number-number.ensures)
    (object.Tree h.1, h.2.value)

pub into_tree-old-requires : goal.into_tree-old-requires
into_tree-old-requires c = let h = c.requires.held in let p = c.args.pass.now in (
  h.1,
  one_shown p (tree_id c.args.index) c.take_out.result (object.Tree h.1)
      (subst (λ k. Shows p k c.take_out.result) c.tree_number-number.ensures
      c.take_out.ensures.value) h.2.value,
)

pub put_back-requires-clause-held : goal.put_back-requires-clause-held
put_back-requires-clause-held c = let h = c.requires.held in
    ap (λ s. is_held s.me.0.held c.tree_number-number.result) c.take_out.ensures.seat.0
    ∙ (ap (λ k. is_held (view c.args.pass.now).held k) c.tree_number-number.ensures
    ∙ ap has_value h.2.held.1)

pub put_back-requires-clause-out : goal.put_back-requires-clause-out
put_back-requires-clause-out c = let p = c.args.pass.now in let k = c.tree_number-number.result in
    ap (λ vs. get_elem? vs k) c.take_out.ensures.values
    ∙ set_here (values p) k None
    (inside (values p) k (Some c.take_out.result) c.take_out.ensures.value)

pub returns-clause-changed : goal.returns-clause-changed
returns-clause-changed c = let p = c.args.pass.now in let t = c.take_out.ensures in
    let b = c.put_back.ensures in
    changes_tree p c.put_back.new.self c.args.index c.args.tree c.requires.there
    (subst (λ k. Swapped p c.put_back.new.self k (object.Tree c.args.tree))
    c.tree_number-number.ensures
    (swapped_of p c.take_out.new.self c.put_back.new.self c.tree_number-number.result
    c.take_out.result (object.Tree c.args.tree) t.value t.seat t.values b.seat b.values))
