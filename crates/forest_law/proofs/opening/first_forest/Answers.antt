use Rattle.std.proofs.Common.{ap, subst, ◌++◌, ◌∷◌, [], ◌∙◌}
use Rattle.index_law.specs.Shape.{Shape}
use Rattle.forest_law.specs.declared.objects.Object.TheVariants as object
use Rattle.forest_law.specs.Opening.{first_frame, first_tree, AddsEach}
use Rattle.forest_law.proofs.FirstLemmas.{first_objects_are}
use Rattle.forest_law.proofs.opening.first_forest.Goals as goal

pub returns : goal.returns
returns c =
    first_objects_are c.args.layout.now c.args.clock c.in_ok-first_pool.field-0
    c.push.new.self.items c.push_trees.new.objects.items c.push_parts.new.objects.items
    c.push_frames.new.objects.items
    (c.in_ok-push.ensures.items
    ∙ ap (λ z. z ++ object.Pool c.in_ok-first_pool.field-0 ∷ []) c.new-objects.ensures.items)
    c.in_ok-first_pool.ensures
    (subst (λ (z : Shape). AddsEach c.push.new.self.items c.push_trees.new.objects.items z.indexes
    (λ i. object.Tree (first_tree i))) c.layout.view_is c.in_ok-push_trees.ensures)
    c.in_ok-push_parts.ensures
    (subst (λ (z : Shape). AddsEach c.push_parts.new.objects.items c.push_frames.new.objects.items
    z.blocks (λ b. object.Frame (first_frame c.args.clock))) c.layout.view_is
    c.in_ok-push_frames.ensures)
