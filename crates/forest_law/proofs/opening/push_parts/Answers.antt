use Rattle.std.proofs.Common.{ap, ◌∙◌}
use Rattle.hash_partition.specs.Part.{empty_part}
use Rattle.index_law.specs.Shape.{Shape}
use Rattle.forest_law.specs.declared.objects.Object.TheVariants as object
use Rattle.forest_law.proofs.AddsLemmas.{adds_none, adds_one, adds_all}
use Rattle.forest_law.proofs.opening.push_parts.Goals as goal

pub loop-part-preserved : goal.loop-part-preserved
loop-part-preserved c =
    adds_one c.args.objects.now.items
    (λ k. object.Part (empty_part c.args.layout.now.nodes c.args.layout.now.blocks))
    c.loop-part.objects.items c.push.new.self.items c.loop-part._part
    (object.Part c.in_ok-partition.partition) c.loop-part.invariant
    (ap (λ z. object.Part z) (c.in_ok-partition.ensures.ok
    ∙ ap (λ (z : Shape). empty_part z.nodes z.blocks) c.layout.view_is))
    c.in_ok-push.ensures.items

pub loop-part-init : goal.loop-part-init
loop-part-init c =
    adds_none c.args.objects.now.items
    (λ k. object.Part (empty_part c.args.layout.now.nodes c.args.layout.now.blocks))

pub returns : goal.returns
returns c =
    adds_all c.args.objects.now.items
    (λ k. object.Part (empty_part c.args.layout.now.nodes c.args.layout.now.blocks))
    c.loop-part.objects.items c.loop-part._part c.layout.inside.parts c.args.layout.now.parts
    c.loop-part.invariant c.loop-part.auto._part-end c.loop-part-test.false
    (ap (λ (z : Shape). z.parts) c.layout.view_is)
