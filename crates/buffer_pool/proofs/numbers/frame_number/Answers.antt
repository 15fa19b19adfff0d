use Rattle.std.proofs.Common.{sym, ap, ◌∙◌}
use Rattle.latch_law.specs.declared.knows.Terms.{Terms}
use Rattle.index_law.specs.Shape.{Shape}
use Rattle.forest_law.specs.Numbers.{frame_id}
use Rattle.forest_world.specs.Held.{shape_of_pass}
use Rattle.buffer_pool.proofs.SpaceLemmas.{objects_of, number_fits}
use Rattle.buffer_pool.proofs.numbers.frame_number.Goals as goal

pub frame_id-requires : goal.frame_id-requires
frame_id-requires c = let own = c.requires.own in let space = c.args.space.now in
    number_fits (shape_of_pass c.args.pass.now) c.shape.result.now c.args.block space.terms.objects
    (c.shape.ensures ∙ ap (λ (t : Terms Shape). t.shape) (sym own.1.1)) c.requires.there
    (ap (λ (t : Terms Shape). t.objects) (sym own.1.1) ∙ objects_of space c.args.pass.now own.0
    own.1)
    space.small.1

pub returns : goal.returns
returns c =
    c.frame_id.ensures
    ∙ ap (λ (s : Shape). frame_id s c.args.block)
    (c.shape.ensures ∙ ap (λ (t : Terms Shape). t.shape) (sym c.requires.own.1.1))
