use Rattle.std.proofs.Common.{sym, ap, ◌∙◌}
use Rattle.latch_law.specs.declared.knows.Terms.{Terms}
use Rattle.index_law.specs.Shape.{Shape}
use Rattle.forest_law.specs.Numbers.{part_id}
use Rattle.forest_world.specs.Held.{shape_of_pass}
use Rattle.hash_maintain.proofs.PassLemmas.{knows_forest, part_fits}
use Rattle.hash_maintain.proofs.parting.part_number.Goals as goal

pub part_id-requires : goal.part_id-requires
part_id-requires c = let own = c.requires.own in let space = c.args.space.now in
    part_fits (shape_of_pass c.args.pass.now) c.shape.result.now c.args.part space.terms.objects
    (c.shape.ensures ∙ ap (λ (t : Terms Shape). t.shape) (sym own.1)) c.requires.there
    (ap (λ (t : Terms Shape). t.objects) (sym own.1)
    ∙ (knows_forest c.args.pass.now c.fits.ensures).objects) space.small.1

pub returns : goal.returns
returns c =
    c.part_id.ensures
    ∙ ap (λ (s : Shape). part_id s c.args.part)
    (c.shape.ensures ∙ ap (λ (t : Terms Shape). t.shape) (sym c.requires.own.1))
