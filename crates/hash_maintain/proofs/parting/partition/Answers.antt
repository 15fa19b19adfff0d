-- hash_maintain/proofs/parting/partition/Answers.antt
use Rattle.std.proofs.Common.{sym, subst, ◌∙◌}
use Rattle.latch_space.specs.Passes.{Shows}
use Rattle.forest_law.specs.declared.objects.Object.{Object}
use Rattle.forest_law.specs.declared.objects.Object.TheVariants as object
use Rattle.forest_law.proofs.ObjectLemmas.{same_part}
use Rattle.forest_law.specs.Numbers.{part_id}
use Rattle.forest_world.specs.Held.{shape_of_pass}
use Rattle.hash_maintain.proofs.PartLemmas.{one_shown}
use Rattle.hash_maintain.proofs.parting.partition.Goals as goal

pub look-requires : goal.look-requires
look-requires c = let h = c.requires.held in
    subst (λ k. (x : Object) × Shows c.args.pass.now k x) (sym c.part_number.ensures)
    (object.Part h.1, h.2.value)

pub as_part-requires : goal.as_part-requires
as_part-requires c = let h = c.requires.held in let p = c.args.pass.now in (
  h.1,
  one_shown p (part_id (shape_of_pass p) c.args.part) c.look.result.now (object.Part h.1)
      (subst (λ k. Shows p k c.look.result.now) c.part_number.ensures c.look.ensures) h.2.value,
)

pub returns : goal.returns
returns c = λ x y has. let p = c.args.pass.now in
    same_part c.as_part.result.now y
    (sym c.as_part.ensures
    ∙ one_shown p (part_id (shape_of_pass p) c.args.part) c.look.result.now (object.Part y)
    (subst (λ k. Shows p k c.look.result.now) c.part_number.ensures c.look.ensures) has.value)
