use Rattle.std.proofs.Common.{sym, subst, ap, refl, ◌∙◌, set, None}
use Rattle.latch_space.specs.Passes.{Shows, values}
use Rattle.forest_law.specs.declared.objects.Object.{Object}
use Rattle.forest_law.specs.declared.objects.Object.TheVariants as object
use Rattle.forest_law.specs.Numbers.{part_id}
use Rattle.forest_world.specs.Held.{shape_of_pass}
use Rattle.hash_maintain.proofs.PartLemmas.{one_shown, takes_part_out}
use Rattle.hash_maintain.proofs.parting.part_out.Goals as goal

pub take_out-requires : goal.take_out-requires
take_out-requires c = let h = c.requires.held in
    subst (λ k. (x : Object) × Shows c.args.pass.now k x) (sym c.part_number-number.ensures)
    (object.Part h.1, h.2.value)

pub into_part-requires : goal.into_part-requires
into_part-requires c = let h = c.requires.held in let p = c.args.pass.now in (
  h.1,
  one_shown p (part_id (shape_of_pass p) c.args.part) c.take_out.result (object.Part h.1)
      (subst (λ k. Shows p k c.take_out.result) c.part_number-number.ensures
      c.take_out.ensures.value) h.2.value,
)

pub returns-clause-out : goal.returns-clause-out
returns-clause-out c = let p = c.args.pass.now in let number = c.part_number-number.ensures in
    takes_part_out p c.take_out.new.self c.args.part c.take_out.ensures.seat None
    (c.take_out.ensures.values ∙ ap (λ k. set (values p) k None) number) c.into_part.result refl
    (subst (Shows p (part_id (shape_of_pass p) c.args.part)) c.into_part.ensures
    (subst (λ k. Shows p k c.take_out.result) number c.take_out.ensures.value))
