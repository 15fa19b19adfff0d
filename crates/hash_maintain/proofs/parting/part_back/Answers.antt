use Rattle.std.proofs.Common.{ap, refl, ◌∙◌, set, Some}
use lib.ListN.{get_elem?}
use Rattle.latch_space.specs.Hands.{has_value, is_held}
use Rattle.latch_space.specs.Passes.{view, values}
use Rattle.forest_law.specs.declared.objects.Object.TheVariants as object
use Rattle.hash_maintain.proofs.PartLemmas.{puts_part_back}
use Rattle.hash_maintain.proofs.parting.part_back.Goals as goal

pub put_back-requires-clause-held : goal.put_back-requires-clause-held
put_back-requires-clause-held c =
    ap (λ k. is_held (view c.args.pass.now).held k) c.part_number-number.ensures
    ∙ ap has_value c.requires.out.1.held.1

pub put_back-requires-clause-out : goal.put_back-requires-clause-out
put_back-requires-clause-out c =
    ap (get_elem? (values c.args.pass.now)) c.part_number-number.ensures ∙ c.requires.out.1.out

pub returns-clause-back : goal.returns-clause-back
returns-clause-back c = let p = c.args.pass.now in
    puts_part_back p c.put_back.new.self c.args.part c.put_back.ensures.seat
    (Some (object.Part c.args.partition))
    (c.put_back.ensures.values
    ∙ ap (λ k. set (values p) k (Some (object.Part c.args.partition)))
    c.part_number-number.ensures) c.args.partition refl
