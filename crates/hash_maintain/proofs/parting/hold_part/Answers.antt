use Rattle.std.proofs.Common.{sym, ap, subst, ◌∙◌, arith}
use Rattle.latch_space.specs.Hands.{is_held}
use Rattle.latch_space.specs.Passes.{view, Lacks}
use Rattle.latch_space.specs.Takes.{DidTakeAfter}
use Rattle.index_law.specs.Rightness.{IsRight}
use Rattle.forest_law.specs.Law.{IsLawful}
use Rattle.forest_law.specs.Numbers.{part_id}
use Rattle.forest_law.specs.References.{IsReference}
use Rattle.forest_world.specs.Held.{shape_of_pass}
use Rattle.hash_maintain.proofs.PassLemmas.{knows_forest, unheld_lacks, held_not_lacked}
use Rattle.hash_maintain.proofs.PartLemmas.{takes_part}
use Rattle.hash_maintain.proofs.parting.hold_part.Goals as goal

pub returns-then-holds-clause-took : goal.returns-then-holds-clause-took
returns-then-holds-clause-took g c = tt

pub returns-then-holds-clause-held : goal.returns-then-holds-clause-held
returns-then-holds-clause-held g c = λ lacks. let p = c.args.pass.now in
    held_not_lacked (view p).held (part_id (shape_of_pass p) c.args.part)
    (sym (c.holds.ensures ∙ ap (is_held (view p).held) c.part_number-number.ensures)
    ∙ c.if-holds.true) lacks

pub take-requires-clause-lacks : goal.take-requires-clause-lacks
take-requires-clause-lacks g c = let p = c.args.pass.now in
    let all = p.all in let there = c.requires.there in
    let objects = (knows_forest p c.fits.ensures).objects in
    subst (Lacks p) (sym c.part_number-number.ensures)
    (unheld_lacks (view p).held (part_id (shape_of_pass p) c.args.part)
    (omega (arith, all.0, objects, there))
    (sym (c.holds.ensures ∙ ap (is_held (view p).held) c.part_number-number.ensures)
    ∙ c.if-holds.false))

pub take-requires-clause-room : goal.take-requires-clause-room
take-requires-clause-room g c = let p = c.args.pass.now in
    let all = p.all in let there = c.requires.there in
    let objects = (knows_forest p c.fits.ensures).objects in
    c.requires.room
    (unheld_lacks (view p).held (part_id (shape_of_pass p) c.args.part)
    (omega (arith, all.0, objects, there))
    (sym (c.holds.ensures ∙ ap (is_held (view p).held) c.part_number-number.ensures)
    ∙ c.if-holds.false))

pub returns-clause-took : goal.returns-clause-took
returns-clause-took g c = let p = c.args.pass.now in
    let all = p.all in let there = c.requires.there in
    let objects = (knows_forest p c.fits.ensures).objects in
    takes_part p c.take.new.pass c.args.part
    (subst (λ k. DidTakeAfter IsLawful IsRight IsReference p k c.take.new.pass)
    c.part_number-number.ensures c.take.ensures.did) c.requires.there
    (unheld_lacks (view p).held (part_id (shape_of_pass p) c.args.part)
    (omega (arith, all.0, objects, there))
    (sym (c.holds.ensures ∙ ap (is_held (view p).held) c.part_number-number.ensures)
    ∙ c.if-holds.false))
