use Rattle.std.proofs.Common.{◌≡◌, ℕ, Option, Some, sym, subst}
use Rattle.latch_space.specs.Passes.{view}
use Rattle.forest_world.specs.Held.{TreePass}
use Rattle.buffer_pool.specs.Parts.{KnowsPartIf, GivesPartIf}
use Rattle.buffer_pool.proofs.PartLemmas.{gave_part, part_has}
use Rattle.buffer_pool.proofs.parts.give_part_if.Goals as goal
use Rattle.buffer_pool.proofs.parts.give_part_if.Goals.{in-Some, in_default}

-- the partition that there is, is held
held_one : (p : TreePass) (part : Option ℕ) (k : ℕ) → part ≡ Some k → KnowsPartIf (view p) part
    → KnowsPartIf (view p) (Some k)
held_one p part k is held = subst (KnowsPartIf (view p)) is held

pub give_part_back-requires-clause-there : goal.give_part_back-requires-clause-there
give_part_back-requires-clause-there c =
    (held_one c.args.pass.now c.args.part c.in-Some.part c.in-Some.is c.requires.held).0

pub give_part_back-requires-clause-held : goal.give_part_back-requires-clause-held
give_part_back-requires-clause-held c = let p = c.args.pass.now in
    let held = held_one p c.args.part c.in-Some.part c.in-Some.is c.requires.held in
    (held.1, part_has p c.in-Some.part held.1 c.requires.known held.2)

pub returns-clause-gave : goal.returns-clause-gave
returns-clause-gave c = let p = c.args.pass.now in elim c.match-part.branch [
  | in-Some w ↦ subst (λ o. GivesPartIf p o c.match-part.pass) (sym w.in-Some.is)
      (subst (GivesPartIf p (Some w.in-Some.part)) (sym w.pass-is)
      (gave_part p w.give_part_back.new.pass w.in-Some.part c.requires.known
      w.give_part_back.ensures.gave))
  | in_default w ↦ subst (λ o. GivesPartIf p o c.match-part.pass) (sym w.in_default.is) w.pass-is
]
