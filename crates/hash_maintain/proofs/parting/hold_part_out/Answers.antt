use Rattle.hash_maintain.proofs.HoldLemmas.{holds_after, out_after}
use Rattle.hash_maintain.proofs.parting.hold_part_out.Goals as goal

pub part_out-requires-clause-held : goal.part_out-requires-clause-held
part_out-requires-clause-held g c = holds_after c.args.pass.now c.args.part c.hold_part.new.pass
    c.hold_part.result c.hold_part.ensures.took c.hold_part.ensures.held c.hold_part.ensures.found
    c.requires.place

pub returns-clause-out : goal.returns-clause-out
returns-clause-out g c = out_after c.args.pass.now c.args.part c.hold_part.new.pass
    c.part_out.new.pass c.part_out.result c.hold_part.result c.hold_part.ensures.took
    c.hold_part.ensures.held c.hold_part.ensures.found c.requires.place c.part_out.ensures.out
