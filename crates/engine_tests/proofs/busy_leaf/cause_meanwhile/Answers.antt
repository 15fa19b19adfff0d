use Rattle.engine_tests.proofs.EmptyLemmas.{none_has_frame, none_has_table}
use Rattle.engine_tests.proofs.busy_leaf.cause_meanwhile.Goals as goal

pub descend-leaf-requires-clause-frames : goal.descend-leaf-requires-clause-frames
descend-leaf-requires-clause-frames g c = none_has_frame c.args.space.now c.args.other.now
    c.requires.forest c.requires.other c.requires.none

pub descend-leaf-requires-clause-tables : goal.descend-leaf-requires-clause-tables
descend-leaf-requires-clause-tables g c = none_has_table c.args.space.now c.args.other.now
    c.requires.forest c.requires.other c.requires.none
