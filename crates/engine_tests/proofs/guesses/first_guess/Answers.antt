use Rattle.engine_tests.proofs.EmptyLemmas.{none_has_frame, none_has_table}
use Rattle.engine_tests.proofs.guesses.first_guess.Goals as goal

pub guess-requires-clause-frames : goal.guess-requires-clause-frames
guess-requires-clause-frames g c = none_has_frame c.args.space.now c.args.pass.now
    c.requires.forest c.requires.own c.requires.nothing

pub guess-requires-clause-tables : goal.guess-requires-clause-tables
guess-requires-clause-tables g c = none_has_table c.args.space.now c.args.pass.now
    c.requires.forest c.requires.own c.requires.nothing
