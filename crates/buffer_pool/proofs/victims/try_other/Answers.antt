use Rattle.buffer_pool.proofs.VictimLemmas.{took_too, missed_frame, passed_frame}
use Rattle.buffer_pool.proofs.victims.try_other.Goals as goal

pub returns-then-holds_frame-clause-did : goal.returns-then-holds_frame-clause-did
returns-then-holds_frame-clause-did c = passed_frame c.args.pass.now c.args.block c.requires.known
    (c.holds_frame.ensures.held c.if-holds_frame.true)

pub returns-in-Taken-clause-did : goal.returns-in-Taken-clause-did
returns-in-Taken-clause-did c = took_too c.args.pass.now c.try_frame.new.pass c.args.block
    c.requires.known (c.holds_frame.ensures.lacks c.if-holds_frame.false) c.in-Taken.ensures.did.0

pub returns-in-Busy-clause-did : goal.returns-in-Busy-clause-did
returns-in-Busy-clause-did c = missed_frame c.args.pass.now c.try_frame.new.pass c.args.block
    c.in-Busy.holder c.requires.known c.in-Busy.ensures.did

pub returns-in-Taken-clause-own : goal.returns-in-Taken-clause-own
returns-in-Taken-clause-own c = c.try_frame.ensures.own

pub returns-in-Taken-clause-fits : goal.returns-in-Taken-clause-fits
returns-in-Taken-clause-fits c = c.try_frame.ensures.fits

pub returns-in-Busy-clause-own : goal.returns-in-Busy-clause-own
returns-in-Busy-clause-own c = c.try_frame.ensures.own

pub returns-in-Busy-clause-fits : goal.returns-in-Busy-clause-fits
returns-in-Busy-clause-fits c = c.try_frame.ensures.fits

pub try_frame-requires-clause-lacks : goal.try_frame-requires-clause-lacks
try_frame-requires-clause-lacks c = c.holds_frame.ensures.lacks c.if-holds_frame.false
