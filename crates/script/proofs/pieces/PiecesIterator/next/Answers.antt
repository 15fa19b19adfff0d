-- The first piece and those after it, or the last piece.
use Rattle.std.proofs.Common.{length, ap, arith}
use Rattle.script.proofs.Cuts.{pieces_cut, pieces_whole}
use Rattle.script.proofs.pieces.PiecesIterator.next.Goals as goal

pub returns-in-Some-clause-steps : goal.returns-in-Some-clause-steps
returns-in-Some-clause-steps c =
    rw c.in_ok-rest.was (pieces_cut c.args.self.now.separator c.in_ok-rest.rest.now c.in-Some.piece.now c.in-Some.after.now c.in-Some.ensures)

pub returns-in-Some-clause-goes : goal.returns-in-Some-clause-goes
returns-in-Some-clause-goes c =
    let fewer = ap length (returns-in-Some-clause-steps c) in
    record { on = λ _. (tt, tt, omega (arith, fewer)); keeps = tt; rests = λ _. tt }

pub returns-in-None-clause-steps : goal.returns-in-None-clause-steps
returns-in-None-clause-steps c = rw c.in_ok-rest.was (pieces_whole c.args.self.now.separator c.in_ok-rest.rest.now c.in-None.ensures)

pub returns-in-None-clause-goes : goal.returns-in-None-clause-goes
returns-in-None-clause-goes c =
    let fewer = ap length (returns-in-None-clause-steps c) in
    record { on = λ _. (tt, tt, omega (arith, fewer)); keeps = tt; rests = λ _. tt }

pub returns-in_err-rest-clause-goes : goal.returns-in_err-rest-clause-goes
returns-in_err-rest-clause-goes c = rw c.from_residual.ensures (record { on = λ _. tt; keeps = tt; rests = λ _. tt })
