-- The first line and those after it, or the last line.
use Rattle.std.proofs.Common.{◌≡◌, length, sym, ap, arith}
use Rattle.std.proofs.lemmas.Bool.{eqb-false}
use Rattle.script.proofs.Cuts.{lines_cut, lines_last, lines_none}
use Rattle.script.proofs.pieces.LinesIterator.next.Goals as goal

pub returns-in-Some-clause-steps : goal.returns-in-Some-clause-steps
returns-in-Some-clause-steps c = lines_cut c.args.self.now.rest.now c.in-Some.line.now c.in-Some.after.now c.in-Some.ensures

pub returns-in-Some-clause-goes : goal.returns-in-Some-clause-goes
returns-in-Some-clause-goes c =
    let fewer = ap length (lines_cut c.args.self.now.rest.now c.in-Some.line.now c.in-Some.after.now c.in-Some.ensures) in
    record { on = λ _. (tt, tt, omega (arith, fewer)); keeps = tt; rests = λ _. tt }

pub returns-in-None-clause-steps : goal.returns-in-None-clause-steps
returns-in-None-clause-steps c =
    let some : length c.args.self.now.rest.now ≡ 0 → ⊥ = eqb-false _ _ (sym c.if-is_empty.ensures) in
    lines_last c.args.self.now.rest.now (omega arith) c.in-None.ensures

pub returns-in-None-clause-goes : goal.returns-in-None-clause-goes
returns-in-None-clause-goes c =
    let fewer = ap length (returns-in-None-clause-steps c) in
    record { on = λ _. (tt, tt, omega (arith, fewer)); keeps = tt; rests = λ _. tt }

pub returns-then-is_empty-clause-steps : goal.returns-then-is_empty-clause-steps
returns-then-is_empty-clause-steps c = let none = lines_none c.args.self.now.rest.now c.if-is_empty.ensures in (none, none)
