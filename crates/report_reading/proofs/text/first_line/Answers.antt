-- A line up to the first line feed, or all bytes.
use Rattle.std.proofs.Common.{◌≡◌, length, sym, arith}
use Rattle.std.proofs.lemmas.Bool.{eqb-false}
use Rattle.report_reading.proofs.LineLemmas.{line_there, line_whole}
use Rattle.report_reading.proofs.text.first_line.Goals as goal

pub returns-in-Some : goal.returns-in-Some
returns-in-Some c = line_there c.args.bytes.now c.in-Some.at c.in-Some.ensures.0 c.in-Some.ensures.1

pub returns-in-None : goal.returns-in-None
returns-in-None c =
    let some : length c.args.bytes.now ≡ 0 → ⊥ = eqb-false _ _ (sym c.if-is_empty.ensures) in
    line_whole c.args.bytes.now (omega arith) c.in-None.ensures
