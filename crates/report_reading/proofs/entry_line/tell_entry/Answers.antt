-- Three words, and those of the change.
use Rattle.std.proofs.Common.{refl, sym}
use Rattle.std.proofs.lemmas.Result.{err_from_is_err_and}
use Rattle.script.specs.Pieces.{pieces_left}
use Rattle.report_reading.proofs.ToldLemmas.{three_words, entry_of, no_change}
use Rattle.report_reading.proofs.entry_line.tell_entry.Goals as goal

pub returns-in_err-change : goal.returns-in_err-change
returns-in_err-change c =
    let p = err_from_is_err_and c.from_residual.result c.from_residual.ensures.1 in
    let words = three_words (pieces_left c.args.words) (pieces_left c.next.new.self) (pieces_left c.next-2.new.self) (pieces_left c.next-3.new.self) c.in-Some._number.now c.in-Some-next.lane.now c.in-Some-next-2.line.now
    c.in-Some.ensures.steps c.in-Some-next.ensures.steps c.in-Some-next-2.ensures.steps in
    rw (p.1, p.2, words) (no_change c.args.fields c.in-Some._number.now c.in-Some-next.lane.now c.in-Some-next-2.line.now (pieces_left c.next-3.new.self) c.in_err-change.field-0.0 c.in_err-change.ensures)

pub returns : goal.returns
returns c =
    let words = three_words (pieces_left c.args.words) (pieces_left c.next.new.self) (pieces_left c.next-2.new.self) (pieces_left c.next-3.new.self) c.in-Some._number.now c.in-Some-next.lane.now c.in-Some-next-2.line.now
    c.in-Some.ensures.steps c.in-Some-next.ensures.steps c.in-Some-next-2.ensures.steps in
    rw (words, entry_of c.args.fields c.in-Some._number.now c.in-Some-next.lane.now c.in-Some-next-2.line.now (pieces_left c.next-3.new.self), sym c.in-Some-find_digits.ensures, sym c.in-Some-find_digits-2.ensures, c.in_ok-change.ensures) refl
