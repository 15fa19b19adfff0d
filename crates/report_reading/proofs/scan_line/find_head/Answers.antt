-- Five words, of which two are numbers.
use Rattle.std.proofs.Common.{refl, sym}
use Rattle.script.specs.Pieces.{pieces_left}
use Rattle.report_reading.proofs.ToldLemmas.{five_words, head_of}
use Rattle.report_reading.proofs.scan_line.find_head.Goals as goal

pub returns-in_err-find_point : goal.returns-in_err-find_point
returns-in_err-find_point c =
    let words = five_words (pieces_left c.args.words) (pieces_left c.next.new.self) (pieces_left c.next-2.new.self) (pieces_left c.next-3.new.self) c.in_ok-_piece._piece.now c.in_ok-point.point.now c.in_ok-count.count.now c.in_ok-how.how.now c.in_ok-how.note.now
    c.in_ok-_piece.ensures.steps c.in_ok-point.ensures.steps c.in_ok-count.ensures.steps c.in_ok-how.ensures in
    rw (c.from_residual-in_err-find_point.ensures, words, head_of c.in_ok-_piece._piece.now c.in_ok-point.point.now c.in_ok-count.count.now c.in_ok-how.how.now c.in_ok-how.note.now, sym c.in_err-find_point.ensures) refl

pub returns-in_err-find_digits : goal.returns-in_err-find_digits
returns-in_err-find_digits c =
    let words = five_words (pieces_left c.args.words) (pieces_left c.next.new.self) (pieces_left c.next-2.new.self) (pieces_left c.next-3.new.self) c.in_ok-_piece._piece.now c.in_ok-point.point.now c.in_ok-count.count.now c.in_ok-how.how.now c.in_ok-how.note.now
    c.in_ok-_piece.ensures.steps c.in_ok-point.ensures.steps c.in_ok-count.ensures.steps c.in_ok-how.ensures in
    rw (c.from_residual-in_err-find_digits.ensures, words, head_of c.in_ok-_piece._piece.now c.in_ok-point.point.now c.in_ok-count.count.now c.in_ok-how.how.now c.in_ok-how.note.now, sym c.in_ok-find_point.ensures, sym c.in_err-find_digits.ensures) refl

pub returns : goal.returns
returns c =
    let words = five_words (pieces_left c.args.words) (pieces_left c.next.new.self) (pieces_left c.next-2.new.self) (pieces_left c.next-3.new.self) c.in_ok-_piece._piece.now c.in_ok-point.point.now c.in_ok-count.count.now c.in_ok-how.how.now c.in_ok-how.note.now
    c.in_ok-_piece.ensures.steps c.in_ok-point.ensures.steps c.in_ok-count.ensures.steps c.in_ok-how.ensures in
    rw (words, head_of c.in_ok-_piece._piece.now c.in_ok-point.point.now c.in_ok-count.count.now c.in_ok-how.how.now c.in_ok-how.note.now, sym c.in_ok-find_point.ensures, sym c.in_ok-find_digits.ensures, c.columns_in.ensures) refl
