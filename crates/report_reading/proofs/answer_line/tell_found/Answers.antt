-- Four words or five.
use Rattle.std.proofs.Common.{sym}
use Rattle.script.specs.Pieces.{pieces_left}
use Rattle.report_reading.proofs.ToldLemmas.{five_words}
use Rattle.report_reading.proofs.AnswerToldLemmas.{four_words}
use Rattle.report_reading.proofs.answer_line.tell_found.Goals as goal

pub returns-in-Some-one_word : goal.returns-in-Some-one_word
returns-in-Some-one_word c =
    let words = four_words (pieces_left c.args.words) (pieces_left c.next.new.self) (pieces_left c.next-2.new.self) (pieces_left c.next-3.new.self) c.in-Some.first.now c.in-Some-next.second.now c.in-Some-next-2.third.now c.in-Some-one_word.fourth.now
    c.in-Some.ensures.steps c.in-Some-next.ensures.steps c.in-Some-next-2.ensures.steps c.in-Some-one_word.ensures in
    rw (words, sym c.columns_in.ensures) (c.tell_value.ensures c.args.fields)

pub returns : goal.returns
returns c =
    let words = five_words (pieces_left c.args.words) (pieces_left c.next.new.self) (pieces_left c.next-2.new.self) (pieces_left c.next-3.new.self) c.in-Some.first.now c.in-Some-next.second.now c.in-Some-next-2.third.now c.in-Some-two_words.fourth.now c.in-Some-two_words.fifth.now
    c.in-Some.ensures.steps c.in-Some-next.ensures.steps c.in-Some-next-2.ensures.steps c.in-Some-two_words.ensures in
    rw (words, sym c.columns_in-2.ensures) c.tell_row.ensures
