-- A number, or a point, behind its word.
use Rattle.std.proofs.Common.{◌≡◌, ℕ, List, ◌∷◌, true, false, refl, sym, subst, ap, ◌∙◌}
use Rattle.std.specs.Str.{bytes_eq}
use Rattle.script.specs.Pieces.{pieces_left}
use Rattle.report_reading.specs.Answers.{reply_seen}
use Rattle.report_reading.specs.Columns.{columns_seen}
use Rattle.report_reading.proofs.WordLemmas.{two_are}
use Rattle.report_reading.proofs.AnswerToldLemmas.{long_told, word_told}
use Rattle.report_reading.proofs.answer_line.tell_counted.Goals as goal

pub returns-in-Some-find_digits : goal.returns-in-Some-find_digits
returns-in-Some-find_digits c =
    let words = c.in-Some.ensures.steps ∙ ap (λ (ws : List (List ℕ)). c.in-Some.number.now ∷ ws) (two_are (pieces_left c.next.new.self) c.in-Some-two_words.how.now c.in-Some-two_words.note.now c.in-Some-two_words.ensures) in
    let is = subst (λ (word : List ℕ). bytes_eq c.args.said.now word ≡ true) c.as_slice.ensures (sym c.if-eq.ensures) in
    rw (words, sym c.columns_in-columns.ensures, long_told c.args.said.now c.in-Some.number.now (columns_seen c.columns_in-columns.result) is, sym c.in-Some-find_digits.ensures) refl

pub returns-in-Some-find_point : goal.returns-in-Some-find_point
returns-in-Some-find_point c =
    let words = c.in-Some.ensures.steps ∙ ap (λ (ws : List (List ℕ)). c.in-Some.number.now ∷ ws) (two_are (pieces_left c.next.new.self) c.in-Some-two_words.how.now c.in-Some-two_words.note.now c.in-Some-two_words.ensures) in
    let other = subst (λ (word : List ℕ). bytes_eq c.args.said.now word ≡ false) c.as_slice.ensures (sym c.if-eq.ensures) in
    rw (words, sym c.columns_in-columns.ensures, word_told c.args.said.now c.in-Some.number.now (columns_seen c.columns_in-columns.result) (reply_seen c.in-Some-find_reply.reply) other c.in-Some-find_reply.ensures, sym c.in-Some-find_point.ensures) refl
