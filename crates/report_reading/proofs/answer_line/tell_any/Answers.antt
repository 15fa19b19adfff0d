-- The words behind `found`, and behind a word with a number.
use Rattle.std.proofs.Common.{◌≡◌, ℕ, List, ◌∷◌, true, false, sym, subst, ap, ◌∙◌}
use Rattle.std.specs.Prelude.{codes}
use Rattle.std.specs.Str.{bytes_eq}
use Rattle.script.specs.Pieces.{pieces_left}
use Rattle.report_reading.proofs.WordLemmas.{word_is}
use Rattle.report_reading.proofs.AnswerToldLemmas.{found_words, counted_words}
use Rattle.report_reading.proofs.answer_line.tell_any.Goals as goal

pub returns-then-eq-2 : goal.returns-then-eq-2
returns-then-eq-2 c =
    let words = c.in-Some.ensures.steps ∙ ap (λ (ws : List (List ℕ)). c.in-Some._number.now ∷ ws) c.in-Some-next.ensures.steps in
    let is = word_is c.in-Some-next.said.now (codes "found") (subst (λ (word : List ℕ). bytes_eq c.in-Some-next.said.now word ≡ true) c.as_slice-2.ensures (sym c.if-eq-2.ensures)) in
    rw (words, found_words c.args.fields c.in-Some._number.now c.in-Some-next.said.now (pieces_left c.next-2.new.self) is) c.tell_found.ensures

pub returns : goal.returns
returns c =
    let words = c.in-Some.ensures.steps ∙ ap (λ (ws : List (List ℕ)). c.in-Some._number.now ∷ ws) c.in-Some-next.ensures.steps in
    let full = subst (λ (word : List ℕ). bytes_eq c.in-Some-next.said.now word ≡ false) c.as_slice.ensures (sym c.if-eq.ensures) in
    let found = subst (λ (word : List ℕ). bytes_eq c.in-Some-next.said.now word ≡ false) c.as_slice-2.ensures (sym c.if-eq-2.ensures) in
    rw (words, counted_words c.args.fields c.in-Some._number.now c.in-Some-next.said.now (pieces_left c.next-2.new.self) full found) c.tell_counted.ensures
