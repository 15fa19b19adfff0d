-- A digit that is no zero, and digits behind it.
use Rattle.std.proofs.Common.{◌≡◌, ℕ, ◌-◌, ◌≤◌, Bool, true, not, eqb, List, [], ◌∷◌, length, get_or, take, drop, sym, ap, ◌∙◌, arith}
use Rattle.std.specs.List.{list_all}
use Rattle.std.proofs.lemmas.List.{take_rest}
use Rattle.script.specs.Grammar.{is_digit, is_numeral}
use Rattle.script.proofs.numbers.has_number_form.Goals.{then-is_ascii_digit, else-is_ascii_digit}
use Rattle.script.proofs.numbers.has_number_form.Goals as goal

numeral_formed : (word : List ℕ) (all : Bool) → 2 ≤ length word → is_digit (get_or word 0 0) ≡ true → not (eqb (get_or word 0 0) 48) ≡ true
    → all ≡ list_all is_digit (take (length word - 1) (drop 1 word)) → all ≡ is_numeral word
numeral_formed [] all two digit other is = absurd (omega (arith, two))
numeral_formed (a ∷ []) all two digit other is = absurd (omega (arith, two))
numeral_formed (a ∷ b ∷ word) all two digit other is = rw (digit, other) (is ∙ ap (list_all is_digit) (take_rest (a ∷ b ∷ word) 1))

pub returns-then-first-ne48 : goal.returns-then-first-ne48
returns-then-first-ne48 c = elim c.if-is_ascii_digit.branch [
  | then-is_ascii_digit w ↦ numeral_formed c.args.word.now c.are_digits.result c.in-len1-up.len_at_least (sym w.if-is_ascii_digit.ensures.value) (sym w.value-is ∙ c.if-first-ne48.true) c.are_digits.ensures
  | else-is_ascii_digit w ↦ absurd (cc w.if-is_ascii_digit.false)
]
