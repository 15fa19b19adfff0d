-- A letter, and few bytes of a name behind it.
use Rattle.std.proofs.Common.{◌≡◌, ℕ, ◌-◌, ◌<◌, ◌≤◌, Bool, true, ltb, List, [], ◌∷◌, length, get_or, take, drop, sym, ap, ◌∙◌, arith}
use Rattle.std.specs.List.{list_all}
use Rattle.std.proofs.lemmas.Bool.{lt-ltb}
use Rattle.std.proofs.lemmas.List.{take_rest}
use Rattle.script.specs.declared.TheConstants.{MAX_NAME_BYTES}
use Rattle.script.specs.Grammar.{is_letter, is_name_byte, is_name}
use Rattle.script.proofs.words.has_name_form.Goals as goal

name_formed : (word : List ℕ) (all : Bool) → 1 ≤ length word → is_letter (get_or word 0 0) ≡ true → length (take (length word - 1) (drop 1 word)) < MAX_NAME_BYTES
    → all ≡ list_all is_name_byte (take (length word - 1) (drop 1 word)) → all ≡ is_name word
name_formed [] all some letter few is = absurd (omega (arith, some))
name_formed (a ∷ bytes) all some letter few is =
    let rest = take_rest (a ∷ bytes) 1 in
    let short : ltb (length bytes) MAX_NAME_BYTES ≡ true = lt-ltb _ _ (rw rest at few) in
    rw (letter, short) (is ∙ ap (list_all is_name_byte) rest)

pub returns-then-rest-lt-MAX_NAME_BYTES : goal.returns-then-rest-lt-MAX_NAME_BYTES
returns-then-rest-lt-MAX_NAME_BYTES c =
    let test = c.if-rest-lt-MAX_NAME_BYTES.true in
    name_formed c.args.word.now c.all_continue_name.result c.in-len1-up.len_at_least (sym c.is_ascii_lowercase.ensures.value ∙ test.0) test.1 c.all_continue_name.ensures
