use Rattle.std.proofs.Common.{◌≡◌, ◌-◌, ℕ, List, length, take, drop, ap, ◌∙◌, arith, length-drop}
use Rattle.std.proofs.lemmas.List.{take_all}
use Rattle.byteorder.specs.Endian.{big_number}
use Rattle.page_search.proofs.words.word.Goals as goal

rest_whole : (xs : List ℕ) (at : ℕ) → take (length xs - at) (drop at xs) ≡ drop at xs
rest_whole xs at = take_all (length xs - at) (drop at xs) (omega (arith, length-drop at xs))

pub returns-clause-number : goal.returns-clause-number
returns-clause-number c = c.read_u64.ensures ∙ ap (big_number 8) (rest_whole c.args.bytes.now c.args.at)

pub returns-clause-bytes : goal.returns-clause-bytes
returns-clause-bytes c = λ i. omega (arith, c.type_inv.bytes i)
