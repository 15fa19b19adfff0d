-- A number doesn't fall by further digits.
use Rattle.std.proofs.Common.{◌≡◌, ℕ, suc, ◌+◌, ◌-◌, ◌*◌, ◌^◌, ◌<◌, ◌≤◌, ◌&&◌, Bool, true, false, cond, ltb, List, [], ◌∷◌, length, get_or, drop, Some, None, refl, sym, ap, ◌∙◌, drop-cons, add-one, arith}
use Rattle.std.proofs.lemmas.Bool.{le-ltb, lt-ltb}
use Rattle.std.proofs.lemmas.List.{drop_all}
use Rattle.script.specs.Grammar.{decimal_from, is_numeral, number_spelled}
use Rattle.script.proofs.Results.{and_false}

decimal_grows : (n : ℕ) (word : List ℕ) → n ≤ decimal_from n word
decimal_grows n [] = omega arith
decimal_grows n (b ∷ word) = omega (arith, decimal_grows (n * 10 + (b - 48)) word)

-- one digit more is read
digit_read : (word : List ℕ) (value i next : ℕ) → i < length word → next ≡ value * 10 + (get_or word i 0 - 48) → decimal_from value (drop i word) ≡ decimal_from next (drop (suc i) word)
digit_read word value i next lt is = rw (drop-cons word i 0, is) refl

pub digit_more : (word : List ℕ) (value i next : ℕ) → decimal_from value (drop i word) ≡ decimal_from 0 word → i < length word
    → next ≡ value * 10 + (get_or word i 0 - 48) → decimal_from next (drop (i + 1) word) ≡ decimal_from 0 word
digit_more word value i next told lt is = rw add-one (sym (digit_read word value i next lt is) ∙ told)

-- where no digit is left, the value is the number
pub number_there : (word : List ℕ) (value i : ℕ) → true ≡ is_numeral word → decimal_from value (drop i word) ≡ decimal_from 0 word → length word ≤ i → value < 2 ^ 32
    → Some value ≡ number_spelled word
number_there word value i form told end small =
    let is : value ≡ decimal_from 0 word = sym (ap (decimal_from value) (drop_all i word end)) ∙ told in
    let fits : ltb (decimal_from 0 word) (2 ^ 32) ≡ true = lt-ltb _ _ (omega (arith, is, small)) in
    rw (sym form, fits) (ap Some is)

-- digits that come to 2^32 or more are no number, whatever follows
pub too_big : (word : List ℕ) (value i next : ℕ) → decimal_from value (drop i word) ≡ decimal_from 0 word → i < length word
    → next ≡ value * 10 + (get_or word i 0 - 48) → 2 ^ 32 ≤ next → number_spelled word ≡ None
too_big word value i next told lt is high =
    let one = digit_read word value i next lt is in
    let grows : next ≤ decimal_from next (drop (suc i) word) = decimal_grows next (drop (suc i) word) in
    let large : 2 ^ 32 ≤ decimal_from 0 word = omega (arith, grows, sym told ∙ one) in
    let no : (is_numeral word && ltb (decimal_from 0 word) (2 ^ 32)) ≡ false = and_false (is_numeral word) _ (le-ltb _ _ large) in
    ap (λ (t : Bool). cond t (Some (decimal_from 0 word)) None) no
