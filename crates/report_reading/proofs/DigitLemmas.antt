-- A number doesn't fall by further digits.
use Rattle.std.proofs.Common.{◌≡◌, ℕ, ◌+◌, ◌-◌, ◌*◌, ◌^◌, ◌<◌, ◌≤◌, Bool, true, false, cond, ltb, List, [], ◌∷◌, length, drop, Some, None, sym, ap, ◌∙◌, arith}
use Rattle.std.proofs.lemmas.Bool.{le-ltb, lt-ltb}
use Rattle.std.proofs.lemmas.List.{drop_all}
use Rattle.script.specs.Grammar.{decimal_from}
use Rattle.report_reading.specs.Numbers.{small_number}

grows : (n : ℕ) (word : List ℕ) → n ≤ decimal_from n word
grows n [] = omega arith
grows n (b ∷ word) = omega (arith, grows (n * 10 + (b - 48)) word)

-- where no digit is left, the value is the number
pub digits_there : (word : List ℕ) (value i : ℕ) → decimal_from value (drop i word) ≡ decimal_from 0 word → length word ≤ i → value < 2 ^ 64 → Some value ≡ small_number (decimal_from 0 word)
digits_there word value i told end small =
    let is : value ≡ decimal_from 0 word = sym (ap (decimal_from value) (drop_all i word end)) ∙ told in
    let fits : ltb (decimal_from 0 word) (2 ^ 64) ≡ true = lt-ltb _ _ (omega (arith, is, small)) in
    rw fits (ap Some is)

-- digits that come to 2^64 or more are too many, whatever follows
pub too_large : (word rest : List ℕ) (next : ℕ) → decimal_from next rest ≡ decimal_from 0 word → 2 ^ 64 ≤ next → small_number (decimal_from 0 word) ≡ None
too_large word rest next told high =
    let large : ltb (decimal_from 0 word) (2 ^ 64) ≡ false = le-ltb _ _ (omega (arith, grows next rest, told, high)) in
    ap (λ (t : Bool). cond t (Some (decimal_from 0 word)) None) large
