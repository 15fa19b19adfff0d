-- A value that is written is short.
use Rattle.std.proofs.Common.{◌≡◌, ℕ, ◌<◌, ◌≤◌, ◌^◌, Some, None, cond, ltb, false, List, ◌∷◌, length, decimal, ap, sym, ◌∙◌, arith}
use Rattle.std.proofs.lemmas.Bool.Decides.{nat_tests}
use Rattle.std.proofs.lemmas.Fmt.{length-decimal-le}
use Rattle.key_tuple.specs.declared.TheConstants.{MAX_VALUE_BYTES}
use Rattle.key_tuple.specs.Limits.{value_refusal_of}
use Rattle.key_tuple.specs.declared.error.KeyError.{KeyError}
use Rattle.key_tuple.specs.declared.error.KeyError.TheVariants.{TooLong}

-- no value of a line is refused
pub written_value : (bytes : List ℕ) (line : ℕ) → bytes ≡ 118 ∷ decimal line → line < 2 ^ 32 → value_refusal_of bytes ≡ None
written_value bytes line is below =
    let digits : length (decimal line) ≤ 10 = length-decimal-le 10 line (omega arith) (omega (arith, below)) (omega (arith, below)) in
    let count = ap length is in
    let short : length bytes ≤ MAX_VALUE_BYTES = omega (arith, digits, count) in
    let fits : ltb MAX_VALUE_BYTES (length bytes) ≡ false = grind (arith, nat_tests) in
    ap (λ b. cond b (Some (TooLong (length bytes))) None) fits

pub unrefused : {e : KeyError} (bytes : List ℕ) → value_refusal_of bytes ≡ None → value_refusal_of bytes ≡ Some e → ⊥
unrefused bytes none some = let both = sym none ∙ some in cc
