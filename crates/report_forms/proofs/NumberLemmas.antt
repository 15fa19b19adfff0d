-- Numbers are read again.
use Rattle.std.proofs.Common.{◌≡◌, ℕ, ◌+◌, ◌*◌, ◌-◌, ◌<◌, ◌^◌, ◌%◌, List, [], ◌∷◌, ◌++◌, refl, ◌∙◌, arith}
use Rattle.std.proofs.lemmas.Fmt.{decimal_by_steps}
use Rattle.std.specs.Fmt.{decimal}
use Rattle.script.specs.Grammar.{decimal_from}

digit_behind : (n d : ℕ) (ds : List ℕ) → decimal_from n (ds ++ d ∷ []) ≡ decimal_from n ds * 10 + (d - 48)
digit_behind n d [] = refl
digit_behind n d (c ∷ ds) = digit_behind (n * 10 + (c - 48)) d ds

pub number_again : (n : ℕ) → n < 2 ^ 64 → decimal_from 0 (decimal n) ≡ n
number_again n small = decimal_by_steps (λ m ds. decimal_from 0 ds ≡ m) (λ m low. omega arith) (λ m ds high is. digit_behind 0 (48 + m % 10) ds ∙ omega (arith, is)) n small
