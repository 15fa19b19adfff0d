use Rattle.std.proofs.Common.{◌≡◌, ℕ, Option, Some, None, IfOk}
use Rattle.std.specs.Option.{SomeIff, ok_or}
use Rattle.column_counts.proofs.sums.sum_within.Goals as goal

-- where there is a sum, it is the right one
sum_or : {E : Type 0} (sum : Option ℕ) (n : ℕ) (Fits : Type 0) (error : E) → SomeIff sum Fits n → IfOk (ok_or sum error) (λ s. s ≡ n)
sum_or None n Fits error is = tt
sum_or (Some s) n Fits error is = is.1

pub returns : goal.returns
returns c = rw c.ok_or.ensures.value (sum_or c.checked_add.result _ _ _ c.checked_add.ensures)
