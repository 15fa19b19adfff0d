use Rattle.std.proofs.Common.{◌≡◌, ℕ, zero, suc, Some, refl, ap, get_or, ◌+◌, arith}
use Rattle.std.specs.List.{slice_get}
use Rattle.map_history.specs.Map.{Put}
use Rattle.map_history.specs.Operation.{Ask, Make}
use Rattle.map_history.specs.Report.{ChangeLine, unlearnt}
use Rattle.report_examples.specs.Samples.{row_life, row_life_told, line, made, a_key, value_x, value_y}
use Rattle.report_examples.specs.Spoilt.{other_change}
use Rattle.report_examples.proofs.spoilt.other_change_is_illegal.Goals as goal

-- the first byte of a value that is put
abbrev first_byte : Ask → ℕ
first_byte (Make (Put k v)) = get_or v 0 0
first_byte ask = 0

-- the first entry isn't that of the put
not_first : (n : ℕ) (entry : ChangeLine) → 1 ≡ n + 1 → slice_get other_change n ≡ Some entry → Make (Put a_key value_x) ≡ Make entry.change → ⊥
not_first zero entry p e q =
    let is : made 1 (Put a_key value_y) ≡ entry = cc in
    omega (arith, ap first_byte q, ap (λ (e : ChangeLine). first_byte (Make e.change)) is)
not_first (suc n) entry p e q = omega arith

pub returns : goal.returns
returns c = λ sizes legal.
    let named = legal.changes.done 0 0 (line 1 (Make (Put a_key value_x))) 1 unlearnt (record { line_there = (row_life, refl, refl); answer_there = (row_life_told, refl, refl) }) in
    not_first named.n named.entry named.is_point named.there named.same_change
