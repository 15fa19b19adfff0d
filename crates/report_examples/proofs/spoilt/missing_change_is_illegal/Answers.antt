use Rattle.std.proofs.Common.{◌≡◌, ℕ, zero, suc, Some, refl, ◌+◌, arith}
use Rattle.std.specs.List.{slice_get}
use Rattle.map_history.specs.Map.{Del}
use Rattle.map_history.specs.Operation.{Make}
use Rattle.map_history.specs.Report.{ChangeLine, unlearnt}
use Rattle.report_examples.specs.Samples.{row_life, row_life_told, line, a_key}
use Rattle.report_examples.specs.Spoilt.{missing_change}
use Rattle.report_examples.proofs.spoilt.missing_change_is_illegal.Goals as goal

-- there is no second entry
no_second : (n : ℕ) (entry : ChangeLine) → 2 ≡ n + 1 → slice_get missing_change n ≡ Some entry → ⊥
no_second zero entry p e = omega arith
no_second (suc n) entry p e = cc

pub returns : goal.returns
returns c = λ sizes legal.
    let named = legal.changes.done 0 2 (line 3 (Make (Del a_key))) 2 unlearnt (record { line_there = (row_life, refl, refl); answer_there = (row_life_told, refl, refl) }) in
    no_second named.n named.entry named.is_point named.there
