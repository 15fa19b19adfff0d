use Rattle.std.proofs.Common.{◌≡◌, ◌<◌, ◌∷◌, ◌++◌, take, length}
use Rattle.std.specs.List.{AllByRecursion}
use Rattle.map_history.proofs.rows.add_row.Given as goal

-- the value and the fields so far are behind the parts, and these fields are short
abbrev pub invariant-loop-i : goal.invariant-loop-i
invariant-loop-i g l = record { parts : l.parts ≡ l.fn.parts ++ l.value ∷ take l.i (g.A.Fields.fields_of l.key); short : AllByRecursion (λ field. length field < 65536) (take l.i (g.A.Fields.fields_of l.key)) }
