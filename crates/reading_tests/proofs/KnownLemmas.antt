-- The lines of a lane that was read ask for indexes that the schema has.
use Rattle.std.proofs.Common.{ℕ, zero, suc, ◌<◌, List, [], ◌∷◌, Vec, Global, length, map, get_or, arith}
use Rattle.std.specs.List.{AllByRecursion}
use Rattle.map_history.specs.declared.line.Line.{Line}
use Rattle.map_history.specs.Lines.{line_text}
use Rattle.script.specs.Lane.{IsLaneLine}
use Rattle.script.specs.Schema.{SchemaText}

-- each line of a lane does
line_known : (s : SchemaText) (lines : List Line) → AllByRecursion (IsLaneLine s) (map line_text lines)
    → (k : ℕ) (d : Line) → k < length lines → (line_text (get_or lines k d)).op.index < length s.fields
line_known s [] all k d low = absurd (omega (arith, low))
line_known s (x ∷ xs) all zero d low = all.0.counted
line_known s (x ∷ xs) all (suc k) d low = line_known s xs all.1 k d (omega (arith, low))

-- each line of the only lane does
pub lane_known : (s : SchemaText) (lane : Vec Line Global) → AllByRecursion (IsLaneLine s) (map line_text lane.items)
    → (k : ℕ) (d : Vec Line Global) → k < 1 → (i : ℕ) (l : Line) → i < length (get_or {A = Vec Line Global} (lane ∷ []) k d).items
    → (line_text (get_or (get_or {A = Vec Line Global} (lane ∷ []) k d).items i l)).op.index < length s.fields
lane_known s lane all zero d one i l low = line_known s lane.items all i l low
lane_known s lane all (suc k) d one i l low = absurd (omega (arith, one))
