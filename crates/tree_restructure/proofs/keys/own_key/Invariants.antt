use Rattle.std.proofs.Common.{◌≡◌, map, take}
use Rattle.tree_restructure.proofs.keys.own_key.Given as goal

abbrev pub invariant-loop-i : goal.invariant-loop-i
invariant-loop-i g l = map (λ f. f.items) l.copies.items ≡ take l.i (g.A.Fields.fields_of l.fields)
