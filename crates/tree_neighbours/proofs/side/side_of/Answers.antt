use Rattle.std.proofs.Common.{inl, inr, sym, ap}
use Rattle.tree_neighbours.specs.Sides.{side_of}
use Rattle.tree_neighbours.proofs.side.side_of.Goals as goal

pub returns-in-Le : goal.returns-in-Le
returns-in-Le c = elim c.in-Le.is [
  | inl le ↦ sym (ap side_of le)
  | inr l ↦ sym (ap side_of l)
]
