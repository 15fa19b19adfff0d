-- Two blocks between which rows are to move, and the partition of the index that they are hashed for.
use Rattle.std.specs.Prelude.{ℕ}
use Rattle.forest_law.specs.declared.objects.Frame.{Frame}
use Rattle.hash_maintain.specs.Moves.{first_hashed}
use Rattle.call_law.specs.Hands.{KnowsFrame}
use Rattle.call_law.specs.Spoken.{View}
use Rattle.buffer_pool.specs.Parts.{part_of_index}
use Rattle.tree_smo.specs.PartHeld.{HoldsExactIf}

-- the pass holds the partition of the index that one of the two blocks is hashed for, if one is, which
-- is exact of each block that is held
abbrev pub HoldsTheirPart : View → (from to : ℕ) → Type 0
HoldsTheirPart v from to = (f g : Frame) → KnowsFrame v from f → KnowsFrame v to g
    → HoldsExactIf v (part_of_index v.terms.shape (first_hashed f g))
