-- Rows that moved between two frames in hand, while the partition of their index is in hand too.
use Rattle.std.specs.Prelude.{ℕ, ◌≡◌, ◌≢◌, Option, Some, None, List, ◌∷◌}
use Rattle.latch_space.specs.Has.{Has}
use Rattle.hash_partition.specs.Part.{Part}
use Rattle.hash_law.specs.Blocks.{part_for, IsTidy}
use Rattle.hash_upkeep.specs.declared.moves.Move.{Move}
use Rattle.index_law.specs.Shape.{Shape}
use Rattle.forest_law.specs.declared.objects.Frame.{Frame}
use Rattle.forest_law.specs.declared.objects.Object.TheVariants as object
use Rattle.forest_law.specs.Numbers.{part_id, frame_id}
use Rattle.forest_law.specs.Hashed.{hash_block, IsExactFor}
use Rattle.forest_world.specs.Held.{TreePass, shape_of_pass, HasFrame, HasPart}
use Rattle.hash_maintain.specs.Moves.{KeepsUpBoth, first_hashed}
use Rattle.hash_maintain.specs.MoveLaws.{MovesRows, OneIsEmpty, StaysTidyIn}
use Rattle.buffer_pool.specs.Parts.{part_of_index, part_ids}
use Rattle.tree_smo.specs.Remakes.{Remakes}

-- partition k is in hand as it is known to be, and exact of both blocks with these frames
pub record HasExactPart (p : TreePass) (k a b : ℕ) (f g : Frame) : Type 0 where
  pub part : Part
  pub has : HasPart p k part part
  pub gave : IsExactFor (shape_of_pass p) k a part f
  pub took : IsExactFor (shape_of_pass p) k b part g

-- rows moved between the frames of two blocks in hand, which are known to be tidy ones; where one of
-- them is hashed, its partition is in hand too, exact of what both are known to be
pub record HasMovedRows (p : TreePass) (a b : ℕ) : Type 0 where
  pub index : ℕ
  pub fields : ℕ
  pub gave_old : Frame
  pub gave_new : Frame
  pub took_old : Frame
  pub took_new : Frame
  pub gave : HasFrame p a gave_old gave_new
  pub took : HasFrame p b took_old took_new
  pub apart : a ≢ b
  pub moves : MovesRows index fields gave_old gave_new took_old took_new
  pub tidy : IsTidy (hash_block gave_old)
  pub took_tidy : IsTidy (hash_block took_old)
  pub part : (i : ℕ) → first_hashed gave_new took_new ≡ Some i
      → HasExactPart p (part_for (shape_of_pass p).parts i) a b gave_old took_old

-- the frame is as before, but for how it is hashed
abbrev pub RehashesFrame : Frame → Frame → Type 0
RehashesFrame x y = y ≡ record x { figures = y.figures; hashed = y.hashed }

-- the move of an index's rows between two blocks with these frames, in a space of the shape
abbrev pub move_of : Shape → (index from_block to_block : ℕ) → Frame → Frame → Move
move_of shape index from_block to_block from to = record {
  index = index;
  bits = shape.fold_bits;
  from = from_block;
  from_built = from.figures.built;
  to = to_block;
  to_built = to.figures.built;
}

-- the partition of the index is in hand and exact of both blocks, whose frames were known to be f and
-- g, were x and y once rows had moved, and are x' and y'; both stay tidy, hashed in no other partition,
-- and one page had no rows, or has none
pub record KeepsPart (shape : Shape) (q : TreePass) (i a b : ℕ) (f x x' g y y' : Frame) : Type 0
  where
    pub known : Part
    pub now : Part
    pub has : Has q (part_id shape (part_for shape.parts i)) (object.Part known) (object.Part now)
    pub keeps : KeepsUpBoth (move_of shape i a b x y) x' y' known now
    pub apart : a ≢ b
    pub gave : StaysTidyIn shape i x.figures.built f x'
    pub took : StaysTidyIn shape i y.figures.built g y'
    pub empty : OneIsEmpty x' g

-- the numbers of the two frames, and of the partition of the index, if there is one
abbrev pub moved_ids : Shape → (a b : ℕ) → Option ℕ → List ℕ
moved_ids shape a b index =
    frame_id shape a ∷ frame_id shape b ∷ part_ids shape (part_of_index shape index)

-- the partition of both blocks kept up with the rows that moved, if one of them is hashed; all else in
-- hand is as before
pub record KeepsMovedRows (p : TreePass) (a b : ℕ) (m : HasMovedRows p a b) (q : TreePass) : Type 0
  where
    pub gave_now : Frame
    pub took_now : Frame
    pub gave : HasFrame q a m.gave_old gave_now
    pub took : HasFrame q b m.took_old took_now
    pub gave_rest : RehashesFrame m.gave_new gave_now
    pub took_rest : RehashesFrame m.took_new took_now
    pub remakes : Remakes p q
        (moved_ids (shape_of_pass p) a b (first_hashed m.gave_new m.took_new))
    pub unhashed : first_hashed m.gave_new m.took_new ≡ None
        → (gave_now ≡ m.gave_new) × (took_now ≡ m.took_new)
    pub hashed : (i : ℕ) → first_hashed m.gave_new m.took_new ≡ Some i
        → KeepsPart (shape_of_pass p) q i a b m.gave_old m.gave_new gave_now m.took_old m.took_new
        took_now
