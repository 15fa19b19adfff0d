-- A pass that holds nothing.
use Rattle.std.proofs.Common.{◌≡◌, [], arith}
use Rattle.latch_space.specs.declared.space.SpaceOf.{SpaceOf}
use Rattle.latch_space.specs.Passes.{view, count}
use Rattle.latch_space.specs.Spaces.{IsPassOf}
use Rattle.latch_space.proofs.Pointwise.{lacks_each}
use Rattle.index_law.specs.Answers.{MadeChange, Saying}
use Rattle.index_law.specs.Shape.{Shape}
use Rattle.forest_law.specs.declared.objects.Object.{Object}
use Rattle.forest_law.specs.Numbers.{pool_id, part_id, frame_id}
use Rattle.forest_world.specs.Held.{TreePass, shape_of_pass}
use Rattle.call_law.specs.Hands.{HoldsNoFrameBut, HoldsNoTable}
use Rattle.buffer_pool.specs.Forests.{IsForest}
use Rattle.buffer_pool.proofs.SpaceLemmas.{objects_of}

module _ {Q : Type 0} (s : SpaceOf Shape Object MadeChange Saying Q) (p : TreePass)
    (forest : IsForest s) (own : IsPassOf s p) (nothing : count p ≡ 0) where
  -- it has no frame
  pub none_has_frame : HoldsNoFrameBut (view p) []
  none_has_frame b below apart = let objects = objects_of s p forest own in
      lacks_each p (frame_id (shape_of_pass p) b) nothing (omega (arith, objects, below))

  -- nor the pool, nor a partition
  pub none_has_table : HoldsNoTable (view p)
  none_has_table = let objects = objects_of s p forest own in record {
    pool = lacks_each p pool_id nothing (omega (arith, objects));
    parts = λ k below.
        lacks_each p (part_id (shape_of_pass p) k) nothing (omega (arith, objects, below));
  }
