-- A partition that is held while rows move, and what a lawful state tells of known frames' hashing.
use Rattle.std.proofs.Common.{◌≡◌, ℕ, ◌<◌, length, sym, ap, subst, ◌∙◌, arith, Option, Some, None}
use mathlib.Core.Option.{some, some-injective}
use lib.ListN.{get_elem?}
use Rattle.list_facts.proofs.Places.{inside, there}
use Rattle.latch_law.specs.declared.knows.Holding.{Holding}
use Rattle.latch_law.specs.Views.{holding}
use Rattle.latch_space.specs.Has.{IsKnown}
use Rattle.latch_space.specs.Passes.{view}
use Rattle.hash_partition.specs.Part.{Part}
use Rattle.hash_law.specs.Blocks.{part_for, IsTidy}
use Rattle.index_law.specs.Shape.{Shape}
use Rattle.forest_law.specs.declared.objects.Frame.{Frame}
use Rattle.forest_law.specs.declared.objects.Object.{Object}
use Rattle.forest_law.specs.declared.objects.Object.TheVariants as object
use Rattle.forest_law.specs.Counted.{SuitsHash}
use Rattle.forest_law.specs.Hashed.{hash_block}
use Rattle.forest_law.specs.Numbers.{part_id, frame_id, frames_of}
use Rattle.forest_law.proofs.HashLawLemmas.{hashes_are_exact}
use Rattle.forest_world.specs.Held.{TreePass, shape_of_pass, HasPart}
use Rattle.hash_maintain.specs.Upkeep.{AreInPlace}
use Rattle.hash_maintain.proofs.PassLemmas.{knows_forest}
use Rattle.call_law.specs.Hands.{KnowsFrame}
use Rattle.buffer_pool.specs.Forests.{IsFittedTree}
use Rattle.buffer_pool.specs.Parts.{part_of_index}
use Rattle.buffer_pool.proofs.PartLemmas.{part_has}
use Rattle.tree_smo.specs.Keeping.{HasExactPart}
use Rattle.tree_smo.specs.PartHeld.{HoldsExactIf}
use Rattle.tree_smo.proofs.LawfulLemmas.{frame_at}

module _ (p : TreePass) (fitted : IsFittedTree (view p)) where
  -- a known frame is tidy
  pub known_tidy : (b : ℕ) (f : Frame) → KnowsFrame (view p) b f → IsTidy (hash_block f)
  known_tidy b f knows = hashes_are_exact.tidy fitted.whole fitted.is_lawful b f
      (frame_at fitted.whole fitted.is_lawful (view p) fitted.fits b f knows)

  pub suits : SuitsHash (shape_of_pass p)
  suits = (knows_forest p fitted).hash

  -- a block whose frame is known is one of the space's
  pub block_below : (b : ℕ) (f : Frame) → KnowsFrame (view p) b f → b < frames_of (shape_of_pass p)
  block_below b f knows =
      let inside = inside_of b f knows in
      let objects = (knows_forest p fitted).objects in
      let counted = fitted.fits.counted.3 in
      omega (arith, inside, objects, counted)
    where
      inside_of : (b : ℕ) (f : Frame) → KnowsFrame (view p) b f
          → frame_id (shape_of_pass p) b < length (view p).held
      inside_of b f knows = inside (view p).held (frame_id (shape_of_pass p) b)
          (Some (holding knows.0 (object.Frame f))) knows.1

  -- an object of a partition's number that is held is a partition
  part_known : (k : ℕ) → k < (shape_of_pass p).parts → (h : Holding Object)
      → get_elem? (view p).held (part_id (shape_of_pass p) k) ≡ some (Some h)
      → (part : Part) × (h.known ≡ object.Part part)
  part_known k below h held =
      let w = fitted.whole in
      let shape : w.shape ≡ shape_of_pass p = fitted.fits.shape in
      let part = fitted.is_lawful.objects.kinds.parts k
      (subst (λ (s : Shape). k < s.parts) (sym shape) below) in (
        part.0,
        some-injective h.known (object.Part part.0)
            (sym (fitted.fits.known (part_id (shape_of_pass p) k) h held)
            ∙ (ap (λ (s : Shape). get_elem? w.objects (part_id s k)) (sym shape) ∙ part.1)),
      )

  -- so none is taken out, where each object in hand is what it is known to be
  pub in_place_known : IsKnown p → AreInPlace p
  in_place_known known k below held = pick a.0 a.1
    where
      a : (o : Option (Holding Object))
          × (get_elem? (view p).held (part_id (shape_of_pass p) k) ≡ some o)
      a = there (view p).held (part_id (shape_of_pass p) k)
          (let objects = (knows_forest p fitted).objects in
          let counted = fitted.fits.counted.3 in omega (arith, below, objects, counted))

      pick : (o : Option (Holding Object))
          → get_elem? (view p).held (part_id (shape_of_pass p) k) ≡ some o
          → (x : Part) × (y : Part) × HasPart p k x y
      pick None e = absurd (held e)
      pick (Some h) e = let part = part_known k below h e in (
        part.0,
        part.0,
        part_has p k part.0 known (
          h.taken,
          e ∙ ap (λ x. some (Some (holding h.taken x))) part.1,
        ),
      )

-- the partition of an index that is held is exact of two blocks whose frames are known
pub exact_part : (p : TreePass) → IsKnown p → (i a b : ℕ) (f g : Frame) → KnowsFrame (view p) a f
    → KnowsFrame (view p) b g → HoldsExactIf (view p) (part_of_index (shape_of_pass p) (Some i))
    → HasExactPart p (part_for (shape_of_pass p).parts i) a b f g
exact_part p known i a b f g first second held = record {
  part = held.1;
  has = part_has p (part_for (shape_of_pass p).parts i) held.1 known held.2;
  gave = held.3 a f first;
  took = held.3 b g second;
}
