-- The hash of a space that begins: all partitions are empty, and no block is hashed.
use Rattle.std.proofs.Common.{◌≡◌, ◌⊎◌, inl, inr, ℕ, ◌-◌, ◌<◌, ◌≤◌, List, sym, ap, subst, ◌∙◌, arith, refl, Some, None}
use Rattle.std.proofs.lemmas.Bool.{cases_lt}
use mathlib.Core.Option.{some-injective}
use lib.ListN.{get_elem?}
use Rattle.list_facts.proofs.Places.{inside}
use Rattle.hash_partition.specs.Part.{Part, empty_part}
use Rattle.hash_law.specs.Blocks.{IsTidy, IsExact}
use Rattle.index_law.specs.Shape.{Shape}
use Rattle.forest_law.specs.declared.objects.Frame.{Frame}
use Rattle.forest_law.specs.declared.objects.Object.{Object}
use Rattle.forest_law.specs.declared.objects.Object.TheVariants as object
use Rattle.forest_law.specs.Numbers.{part_id, frame_id}
use Rattle.forest_law.specs.Objects.{IsFrameOf, IsPartOf}
use Rattle.forest_law.specs.Hashed.{folds_for, hash_block, IsPartFor, IsHashExact}
use Rattle.forest_law.specs.Opening.{first_frame, AreFirstObjects}
use Rattle.forest_law.proofs.ObjectLemmas.{same_frame, same_part}
use Rattle.forest_law.proofs.HashKeptLemmas.{part_there, block_there}

module _ (sh : Shape) (clock : ℕ) (objects : List Object)
    (first : AreFirstObjects sh clock objects) where
  -- each frame is one without a page
  pub first_frame_is : (b : ℕ) (f : Frame) → IsFrameOf sh objects b f → first_frame clock ≡ f
  first_frame_is b f at = let low = inside objects (frame_id sh b) (object.Frame f) at in
      let all = first.counted in
      same_frame (first_frame clock) f
      (some-injective (object.Frame (first_frame clock)) (object.Frame f)
      (sym (first.frames b (omega (arith, low, all))) ∙ at))

  abbrev empty : Part
  empty = empty_part sh.nodes sh.blocks

  -- each partition is empty
  first_part_is : (k : ℕ) (p : Part) → IsPartOf sh objects k p → empty ≡ p
  first_part_is k p at = pick (cases_lt k sh.parts)
    where
      no_frame : object.Frame (first_frame clock) ≡ object.Part p → ⊥
      no_frame e = absurd cc

      pick : (k < sh.parts) ⊎ (sh.parts ≤ k) → empty ≡ p
      pick (inl low) = same_part empty p
          (some-injective (object.Part empty) (object.Part p) (sym (first.parts k low) ∙ at))
      pick (inr most) = let low = inside objects (part_id sh k) (object.Part p) at in
          let all = first.counted in
          let same : part_id sh k ≡ frame_id sh (k - sh.parts) = omega (arith, most) in
          absurd (no_frame (some-injective (object.Frame (first_frame clock)) (object.Part p)
          (sym (first.frames (k - sh.parts) (omega (arith, most, low, all)))
          ∙ (ap (get_elem? objects) (sym same) ∙ at))))

  tidy_then : IsTidy (hash_block (first_frame clock))
  tidy_then = record {
    both = refl;
    leaf = λ index e. absurd (none_is index e);
    built = λ params e. absurd cc;
    advice = tt;
  }
    where
      none_is : (index : ℕ) → None ≡ Some index → ⊥
      none_is index e = absurd cc

  sound_then : IsPartFor sh empty
  sound_then = record { room = omega arith; known = λ n has. absurd (omega (arith, has)) }

  -- the hash is exact
  pub first_hashed : IsHashExact sh objects
  first_hashed = record {
    tidy = λ b x e. (let f = block_there sh objects b x e in
        subst IsTidy (ap hash_block (first_frame_is b f.frame f.at) ∙ f.is) tidy_then);
    sound = λ k p e. subst (IsPartFor sh)
        (first_part_is k p (part_there sh objects k p e)) sound_then;
    exact = λ k b p x at e. (let f = block_there sh objects b x e in
        subst (λ z. IsExact (folds_for sh) sh.parts k b z x)
        (first_part_is k p (part_there sh objects k p at))
        (subst (IsExact (folds_for sh) sh.parts k b empty)
        (ap hash_block (first_frame_is b f.frame f.at) ∙ f.is)
        (record { nodes = λ n here. refl })));
  }
