-- The partition of an index, by what a pass knows of its space.
use Rattle.std.proofs.Common.{◌≡◌, ◌<◌, ◌≤◌, ℕ, Option, Some, None, sym, subst, ap, ◌∙◌, arith}
use Rattle.latch_law.specs.declared.knows.Terms.{Terms}
use Rattle.latch_law.specs.Fitting.{IsFitted}
use Rattle.latch_space.specs.Passes.{view, IsSamePass}
use Rattle.hash_law.specs.Blocks.{part_for}
use Rattle.hash_upkeep.specs.declared.hashing.Hashing.{Hashing}
use Rattle.index_law.specs.Rightness.{IsRight}
use Rattle.index_law.specs.Shape.{Shape}
use Rattle.forest_law.specs.Counted.{SuitsHash}
use Rattle.forest_law.specs.declared.objects.Frame.{Frame}
use Rattle.forest_law.specs.Law.{IsLawful}
use Rattle.forest_law.specs.References.{IsReference}
use Rattle.forest_world.specs.Held.{TreePass, shape_of_pass}
use Rattle.hash_maintain.specs.Leaves.{hashing_of, CutsFolds}
use Rattle.hash_maintain.specs.Upkeep.{hashing_in}
use Rattle.hash_maintain.proofs.PassLemmas.{knows_forest}
use Rattle.hash_maintain.proofs.UpkeepLemmas.{IsCall, cuts, how_is}

-- a call behind another one leaves the same pass
pub still_same : (p m q : TreePass) → IsSamePass p m → IsSamePass m q → IsSamePass p q
still_same p m q first second = (second.0 ∙ first.0, second.1 ∙ first.1)

-- a partition is there as long as the terms are the same
pub still_there : (p m : TreePass) (k : ℕ) → (view m).terms ≡ (view p).terms
    → k < (shape_of_pass p).parts → k < (shape_of_pass m).parts
still_there p m k terms there =
    subst (λ (t : Terms Shape). k < t.shape.parts) (sym terms) there

-- what a block is hashed as, told by the layout, is no way where it is none
pub not_hashed : (p : TreePass) (b bits : ℕ) (f : Frame) (told : Option Hashing) (how : Hashing)
    → bits ≡ (shape_of_pass p).fold_bits → told ≡ hashing_of b bits f → told ≡ None
    → hashing_in p b f ≡ Some how → ⊥
not_hashed p b bits f told how bits_are told_is none found =
    none_is (sym none ∙ (told_is ∙ (ap (λ n. hashing_of b n f) bits_are ∙ found)))
  where
    none_is : None ≡ Some how → ⊥
    none_is e = absurd cc

-- the space of a pass suits the hash
module _ (p : TreePass) (fitted : IsFitted IsLawful IsRight IsReference (view p)) where
  suits : SuitsHash (shape_of_pass p)
  suits = (knows_forest p fitted).hash

  -- its layout has partitions
  pub has_parts : (layout : Shape) → layout ≡ shape_of_pass p → 0 < layout.parts
  has_parts layout same = subst (λ (s : Shape). 0 < s.parts) (sym same) suits.parts

  -- that of an index is one of them
  pub is_there : (k index : ℕ) → k ≡ part_for (shape_of_pass p).parts index
      → k < (shape_of_pass p).parts
  is_there k index is = let some = suits.parts in omega (arith, is, some)

  -- and it cuts folds
  pub cuts_call : (b k : ℕ) (f : Frame) (how : Hashing) → IsCall p b k f how → CutsFolds how
  cuts_call b k f how call = cuts p b f how suits
      (how_is b (shape_of_pass p).fold_bits f how call.found)

  pub cuts_as : (how : Hashing) → how.bits ≡ (shape_of_pass p).fold_bits → CutsFolds how
  cuts_as how is = record {
    some = subst (λ n. 1 ≤ n) (sym is) suits.some;
    fit = subst (λ n. n ≤ 64) (sym is) suits.fit;
  }
