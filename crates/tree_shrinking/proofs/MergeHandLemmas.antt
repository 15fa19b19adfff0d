-- The frames of a parent and of two children, merged or as before.
use Rattle.std.proofs.Common.{subst}
use Rattle.index_law.specs.Shape.{Shape}
use Rattle.forest_law.specs.HashSteps.{KeepsHashing}
use Rattle.forest_world.specs.Held.{TreePass}
use Rattle.tree_merging.specs.FrameMerges.{MergesUnder}
use Rattle.tree_smo.specs.declared.halves.SplitBlocks.{SplitBlocks}
use Rattle.tree_smo.specs.declared.halves.SplitHands.{SplitHands}
use Rattle.tree_smo.specs.Halves.{halves_ids, TakesHalvesOut, PutsHalvesBack}
use Rattle.tree_smo.proofs.RemakeLemmas.{remakes_both}
use Rattle.tree_shrinking.specs.MergeHands.{JoinsHalves}

-- what came back after a merge
pub halves_joined : (at : SplitBlocks) (p q r : TreePass) (hands new : SplitHands)
    → TakesHalvesOut p at hands q → PutsHalvesBack q at new r
    → KeepsHashing hands.left new.left × KeepsHashing hands.right new.right
    → MergesUnder hands.left new.left hands.right new.right hands.up new.up → JoinsHalves p at r
halves_joined at p q r hands new out back hash merges was has = let o = out.out was has in record {
  now = new;
  has = back.has was o.0;
  merges = subst
      (λ (h : SplitHands). MergesUnder h.left new.left h.right new.right h.up new.up) o.1 merges;
  left_hash = subst (λ (h : SplitHands). KeepsHashing h.left new.left) o.1 hash.0;
  right_hash = subst (λ (h : SplitHands). KeepsHashing h.right new.right) o.1 hash.1;
  remakes = remakes_both p q r (λ (shape : Shape). halves_ids shape at) out.remakes back.remakes;
}
