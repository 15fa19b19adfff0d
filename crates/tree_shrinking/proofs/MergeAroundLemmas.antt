-- A merge is made while the partition of both pages' index is held.
use Rattle.std.proofs.Common.{◌≡◌, ℕ, List, ◌++◌, sym, subst, Option, Some, None}
use Rattle.latch_space.specs.Passes.{view}
use Rattle.hash_maintain.specs.Moves.{first_hashed}
use Rattle.index_law.specs.Shape.{Shape}
use Rattle.forest_law.specs.declared.objects.Frame.{Frame}
use Rattle.forest_world.specs.Held.{TreePass, shape_of_pass}
use Rattle.call_law.specs.Hands.{KnowsFrame}
use Rattle.call_law.specs.Spoken.{View}
use Rattle.buffer_pool.specs.Calls.{DoesSilently}
use Rattle.buffer_pool.specs.Parts.{part_of_index, part_ids, KnowsPartIf, GivesPartIf}
use Rattle.tree_smo.specs.declared.halves.SplitBlocks.{SplitBlocks}
use Rattle.tree_smo.specs.Plans.{HoldsNext, KnowsNext}
use Rattle.tree_smo.proofs.SplitHashLemmas.{more_apart}
use Rattle.tree_shrinking.specs.Merging.{CanMerge}
use Rattle.tree_shrinking.specs.MergePlans.{HoldsMerge, merge_ids, merged_ids, MakesMerge, MergesHashed}
use Rattle.tree_shrinking.proofs.MergePlanLemmas.{can_still}
use Rattle.tree_shrinking.proofs.NumberLemmas.{IsNoneOf}
use Rattle.tree_shrinking.proofs.PartAroundLemmas.{HoldsBeside, frame_held, frame_was, named_held, made_beside, silently_around, count_around, frame_given}

-- what a merge needs, where frames are known as they were
merge_still : (v u : View) (at : SplitBlocks) (i : ℕ) (next : Option ℕ)
    → ((b : ℕ) (f : Frame) → KnowsFrame v b f → KnowsFrame u b f) → HoldsMerge v at i next
    → HoldsMerge u at i next
merge_still v u at i next still h = record {
  can = can_still h.can (still at.parent h.can.up h.can.knows_up)
      (still at.child h.can.lower h.can.knows_left) (still at.right h.can.upper h.can.knows_right);
  behind = go next h.behind;
}
  where
    go : (z : Option ℕ) → HoldsNext v i h.can.level z h.can.is_right.page.head.next
        → HoldsNext u i h.can.level z h.can.is_right.page.head.next
    go None held = held
    go (Some b) held = (held.0, still b held.0 held.1, held.2, held.3)

known_next : (v u : View) (next : Option ℕ)
    → ((b : ℕ) (f : Frame) → KnowsFrame v b f → KnowsFrame u b f) → KnowsNext v next
    → KnowsNext u next
known_next v u None still knows = tt
known_next v u (Some b) still knows = (knows.0, still b knows.0 knows.1, knows.2)

module _ {p : TreePass} {part : Option ℕ} {q : TreePass} (at : SplitBlocks) (i : ℕ)
    (next : Option ℕ) (h : HoldsBeside p at.right at.child part q) where
  pub merge_held : HoldsMerge (view p) at i next → HoldsMerge (view q) at i next
  merge_held = merge_still (view p) (view q) at i next (frame_held h)

  module _ (r : TreePass) (made : MergesHashed q at i next r) where
    abbrev can : CanMerge (view q) at.parent at.child at.right i
    can = made.merges.was.can

    abbrev o : Option ℕ
    o = first_hashed can.upper can.lower

    named : part ≡ part_of_index (shape_of_pass q) o
    named = named_held h can.upper can.lower can.knows_right can.knows_left

    -- the partition is still held
    pub made_part : KnowsPartIf (view r) part
    made_part = subst (KnowsPartIf (view r)) (sym named) made.part

    abbrev ids : Shape → List ℕ
    ids z = merge_ids z at next

    beside : DoesSilently q r (part_ids (shape_of_pass q) part ++ ids (shape_of_pass q))
    beside = let z = shape_of_pass q in
        made_beside h r ids (merged_ids z at next o)
        (λ k none a. (
          a.0,
          (
            a.1.0,
            (
              a.1.1.0,
              more_apart z next (part_of_index z o) k a.1.1.1
                  (subst (λ ks. IsNoneOf k (part_ids z ks)) named none),
            ),
          ),
        )) made.silently

    module _ (s : TreePass) (gives : GivesPartIf r part s) where
      after : (b : ℕ) (f : Frame) → KnowsFrame (view r) b f → KnowsFrame (view s) b f
      after = frame_given h r s gives ids beside

      -- once it was given back the merge was made
      pub merge_around : MakesMerge p at i next s
      unfolding merge_still
      merge_around = record {
        silently = silently_around h r s gives ids beside;
        merges = record {
          was = merge_still (view q) (view p) at i next (frame_was h) made.merges.was;
          now = made.merges.now;
          knows = record {
            up = after at.parent made.merges.now.up made.merges.knows.up;
            left = after at.child made.merges.now.left made.merges.knows.left;
            right = after at.right made.merges.now.right made.merges.knows.right;
          };
          merges = made.merges.merges;
          behind = known_next (view r) (view s) next after made.merges.behind;
        };
        count = count_around h r s gives ids beside made.count;
      }
