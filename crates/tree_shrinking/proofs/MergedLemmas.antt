-- What is in hand once a merge was made of it.
use Rattle.std.proofs.Common.{◌≢◌, ℕ, [], ◌∷◌, subst, refl, sym, arith, Option, Some, None}
use Rattle.latch_space.specs.Passes.{view}
use Rattle.hash_maintain.specs.Moves.{first_hashed}
use Rattle.index_law.specs.Shape.{Shape}
use Rattle.forest_law.specs.Numbers.{frame_id}
use Rattle.forest_world.specs.Held.{TreePass, shape_of_pass, HasFrame}
use Rattle.tree_merging.specs.FrameMerges.{MergesUnder}
use Rattle.buffer_pool.proofs.CallLemmas.{frame_has}
use Rattle.tree_smo.specs.declared.halves.SplitBlocks.{SplitBlocks}
use Rattle.tree_smo.specs.declared.halves.SplitHands.{SplitHands}
use Rattle.tree_smo.specs.Halves.{halves_ids, HasHalves}
use Rattle.tree_smo.specs.Keeping.{HasMovedRows, KeepsMovedRows, moved_ids}
use Rattle.tree_smo.specs.Plans.{HoldsNext, HasNext, RelinksBehind}
use Rattle.tree_smo.specs.Remakes.{Remakes}
use Rattle.tree_smo.proofs.BehindLemmas.{HasRelinked}
use Rattle.tree_smo.proofs.KeepingLemmas.{frame_no_part, frame_apart}
use Rattle.tree_smo.proofs.LawfulLemmas.{page_number}
use Rattle.tree_smo.proofs.PartHeldLemmas.{known_tidy, suits}
use Rattle.tree_smo.proofs.RemakeLemmas.{frame_remade, remakes_among, remakes_both, remakes_weaker}
use Rattle.tree_shrinking.specs.MergeHands.{SuitsTaken, MergesHalves, JoinsHalves}
use Rattle.tree_shrinking.specs.Merging.{CanMerge}
use Rattle.tree_shrinking.specs.MergePlans.{merged_ids}
use Rattle.tree_shrinking.proofs.MergePlanLemmas.{MergeCall, three, suits_merge, next_right, next_left, next_parent}
use Rattle.tree_shrinking.proofs.MovedRowLemmas.{merge_moves, rehashed_merge}
use Rattle.tree_shrinking.proofs.KeptPairLemmas.{MovesPair, rows_kept}
use Rattle.tree_shrinking.proofs.MovedPairLemmas.{MovedPair, pair_remade}

module _ {p : TreePass} {at : SplitBlocks} {i : ℕ} {next : Option ℕ} (c : MergeCall p at i next) where
  abbrev can : CanMerge (view p) at.parent at.child at.right i
  can = c.held.can

  abbrev pub was : SplitHands
  was = record { left = can.lower; right = can.upper; up = can.up }

  -- the index that one of both pages is hashed for, if one is
  abbrev pub their_index : Option ℕ
  their_index = first_hashed can.upper can.lower

  has_was : HasHalves p at was was
  has_was = record {
    up = frame_has p c.known at.parent can.up can.knows_up;
    left = frame_has p c.known at.child can.lower can.knows_left;
    right = frame_has p c.known at.right can.upper can.knows_right;
  }

  -- the frames can be merged
  pub suits_taken : SuitsTaken p at
  suits_taken = record {
    held = record { three = three c; was = was; has = has_was };
    suits = suits_merge c.fitted can (page_number c.fitted.whole c.fitted.is_lawful (view p)
        c.fitted.fits at.right can.upper can.is_right.page can.knows_right can.is_right.paged c.few);
  }

  module _ (m : TreePass) (joins : JoinsHalves p at m) where
    pub joined : MergesHalves p at was m
    joined = joins was has_was

    -- rows moved from the right page to the left one
    pub rows_moved : MovesPair p m at.right at.child was.right joined.now.right was.left
        joined.now.left
    rows_moved = record {
      known = c.known;
      fitted = c.fitted;
      hash = c.hash;
      apart = (three c).halves;
      gives = can.knows_right;
      takes = can.knows_left;
      ids = halves_ids (shape_of_pass p) at;
      remakes = joined.remakes;
      no_part = λ k below. (
        λ e. frame_no_part (shape_of_pass p) at.parent k below (sym e),
        (
          λ e. frame_no_part (shape_of_pass p) at.child k below (sym e),
          (λ e. frame_no_part (shape_of_pass p) at.right k below (sym e), tt),
        ),
      );
      gave = joined.has.right;
      took = joined.has.left;
      index = joined.merges.merge.page.head.index;
      fields = joined.merges.merge.page.head.fields;
      moves = merge_moves joined.merges joined.right_hash joined.left_hash
          (known_tidy p c.fitted at.child can.lower can.knows_left);
    }

-- all that is in hand, once their partition kept up with the rows that moved, with the page behind in
-- the frame of this block, where there is one
pub record MergeInHand (p : TreePass) (at : SplitBlocks) (i : ℕ) (next o : Option ℕ)
    (m : TreePass) : Type 0 where
  pub call : MergeCall p at i next
  pub now : SplitHands
  pub up : HasFrame m at.parent (was call).up now.up
  pub pair : MovedPair m (their_index call) at.right at.child (was call).right now.right
      (was call).left now.left
  pub merges : MergesUnder (was call).left now.left (was call).right now.right (was call).up now.up
  pub remakes : Remakes p m (merged_ids (shape_of_pass p) at o (their_index call))

pub merge_kept : {p : TreePass} {at : SplitBlocks} {i : ℕ} {next : Option ℕ}
    → (c : MergeCall p at i next) (m q : TreePass) → JoinsHalves p at m
    → ((h : HasMovedRows m at.right at.child) → KeepsMovedRows m at.right at.child h q)
    → MergeInHand p at i next None q
merge_kept {p} {at} c m q joins keeps =
    let j = joined c m joins in
    let k = rows_kept (rows_moved c m joins) c.laws q keeps in
    let o = their_index c in
    record {
      call = c;
      now = record { left = k.took_now; right = k.gave_now; up = j.now.up };
      up = frame_remade m q (moved_ids (shape_of_pass m) at.right at.child o) k.remakes at.parent
          (was c).up j.now.up (
            λ e. (three c).right (omega (arith, e)),
            (
              λ e. (three c).child (omega (arith, e)),
              frame_apart (shape_of_pass m) at.parent o k.parts,
            ),
          ) j.has.up;
      pair = k.pair;
      merges = rehashed_merge j.merges k.took_rest k.gave_rest;
      remakes = remakes_both p m q (λ (s : Shape). merged_ids s at None o)
          (remakes_weaker p m (halves_ids (shape_of_pass p) at)
          (merged_ids (shape_of_pass p) at None o) (λ j a. (a.0, (a.1.0, (a.1.1.0, tt)))) j.remakes)
          (remakes_weaker m q (moved_ids (shape_of_pass m) at.right at.child o)
          (merged_ids (shape_of_pass m) at None o) (λ j a. (a.1.1.0, (a.1.0, a.1.1.1))) k.remakes);
    }

-- the page behind was linked, where there is one
pub record MergeLinked (p : TreePass) (at : SplitBlocks) (i : ℕ) (next o : Option ℕ)
    (m : TreePass) : Type 0 where
  pub made : MergeInHand p at i next o m
  pub behind : HasRelinked m i made.call.held.can.level o
      made.call.held.can.is_right.page.head.next made.call.held.can.is_left.page.head.number

module _ {p : TreePass} {at : SplitBlocks} {i : ℕ} {next : Option ℕ} {m : TreePass}
    (k : MergeInHand p at i next None m) where
  abbrev c : MergeCall p at i next
  c = k.call

  abbrev can' : CanMerge (view p) at.parent at.child at.right i
  can' = c.held.can

  abbrev IsBehind : Option ℕ → Type 0
  IsBehind o = HoldsNext (view p) i can'.level o can'.is_right.page.head.next

  -- it is in another block than the three
  module _ (n : ℕ) (held : IsBehind (Some n)) where
    apart_parent : n ≢ at.parent
    apart_parent = next_parent c.fitted can' n held.0 held.1 held.2 held.3

    apart_left : n ≢ at.child
    apart_left = next_left c.fitted can' n held.0 held.1 held.2 held.3

    apart_right : n ≢ at.right
    apart_right = next_right c.fitted can' n held.0 held.1 held.2 held.3

    still_next : HasFrame m n held.0 held.0
    still_next = frame_remade p m (merged_ids (shape_of_pass p) at None (their_index c)) k.remakes n
        held.0 held.0 (
          λ z. apart_parent (omega (arith, z)),
          (
            λ z. apart_left (omega (arith, z)),
            (
              λ z. apart_right (omega (arith, z)),
              frame_apart (shape_of_pass p) n (their_index c) (suits p c.fitted).parts,
            ),
          ),
        ) (frame_has p c.known n held.0 held.1)

  pub next_in_hand : HasNext m next
  next_in_hand = go next c.held.behind
    where
      go : (o : Option ℕ) → IsBehind o → HasNext m o
      go None held = tt
      go (Some n) held = (
        held.0,
        still_next n held,
        record { page = held.2.page; has = held.2.paged },
      )

  -- so it can be linked
  pub merge_linked : (q : TreePass) → RelinksBehind m next can'.is_left.page.head.number q
      → MergeLinked p at i next next q
  merge_linked q relinks = go next c.held.behind relinks
    where
      go : (o : Option ℕ) → IsBehind o → RelinksBehind m o can'.is_left.page.head.number q
          → MergeLinked p at i next o q
      go None held same = record {
        made = record {
          call = c;
          now = k.now;
          up = subst (λ (z : TreePass). HasFrame z at.parent (was c).up k.now.up) (sym same) k.up;
          pair = subst (λ (z : TreePass). MovedPair z (their_index c) at.right at.child
              (was c).right k.now.right (was c).left k.now.left) (sym same) k.pair;
          merges = k.merges;
          remakes = subst
              (λ (z : TreePass). Remakes p z
              (merged_ids (shape_of_pass p) at None (their_index c))) (sym same) k.remakes;
        };
        behind = held;
      }
      go (Some n) held relinks =
          let r = relinks held.0 (still_next n held) in
          let s = shape_of_pass m in
          let ids = frame_id s n ∷ [] in
          record {
            made = record {
              call = c;
              now = k.now;
              up = frame_remade m q ids r.remakes at.parent (was c).up k.now.up
                  (λ z. apart_parent n held (omega (arith, z)), tt) k.up;
              pair = pair_remade k.pair q ids r.remakes
                  (λ z. apart_right n held (omega (arith, z)), tt)
                  (λ z. apart_left n held (omega (arith, z)), tt)
                  (λ j below. (λ e. frame_no_part s n j below (sym e), tt));
              merges = k.merges;
              remakes = remakes_both p m q (λ (z : Shape). merged_ids z at (Some n) (their_index c))
                  (remakes_weaker p m (merged_ids (shape_of_pass p) at None (their_index c))
                  (merged_ids (shape_of_pass p) at (Some n) (their_index c))
                  (λ j a. (a.0, (a.1.0, (a.1.1.0, a.1.1.1.1)))) k.remakes)
                  (remakes_among m q (frame_id s n) (merged_ids s at (Some n) (their_index c))
                  (λ a. a.1.1.1.0 refl) r.remakes);
            };
            behind = (held.0, r.now, r.has, held.2, held.3, r.relinks);
          }
