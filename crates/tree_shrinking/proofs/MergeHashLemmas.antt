-- A merge in hand keeps the hash.
use Rattle.std.proofs.Common.{◌≡◌, ℕ, List, [], ◌∷◌, ap, arith, Option, Some, None}
use Rattle.key_tuple.specs.Order.{FieldList}
use Rattle.index_page.specs.declared.head.PageHead.{PageHead}
use Rattle.hash_partition.specs.Part.{Part}
use Rattle.index_law.specs.Shape.{Shape}
use Rattle.forest_law.specs.declared.objects.Frame.{Frame}
use Rattle.forest_law.specs.Numbers.{part_id, frame_id}
use Rattle.latch_space.specs.Passes.{view}
use Rattle.forest_world.specs.Held.{TreePass, shape_of_pass, HasPart, IsKnownBeyond}
use Rattle.forest_world.specs.HashHands.{FrameRestsHash, HashRestsBeyond, HandKeepsHash}
use Rattle.tree_restructure.specs.Links.{Relinks}
use Rattle.tree_merging.specs.FrameMerges.{DropsPointer}
use Rattle.buffer_pool.specs.Parts.{part_of_index, part_ids}
use Rattle.tree_smo.specs.PartHeld.{LawsOfMoves}
use Rattle.tree_smo.specs.declared.halves.SplitBlocks.{SplitBlocks}
use Rattle.tree_smo.specs.Plans.{more_ids}
use Rattle.tree_smo.proofs.BehindLemmas.{HasRelinked}
use Rattle.tree_smo.proofs.KeepingLemmas.{frame_apart}
use Rattle.tree_smo.proofs.HashRestLemmas.{inner_unhashed, unhashed_rests, same_rows_rest, part_not_frame, part_rests, frame_rests}
use Rattle.tree_smo.proofs.PartHeldLemmas.{known_tidy}
use Rattle.tree_shrinking.specs.Merging.{CanMerge}
use Rattle.tree_shrinking.specs.MergePlans.{merged_ids}
use Rattle.tree_shrinking.proofs.MergedLemmas.{their_index, MergeInHand, MergeLinked}
use Rattle.tree_shrinking.proofs.MovedPairLemmas.{pair_keeps}
use Rattle.tree_shrinking.proofs.NumberLemmas.{IsNoneOf}

-- a frame whose page lost a pointer rests, since it isn't hashed
dropped_rests : (laws : LawsOfMoves) (shape : Shape) (b l r : ℕ) (f g : Frame) (at : FieldList)
    → DropsPointer l r f g at → f.hashed ≡ None → FrameRestsHash shape b f g
dropped_rests laws shape b l r f g at d none =
    unhashed_rests f g d.was.page d.new (record {
      figures = ap (λ (z : Frame). z.figures) d.kept;
      hashed = ap (λ (z : Frame). z.hashed) d.kept;
    }) d.was.has (ap (λ (z : Frame). z.page) d.kept) (ap (λ (h : PageHead). h.fields) d.head)
    laws.ask shape b none

-- a frame whose page has another left neighbour rests
relinked_rests : (laws : LawsOfMoves) (shape : Shape) (b right : ℕ) (f g : Frame)
    → Relinks right f g → FrameRestsHash shape b f g
relinked_rests laws shape b right f g r = same_rows_rest f g r.page r.new (record {
  figures = ap (λ (z : Frame). z.figures) r.kept;
  hashed = ap (λ (z : Frame). z.hashed) r.kept;
}) r.had (ap (λ (z : Frame). z.page) r.kept) (ap (λ (h : PageHead). h.fields) r.head) laws.ask shape
    b (ap (λ (h : PageHead). h.level) r.head) (ap (λ (h : PageHead). h.index) r.head) r.rows

module _ {p : TreePass} {at : SplitBlocks} {i : ℕ} {next : Option ℕ} {m : TreePass}
    (l : MergeLinked p at i next next m)
    (beyond : IsKnownBeyond m (merged_ids (shape_of_pass m) at next (their_index l.made.call))) where
  abbrev made : MergeInHand p at i next next m
  made = l.made

  abbrev can : CanMerge (view p) at.parent at.child at.right i
  can = made.call.held.can

  abbrev laws : LawsOfMoves
  laws = made.call.laws

  abbrev sh : Shape
  sh = shape_of_pass m

  abbrev o : Option ℕ
  o = their_index made.call

  abbrev Behind : Option ℕ → Type 0
  Behind z = HasRelinked m i can.level z can.is_right.page.head.next can.is_left.page.head.number

  -- a partition that is none of those held so is at rest
  parts_rest : (k : ℕ) (r t : Part) → IsNoneOf (part_id sh k) (part_ids sh (part_of_index sh o))
      → HasPart m k r t → t ≡ r
  parts_rest k r t apart has = part_rests m (merged_ids sh at next o) beyond k r t (
    part_not_frame m k at.parent r t can.up made.now.up has made.up,
    (
      part_not_frame m k at.child r t can.lower made.now.left has made.pair.took,
      (
        part_not_frame m k at.right r t can.upper made.now.right has made.pair.gave,
        go next l.behind,
      ),
    ),
  ) has
    where
      go : (z : Option ℕ) → Behind z
          → IsNoneOf (part_id sh k) (more_ids sh z (part_of_index sh o))
      go None none = apart
      go (Some b) there = (part_not_frame m k b r t there.0 there.1 has there.2, apart)

  -- the blocks whose frames change
  abbrev blocks : Option ℕ → List ℕ
  blocks None = at.parent ∷ at.right ∷ at.child ∷ []
  blocks (Some b) = b ∷ at.parent ∷ at.right ∷ at.child ∷ []

  block_ids : (z : Option ℕ) (b : ℕ) → IsNoneOf b (blocks z)
      → IsNoneOf (frame_id sh b) (merged_ids sh at z o)
  block_ids None b a = (
    (λ e. a.0 (omega (arith, e))),
    (
      (λ e. a.1.1.0 (omega (arith, e))),
      ((λ e. a.1.0 (omega (arith, e))), frame_apart sh b o made.pair.parts),
    ),
  )
  block_ids (Some d) b a = (
    (λ e. a.1.0 (omega (arith, e))),
    (
      (λ e. a.1.1.1.0 (omega (arith, e))),
      (
        (λ e. a.1.1.0 (omega (arith, e))),
        ((λ e. a.0 (omega (arith, e))), frame_apart sh b o made.pair.parts),
      ),
    ),
  )

  -- the page behind and the parent rest, and all but both blocks and their partition
  both_rest : (ks : List ℕ)
      → ((k : ℕ) → IsNoneOf k ks → IsNoneOf (part_id sh k) (part_ids sh (part_of_index sh o)))
      → HashRestsBeyond m ks (at.right ∷ at.child ∷ [])
  both_rest ks apart = laws.hands.one_more m ks (at.right ∷ at.child ∷ []) at.parent can.up
      made.now.up made.up
      (dropped_rests laws sh at.parent made.merges.merge.page.head.number
      made.merges.merge.other.head.number can.up made.now.up made.merges.at made.merges.pointer
      (inner_unhashed can.up can.above.page can.level can.above.paged can.above.at_level
      (known_tidy p made.call.fitted at.parent can.up can.knows_up)))
      (go next l.behind (record {
        parts = λ k r t ne has. parts_rest k r t (apart k ne) has;
        frames = λ b x y ne has. frame_rests m (merged_ids sh at next o) beyond laws.ask b x y
            (block_ids next b ne) has;
      }))
    where
      go : (z : Option ℕ) → Behind z → HashRestsBeyond m ks (blocks z)
          → HashRestsBeyond m ks (at.parent ∷ at.right ∷ at.child ∷ [])
      go None none rest = rest
      go (Some b) there rest = laws.hands.one_more m ks (at.parent ∷ at.right ∷ at.child ∷ []) b
          there.0 there.1 there.2
          (relinked_rests laws sh b can.is_left.page.head.number there.0 there.1 there.5) rest

  -- so the merge keeps the hash
  pub merge_hash : HandKeepsHash m
  merge_hash = pair_keeps made.pair laws both_rest
