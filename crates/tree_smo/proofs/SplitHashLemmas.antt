-- A split in hand keeps the hash.
use Rattle.std.proofs.Common.{◌≡◌, ◌≢◌, ℕ, ◌<◌, List, [], ◌∷◌, sym, ap, subst, ◌∙◌, refl, arith, Option, Some, None}
use Rattle.std.specs.List.{AllByRecursion}
use lib.ListN.{get_elem?}
use Rattle.latch_space.specs.Has.{DidSettle}
use Rattle.latch_space.specs.Passes.{view, values, known_values, Shows}
use Rattle.index_page.specs.declared.head.PageHead.{PageHead}
use Rattle.hash_partition.specs.Part.{Part}
use Rattle.hash_law.specs.Blocks.{part_for}
use Rattle.index_law.specs.Shape.{Shape}
use Rattle.forest_law.specs.declared.objects.Frame.{Frame}
use Rattle.forest_law.specs.declared.objects.Object.{Object}
use Rattle.forest_law.specs.declared.objects.Object.TheVariants as object
use Rattle.forest_law.specs.Numbers.{part_id, frame_id}
use Rattle.forest_law.specs.Objects.{Becomes}
use Rattle.forest_law.specs.Steps.{Rests}
use Rattle.forest_world.specs.Held.{TreePass, shape_of_pass, HasPart, IsKnownBeyond}
use Rattle.forest_world.specs.HashHands.{HashRestsBeyond, HandKeepsHash}
use Rattle.call_law.specs.Spoken.{View}
use Rattle.buffer_pool.specs.Parts.{part_of_index, part_ids, KnowsPartIf}
use Rattle.tree_smo.specs.declared.halves.SplitHands.{SplitHands}
use Rattle.tree_smo.specs.declared.plans.SplitPlan.{SplitPlan}
use Rattle.tree_smo.specs.Keeping.{KeepsPart, move_of}
use Rattle.tree_smo.specs.PartHeld.{LawsOfMoves}
use Rattle.tree_smo.specs.Plans.{next_ids, more_ids, split_ids}
use Rattle.tree_smo.specs.Remakes.{Remakes}
use Rattle.tree_smo.proofs.BehindLemmas.{HasRelinked}
use Rattle.tree_smo.proofs.ChangedLemmas.{was, some_parts, part_is, apart_part, SplitsKept, IsRemade}
use Rattle.tree_smo.proofs.HashRestLemmas.{HasSomePart, parts_shown, parts_or_rest, inner_unhashed, unhashed_rests, same_rows_rest, part_not_frame, part_rests, frame_rests}
use Rattle.tree_smo.proofs.PartHeldLemmas.{known_tidy, block_below}
use Rattle.tree_smo.proofs.PlanLemmas.{SplitCall}
use Rattle.tree_smo.proofs.SettledLemmas.{known_beyond}

-- a number that is neither that of the page behind nor that of the partition is none of both
pub more_apart : (s : Shape) (o part : Option ℕ) (k : ℕ)
    → AllByRecursion (λ (j : ℕ). k ≢ j) (next_ids s o)
    → AllByRecursion (λ (j : ℕ). k ≢ j) (part_ids s part)
    → AllByRecursion (λ (j : ℕ). k ≢ j) (more_ids s o part)
more_apart s None part k next none = none
more_apart s (Some b) part k next none = (next.0, none)

module _ (p : TreePass) (plan : SplitPlan) (right : ℕ) (c : SplitCall p plan right) (m0 : TreePass)
    (halves : SplitsKept p plan right c m0) (m : TreePass) where
  -- what is in hand behind a split, with the laws of the hash
  pub record SplitHash : Type 0 where
    pub laws : LawsOfMoves
    pub all : IsRemade p plan right c m0 halves m plan.next

  module _ (s : SplitHash) where
    abbrev all : IsRemade p plan right c m0 halves m plan.next
    all = s.all

    abbrev hands : SplitHands
    hands = was p plan right c

    abbrev sh : Shape
    sh = shape_of_pass m

    shapes : shape_of_pass p ≡ shape_of_pass m
    shapes = ap (λ (v : View). v.terms.shape) (sym all.remakes.same_view)

    parts : 0 < sh.parts
    parts = subst (λ (z : Shape). 0 < z.parts) shapes (some_parts p plan right c)

    part_number : c.part ≡ part_of_index sh hands.left.hashed
    part_number = part_is p plan right c ∙ ap (λ (z : Shape). part_of_index z hands.left.hashed) shapes

    kept : (i : ℕ) → hands.left.hashed ≡ Some i → (x : Frame) × (y : Frame)
        × KeepsPart sh m i plan.child right hands.left x halves.now.left hands.right y
        halves.now.right
    kept i is = subst
        (λ (z : Shape). (x : Frame) × (y : Frame)
        × KeepsPart z m i plan.child right hands.left x halves.now.left hands.right y
        halves.now.right) shapes (all.kept.hashed i is)

    parts_held : AllByRecursion (HasSomePart m) (part_ids sh c.part)
    parts_held = subst (λ o. AllByRecursion (HasSomePart m) (part_ids sh o)) (sym part_number)
        (go hands.left.hashed refl)
      where
        go : (o : Option ℕ) → hands.left.hashed ≡ o
            → AllByRecursion (HasSomePart m) (part_ids sh (part_of_index sh o))
        go None e = tt
        go (Some i) e = let k = (kept i e).2 in ((k.known, k.now, k.has), tt)

    -- the page behind and the partition show, where there are these
    pub more_shows : AllByRecursion (λ (k : ℕ). (x : Object) × Shows m k x)
        (more_ids sh plan.next c.part)
    more_shows = go plan.next all.next
      where
        go : (o : Option ℕ)
            → HasRelinked m plan.head.index c.held.can.level o plan.head.next c.number
            → AllByRecursion (λ (k : ℕ). (x : Object) × Shows m k x) (more_ids sh o c.part)
        go None none = parts_shown m (part_ids sh c.part) parts_held
        go (Some b) has =
            ((object.Frame has.1, has.2.value), parts_shown m (part_ids sh c.part) parts_held)

    -- the partition plays no part in the pages
    pub part_or_rests : (k : ℕ) (x y : Object) → Becomes (known_values m) (values m) k x y
        → (AllByRecursion (λ (j : ℕ). k ≢ j) (part_ids sh c.part) → Rests x y) → Rests x y
    part_or_rests = parts_or_rest m (part_ids sh c.part) parts_held

    -- it is still held once it is settled
    pub part_still : (q : TreePass) → DidSettle m q → KnowsPartIf (view q) c.part
    part_still q did = subst (KnowsPartIf (view q)) (sym part_number) (go hands.left.hashed refl)
      where
        same : shape_of_pass q ≡ sh
        same = ap (λ (v : View). v.terms.shape) did.view

        go : (o : Option ℕ) → hands.left.hashed ≡ o → KnowsPartIf (view q) (part_of_index sh o)
        go None e = tt
        go (Some i) e = let k = (kept i e).2 in (
          subst (λ (z : Shape). part_for sh.parts i < z.parts) (sym same) (omega (arith, parts)),
          k.now,
          (
            (did.learnt.has (part_id sh (part_for sh.parts i)) (object.Part k.known)
                (object.Part k.now) k.has).held.0,
            ap (λ (z : Shape). get_elem? (view q).held (part_id z (part_for sh.parts i))) same
                ∙ (did.learnt.has (part_id sh (part_for sh.parts i)) (object.Part k.known)
                (object.Part k.now) k.has).held.1,
          ),
        )

    abbrev ids : List ℕ
    ids = split_ids sh plan right c.part

    now_ids : Remakes p m ids
    now_ids = subst (λ (z : Shape). Remakes p m (split_ids z plan right c.part)) shapes all.remakes

    beyond : IsKnownBeyond m ids
    beyond = known_beyond p m ids c.known now_ids

    -- a partition that is none of those held so is at rest
    parts_rest : (j : ℕ) (r t : Part)
        → AllByRecursion (λ (n : ℕ). part_id sh j ≢ n) (part_ids sh c.part) → HasPart m j r t → t ≡ r
    parts_rest j r t apart has = part_rests m ids beyond j r t (
      part_not_frame m j plan.parent r t hands.up halves.now.up has all.has.up,
      (
        part_not_frame m j plan.child r t hands.left halves.now.left has all.has.left,
        (
          part_not_frame m j right r t hands.right halves.now.right has all.has.right,
          go plan.next all.next,
        ),
      ),
    ) has
      where
        go : (o : Option ℕ)
            → HasRelinked m plan.head.index c.held.can.level o plan.head.next c.number
            → AllByRecursion (λ (n : ℕ). part_id sh j ≢ n) (more_ids sh o c.part)
        go None none = apart
        go (Some b) next = (part_not_frame m j b r t next.0 next.1 has next.2, apart)

    -- the blocks whose frames change
    abbrev blocks : Option ℕ → List ℕ
    blocks None = plan.parent ∷ plan.child ∷ right ∷ []
    blocks (Some b) = b ∷ plan.parent ∷ plan.child ∷ right ∷ []

    block_ids : (o : Option ℕ) (b : ℕ) → AllByRecursion (λ (d : ℕ). b ≢ d) (blocks o)
        → AllByRecursion (λ (n : ℕ). frame_id sh b ≢ n)
        (frame_id sh plan.parent ∷ frame_id sh plan.child ∷ frame_id sh right
        ∷ more_ids sh o c.part)
    block_ids None b a = (
      (λ e. a.0 (omega (arith, e))),
      (
        (λ e. a.1.0 (omega (arith, e))),
        ((λ e. a.1.1.0 (omega (arith, e))), apart_part p plan right c sh parts shapes b),
      ),
    )
    block_ids (Some d) b a = (
      (λ e. a.1.0 (omega (arith, e))),
      (
        (λ e. a.1.1.0 (omega (arith, e))),
        (
          (λ e. a.1.1.1.0 (omega (arith, e))),
          ((λ e. a.0 (omega (arith, e))), apart_part p plan right c sh parts shapes b),
        ),
      ),
    )

    all_rest : (ks : List ℕ)
        → ((j : ℕ) → AllByRecursion (λ (k : ℕ). j ≢ k) ks
        → AllByRecursion (λ (n : ℕ). part_id sh j ≢ n) (part_ids sh c.part))
        → HashRestsBeyond m ks (blocks plan.next)
    all_rest ks apart = record {
      parts = λ j r t ne has. parts_rest j r t (apart j ne) has;
      frames = λ b x y ne has. frame_rests m ids beyond s.laws.ask b x y (block_ids plan.next b ne)
          has;
    }

    -- the page behind and the parent rest
    halves_rest : (ks : List ℕ)
        → ((j : ℕ) → AllByRecursion (λ (k : ℕ). j ≢ k) ks
        → AllByRecursion (λ (n : ℕ). part_id sh j ≢ n) (part_ids sh c.part))
        → HashRestsBeyond m ks (plan.child ∷ right ∷ [])
    halves_rest ks apart =
        let up = halves.splits.pointer in
        s.laws.hands.one_more m ks (plan.child ∷ right ∷ []) plan.parent hands.up halves.now.up
        all.has.up
        (unhashed_rests hands.up halves.now.up up.page up.new (record {
          figures = ap (λ (z : Frame). z.figures) up.kept;
          hashed = ap (λ (z : Frame). z.hashed) up.kept;
        }) up.had (ap (λ (z : Frame). z.page) up.kept) (ap (λ (z : PageHead). z.fields) up.head)
        s.laws.ask sh plan.parent
        (inner_unhashed hands.up c.held.can.above.page c.held.can.level c.held.can.above.paged
        c.held.can.above.at_level
        (known_tidy p c.fitted plan.parent hands.up c.held.can.knows_up)))
        (go plan.next all.next (all_rest ks apart))
      where
        go : (o : Option ℕ)
            → HasRelinked m plan.head.index c.held.can.level o plan.head.next c.number
            → HashRestsBeyond m ks (blocks o)
            → HashRestsBeyond m ks (plan.parent ∷ plan.child ∷ right ∷ [])
        go None none rest = rest
        go (Some b) next rest = let r = next.5 in
            s.laws.hands.one_more m ks (plan.parent ∷ plan.child ∷ right ∷ []) b next.0 next.1 next.2
            (same_rows_rest next.0 next.1 r.page r.new (record {
              figures = ap (λ (z : Frame). z.figures) r.kept;
              hashed = ap (λ (z : Frame). z.hashed) r.kept;
            }) r.had (ap (λ (z : Frame). z.page) r.kept) (ap (λ (z : PageHead). z.fields) r.head)
            s.laws.ask sh b (ap (λ (z : PageHead). z.level) r.head)
            (ap (λ (z : PageHead). z.index) r.head) r.rows) rest

    -- where the child isn't hashed, neither half is
    unhashed_keeps : hands.left.hashed ≡ None → HandKeepsHash m
    unhashed_keeps none =
        let cut = halves.splits.cut in
        let hash = all.kept.unhashed none in
        let only : HashRestsBeyond m [] (plan.child ∷ right ∷ []) = halves_rest [] (λ j ne.
        subst (λ o. AllByRecursion (λ (n : ℕ). part_id sh j ≢ n) (part_ids sh o))
        (sym (part_number ∙ ap (part_of_index sh) none)) tt) in
        s.laws.hands.rests m
        (s.laws.hands.one_more m [] [] right hands.right halves.now.right all.has.right
        (unhashed_rests hands.right halves.now.right cut.fresh cut.new hash.1 cut.had_fresh
        cut.has_new (ap (λ (z : PageHead). z.fields) cut.cuts.new_head) s.laws.ask sh right
        c.blank.hashed)
        (s.laws.hands.one_more m [] (right ∷ []) plan.child hands.left halves.now.left all.has.left
        (unhashed_rests hands.left halves.now.left cut.page cut.stays hash.0 cut.had cut.has
        (ap (λ (z : PageHead). z.fields) cut.cuts.head) s.laws.ask sh plan.child none) only))

    -- and where it is, its partition kept up with both
    hashed_keeps : (i : ℕ) → hands.left.hashed ≡ Some i → HandKeepsHash m
    hashed_keeps i is =
        let e = kept i is in
        let k = e.2 in
        let same = ap (λ (v : View). v.terms.shape) all.remakes.same_view in
        s.laws.moves.keeps m (move_of sh i plan.child right e.0 e.1) (record {
          known = k.known;
          now = k.now;
          gave_old = hands.left;
          gave_new = halves.now.left;
          took_old = hands.right;
          took_new = halves.now.right;
          part = k.has;
          apart = k.apart;
          empty = k.empty;
          gave = record {
            below = subst (λ (z : Shape). plan.child < z.blocks) shapes
                (block_below p c.fitted plan.child hands.left c.held.can.knows_low);
            frame = all.has.left;
            stays = k.gave;
          };
          took = record {
            below = subst (λ (z : Shape). right < z.blocks) shapes
                (block_below p c.fitted right hands.right c.knows);
            frame = all.has.right;
            stays = k.took;
          };
          bits = refl;
          keeps = k.keeps;
          beyond = halves_rest (part_for sh.parts i ∷ []) (λ j ne.
              subst (λ o. AllByRecursion (λ (n : ℕ). part_id sh j ≢ n) (part_ids sh o))
              (sym (part_number ∙ ap (part_of_index sh) is))
              ((λ z. ne.0 (omega (arith, z))), tt));
        })

    pub split_hash : HandKeepsHash m
    split_hash = go hands.left.hashed refl
      where
        go : (o : Option ℕ) → hands.left.hashed ≡ o → HandKeepsHash m
        go None e = unhashed_keeps e
        go (Some i) e = hashed_keeps i e
