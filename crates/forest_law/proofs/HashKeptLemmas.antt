-- The hash stays exact.
use Rattle.std.proofs.Common.{◌≡◌, inl, inr, ℕ, List, Option, Some, None, refl, sym, ap, subst, ◌∙◌}
use mathlib.Core.Option.{some, some-injective}
use mathlib.Core.Option as maybe
use lib.ListN.{get_elem?}
use Rattle.list_facts.proofs.Places.{same_some}
use Rattle.hash_partition.specs.Part.{Part}
use Rattle.hash_law.specs.Blocks.{HashBlock, IsTidy, IsExact}
use Rattle.index_law.specs.Shape.{Shape}
use Rattle.forest_law.specs.declared.objects.Frame.{Frame}
use Rattle.forest_law.specs.declared.objects.Object.{Object}
use Rattle.forest_law.specs.declared.objects.Object.TheVariants as object
use Rattle.forest_law.specs.Numbers.{part_id, frame_id}
use Rattle.forest_law.specs.Objects.{IsFrameOf, IsPartOf, Becomes}
use Rattle.forest_law.specs.Kinds.{KeepsKind}
use Rattle.forest_law.specs.Hashed.{folds_for, hash_block, part_of, part_at, hash_block_of, hash_block_at, IsPartFor, IsHashExact}
use Rattle.forest_law.specs.HashKept.{PartLeads, FrameLeads, KeepsHash}
use Rattle.forest_law.proofs.ObjectLemmas.{Changes, Leads, was_frame, was_part}

module _ (sh : Shape) (xs : List Object) where
  -- a partition that is found among the objects is one
  pub part_there : (k : ℕ) (p : Part) → part_at sh xs k ≡ Some p → IsPartOf sh xs k p
  part_there k p e = pick (get_elem? xs (part_id sh k)) refl e
    where
      none_is : None ≡ Some p → ⊥
      none_is q = absurd cc

      pick : (o : maybe.Option Object) → get_elem? xs (part_id sh k) ≡ o → part_of o ≡ Some p
          → IsPartOf sh xs k p
      pick (some (object.Part q)) at is = at ∙ ap (λ r. some (object.Part r)) (same_some q p is)
      pick (some (object.Frame f)) at is = absurd (none_is is)
      pick (some (object.Pool q)) at is = absurd (none_is is)
      pick (some (object.Tree t)) at is = absurd (none_is is)
      pick maybe.none at is = absurd (none_is is)

  -- and a block is that of a frame
  pub record BlockThere (b : ℕ) (x : HashBlock) : Type 0 where
    pub frame : Frame
    pub at : IsFrameOf sh xs b frame
    pub is : hash_block frame ≡ x

  pub block_there : (b : ℕ) (x : HashBlock) → hash_block_at sh xs b ≡ Some x → BlockThere b x
  block_there b x e = pick (get_elem? xs (frame_id sh b)) refl e
    where
      none_is : None ≡ Some x → ⊥
      none_is q = absurd cc

      pick : (o : maybe.Option Object) → get_elem? xs (frame_id sh b) ≡ o
          → hash_block_of o ≡ Some x → BlockThere b x
      pick (some (object.Frame f)) at is =
          record { frame = f; at = at; is = same_some (hash_block f) x is }
      pick (some (object.Part p)) at is = absurd (none_is is)
      pick (some (object.Pool p)) at is = absurd (none_is is)
      pick (some (object.Tree t)) at is = absurd (none_is is)
      pick maybe.none at is = absurd (none_is is)

module _ (sh : Shape) (xs ys : List Object) (before news : List (Option Object))
    (leads : Leads xs ys before news)
    (keeps : (k : ℕ) (x y : Object) → Becomes before news k x y → KeepsKind x y) where
  -- the frame that a frame was
  record FrameWas (b : ℕ) (g : Frame) : Type 0 where
    frame : Frame
    at : IsFrameOf sh xs b frame
    came : FrameLeads sh before news b frame g

  frame_was : (b : ℕ) (g : Frame) → IsFrameOf sh ys b g → FrameWas b g
  frame_was b g at = elim (leads.fate (frame_id sh b)) [
    | inl stays ↦ record {
      frame = g;
      at = sym stays.same ∙ at;
      came = inr ((λ z e. stays.free (object.Frame z) e), refl);
    }
    | inr c ↦ changed c
  ]
    where
      changed : Changes xs ys before news (frame_id sh b) → FrameWas b g
      changed c = let new : c.new ≡ object.Frame g =
          some-injective c.new (object.Frame g) (sym c.is ∙ at) in
          let f = was_frame c.old g
          (subst (KeepsKind c.old) new (keeps (frame_id sh b) c.old c.new c.becomes)) in
          record {
            frame = f.0;
            at = c.was ∙ ap some f.1;
            came = inl (
              c.becomes.0 ∙ ap (λ x. some (Some x)) f.1,
              c.becomes.1 ∙ ap (λ x. some (Some x)) new,
            );
          }

  -- the partition that a partition was
  record PartWas (k : ℕ) (q : Part) : Type 0 where
    part : Part
    at : IsPartOf sh xs k part
    came : PartLeads sh before news k part q

  part_was : (k : ℕ) (q : Part) → IsPartOf sh ys k q → PartWas k q
  part_was k q at = elim (leads.fate (part_id sh k)) [
    | inl stays ↦ record {
      part = q;
      at = sym stays.same ∙ at;
      came = inr ((λ z e. stays.free (object.Part z) e), refl);
    }
    | inr c ↦ changed c
  ]
    where
      changed : Changes xs ys before news (part_id sh k) → PartWas k q
      changed c = let new : c.new ≡ object.Part q =
          some-injective c.new (object.Part q) (sym c.is ∙ at) in
          let p = was_part c.old q
          (subst (KeepsKind c.old) new (keeps (part_id sh k) c.old c.new c.becomes)) in
          record {
            part = p.0;
            at = c.was ∙ ap some p.1;
            came = inl (
              c.becomes.0 ∙ ap (λ x. some (Some x)) p.1,
              c.becomes.1 ∙ ap (λ x. some (Some x)) new,
            );
          }

  -- the hash stays exact
  module _ (law : IsHashExact sh xs) (keep : KeepsHash sh before news) where
    tidy : (b : ℕ) (g : Frame) → IsFrameOf sh ys b g → IsTidy (hash_block g)
    tidy b g at = let f = frame_was b g at in
        let was = law.tidy b (hash_block f.frame) (ap hash_block_of f.at) in elim f.came [
          | inl becomes ↦ keep.tidy b f.frame g becomes was
          | inr free ↦ subst (λ z. IsTidy (hash_block z)) (sym free.1) was
        ]

    sound : (k : ℕ) (q : Part) → IsPartOf sh ys k q → IsPartFor sh q
    sound k q at = let p = part_was k q at in
        let was = law.sound k p.part (ap part_of p.at) in elim p.came [
          | inl becomes ↦ keep.sound k p.part q becomes was
          | inr free ↦ subst (IsPartFor sh) (sym free.1) was
        ]

    pub hash_stays : IsHashExact sh ys
    hash_stays = record {
      tidy = λ b x e. (let f = block_there sh ys b x e in subst IsTidy f.is (tidy b f.frame f.at));
      sound = λ k q e. sound k q (part_there sh ys k q e);
      exact = λ k b q x at-part at-block. (let g = block_there sh ys b x at-block in
          let p = part_was k q (part_there sh ys k q at-part) in
          let f = frame_was b g.frame g.at in
          subst (IsExact (folds_for sh) sh.parts k b q) g.is
          (keep.exact k b p.part q f.frame g.frame p.came f.came
          (law.exact k b p.part (hash_block f.frame) (ap part_of p.at) (ap hash_block_of f.at))));
    }
