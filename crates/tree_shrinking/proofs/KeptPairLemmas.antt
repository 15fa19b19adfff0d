-- The partition of two blocks keeps up with rows that moved between their pages.
use Rattle.std.proofs.Common.{◌≡◌, ◌≢◌, ℕ, ◌<◌, List, sym, subst, ◌∙◌, refl, Option, Some, None}
use Rattle.latch_space.specs.Has.{IsKnown}
use Rattle.latch_space.specs.Passes.{view}
use Rattle.hash_law.specs.Blocks.{part_for}
use Rattle.hash_upkeep.specs.Moves.{built_or}
use Rattle.index_law.specs.Shape.{Shape}
use Rattle.forest_law.specs.declared.objects.Frame.{Frame}
use Rattle.forest_law.specs.Numbers.{part_id, frames_of}
use Rattle.forest_world.specs.Held.{TreePass, shape_of_pass, HasFrame}
use Rattle.forest_world.specs.HashHands.{FrameRestsHash}
use Rattle.hash_maintain.specs.Moves.{first_hashed}
use Rattle.hash_maintain.specs.MoveLaws.{MovesRows}
use Rattle.hash_maintain.specs.Upkeep.{AreInPlace}
use Rattle.call_law.specs.Hands.{KnowsFrame}
use Rattle.buffer_pool.specs.Forests.{IsFittedTree}
use Rattle.buffer_pool.specs.Parts.{part_of_index}
use Rattle.tree_smo.specs.Keeping.{HasMovedRows, RehashesFrame, KeepsPart, moved_ids, KeepsMovedRows}
use Rattle.tree_smo.specs.PartHeld.{HoldsExactIf, LawsOfMoves}
use Rattle.tree_smo.specs.Remakes.{Remakes}
use Rattle.tree_smo.proofs.HashRestLemmas.{unhashed_rests}
use Rattle.tree_smo.proofs.KeepingLemmas.{exact_remade, place_remade}
use Rattle.tree_smo.proofs.PartHeldLemmas.{known_tidy, suits, block_below, in_place_known, exact_part}
use Rattle.tree_smo.proofs.RemakeLemmas.{same_shape}
use Rattle.tree_shrinking.specs.Hashing.{HoldsTheirPart}
use Rattle.tree_shrinking.proofs.NumberLemmas.{IsNoneOf}
use Rattle.tree_shrinking.proofs.MovedPairLemmas.{KeepsBoth, MovedPair}

-- neither of two frames is hashed, where there is no first index
neither_hashed : (f g : Frame) → first_hashed f g ≡ None → (f.hashed ≡ None) × (g.hashed ≡ None)
neither_hashed f g none = go f.hashed g.hashed refl refl
  where
    none_some : (i : ℕ) → None ≡ Some i → ⊥
    none_some i e = absurd cc

    go : (a b : Option ℕ) → f.hashed ≡ a → g.hashed ≡ b → (f.hashed ≡ None) × (g.hashed ≡ None)
    go None None d e = (d, e)
    go None (Some j) d e = absurd (none_some j (sym none ∙ (λ i. built_or (d i) (e i))))
    go (Some j) b d e = absurd (none_some j (sym none ∙ (λ i. built_or (d i) (e i))))

-- rows moved between the frames of two blocks, known as f and g, that are x and y now, while the
-- partition was held of the index that one of them is hashed for, if one is
pub record MovesPair (p m : TreePass) (a b : ℕ) (f x g y : Frame) : Type 0 where
  pub known : IsKnown p
  pub fitted : IsFittedTree (view p)
  pub hash : HoldsTheirPart (view p) a b
  pub apart : a ≢ b
  pub gives : KnowsFrame (view p) a f
  pub takes : KnowsFrame (view p) b g
  pub ids : List ℕ
  pub remakes : Remakes p m ids
  pub no_part : (k : ℕ) → k < (shape_of_pass p).parts → IsNoneOf (part_id (shape_of_pass p) k) ids
  pub gave : HasFrame m a f x
  pub took : HasFrame m b g y
  pub index : ℕ
  pub fields : ℕ
  pub moves : MovesRows index fields f x g y

-- the partition kept up with them
pub record KeepsPair (m q : TreePass) (a b : ℕ) (f x g y : Frame) : Type 0 where
  pub gave_now : Frame
  pub took_now : Frame
  pub pair : MovedPair q (first_hashed f g) a b f gave_now g took_now
  pub gave_rest : RehashesFrame x gave_now
  pub took_rest : RehashesFrame y took_now
  pub remakes : Remakes m q (moved_ids (shape_of_pass m) a b (first_hashed f g))
  pub parts : 0 < (shape_of_pass m).parts

module _ {p m : TreePass} {a b : ℕ} {f x g y : Frame} (c : MovesPair p m a b f x g y) where
  shapes : shape_of_pass p ≡ shape_of_pass m
  shapes = same_shape p m c.ids c.remakes

  -- both are hashed for the index of before
  same_index : first_hashed x y ≡ first_hashed f g
  same_index i = built_or (c.moves.gave.hashed i) (c.moves.took.hashed i)

  -- no partition is taken out
  pub in_place : AreInPlace m
  in_place = place_remade p m c.ids c.remakes c.no_part (in_place_known p c.fitted c.known)

  pub moved_rows : HasMovedRows m a b
  moved_rows = record {
    index = c.index;
    fields = c.fields;
    gave_old = f;
    gave_new = x;
    took_old = g;
    took_new = y;
    gave = c.gave;
    took = c.took;
    apart = c.apart;
    moves = c.moves;
    tidy = known_tidy p c.fitted a f c.gives;
    took_tidy = known_tidy p c.fitted b g c.takes;
    part = λ j found. (let held = subst
        (λ o. HoldsExactIf (view p) (part_of_index (shape_of_pass p) o)) (sym same_index ∙ found)
        (c.hash f g c.gives c.takes) in
        exact_remade p m c.ids c.remakes j a b f g
        (c.no_part (part_for (shape_of_pass p).parts j) held.0)
        (exact_part p c.known j a b f g c.gives c.takes held));
  }

  module _ (laws : LawsOfMoves) (q : TreePass) (keeps : (h : HasMovedRows m a b)
      → KeepsMovedRows m a b h q) where
    abbrev kept : KeepsMovedRows m a b moved_rows q
    kept = keeps moved_rows

    remade : Remakes m q (moved_ids (shape_of_pass m) a b (first_hashed f g))
    unfolding moved_rows
    remade = subst (λ o. Remakes m q (moved_ids (shape_of_pass m) a b o)) same_index kept.remakes

    same : shape_of_pass m ≡ shape_of_pass q
    same = same_shape m q (moved_ids (shape_of_pass m) a b (first_hashed f g)) remade

    keeps_both : (o : Option ℕ) → first_hashed x y ≡ o
        → KeepsBoth q o a b f kept.gave_now g kept.took_now
    unfolding moved_rows
    keeps_both None e =
        let none = neither_hashed f g (sym same_index ∙ e) in
        let rest = kept.unhashed e in
        let r = c.moves in (
          subst (FrameRestsHash (shape_of_pass q) a f) (sym rest.0)
              (unhashed_rests f x r.from r.left r.gave r.from_is.page_is r.left_is.page_is
              (r.left_is.fields_are ∙ sym r.from_is.fields_are) laws.ask (shape_of_pass q) a none.0),
          subst (FrameRestsHash (shape_of_pass q) b g) (sym rest.1)
              (unhashed_rests g y r.to r.got r.took r.to_is.page_is r.got_is.page_is
              (r.got_is.fields_are ∙ sym r.to_is.fields_are) laws.ask (shape_of_pass q) b none.1),
        )
    keeps_both (Some j) e = (
      x,
      y,
      subst (λ (s : Shape). KeepsPart s q j a b f x kept.gave_now g y kept.took_now) same
          (kept.hashed j e),
    )

    pub rows_kept : KeepsPair m q a b f x g y
    unfolding moved_rows
    rows_kept = record {
      gave_now = kept.gave_now;
      took_now = kept.took_now;
      pair = record {
        gave = kept.gave;
        took = kept.took;
        gave_below = subst (λ (s : Shape). a < frames_of s) (shapes ∙ same)
            (block_below p c.fitted a f c.gives);
        took_below = subst (λ (s : Shape). b < frames_of s) (shapes ∙ same)
            (block_below p c.fitted b g c.takes);
        parts = subst (λ (s : Shape). 0 < s.parts) (shapes ∙ same) (suits p c.fitted).parts;
        keeps = subst (λ o. KeepsBoth q o a b f kept.gave_now g kept.took_now) same_index
            (keeps_both (first_hashed x y) refl);
      };
      gave_rest = kept.gave_rest;
      took_rest = kept.took_rest;
      remakes = remade;
      parts = subst (λ (s : Shape). 0 < s.parts) shapes (suits p c.fitted).parts;
    }
