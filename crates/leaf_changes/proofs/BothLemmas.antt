-- The leaf and its partition, held together and given back.
use Rattle.std.proofs.Common.{◌≡◌, ◌<◌, ℕ, [], ◌∷◌, sym, ap, subst, ◌∙◌, refl, arith, Option, Some, None}
use lib.ListN.{get_elem?}
use Rattle.list_facts.proofs.Places.{same_some}
use Rattle.key_tuple.specs.Order.{FieldList}
use Rattle.latch_law.specs.declared.knows.Terms.{Terms}
use Rattle.latch_space.specs.Has.{Has}
use Rattle.latch_space.specs.Passes.{view, count}
use Rattle.latch_space.proofs.Pointwise.{has_still}
use Rattle.index_page.specs.declared.spot.Spot.{Spot}
use Rattle.hash_law.specs.Blocks.{part_for}
use Rattle.index_law.specs.Shape.{Shape}
use Rattle.forest_law.specs.declared.objects.Frame.{Frame}
use Rattle.forest_law.specs.declared.objects.Object.TheVariants as object
use Rattle.forest_law.specs.Numbers.{part_id, frame_id}
use Rattle.forest_world.specs.Held.{TreePass, shape_of_pass, HasFrame}
use Rattle.hash_maintain.proofs.PassLemmas.{knows_forest}
use Rattle.call_law.specs.Hands.{KnowsFrame}
use Rattle.call_law.specs.Spoken.{View}
use Rattle.buffer_pool.specs.Forests.{IsFittedTree}
use Rattle.buffer_pool.specs.Frames.{GivesFrame}
use Rattle.buffer_pool.specs.Hands.{MayGiveBack}
use Rattle.buffer_pool.specs.Parts.{part_of_index, HoldsPartIf, HoldsPartToo, KnowsPartIf}
use Rattle.buffer_pool.proofs.AddedLemmas.{frame_still}
use Rattle.buffer_pool.proofs.CallLemmas.{frame_has}
use Rattle.buffer_pool.proofs.PartLemmas.{part_has}
use Rattle.page_view.specs.Finding.{HasSpot}
use Rattle.leaf_changes.specs.Hashed.{HoldsLeafAndPart, HoldsHashed, HoldsPartKept, KeepsHashed, GivesPartOf, count_with_part}
use Rattle.leaf_changes.specs.Holds.{IsLeafOf, HoldsFreshAlone, HoldsStill, StaysKnown}
use Rattle.engine_law.proofs.KnownLemmas.{part_no_frame}
use Rattle.leaf_changes.proofs.StayLemmas.{alike_stays}
use Rattle.leaf_changes.proofs.UpkeepLemmas.{none_hashed}

-- the partition of an index is one of all
pub part_is_one : (p : TreePass) (index : ℕ) → IsFittedTree (view p)
    → part_for (shape_of_pass p).parts index < (shape_of_pass p).parts
part_is_one p index fitted = let some = (knows_forest p fitted).hash.parts in omega (arith, some)

module _ (p q : TreePass) (b i : ℕ) (key : FieldList) (spot : Spot)
    (alone : HoldsFreshAlone p b i key spot) (fitted : IsFittedTree (view q)) where
  abbrev f : Frame
  f = alone.fresh.frame

  -- no partition is held, where the leaf isn't hashed
  none_held : f.hashed ≡ None → HoldsHashed p b i key spot
  none_held e = record {
    fresh = alone.fresh;
    hash = subst (λ (o : Option ℕ). KeepsHashed p o b f f f) (sym e) (record {
      rest = λ j h apart held. alone.fresh.known j h held;
      part = alone.parts;
      was = none_hashed None f e;
      is = none_hashed None f e;
      tidy = λ t. t;
      stays = alike_stays p b f f (λ index params was. was);
      room = (let one = alone.one in omega (arith, one));
    });
  }

  module _ (index : ℕ) (e : f.hashed ≡ Some index)
      (took : HoldsPartToo p (part_for (shape_of_pass p).parts index) q) where
    abbrev k : ℕ
    k = part_for (shape_of_pass p).parts index

    terms : (view q).terms ≡ (view p).terms
    terms = took.tries.does.adds.numbers.terms

    below : k < (shape_of_pass p).parts
    below = subst (λ (t : Terms Shape). part_for t.shape.parts index < t.shape.parts) terms
        (part_is_one q index fitted)

    knows : KnowsFrame (view q) b f
    knows = frame_still (view p) (view q) (part_id (shape_of_pass p) k ∷ [])
        took.tries.does.adds.numbers took.tries.does.rest b
        ((λ e. part_no_frame (shape_of_pass p) k b below (sym e)), tt) f
        alone.fresh.holds.has.held

    leaf_then : (leaf : IsLeafOf (shape_of_pass q) i key f) × HasSpot leaf.page.is.page key spot
    leaf_then = subst
        (λ (t : Terms Shape). (leaf : IsLeafOf t.shape i key f) × HasSpot leaf.page.is.page key spot)
        (sym terms) (alone.fresh.holds.leaf, alone.fresh.finds)

    kept : HoldsPartKept q k b f
    kept = record {
      below = subst (λ (t : Terms Shape). k < t.shape.parts) (sym terms) below;
      known = took.part;
      now = took.part;
      has = part_has q k took.part took.tries.does.known took.knows;
      exact = took.exact b f knows;
      others = λ n apart. refl;
      shape = record { room = refl; stamps = refl };
      alone = λ j few ne. (let less = subst (λ (t : Terms Shape). j < t.shape.parts) terms few in
          ap (λ (t : Terms Shape). get_elem? (view q).held (part_id t.shape j)) terms
          ∙ (took.tries.does.rest (part_id (shape_of_pass p) j)
          ((λ e. ne (omega (arith, e))), tt) ∙ alone.parts j less));
    }

    -- else that of its index
    some_held : HoldsHashed q b i key spot
    some_held = record {
      fresh = record {
        frame = f;
        holds = record {
          has = frame_has q took.tries.does.known b f knows;
          leaf = leaf_then.0;
        };
        finds = leaf_then.1;
        known = took.tries.does.known;
      };
      hash = subst (λ (o : Option ℕ). KeepsHashed q o b f f f) (sym e) (record {
        rest = λ j h apart held. took.tries.does.known j h held;
        part = subst (λ (t : Terms Shape). HoldsPartKept q (part_for t.shape.parts index) b f)
            (sym terms) kept;
        was = λ n is. sym e ∙ is;
        is = λ n is. sym e ∙ is;
        tidy = λ t. t;
        stays = alike_stays q b f f (λ index params was. was);
        room = (let one = alone.one in let more = took.count in omega (arith, one, more));
      });
    }

  -- the leaf is held with its partition
  pub hashed_leaf : (part : Option ℕ) → part ≡ part_of_index (shape_of_pass p) f.hashed
      → HoldsPartIf p part q → HoldsHashed q b i key spot
  hashed_leaf part named took = go f.hashed refl
      (subst (λ z. HoldsPartIf p z q) named took)
    where
      go : (o : Option ℕ) → f.hashed ≡ o → HoldsPartIf p (part_of_index (shape_of_pass p) f.hashed) q
          → HoldsHashed q b i key spot
      go None e took = subst (λ (z : TreePass). HoldsHashed z b i key spot)
          (sym (subst (λ z. HoldsPartIf p (part_of_index (shape_of_pass p) z) q) e took))
          (none_held e)
      go (Some index) e took = some_held index e
          (subst (λ z. HoldsPartIf p (part_of_index (shape_of_pass p) z) q) e took)

-- what was held with the leaf is held still
module _ (p q q1 : TreePass) (b i : ℕ) (key : FieldList) (spot : Spot)
    (alone : HoldsFreshAlone p b i key spot) (fitted : IsFittedTree (view q)) where
  knows_part : (part : Option ℕ) → part ≡ part_of_index (shape_of_pass p) alone.fresh.frame.hashed
      → HoldsPartIf p part q → StaysKnown q q1 → (view q1).terms ≡ (view q).terms
      → KnowsPartIf (view q1) part × (count q1 ≡ count_with_part part)
  knows_part None named took stays terms = (tt, stays.count ∙ (ap (λ (z : TreePass). count z) took ∙ alone.one))
  knows_part (Some k) named took stays terms =
      let below = is_below alone.fresh.frame.hashed named in
      let still = stays.parts k took.part below took.knows in
      let one = alone.one in let more = took.count in let same = stays.count in (
        (
          subst (λ (t : Terms Shape). k < t.shape.parts) (sym terms) below,
          still.0,
          still.1,
        ),
        omega (arith, one, more, same),
      )
    where
      none_some : Some k ≡ None → ⊥
      none_some e = absurd cc

      is_below : (o : Option ℕ) → Some k ≡ part_of_index (shape_of_pass p) o
          → k < (shape_of_pass q).parts
      is_below None e = absurd (none_some e)
      is_below (Some index) e = subst (λ n. n < (shape_of_pass q).parts)
          (sym (same_some k (part_for (shape_of_pass p).parts index) e))
          (subst (λ (t : Terms Shape). part_for t.shape.parts index < (shape_of_pass q).parts)
          took.tries.does.adds.numbers.terms (part_is_one q index fitted))

  pub both_held : (part : Option ℕ)
      → part ≡ part_of_index (shape_of_pass p) alone.fresh.frame.hashed
      → HoldsPartIf p part q → HoldsStill q1 b → StaysKnown q q1
      → (view q1).terms ≡ (view q).terms → HoldsLeafAndPart q1 b part
  both_held part named took still stays terms = let knows = knows_part part named took stays terms in record {
    frame = still.frame;
    has = still.has;
    inside = still.inside;
    known = stays.known;
    partition = knows.0;
    count = knows.1;
  }

-- the partition was given back
module _ (p q : TreePass) (b : ℕ) where
  frame_gave : (part : Option ℕ) → GivesPartOf p part q → KnowsPartIf (view p) part → (f g : Frame)
      → HasFrame p b f g → HasFrame q b f g
  frame_gave None gave knows f g has = subst (λ (z : TreePass). HasFrame z b f g) (sym gave) has
  frame_gave (Some k) gave knows f g has =
      subst (λ (t : Terms Shape). Has q (frame_id t.shape b) (object.Frame f) (object.Frame g))
      (sym (ap (λ (v : View). v.terms) gave.view))
      (has_still p q (part_id (shape_of_pass p) k) (frame_id (shape_of_pass p) b) (object.Frame f)
      (object.Frame g) gave.others
      (λ e. part_no_frame (shape_of_pass p) k b knows.0 (sym e)) has)

  count_gave : (part : Option ℕ) → GivesPartOf p part q → count p ≡ count_with_part part → count q ≡ 1
  count_gave None gave counted = ap (λ (z : TreePass). count z) gave ∙ counted
  count_gave (Some k) gave counted = let less = gave.count in omega (arith, less, counted)

  module _ (part : Option ℕ) (held : HoldsLeafAndPart p b part) (gave : GivesPartOf p part q) where
    pub may_go : MayGiveBack q b
    may_go = (held.frame, frame_gave part gave held.partition held.frame held.frame held.has, held.inside)

    pub frame_stays : (f : Frame) → HasFrame p b f f → HasFrame q b f f
    frame_stays f has = frame_gave part gave held.partition f f has

    pub nothing_left : (r : TreePass) → GivesFrame q b r → count r ≡ 0
    nothing_left r went = let one = count_gave part gave held.count in let less = went.count in
        omega (arith, one, less)
