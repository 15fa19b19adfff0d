-- A partition is held while rows move, and then given back.
use Rattle.std.proofs.Common.{◌≡◌, ◌≢◌, ℕ, ◌<◌, ◌≤◌, ◌+◌, List, ◌++◌, sym, ap, subst, ◌∙◌, arith, Option, Some, None}
use mathlib.Core.Option.{some}
use Rattle.list_facts.proofs.Each.{each_left, each_right, each_append}
use Rattle.latch_law.specs.Views.{holding}
use Rattle.latch_law.proofs.Lists.{known_at, known_back}
use Rattle.latch_space.specs.Has.{IsKnown}
use Rattle.latch_space.specs.Passes.{view, count}
use Rattle.hash_maintain.specs.Moves.{first_hashed}
use Rattle.index_law.specs.Shape.{Shape}
use Rattle.forest_law.specs.declared.objects.Frame.{Frame}
use Rattle.forest_law.specs.declared.objects.Tree.{Tree}
use Rattle.forest_law.specs.declared.objects.Object.{Object}
use Rattle.forest_law.specs.declared.objects.Object.TheVariants as object
use Rattle.forest_law.specs.Numbers.{frame_id}
use Rattle.forest_world.specs.Held.{TreePass, shape_of_pass}
use Rattle.call_law.specs.Hands.{KnowsFrame, KnowsTree, HoldsNoPart, HoldsNoOutside}
use Rattle.buffer_pool.specs.Calls.{DoesSilently, GetsNothing}
use Rattle.buffer_pool.specs.Forests.{IsFittedTree}
use Rattle.buffer_pool.specs.Parts.{part_of_index, part_ids, HoldsPartIf, KnowsPartIf, GivesPartIf}
use Rattle.tree_smo.specs.PartHeld.{HoldsExactIf}
use Rattle.tree_smo.specs.Remakes.{IsAsBefore}
use Rattle.tree_smo.proofs.HashedLemmas.{nothing_held, part_known}
use Rattle.tree_smo.proofs.HeldLemmas.{IsThere, part_there, frame_to, frame_from, tree_to, tree_from, shape_to, held_silently, gave_silently, shape_n, around_silently, around_count}
use Rattle.tree_smo.proofs.PartHeldLemmas.{suits}
use Rattle.tree_smo.proofs.SilentLemmas.{silently_weaker}
use Rattle.tree_shrinking.specs.Hashing.{HoldsTheirPart}
use Rattle.tree_shrinking.proofs.NumberLemmas.{IsNoneOf}

-- beside what the pass held, the partition is held of the index that one of two blocks is hashed for,
-- if one is
pub record HoldsBeside (p : TreePass) (from to : ℕ) (part : Option ℕ) (q : TreePass) : Type 0 where
  pub known : IsKnown p
  pub lacks : HoldsNoPart (view p)
  pub there : IsThere (shape_of_pass p) part
  pub named : (f g : Frame) → KnowsFrame (view p) from f → KnowsFrame (view p) to g
      → part ≡ part_of_index (shape_of_pass p) (first_hashed f g)
  pub holds : HoldsPartIf p part q

-- so it is once the partition of this index was asked for
pub holds_beside : {p q : TreePass} {from to : ℕ} {part : Option ℕ} → (o : Option ℕ) → IsKnown p
    → IsFittedTree (view p) → HoldsNoPart (view p)
    → ((f g : Frame) → KnowsFrame (view p) from f → KnowsFrame (view p) to g
    → o ≡ first_hashed f g) → part ≡ part_of_index (shape_of_pass p) o → HoldsPartIf p part q
    → HoldsBeside p from to part q
holds_beside {p} o known fitted lacks first named holds = record {
  known = known;
  lacks = lacks;
  there = subst (IsThere (shape_of_pass p)) (sym named)
      (part_there (shape_of_pass p) o (suits p fitted).parts);
  named = λ f g one two. named ∙ ap (part_of_index (shape_of_pass p)) (first f g one two);
  holds = holds;
}

module _ {p : TreePass} {from to : ℕ} {part : Option ℕ} {q : TreePass}
    (h : HoldsBeside p from to part q) where
  pub held_does : DoesSilently p q (part_ids (shape_of_pass p) part)
  held_does = held_silently p q h.known part h.holds

  pub held_shape : shape_of_pass q ≡ shape_of_pass p
  held_shape = shape_to p q part held_does h.there

  -- one object is held more at most
  pub count_held : count q ≤ count p + 1
  count_held = go part h.holds
    where
      go : (o : Option ℕ) → HoldsPartIf p o q → count q ≤ count p + 1
      go None same = let e = ap count same in omega (arith, e)
      go (Some k) too = let e = too.count in omega (arith, e)

  -- frames and trees are known as before
  pub frame_held : (b : ℕ) (f : Frame) → KnowsFrame (view p) b f → KnowsFrame (view q) b f
  frame_held = frame_to p q part held_does h.there

  pub frame_was : (b : ℕ) (f : Frame) → KnowsFrame (view q) b f → KnowsFrame (view p) b f
  frame_was = frame_from p q part held_does h.there

  pub tree_held : (i : ℕ) (t : Tree) → i < (shape_of_pass p).indexes → KnowsTree (view p) i t
      → KnowsTree (view q) i t
  tree_held = tree_to p q part held_does h.there

  pub tree_was : (i : ℕ) (t : Tree) → i < (shape_of_pass p).indexes → KnowsTree (view q) i t
      → KnowsTree (view p) i t
  tree_was = tree_from p q part held_does h.there

  -- so no page outside the trees is held
  pub inside_held : HoldsNoOutside (view p) → HoldsNoOutside (view q)
  inside_held inside n x =
      let f = x.hand.frame in
      let back = known_back (view q).held (frame_id (shape_of_pass q) x.block) (object.Frame f)
      x.hand.at in
      let knows = frame_was x.block f (
        back.0.taken,
        back.1 ∙ ap (λ (z : Object). some (Some (holding back.0.taken z))) back.2,
      ) in
      inside n (record {
        block = x.block;
        page = x.page;
        hand = record {
          frame = f;
          at = known_at (view p).held (frame_id (shape_of_pass p) x.block)
              (holding knows.0 (object.Frame f)) knows.1;
          has = x.hand.has;
        };
        own = x.own;
      })

  -- the partition is still that of both blocks, and exact of them
  pub named_held : (f g : Frame) → KnowsFrame (view q) from f → KnowsFrame (view q) to g
      → part ≡ part_of_index (shape_of_pass q) (first_hashed f g)
  named_held f g one two = h.named f g (frame_was from f one) (frame_was to g two)
      ∙ ap (λ (s : Shape). part_of_index s (first_hashed f g)) (sym held_shape)

  exact : HoldsExactIf (view q) part
  exact = go part h.holds (subst (λ (s : Shape). IsThere s part) (sym held_shape) h.there)
    where
      go : (o : Option ℕ) → HoldsPartIf p o q → IsThere (shape_of_pass q) o
          → HoldsExactIf (view q) o
      go None held below = tt
      go (Some k) held below = (below, held.part, held.knows, held.exact)

  pub their_part : HoldsTheirPart (view q) from to
  their_part f g one two = subst (HoldsExactIf (view q)) (named_held f g one two) exact

  module _ (r : TreePass) where
    -- where nothing was done meanwhile, it is still held
    pub kept_part : IsAsBefore q r → KnowsPartIf (view r) part
    kept_part same = part_known (view q) (view r) part same.same_view exact

    -- what was done was done to no more than the partition and these objects
    pub made_beside : (ids : Shape → List ℕ) (all : List ℕ)
        → ((k : ℕ) → IsNoneOf k (part_ids (shape_of_pass q) part)
        → IsNoneOf k (ids (shape_of_pass q)) → IsNoneOf k all) → DoesSilently q r all
        → DoesSilently q r (part_ids (shape_of_pass q) part ++ ids (shape_of_pass q))
    made_beside ids all cover made =
        let ks = part_ids (shape_of_pass q) part in let js = ids (shape_of_pass q) in
        silently_weaker q r all (ks ++ js)
        (λ k a. cover k (each_left (λ (j : ℕ). k ≢ j) ks js a)
        (each_right (λ (j : ℕ). k ≢ j) ks js a)) made

    module _ (s : TreePass) (gives : GivesPartIf r part s) where
      -- nothing was done until it was given back
      pub none_around : IsAsBefore q r → GetsNothing p s
      none_around = nothing_held p q part h.known h.holds h.there r s gives h.lacks

      -- or this was, beside the other objects
      module _ (ids : Shape → List ℕ)
          (made : DoesSilently q r (part_ids (shape_of_pass q) part ++ ids (shape_of_pass q))) where
        abbrev all : Shape → List ℕ
        all z = part_ids z part ++ ids z

        cover : (z : Shape) (k : ℕ) → IsNoneOf k (ids z) → IsNoneOf k (part_ids z part)
            → IsNoneOf k (all z)
        cover z k a none = each_append (λ (j : ℕ). k ≢ j) (part_ids z part) (ids z) none a

        pub silently_around : DoesSilently p s (ids (shape_of_pass p))
        silently_around = around_silently p q r s part h.known h.holds gives h.there h.lacks ids all
            cover made

        pub count_around : count r ≡ count q → count s ≡ count p
        count_around = around_count p q r s part h.known h.holds gives h.there h.lacks ids all cover
            made

        shape_r : shape_of_pass r ≡ shape_of_pass p
        shape_r = shape_n p q r s part h.known h.holds gives h.there h.lacks ids all cover made

        there_still : IsThere (shape_of_pass r) part
        there_still = subst (λ (z : Shape). IsThere z part) (sym shape_r) h.there

        given : DoesSilently r s (part_ids (shape_of_pass r) part)
        given = gave_silently r s made.does.known part gives

        pub frame_given : (b : ℕ) (f : Frame) → KnowsFrame (view r) b f → KnowsFrame (view s) b f
        frame_given = frame_to r s part given there_still

        pub tree_given : (i : ℕ) (t : Tree) → i < (shape_of_pass p).indexes
            → KnowsTree (view r) i t → KnowsTree (view s) i t
        tree_given i t below = tree_to r s part given there_still i t
            (subst (λ (z : Shape). i < z.indexes) (sym shape_r) below)
