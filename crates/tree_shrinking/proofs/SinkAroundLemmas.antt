-- A lift is made while the partition of the index is held.
use Rattle.std.proofs.Common.{◌≡◌, ℕ, ◌<◌, List, [], ◌∷◌, ◌++◌, sym, subst, Option}
use Rattle.latch_space.specs.Passes.{view}
use Rattle.hash_maintain.specs.Moves.{first_hashed}
use Rattle.index_law.specs.Shape.{Shape}
use Rattle.forest_law.specs.declared.objects.Frame.{Frame}
use Rattle.forest_law.specs.declared.objects.Tree.{Tree}
use Rattle.forest_law.specs.Numbers.{tree_id, frame_id}
use Rattle.forest_world.specs.Held.{TreePass, shape_of_pass}
use Rattle.call_law.specs.Hands.{KnowsFrame, KnowsTree}
use Rattle.call_law.specs.Spoken.{View}
use Rattle.buffer_pool.specs.Calls.{DoesSilently}
use Rattle.buffer_pool.specs.Parts.{part_of_index, part_ids, KnowsPartIf, GivesPartIf}
use Rattle.tree_shrinking.specs.LiftHands.{sunk_ids, SinksHashed}
use Rattle.tree_shrinking.specs.Lifting.{CanLift, SinksRoot}
use Rattle.tree_shrinking.proofs.NumberLemmas.{IsNoneOf}
use Rattle.tree_shrinking.proofs.PartAroundLemmas.{HoldsBeside, frame_held, frame_was, tree_held, tree_was, named_held, made_beside, silently_around, count_around, frame_given, tree_given}

-- what a lift needs, where what is known is known so still
lift_still : (v u : View) (i b child : ℕ)
    → ((d : ℕ) (f : Frame) → KnowsFrame v d f → KnowsFrame u d f)
    → ((t : Tree) → KnowsTree v i t → KnowsTree u i t) → CanLift v i b child
    → CanLift u i b child
lift_still v u i b child still trees h = record {
  level = h.level;
  tree = h.tree;
  root = h.root;
  low = h.low;
  knows_tree = trees h.tree h.knows_tree;
  knows_root = still b h.root h.knows_root;
  knows_low = still child h.low h.knows_low;
  above = h.above;
  number = h.number;
  below = h.below;
  only = h.only;
  fits = h.fits;
}

module _ {p : TreePass} {b child : ℕ} {part : Option ℕ} {q : TreePass} (i : ℕ)
    (below : i < (shape_of_pass p).indexes) (h : HoldsBeside p child b part q) where
  pub lift_held : CanLift (view p) i b child → CanLift (view q) i b child
  lift_held = lift_still (view p) (view q) i b child (frame_held h) (λ t. tree_held h i t below)

  module _ (r : TreePass) (made : SinksHashed q i b child r) where
    abbrev o : Option ℕ
    o = first_hashed made.was.low made.was.root

    named : part ≡ part_of_index (shape_of_pass q) o
    named = named_held h made.was.low made.was.root made.was.knows_low made.was.knows_root

    -- the partition is still held
    pub made_part : KnowsPartIf (view r) part
    made_part = subst (KnowsPartIf (view r)) (sym named) made.part

    abbrev ids : Shape → List ℕ
    ids z = frame_id z b ∷ frame_id z child ∷ tree_id i ∷ []

    beside : DoesSilently q r (part_ids (shape_of_pass q) part ++ ids (shape_of_pass q))
    beside = let z = shape_of_pass q in
        made_beside h r ids (sunk_ids z i b child o)
        (λ k none a. (
          a.0,
          (a.1.0, (a.1.1.0, subst (λ ks. IsNoneOf k (part_ids z ks)) named none)),
        )) made.silently

    module _ (s : TreePass) (gives : GivesPartIf r part s) where
      after : (d : ℕ) (f : Frame) → KnowsFrame (view r) d f → KnowsFrame (view s) d f
      after = frame_given h r s gives ids beside

      -- once it was given back the lift was made
      pub sink_around : SinksRoot p i b child s
      unfolding lift_still
      sink_around = record {
        silently = silently_around h r s gives ids beside;
        was = lift_still (view q) (view p) i b child (frame_was h) (λ t. tree_was h i t below)
            made.was;
        tree = made.tree;
        root = made.root;
        gone = made.gone;
        knows_tree = tree_given h r s gives ids beside i made.tree below made.knows_tree;
        knows_root = after b made.root made.knows_root;
        knows_gone = after child made.gone made.knows_gone;
        lifts = made.lifts;
        sinks = made.sinks;
        outside = record {
          frame = made.outside.frame;
          knows = after child made.outside.frame made.outside.knows;
          page = made.outside.page;
          paged = made.outside.paged;
          own = made.outside.own;
          empty = made.outside.empty;
        };
        count = count_around h r s gives ids beside made.count;
      }
