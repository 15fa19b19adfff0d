-- A lift in hand is a lift of the law, and is known once it is settled.
use Rattle.std.proofs.Common.{◌≡◌, ℕ, suc, ◌<◌, false, List, [], ◌∷◌, sym, ap, subst, ◌∙◌, refl, arith, Option, Some, None}
use Rattle.latch_law.specs.Views.{without_seen}
use Rattle.latch_space.specs.Has.{DidSettle}
use Rattle.latch_space.specs.Passes.{view, values, known_values, IsWhole}
use Rattle.index_page.specs.Page.{PageRows}
use Rattle.tree_law.specs.Pages.{is_own}
use Rattle.index_law.specs.Shape.{Shape}
use Rattle.forest_law.specs.declared.objects.Frame.{Frame}
use Rattle.forest_law.specs.declared.objects.Tree.{Tree}
use Rattle.forest_law.specs.declared.objects.Object.TheVariants as object
use Rattle.forest_law.specs.Law.{IsLawful, MayFollow}
use Rattle.forest_law.specs.Numbers.{tree_id, part_id}
use Rattle.forest_law.specs.State.{ForestState}
use Rattle.forest_law.proofs.RestructureLemmas.{restructures_follow}
use Rattle.forest_world.specs.Held.{TreePass, shape_of_pass, HasTree, IsKnownBeyond}
use Rattle.forest_world.specs.HashHands.{HashRestsBeyond}
use Rattle.forest_world.proofs.HandLemmas.{becomes_of, rests_of}
use Rattle.tree_restructure.specs.Raises.{HasOnePointer, IsRootIn}
use Rattle.tree_merging.specs.Lifts.{IsOnlyChild, LiftsFrame, LiftsFrames}
use Rattle.tree_merging.proofs.LiftLemmas.{lift_in_hand}
use Rattle.call_law.specs.Hands.{HoldsNoOutside}
use Rattle.call_law.specs.Spoken.{View}
use Rattle.buffer_pool.specs.Forests.{FitsTrees}
use Rattle.buffer_pool.specs.NewPages.{HoldsOutsidePage}
use Rattle.buffer_pool.specs.Parts.{part_of_index, part_ids, KnowsPartIf}
use Rattle.buffer_pool.specs.Trees.{ChangesTree}
use Rattle.buffer_pool.proofs.CallLemmas.{tree_has}
use Rattle.tree_smo.specs.Remakes.{Remakes}
use Rattle.tree_smo.proofs.HashRestLemmas.{part_not_frame, part_rests, frame_rests}
use Rattle.tree_smo.proofs.KeepingLemmas.{frame_apart}
use Rattle.tree_smo.proofs.PartLemmas.{part_of}
use Rattle.tree_smo.proofs.RemakeLemmas.{same_shape, has_remade, remakes_weaker, remakes_among, remakes_both}
use Rattle.tree_smo.proofs.SettledLemmas.{whole_but, known_beyond, rests_beyond, settled_does, settled_count, settled_frame, settled_tree}
use Rattle.tree_shrinking.specs.LiftHands.{sunk_ids, SinksHashed}
use Rattle.tree_shrinking.specs.Lifting.{CanLift}
use Rattle.tree_shrinking.proofs.MovedPairLemmas.{MovedPair, part_shows, part_or_rests, part_settled, pair_remade, pair_keeps}
use Rattle.tree_shrinking.proofs.NumberLemmas.{IsNoneOf}
use Rattle.tree_shrinking.proofs.SinkLemmas.{both_ids, SinkCall, page_is, under_is, root_in, one, only_child, their_index, SinkInHand}

-- both frames are in hand, the partition kept up with their rows, and the tree is a level lower
pub record SinkMade (p : TreePass) (i b child : ℕ) (m : TreePass) : Type 0 where
  pub call : SinkCall p i b child
  pub top : Frame
  pub low : Frame
  pub tree : Tree
  pub pair : MovedPair m (their_index call) child b call.held.low low call.held.root top
  pub has_tree : HasTree m i call.held.tree tree
  pub lifts : LiftsFrame call.held.root top call.held.low low
  pub lower : call.held.tree ≡ record tree { height = suc tree.height }
  pub remakes : Remakes p m (sunk_ids (shape_of_pass p) i b child (their_index call))

module _ {p : TreePass} {i b child : ℕ} {m : TreePass} (s : SinkInHand p i b child m) where
  abbrev t : Tree
  t = s.call.held.tree

  abbrev held_ids : List ℕ
  held_ids = both_ids (shape_of_pass p) b child (their_index s.call)

  -- the tree is still in hand
  pub tree_there : HasTree m i t t
  tree_there = has_remade p m held_ids s.remakes (tree_id i) (
    λ e. omega (arith, below, e),
    (λ e. omega (arith, below, e), no_part (their_index s.call)),
  ) (object.Tree t) (object.Tree t) (tree_has p s.call.known i t s.call.held.knows_tree)
    where
      below : i < (shape_of_pass p).indexes
      below = s.call.below

      no_part : (o : Option ℕ)
          → IsNoneOf (tree_id i) (part_ids (shape_of_pass p) (part_of_index (shape_of_pass p) o))
      no_part None = tt
      no_part (Some j) = ((λ e. omega (arith, below, e)), tt)

  pub tree_lowered : (u : Tree) → t ≡ record u { height = suc u.height } → (q : TreePass)
      → ChangesTree m i u q → SinkMade p i b child q
  tree_lowered u lower q did = record {
    call = s.call;
    top = s.top;
    low = s.low;
    tree = u;
    pair = pair_remade s.pair q (tree_id i ∷ []) other ((λ e. omega (arith, below, e)), tt)
        ((λ e. omega (arith, below, e)), tt) (λ k under. ((λ e. omega (arith, below, e)), tt));
    has_tree = did.has t t tree_there;
    lifts = s.lifts;
    lower = lower;
    remakes = remakes_both p m q (λ z. sunk_ids z i b child o)
        (remakes_weaker p m held_ids (sunk_ids (shape_of_pass p) i b child o)
        (λ k a. (a.0, (a.1.0, a.1.1.1))) s.remakes)
        (remakes_among m q (tree_id i) (sunk_ids (shape_of_pass m) i b child o)
        (λ a. a.1.1.0 refl) other);
  }
    where
      o : Option ℕ
      o = their_index s.call

      below : i < (shape_of_pass m).indexes
      below = subst (λ (z : Shape). i < z.indexes) (same_shape p m held_ids s.remakes) s.call.below

      other : Remakes m q (tree_id i ∷ [])
      other = record {
        same_view = did.view;
        others = λ k a. (did.hand.others k a.0).1;
        same_count = did.count;
      }

module _ {p : TreePass} {i b child : ℕ} {m : TreePass} (s : SinkMade p i b child m) where
  abbrev c : SinkCall p i b child
  c = s.call

  abbrev h : CanLift (view p) i b child
  h = c.held

  abbrev w : ForestState
  w = c.fitted.whole

  abbrev law : IsLawful w
  law = c.fitted.is_lawful

  abbrev o : Option ℕ
  o = their_index c

  abbrev ids : Shape → List ℕ
  ids z = sunk_ids z i b child o

  fits_now : FitsTrees w (view m)
  fits_now = subst (FitsTrees w) (sym s.remakes.same_view) c.fitted.fits

  shapes : shape_of_pass p ≡ shape_of_pass m
  shapes = ap (λ (v : View). v.terms.shape) (sym s.remakes.same_view)

  now_ids : Remakes p m (ids (shape_of_pass m))
  now_ids = subst (λ (z : Shape). Remakes p m (ids z)) shapes s.remakes

  that : h.above.page ≡ s.lifts.page
  that = page_is c s.lifts.page s.lifts.had

  that_under : h.below.page ≡ s.lifts.under
  that_under = under_is c s.lifts.under s.lifts.had_under

  below_now : i < (shape_of_pass m).indexes
  below_now = subst (λ (z : Shape). i < z.indexes) shapes c.below

  beyond : IsKnownBeyond m (ids (shape_of_pass m))
  beyond = known_beyond p m (ids (shape_of_pass m)) c.known now_ids

  -- nothing is taken out
  pub whole : IsWhole m
  whole = whole_but m (ids (shape_of_pass m)) beyond (
    (object.Frame s.top, s.pair.took.value),
    (
      (object.Frame s.low, s.pair.gave.value),
      ((object.Tree s.tree, s.has_tree.value), part_shows s.pair),
    ),
  )

  -- the hash rests in hand, beyond both blocks and their partition
  both_rest : (ks : List ℕ)
      → ((k : ℕ) → IsNoneOf k ks → IsNoneOf (part_id (shape_of_pass m) k)
      (part_ids (shape_of_pass m) (part_of_index (shape_of_pass m) o)))
      → HashRestsBeyond m ks (child ∷ b ∷ [])
  both_rest ks none = record {
    parts = λ k r t ne has. part_rests m (ids (shape_of_pass m)) beyond k r t (
      part_not_frame m k b r t h.root s.top has s.pair.took,
      (
        part_not_frame m k child r t h.low s.low has s.pair.gave,
        (λ e. omega (arith, below_now, e), none k ne),
      ),
    ) has;
    frames = λ d x y ne has. frame_rests m (ids (shape_of_pass m)) beyond c.laws.ask d x y (
      λ e. ne.1.0 (omega (arith, e)),
      (
        λ e. ne.0 (omega (arith, e)),
        (λ e. omega (arith, below_now, e), frame_apart (shape_of_pass m) d o s.pair.parts),
      ),
    ) has;
  }

  -- the frames and the tree in hand are a lift of the law
  lifts_frames : LiftsFrames (shape_of_pass m) (known_values m) (values m)
  lifts_frames = record {
    top = record { block = b; old = h.root; new = s.top };
    below = record { block = child; old = h.low; new = s.low };
    tree = record { index = i; old = h.tree; new = s.tree };
    lift = s.lifts;
    alone = subst HoldsNoOutside (sym s.remakes.same_view) c.inside;
    whole = subst (λ x. IsRootIn x h.root) that (root_in c);
    one = subst (λ (x : PageRows). HasOnePointer s.lifts.page x.head.number) that_under
        (subst (λ x. HasOnePointer x h.below.page.head.number) that (one c));
    only = subst (λ x. IsOnlyChild s.lifts.page x h.low) that_under
        (subst (λ x. IsOnlyChild x h.below.page h.low) that (only_child c));
    root = part_of m w law fits_now b h.root s.top s.pair.took s.lifts.page s.lifts.had
        s.lifts.page.head.number false
        (ap (λ (x : PageRows). is_own x.head.number x.head.prev) (sym that) ∙ h.above.tree);
    child = part_of m w law fits_now child h.low s.low s.pair.gave s.lifts.under
        s.lifts.had_under s.lifts.under.head.number false
        (ap (λ (x : PageRows). is_own x.head.number x.head.prev) (sym that_under)
        ∙ h.below.tree);
    sinks = record {
      becomes = becomes_of m (tree_id i) (object.Tree h.tree) (object.Tree s.tree) s.has_tree;
      index = ap (λ (z : Tree). z.index) (sym s.lower);
      root = ap (λ (z : Tree). z.root) (sym s.lower);
    };
    index = sym h.number ∙ ap (λ (x : PageRows). x.head.number) that;
    height = ap (λ (z : Tree). z.height) s.lower;
    others = λ k x y becomes a. part_or_rests s.pair k x y becomes
        (λ none. rests_of m (ids (shape_of_pass m))
        (rests_beyond p m (ids (shape_of_pass m)) c.known now_ids) k x y becomes
        (a.0, (a.1.0, (a.1.1.0, none))));
  }

  -- so it may be settled
  pub follows : MayFollow (without_seen (view m)) (values m) None
  follows = restructures_follow.lift (shape_of_pass m) (known_values m) (values m)
      (lift_in_hand (shape_of_pass m) (known_values m) (values m) lifts_frames)
      (pair_keeps s.pair c.laws both_rest)

  -- the child is outside the trees and empty
  outside_now : (q : TreePass) → DidSettle m q → HoldsOutsidePage (view q) child
  outside_now q done = record {
    frame = s.low;
    knows = settled_frame m q done child h.low s.low s.pair.gave;
    page = s.lifts.gone;
    paged = s.lifts.has_gone;
    own = ap (λ (x : PageRows). x.head.prev) s.lifts.lifts.is_gone
        ∙ ap (λ (x : PageRows). Some x.head.number) (sym s.lifts.lifts.is_gone);
    empty = ap (λ (x : PageRows). x.rows) s.lifts.lifts.is_gone;
  }

  pub sinks_root : (q : TreePass) → DidSettle m q → SinksHashed p i b child q
  sinks_root q done = record {
    silently = settled_does p m (ids (shape_of_pass p)) c.known s.remakes whole q done;
    was = h;
    tree = s.tree;
    root = s.top;
    gone = s.low;
    knows_tree = settled_tree m q done i h.tree s.tree s.has_tree;
    knows_root = settled_frame m q done b h.root s.top s.pair.took;
    knows_gone = settled_frame m q done child h.low s.low s.pair.gave;
    lifts = s.lifts;
    sinks = s.lower;
    outside = outside_now q done;
    part = subst (λ (z : Shape). KnowsPartIf (view q) (part_of_index z o)) (sym shapes)
        (part_settled s.pair q done);
    count = settled_count p m (ids (shape_of_pass p)) c.known s.remakes whole q done;
  }
