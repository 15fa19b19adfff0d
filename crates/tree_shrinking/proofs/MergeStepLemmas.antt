-- A merge in hand is a merge of the law, and is known once it is settled.
use Rattle.std.proofs.Common.{◌≡◌, ◌≢◌, ◌≤◌, ◌+◌, ℕ, false, List, ◌∷◌, sym, ap, subst, ◌∙◌, refl, arith, Option, Some, None}
use Rattle.std.specs.List.{AllByRecursion}
use Rattle.latch_law.specs.Views.{without_seen}
use Rattle.latch_space.specs.Has.{DidSettle}
use Rattle.latch_space.specs.Passes.{view, values, known_values, IsWhole, Shows}
use Rattle.index_page.specs.Loads.{load_of}
use Rattle.index_page.specs.Page.{PageRows}
use Rattle.tree_law.specs.PageBudget.{short_keys}
use Rattle.tree_law.specs.Pages.{is_own}
use Rattle.index_law.specs.Shape.{Shape}
use Rattle.forest_law.specs.declared.objects.Object.{Object}
use Rattle.forest_law.specs.declared.objects.Object.TheVariants as object
use Rattle.forest_law.specs.Law.{IsLawful, MayFollow}
use Rattle.forest_law.specs.State.{ForestState}
use Rattle.forest_law.proofs.RestructureLemmas.{restructures_follow}
use Rattle.forest_world.specs.Held.{TreePass, shape_of_pass}
use Rattle.forest_world.proofs.HandLemmas.{rests_of}
use Rattle.tree_restructure.specs.Parts.{frame_ids}
use Rattle.tree_restructure.specs.Splits.{next_hands}
use Rattle.tree_merging.specs.FrameMerges.{MergesUnder}
use Rattle.tree_merging.specs.MergeSteps.{MergesFrames}
use Rattle.tree_merging.proofs.MergeLemmas.{merge_in_hand}
use Rattle.call_law.specs.Hands.{HoldsNoOutside}
use Rattle.call_law.specs.Spoken.{View}
use Rattle.buffer_pool.specs.Forests.{FitsTrees}
use Rattle.buffer_pool.specs.Parts.{part_of_index, part_ids, KnowsPartIf}
use Rattle.tree_smo.specs.declared.halves.SplitBlocks.{SplitBlocks}
use Rattle.tree_smo.specs.declared.halves.SplitHands.{SplitHands}
use Rattle.tree_smo.specs.Plans.{more_ids}
use Rattle.tree_smo.specs.Remakes.{Remakes}
use Rattle.tree_smo.proofs.LawfulLemmas.{that_page}
use Rattle.tree_smo.proofs.PartLemmas.{part_of}
use Rattle.tree_smo.proofs.SettledLemmas.{whole_but, known_beyond, rests_beyond, settled_does, settled_count, settled_frame}
use Rattle.tree_smo.proofs.BehindLemmas.{HasRelinked, Behind, behind, knows_next}
use Rattle.tree_shrinking.specs.Merging.{CanMerge}
use Rattle.tree_shrinking.specs.MergePlans.{merged_ids, MergesHashed}
use Rattle.tree_shrinking.proofs.MergePlanLemmas.{MergeCall, siblings}
use Rattle.tree_shrinking.proofs.MergedLemmas.{was, their_index, MergeInHand, MergeLinked}
use Rattle.tree_smo.proofs.SplitHashLemmas.{more_apart}
use Rattle.tree_shrinking.proofs.MergeHashLemmas.{merge_hash}
use Rattle.tree_shrinking.proofs.MovedPairLemmas.{part_shows, part_or_rests, part_settled}
use Rattle.tree_shrinking.proofs.NumberLemmas.{IsNoneOf}

module _ {p : TreePass} {at : SplitBlocks} {i : ℕ} {next : Option ℕ} {m : TreePass}
    (l : MergeLinked p at i next next m) where
  abbrev made : MergeInHand p at i next next m
  made = l.made

  abbrev c : MergeCall p at i next
  c = made.call

  abbrev can : CanMerge (view p) at.parent at.child at.right i
  can = c.held.can

  abbrev w : ForestState
  w = c.fitted.whole

  abbrev law : IsLawful w
  law = c.fitted.is_lawful

  abbrev then : SplitHands
  then = was c

  abbrev now : SplitHands
  now = made.now

  abbrev o : Option ℕ
  o = their_index c

  abbrev ids : Shape → List ℕ
  ids s = merged_ids s at next o

  abbrev under : MergesUnder then.left now.left then.right now.right then.up now.up
  under = made.merges

  fits_now : FitsTrees w (view m)
  fits_now = subst (FitsTrees w) (sym made.remakes.same_view) c.fitted.fits

  shapes : shape_of_pass p ≡ shape_of_pass m
  shapes = ap (λ (v : View). v.terms.shape) (sym made.remakes.same_view)

  now_ids : Remakes p m (ids (shape_of_pass m))
  now_ids = subst (λ (s : Shape). Remakes p m (ids s)) shapes made.remakes

  -- the page behind and the partition show, where there are these
  more_shows : (z : Option ℕ)
      → HasRelinked m i can.level z can.is_right.page.head.next can.is_left.page.head.number
      → AllByRecursion (λ (k : ℕ). (x : Object) × Shows m k x)
      (more_ids (shape_of_pass m) z (part_of_index (shape_of_pass m) o))
  more_shows None none = part_shows made.pair
  more_shows (Some b) has = ((object.Frame has.1, has.2.value), part_shows made.pair)

  -- nothing is taken out
  pub whole : IsWhole m
  whole = whole_but m (ids (shape_of_pass m))
      (known_beyond p m (ids (shape_of_pass m)) c.known now_ids) (
        (object.Frame now.up, made.up.value),
        (
          (object.Frame now.left, made.pair.took.value),
          ((object.Frame now.right, made.pair.gave.value), more_shows next l.behind),
        ),
      )

  left_is : can.is_left.page ≡ under.merge.page
  left_is = that_page can.lower can.is_left.page under.merge.page can.is_left.paged under.merge.had

  right_is : can.is_right.page ≡ under.merge.other
  right_is = that_page can.upper can.is_right.page under.merge.other can.is_right.paged
      under.merge.had_other

  up_is : can.above.page ≡ under.pointer.was.page
  up_is = that_page can.up can.above.page under.pointer.was.page can.above.paged
      under.pointer.was.has

  -- both pages are small enough
  pair_is_small : load_of under.merge.page.rows + load_of under.merge.other.rows ≤ short_keys.merged
  pair_is_small = let a = ap (λ (z : PageRows). load_of z.rows) left_is in
      let b = ap (λ (z : PageRows). load_of z.rows) right_is in
      let fits = can.fits in omega (arith, a, b, fits)

  after : Behind m next under.merge.other.head.next under.merge.page.head.number
  after = subst (λ (x : PageRows). Behind m next x.head.next under.merge.page.head.number) right_is
      (subst (λ (x : PageRows). Behind m next can.is_right.page.head.next x.head.number) left_is
      (behind m w law fits_now then.left i can.level next can.is_right.page.head.next
      can.is_left.page.head.number l.behind))

  no_loop : can.is_right.page.head.next ≢ Some can.is_left.page.head.number
  no_loop e = (siblings c.fitted can).around can.is_left.page.head.number e refl

  left_ids : (k : ℕ) → IsNoneOf k (part_ids (shape_of_pass m) (part_of_index (shape_of_pass m) o))
      → IsNoneOf k (frame_ids (shape_of_pass m)
      (record { block = at.child; old = then.left; new = now.left }
      ∷ record { block = at.right; old = then.right; new = now.right }
      ∷ record { block = at.parent; old = then.up; new = now.up }
      ∷ next_hands under.merge.other.head.next after.hand))
      → IsNoneOf k (ids (shape_of_pass m))
  left_ids k none a = (
    a.1.1.0,
    (
      a.0,
      (
        a.1.0,
        more_apart (shape_of_pass m) next (part_of_index (shape_of_pass m) o) k
            (after.ids k a.1.1.1) none,
      ),
    ),
  )

  -- the frames in hand are a merge of the law
  merges_frames : MergesFrames (shape_of_pass m) (known_values m) (values m)
  merges_frames = record {
    hands = record {
      left = record { block = at.child; old = then.left; new = now.left };
      right = record { block = at.right; old = then.right; new = now.right };
      up = record { block = at.parent; old = then.up; new = now.up };
      beyond = after.hand;
    };
    under = under;
    small = pair_is_small;
    alone = subst HoldsNoOutside (sym made.remakes.same_view) c.inside;
    links = after.links;
    left = part_of m w law fits_now at.child then.left now.left made.pair.took
        under.merge.page under.merge.had under.merge.page.head.number false
        (ap (λ (x : PageRows). is_own x.head.number x.head.prev) (sym left_is)
        ∙ can.is_left.tree);
    right = part_of m w law fits_now at.right then.right now.right made.pair.gave
        under.merge.other under.merge.had_other under.merge.other.head.number false
        (ap (λ (x : PageRows). is_own x.head.number x.head.prev) (sym right_is)
        ∙ can.is_right.tree);
    up = part_of m w law fits_now at.parent then.up now.up made.up
        under.pointer.was.page under.pointer.was.has under.pointer.was.page.head.number false
        (ap (λ (x : PageRows). is_own x.head.number x.head.prev) (sym up_is) ∙ can.above.tree);
    beyond = after.part;
    apart = λ e. no_loop (ap (λ (z : PageRows). z.head.next) right_is
        ∙ (e ∙ ap (λ (z : PageRows). Some z.head.number) (sym left_is)));
    others = λ k x y becomes a. part_or_rests made.pair k x y becomes
        (λ none. rests_of m (ids (shape_of_pass m))
        (rests_beyond p m (ids (shape_of_pass m)) c.known now_ids) k x y becomes
        (left_ids k none a));
  }

  -- so it may be settled
  pub follows : MayFollow (without_seen (view m)) (values m) None
  follows = restructures_follow.merge (shape_of_pass m) (known_values m) (values m)
      (merge_in_hand (shape_of_pass m) (known_values m) (values m) merges_frames)
      (merge_hash l (known_beyond p m (ids (shape_of_pass m)) c.known now_ids))

  pub makes_merge : (q : TreePass) → DidSettle m q → MergesHashed p at i next q
  makes_merge q did = record {
    silently = settled_does p m (ids (shape_of_pass p)) c.known made.remakes whole q did;
    merges = record {
      was = c.held;
      now = now;
      knows = record {
        up = settled_frame m q did at.parent then.up now.up made.up;
        left = settled_frame m q did at.child then.left now.left made.pair.took;
        right = settled_frame m q did at.right then.right now.right made.pair.gave;
      };
      merges = under;
      behind = knows_next m q did i can.level next can.is_right.page.head.next
          can.is_left.page.head.number no_loop l.behind;
    };
    part = subst (λ (s : Shape). KnowsPartIf (view q) (part_of_index s o)) (sym shapes)
        (part_settled made.pair q did);
    count = settled_count p m (ids (shape_of_pass p)) c.known made.remakes whole q did;
  }
