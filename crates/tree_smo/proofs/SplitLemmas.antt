-- A planned split in hand is a split of the law, and is known once it is settled.
use Rattle.std.proofs.Common.{◌≡◌, ◌≢◌, ℕ, ◌<◌, ◌+◌, true, false, ◌∷◌, sym, ap, subst, ◌∙◌, Option, Some, None}
use Rattle.std.specs.List.{AllByRecursion}
use Rattle.list_facts.proofs.Places.{same_some}
use Rattle.latch_law.specs.Views.{without_seen}
use Rattle.latch_space.specs.Has.{DidSettle}
use Rattle.latch_space.specs.Passes.{view, values, known_values, IsWhole}
use Rattle.index_page.specs.declared.TheConstants.{PAGE_ROOM}
use Rattle.index_page.specs.declared.head.PageHead.{PageHead}
use Rattle.index_page.specs.Loads.{load_of}
use Rattle.index_page.specs.Page.{PageRows}
use Rattle.tree_law.specs.Pages.{is_own}
use Rattle.index_law.specs.Shape.{Shape}
use Rattle.forest_law.specs.declared.objects.Object.TheVariants as object
use Rattle.forest_law.specs.Law.{IsLawful, MayFollow}
use Rattle.forest_law.specs.State.{ForestState}
use Rattle.forest_law.proofs.RestructureLemmas.{restructures_follow}
use Rattle.forest_world.specs.Held.{TreePass, shape_of_pass}
use Rattle.forest_world.proofs.HandLemmas.{rests_of}
use Rattle.tree_restructure.specs.Charges.{largest_on}
use Rattle.tree_restructure.specs.Parts.{frame_ids}
use Rattle.tree_restructure.specs.Pointers.{PutsPointer}
use Rattle.tree_restructure.specs.Splits.{next_hands, SplitsFrames}
use Rattle.tree_restructure.proofs.SplitLemmas.{split_in_hand}
use Rattle.call_law.specs.Spoken.{View}
use Rattle.buffer_pool.specs.Forests.{FitsTrees}
use Rattle.buffer_pool.specs.NewPages.{outside_page}
use Rattle.buffer_pool.specs.Parts.{part_ids}
use Rattle.tree_smo.specs.declared.halves.SplitHands.{SplitHands}
use Rattle.tree_smo.specs.declared.plans.SplitPlan.{SplitPlan}
use Rattle.tree_smo.specs.PartHeld.{LawsOfMoves}
use Rattle.tree_smo.specs.Plans.{HoldsNext, HoldsPlan, split_ids, RelinksBehind, MakesSplitBy}
use Rattle.tree_smo.specs.Remakes.{Remakes}
use Rattle.tree_smo.proofs.LawfulLemmas.{that_page, outside_own, one_block}
use Rattle.tree_smo.proofs.PartLemmas.{part_of}
use Rattle.tree_smo.proofs.PlanLemmas.{frames_of_plan}
use Rattle.tree_smo.proofs.SettledLemmas.{whole_but, known_beyond, rests_beyond, settled_does, settled_count, settled_frame}
use Rattle.tree_smo.proofs.BehindLemmas.{Behind, behind, knows_next}
use Rattle.tree_smo.proofs.ChangedLemmas.{SplitsKept, next_right, IsRemade, remade}
use Rattle.tree_smo.proofs.SplitHashLemmas.{SplitHash, more_apart, more_shows, part_or_rests, part_still, split_hash}
use Rattle.tree_smo.proofs.PlanLemmas.{SplitCall}

module _ (laws : LawsOfMoves) (p : TreePass) (plan : SplitPlan) (right : ℕ)
    (c : SplitCall p plan right) (m0 : TreePass) (changed : SplitsKept p plan right c m0)
    (m : TreePass) (relinks : RelinksBehind m0 plan.next c.number m) where
  abbrev h : HoldsPlan (view p) plan
  h = c.held

  abbrev w : ForestState
  w = c.fitted.whole

  abbrev law : IsLawful w
  law = c.fitted.is_lawful

  abbrev was : SplitHands
  was = frames_of_plan p plan right c

  all : IsRemade p plan right c m0 changed m plan.next
  all = remade p plan right c m0 changed m plan.next h.next relinks

  fits_now : FitsTrees w (view m)
  fits_now = subst (FitsTrees w) (sym all.remakes.same_view) c.fitted.fits

  shapes : shape_of_pass p ≡ shape_of_pass m
  shapes = ap (λ (v : View). v.terms.shape) (sym all.remakes.same_view)

  now_ids : Remakes p m (split_ids (shape_of_pass m) plan right c.part)
  now_ids = subst (λ (s : Shape). Remakes p m (split_ids s plan right c.part)) shapes all.remakes

  abbrev hashed : SplitHash p plan right c m0 changed m
  hashed = record { laws = laws; all = all }

  -- nothing is taken out
  pub whole : IsWhole m
  whole = whole_but m (split_ids (shape_of_pass m) plan right c.part)
      (known_beyond p m (split_ids (shape_of_pass m) plan right c.part) c.known now_ids) (
        (object.Frame changed.now.up, all.has.up.value),
        (
          (object.Frame changed.now.left, all.has.left.value),
          (
            (object.Frame changed.now.right, all.has.right.value),
            more_shows p plan right c m0 changed m hashed,
          ),
        ),
      )

  abbrev cut_page : PageRows
  cut_page = changed.splits.cut.page

  abbrev cut_fresh : PageRows
  cut_fresh = changed.splits.cut.fresh

  left_is : h.can.below.page ≡ cut_page
  left_is = that_page h.can.low h.can.below.page cut_page h.can.below.paged
      changed.splits.cut.had

  fresh_is : outside_page plan.head c.number ≡ cut_fresh
  fresh_is = that_page c.fresh (outside_page plan.head c.number) cut_fresh c.blank.page
      changed.splits.cut.had_fresh

  up_is : h.can.above.page ≡ changed.splits.pointer.page
  up_is = that_page h.can.up h.can.above.page changed.splits.pointer.page h.can.above.paged
      changed.splits.pointer.had

  next_is : plan.head.next ≡ cut_page.head.next
  next_is = ap (λ (z : PageHead). z.next)
      (h.is.head h.can.below.page h.can.below.paged ∙ ap (λ (z : PageRows). z.head) left_is)

  -- it has no room for one row more of the largest charge
  child_lacks_room : PAGE_ROOM < load_of cut_page.rows + largest_on cut_page.head.level
  child_lacks_room = subst (λ (z : PageRows). PAGE_ROOM < load_of z.rows + largest_on z.head.level) left_is
      (subst (λ l. PAGE_ROOM < load_of h.can.below.page.rows + largest_on l)
      (sym h.can.below.at_level) h.can.full)

  right_is : c.number ≡ cut_fresh.head.number
  right_is = ap (λ (z : PageRows). z.head.number) fresh_is

  after : Behind m plan.next cut_page.head.next cut_fresh.head.number
  after = subst (λ o. Behind m plan.next o cut_fresh.head.number) next_is
      (subst (λ n. Behind m plan.next plan.head.next n) right_is
      (behind m w law fits_now c.fresh plan.head.index h.can.level plan.next plan.head.next
      c.number all.next))

  -- the page behind isn't the new one
  no_loop : (o : Option ℕ) → HoldsNext (view p) plan.head.index h.can.level o plan.head.next
      → plan.head.next ≢ Some c.number
  no_loop None none z = absurd (cc (none, z))
  no_loop (Some b) held z = next_right p plan right c m0 changed b held.0 held.1 held.2
      (one_block w law (view p) c.fitted.fits right b c.fresh held.0
      (outside_page plan.head c.number) held.2.page c.knows held.1 c.blank.page held.2.paged
      (same_some c.number held.2.page.head.number (sym z ∙ held.3)))

  left_ids : (k : ℕ) → AllByRecursion (λ (j : ℕ). k ≢ j) (part_ids (shape_of_pass m) c.part)
      → AllByRecursion (λ (j : ℕ). k ≢ j)
      (frame_ids (shape_of_pass m)
      (record { block = plan.child; old = was.left; new = changed.now.left }
      ∷ record { block = right; old = was.right; new = changed.now.right }
      ∷ record { block = plan.parent; old = was.up; new = changed.now.up }
      ∷ next_hands cut_page.head.next after.hand))
      → AllByRecursion (λ (j : ℕ). k ≢ j) (split_ids (shape_of_pass m) plan right c.part)
  left_ids k none a = (
    a.1.1.0,
    (
      a.0,
      (
        a.1.0,
        more_apart (shape_of_pass m) plan.next c.part k (after.ids k a.1.1.1) none,
      ),
    ),
  )

  -- the frames in hand are a split of the law
  splits_frames : SplitsFrames (shape_of_pass m) (known_values m) (values m)
  splits_frames = record {
    hands = record {
      left = record { block = plan.child; old = was.left; new = changed.now.left };
      right = record { block = right; old = was.right; new = changed.now.right };
      up = record { block = plan.parent; old = was.up; new = changed.now.up };
      beyond = after.hand;
    };
    at = plan.cut.key.tuple;
    cut = changed.splits.cut;
    full = child_lacks_room;
    pointer = changed.splits.pointer;
    links = after.links;
    left = part_of m w law fits_now plan.child was.left changed.now.left all.has.left cut_page
        changed.splits.cut.had cut_page.head.number false
        (ap (λ (x : PageRows). is_own x.head.number x.head.prev) (sym left_is)
        ∙ h.can.below.tree);
    right = part_of m w law fits_now right was.right changed.now.right all.has.right cut_fresh
        changed.splits.cut.had_fresh cut_fresh.head.number true
        (ap (λ (x : PageRows). is_own x.head.number x.head.prev) (sym fresh_is)
        ∙ outside_own plan.head c.number);
    up = part_of m w law fits_now plan.parent was.up changed.now.up all.has.up
        changed.splits.pointer.page changed.splits.pointer.had
        changed.splits.pointer.page.head.number false
        (ap (λ (x : PageRows). is_own x.head.number x.head.prev) (sym up_is)
        ∙ h.can.above.tree);
    beyond = after.part;
    apart = λ e. no_loop plan.next h.next (next_is ∙ (e ∙ ap Some (sym right_is)));
    others = λ k x y becomes a. part_or_rests p plan right c m0 changed m hashed k x y becomes
        (λ none. rests_of m (split_ids (shape_of_pass m) plan right c.part)
        (rests_beyond p m (split_ids (shape_of_pass m) plan right c.part) c.known now_ids) k x y
        becomes (left_ids k none a));
  }

  -- so it may be settled
  pub follows : MayFollow (without_seen (view m)) (values m) None
  follows = restructures_follow.split (shape_of_pass m) (known_values m) (values m)
      (split_in_hand (shape_of_pass m) (known_values m) (values m) splits_frames)
      (split_hash p plan right c m0 changed m hashed)

  pub makes_split : (q : TreePass) → DidSettle m q → MakesSplitBy p plan right c.part q
  makes_split q did = record {
    silently = settled_does p m (split_ids (shape_of_pass p) plan right c.part) c.known all.remakes
        whole q did;
    still = part_still p plan right c m0 changed m hashed q did;
    splits = record {
      was = h;
      fresh = c.fresh;
      number = c.number;
      blank = c.blank;
      now = changed.now;
      knows = record {
        up = settled_frame m q did plan.parent was.up changed.now.up all.has.up;
        left = settled_frame m q did plan.child was.left changed.now.left all.has.left;
        right = settled_frame m q did right was.right changed.now.right all.has.right;
      };
      cuts = changed.splits.cut;
      pointer = subst
          (λ n. PutsPointer h.can.below.page.head.number n h.can.up changed.now.up
          plan.cut.key.tuple) (sym right_is)
          (subst (λ (z : PageRows). PutsPointer z.head.number cut_fresh.head.number h.can.up
          changed.now.up plan.cut.key.tuple) (sym left_is) changed.splits.pointer);
      next = knows_next m q did plan.head.index h.can.level plan.next plan.head.next c.number
          (no_loop plan.next h.next) all.next;
    };
    count = settled_count p m (split_ids (shape_of_pass p) plan right c.part) c.known all.remakes
        whole q did;
  }
