-- A split, or a raise, that was made while the partition was held.
use Rattle.std.proofs.Common.{◌≡◌, ◌≢◌, ℕ, ◌<◌, [], sym, subst, Option, Some, None, Ok, Err}
use Rattle.std.specs.Prelude.{OnOk, OnErr}
use Rattle.std.specs.declared.result.Result.{Result}
use Rattle.std.specs.List.{AllByRecursion}
use Rattle.latch_space.specs.Has.{IsKnown}
use Rattle.latch_space.specs.Passes.{view}
use Rattle.index_law.specs.Shape.{Shape}
use Rattle.forest_law.specs.declared.objects.Frame.{Frame}
use Rattle.forest_world.specs.Held.{TreePass, shape_of_pass}
use Rattle.call_law.specs.Hands.{KnowsFrame, HoldsNoPart}
use Rattle.buffer_pool.specs.Calls.{DoesSilently, GetsNothing}
use Rattle.call_law.specs.Spoken.{View}
use Rattle.buffer_pool.specs.Parts.{part_ids, HoldsPartIf, KnowsPartIf, GivesPartIf}
use Rattle.tree_smo.specs.declared.plans.SplitPlan.{SplitPlan}
use Rattle.tree_smo.specs.PartHeld.{HoldsExactIf}
use Rattle.tree_smo.specs.Plans.{HoldsPlan, plan_ids, split_ids, KnowsNext, MakesSplit, MakesSplitBy}
use Rattle.tree_smo.specs.Remakes.{IsAsBefore}
use Rattle.tree_smo.specs.Storeys.{raise_ids, rise_ids, HoldsStoreys, MakesRaise, MakesRaiseBy}
use Rattle.tree_smo.proofs.BesideLemmas.{plan_moves}
use Rattle.tree_smo.proofs.HeldLemmas.{IsThere, frame_to, frame_from, tree_to, tree_from, held_silently, gave_silently, around_silently, around_count, shape_n}
use Rattle.tree_smo.proofs.SilentLemmas.{silently_same}
use Rattle.tree_smo.proofs.SplitHashLemmas.{more_apart}

module _ (p m : TreePass) (part : Option ℕ) (known : IsKnown p) (held : HoldsPartIf p part m)
    (there : IsThere (shape_of_pass p) part) where
  abbrev took : DoesSilently p m (part_ids (shape_of_pass p) part)
  took = held_silently p m known part held

  to : (b : ℕ) (f : Frame) → KnowsFrame (view p) b f → KnowsFrame (view m) b f
  to = frame_to p m part took there

  from : (b : ℕ) (f : Frame) → KnowsFrame (view m) b f → KnowsFrame (view p) b f
  from = frame_from p m part took there

  -- what is to be made is held beside the partition
  pub plan_beside : (plan : SplitPlan) → HoldsPlan (view p) plan → HoldsPlan (view m) plan
  plan_beside plan h = plan_moves (view p) (view m) plan h (to plan.parent h.can.up)
      (to plan.child h.can.low) (λ b f e. to b f)

  pub frame_beside : (b : ℕ) (f : Frame) → KnowsFrame (view p) b f → KnowsFrame (view m) b f
  frame_beside = to

  pub storeys_beside : (i root under : ℕ) → i < (shape_of_pass p).indexes
      → HoldsStoreys (view p) i root under → HoldsStoreys (view m) i root under
  storeys_beside i root under below h = record {
    can = record {
      tree = h.can.tree;
      root = h.can.root;
      level = h.can.level;
      knows_tree = tree_to p m part took there i h.can.tree below h.can.knows_tree;
      knows_root = to root h.can.root h.can.knows_root;
      page = h.can.page;
      number = h.can.number;
      two = h.can.two;
    };
    fresh = h.fresh;
    number = h.number;
    knows = to under h.fresh h.knows;
    blank = h.blank;
  }

  module _ (n q : TreePass) (gave : GivesPartIf n part q) (none : HoldsNoPart (view p)) where
    -- after an error what is held is as before
    pub nothing_held : IsAsBefore m n → GetsNothing p q
    nothing_held same = record {
      silently = around_silently p m n q part known held gave there none (λ s. []) (λ s. [])
          (λ s j a b. tt) (silently_same m n same);
      count = around_count p m n q part known held gave there none (λ s. []) (λ s. [])
          (λ s j a b. tt) (silently_same m n same) same.same_count;
    }

    -- the split is made
    module _ (plan : SplitPlan) (right : ℕ) (makes : MakesSplitBy m plan right part n) where
      split_covers : (s : Shape) (j : ℕ) → AllByRecursion (λ (k : ℕ). j ≢ k) (plan_ids s plan right)
          → AllByRecursion (λ (k : ℕ). j ≢ k) (part_ids s part)
          → AllByRecursion (λ (k : ℕ). j ≢ k) (split_ids s plan right part)
      split_covers s j a b =
          (a.0, (a.1.0, (a.1.1.0, more_apart s plan.next part j a.1.1.1 b)))

      here : IsThere (shape_of_pass n) part
      here = subst (λ (s : Shape). IsThere s part)
          (sym (shape_n p m n q part known held gave there none (λ s. plan_ids s plan right)
          (λ s. split_ids s plan right part) split_covers makes.silently)) there

      still : (b : ℕ) (f : Frame) → KnowsFrame (view n) b f → KnowsFrame (view q) b f
      still = frame_to n q part (gave_silently n q makes.silently.does.known part gave) here

      next_still : (o : Option ℕ) → KnowsNext (view n) o → KnowsNext (view q) o
      next_still None k = tt
      next_still (Some b) k = (k.0, still b k.0 k.1, k.2)

      pub makes_hashed : MakesSplit p plan right q
      unfolding plan_moves
      makes_hashed = record {
        silently = around_silently p m n q part known held gave there none
            (λ s. plan_ids s plan right) (λ s. split_ids s plan right part) split_covers
            makes.silently;
        splits = (let w = makes.splits in let h = w.was in record {
          was = plan_moves (view m) (view p) plan h (from plan.parent h.can.up)
              (from plan.child h.can.low) (λ b f e. from b f);
          fresh = w.fresh;
          number = w.number;
          blank = w.blank;
          now = w.now;
          knows = record {
            up = still plan.parent w.now.up w.knows.up;
            left = still plan.child w.now.left w.knows.left;
            right = still right w.now.right w.knows.right;
          };
          cuts = w.cuts;
          pointer = w.pointer;
          next = next_still plan.next w.next;
        });
        count = around_count p m n q part known held gave there none (λ s. plan_ids s plan right)
            (λ s. split_ids s plan right part) split_covers makes.silently makes.count;
      }

    -- and so is the raise
    module _ (i root under : ℕ) (below : i < (shape_of_pass p).indexes)
        (makes : MakesRaiseBy m i root under part n) where
      raise_covers : (s : Shape) (j : ℕ)
          → AllByRecursion (λ (k : ℕ). j ≢ k) (raise_ids s i root under)
          → AllByRecursion (λ (k : ℕ). j ≢ k) (part_ids s part)
          → AllByRecursion (λ (k : ℕ). j ≢ k) (rise_ids s i root under part)
      raise_covers s j a b = (a.0, (a.1.0, (a.1.1.0, b)))

      same_n : shape_of_pass n ≡ shape_of_pass p
      same_n = shape_n p m n q part known held gave there none (λ s. raise_ids s i root under)
          (λ s. rise_ids s i root under part) raise_covers makes.silently

      here_too : IsThere (shape_of_pass n) part
      here_too = subst (λ (s : Shape). IsThere s part) (sym same_n) there

      later : DoesSilently n q (part_ids (shape_of_pass n) part)
      later = gave_silently n q makes.silently.does.known part gave

      pub raises_hashed : MakesRaise p i root under q
      raises_hashed = record {
        silently = around_silently p m n q part known held gave there none
            (λ s. raise_ids s i root under) (λ s. rise_ids s i root under part) raise_covers
            makes.silently;
        raises = (let w = makes.raises in let h = w.was in record {
          was = record {
            can = record {
              tree = h.can.tree;
              root = h.can.root;
              level = h.can.level;
              knows_tree = tree_from p m part took there i h.can.tree below h.can.knows_tree;
              knows_root = from root h.can.root h.can.knows_root;
              page = h.can.page;
              number = h.can.number;
              two = h.can.two;
            };
            fresh = h.fresh;
            number = h.number;
            knows = from under h.fresh h.knows;
            blank = h.blank;
          };
          tree = w.tree;
          top = w.top;
          low = w.low;
          knows_tree = tree_to n q part later here_too i w.tree
              (subst (λ (s : Shape). i < s.indexes) (sym same_n) below) w.knows_tree;
          knows_top = frame_to n q part later here_too root w.top w.knows_top;
          knows_low = frame_to n q part later here_too under w.low w.knows_low;
          raises = w.raises;
          grows = w.grows;
        });
        count = around_count p m n q part known held gave there none
            (λ s. raise_ids s i root under) (λ s. rise_ids s i root under part) raise_covers
            makes.silently makes.count;
      }

-- what follows either way
pub either_way : {A E X Y Z : Type 0} (r : Result A E) → OnOk r X → OnErr r Y → (X → Z) → (Y → Z)
    → Z
either_way (Ok a) x y f g = f x
either_way (Err e) x y f g = g y

pub on_error : {A E X Y : Type 0} (r : Result A E) → (X → Y) → OnErr r X → OnErr r Y
on_error (Ok a) f x = x
on_error (Err e) f x = f x

-- a partition that is held is known
pub part_known : (v v' : View) (part : Option ℕ) → v' ≡ v → HoldsExactIf v part → KnowsPartIf v' part
part_known v v' part same held = subst (λ z. KnowsPartIf z part) (sym same) (go part held)
  where
    go : (o : Option ℕ) → HoldsExactIf v o → KnowsPartIf v o
    go None h = tt
    go (Some k) h = (h.0, h.1, h.2)
