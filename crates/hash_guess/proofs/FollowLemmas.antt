-- The block of a node is tried while the node's partition is held, which is then given back.
use Rattle.std.proofs.Common.{◌≡◌, ℕ, ◌<◌, List, [], ◌∷◌, sym, ap, subst, ◌∙◌, arith, Some, None}
use mathlib.Core.Option.{some-injective}
use lib.ListN.{get_elem?}
use Rattle.atomic_table.proofs.Lists.{set_here}
use Rattle.list_facts.proofs.Places.{inside}
use Rattle.latch_law.specs.declared.knows.Refusal.{Refusal}
use Rattle.latch_law.specs.declared.knows.Terms.{Terms}
use Rattle.latch_law.specs.Rule.{Holds}
use Rattle.latch_law.specs.Views.{holding, with_refused}
use Rattle.latch_space.specs.declared.taking.Take.{Take}
use Rattle.latch_space.specs.declared.taking.Take.TheVariants.{Taken, Busy}
use Rattle.latch_space.specs.Has.{IsKnown}
use Rattle.latch_space.specs.Passes.{view}
use Rattle.chain_arena.specs.declared.node.Node.{Node}
use Rattle.hash_law.specs.BlockLaws.{HasNamedRow}
use Rattle.index_law.specs.Shape.{Shape}
use Rattle.forest_law.specs.declared.objects.Frame.{Frame}
use Rattle.forest_law.specs.declared.objects.Object.{Object}
use Rattle.forest_law.specs.declared.objects.Object.TheVariants as object
use Rattle.forest_law.specs.HashLaws.{NodesLeadToFrames, LeadsToRow}
use Rattle.forest_law.specs.Hashed.{folds_for, hash_block}
use Rattle.forest_law.specs.Law.{IsLawful}
use Rattle.forest_law.specs.Numbers.{part_id, frames_of}
use Rattle.forest_law.specs.Objects.{IsFrameOf}
use Rattle.forest_law.specs.State.{ForestState}
use Rattle.forest_law.proofs.ObjectLemmas.{same_frame}
use Rattle.forest_world.specs.Held.{TreePass, shape_of_pass, HasPart}
use Rattle.hash_maintain.specs.Parting.{GivesPart}
use Rattle.call_law.specs.Hands.{LacksObject}
use Rattle.call_law.specs.Trace.{Added}
use Rattle.buffer_pool.specs.Calls.{Does}
use Rattle.buffer_pool.specs.Forests.{TreeView, FitsTrees}
use Rattle.buffer_pool.specs.Frames.{TakesFrame, RefusesFrame, TellsFrame}
use Rattle.buffer_pool.proofs.AddedLemmas.{none_added, only_refused, only_given}
use Rattle.buffer_pool.proofs.CallLemmas.{does_both, does_among, does_none, took_frame, refused_frame}
use Rattle.buffer_pool.proofs.InsideLemmas.{taken_inside}
use Rattle.hash_guess.specs.Leads.{part_in, part_id_in, refused_try}
use Rattle.hash_guess.specs.Follows.{HasNodeInHand, frame_id_of, FindsBusy, FollowsTo}
use Rattle.hash_guess.proofs.LeadLemmas.{gave_so}

-- what a node in hand leads to in a state that fits
module _ (leads : NodesLeadToFrames) (p : TreePass) (index : ℕ) (n : Node)
    (node : HasNodeInHand p index n) (w : ForestState) (law : IsLawful w)
    (v : TreeView) (fits : FitsTrees w v) (shape : w.shape ≡ shape_of_pass p)
    (still : Holds v (part_id_in p index) (holding node.taken (object.Part node.part))) where
  leads_there : LeadsToRow w (part_in p index) n
  leads_there = leads w law (part_in p index) node.part n
      (ap (λ (s : Shape). get_elem? w.objects (part_id s (part_in p index))) shape
      ∙ fits.known (part_id_in p index) (holding node.taken (object.Part node.part)) still)
      node.has

  pub block_there : n.block < frames_of (shape_of_pass p)
  block_there = subst (λ (s : Shape). n.block < frames_of s) shape leads_there.below

  pub named_there : (f : Frame) → IsFrameOf w.shape w.objects n.block f
      → HasNamedRow (folds_for (shape_of_pass p)) (shape_of_pass p).parts (part_in p index)
      (hash_block f) n
  named_there f at = subst (λ (s : Shape). HasNamedRow (folds_for s) s.parts (part_in p index)
      (hash_block f) n) shape
      (subst (λ (g : Frame). HasNamedRow (folds_for w.shape) w.shape.parts (part_in p index)
      (hash_block g) n)
      (same_frame leads_there.frame f
      (some-injective (object.Frame leads_there.frame) (object.Frame f)
      (sym leads_there.at ∙ at))) leads_there.row)

-- after one try of the block the partition is in hand as it was
pub record IsStillInHand (p : TreePass) (index : ℕ) (n : Node) (node : HasNodeInHand p index n)
    (m : TreePass) : Type 0 where
  pub known : IsKnown m
  pub shape : shape_of_pass m ≡ shape_of_pass p
  pub held : Holds (view m) (part_id_in p index) (holding node.taken (object.Part node.part))

module _ (p m : TreePass) (index : ℕ) (n : Node) (node : HasNodeInHand p index n)
    (known : IsKnown p) where
  module _ (h : ℕ) (busy : RefusesFrame p n.block h m) where
    abbrev refused : Added
    refused = only_refused (refused_try (view p) (frame_id_of p n) h ∷ [])

    pub refused_does : Does p m [] refused
    refused_does = refused_frame p m known n.block h busy

    pub still_refused : IsStillInHand p index n node m
    still_refused = record {
      known = refused_does.known;
      shape = ap (λ (t : Terms Shape). t.shape) refused_does.adds.numbers.terms;
      held = ap (λ hs. get_elem? hs (part_id_in p index)) busy.same.held ∙ node.held;
    }

  module _ (took : TakesFrame p n.block m) (once : took.refused ≡ [])
      (below : part_in p index < (shape_of_pass p).parts) where
    pub took_does : Does p m (frame_id_of p n ∷ []) none_added
    took_does = subst (λ (fs : List (Refusal Object)). Does p m (frame_id_of p n ∷ [])
        (only_refused fs)) once (took_frame p m known n.block took)

    pub still_taken : IsStillInHand p index n node m
    still_taken = record {
      known = took_does.known;
      shape = ap (λ (t : Terms Shape). t.shape) took_does.adds.numbers.terms;
      held = took_does.rest (part_id_in p index) ((λ e. omega (arith, e, below)), tt)
          ∙ node.held;
    }

  pub still_in_hand : (r : Take) → part_in p index < (shape_of_pass p).parts
      → TellsFrame p n.block r m → IsStillInHand p index n node m
  still_in_hand Taken below told = still_taken told.0 told.1 below
  still_in_hand (Busy h) below told = still_refused h told

  -- so it may be given back
  pub has_part : (k : ℕ) → k ≡ part_in p index → IsStillInHand p index n node m
      → HasPart m k node.part node.part
  has_part k is still =
      let held : Holds (view m) (part_id (shape_of_pass m) k)
      (holding node.taken (object.Part node.part)) =
      ap (λ j. get_elem? (view m).held (part_id (shape_of_pass m) j)) is
      ∙ (ap (λ (s : Shape). get_elem? (view m).held (part_id s (part_in p index))) still.shape
      ∙ still.held) in
      record {
        held = (node.taken, held);
        value = still.known (part_id (shape_of_pass m) k)
            (holding node.taken (object.Part node.part)) held;
      }

  -- and was
  module _ (q : TreePass) (gave : GivesPart m (part_in p index) q) where
    gave_back : IsStillInHand p index n node m → Does m q (part_id_in p index ∷ [])
        (only_given (part_id_in p index) node.taken (object.Part node.part))
    gave_back still = gave_so m q (part_in p index) still.known gave (shape_of_pass p) still.shape
        node.taken node.part still.held

    lacks_part : IsStillInHand p index n node m → LacksObject (view q) (part_id_in p index)
    lacks_part still = ap (λ (s : Shape). get_elem? (view q).held (part_id s (part_in p index)))
        (sym (ap (λ (t : Terms Shape). t.shape) (gave_back still).adds.numbers.terms
        ∙ still.shape)) ∙ gave.lacks

    pub finds_busy : (h : ℕ) → RefusesFrame p n.block h m → FindsBusy p index n h q
    finds_busy h busy = record {
      node = node;
      was_held = busy.was_held;
      does = does_both p m q (part_id_in p index ∷ []) (refused h busy)
          (only_given (part_id_in p index) node.taken (object.Part node.part))
          (does_none p m (refused h busy) (part_id_in p index ∷ []) (refused_does h busy))
          (gave_back (still_refused h busy));
      lacks = lacks_part (still_refused h busy);
      count = gave.count ∙ busy.same.count;
    }

    pub follows_to : NodesLeadToFrames → (took : TakesFrame p n.block m) → took.refused ≡ []
        → part_in p index < (shape_of_pass p).parts → LacksObject (view p) (frame_id_of p n)
        → FollowsTo p index n q
    follows_to leads took once below lacked =
        let still = still_taken took once below in
        let given = only_given (part_id_in p index) node.taken (object.Part node.part) in
        let gives = gave_back still in
        let was = took.was in
        record {
          node = node;
          frame = took.frame;
          lacked = lacked;
          held = gives.rest (frame_id_of p n) ((λ e. omega (arith, e, below)), tt)
              ∙ (ap (λ v. get_elem? v.held (frame_id_of p n)) took.view
              ∙ set_here (view p).held (frame_id_of p n)
              (Some (holding (object.Frame took.frame) (object.Frame took.frame)))
              (inside (view p).held (frame_id_of p n) None lacked));
          named = named_there leads p index n node was.whole was.is_lawful
              (with_refused (view p) took.refused) was.fits was.fits.shape node.held took.frame
              was.at;
          inside = taken_inside (with_refused (view p) took.refused) n.block took.frame was;
          does = does_both p m q (part_id_in p index ∷ frame_id_of p n ∷ []) none_added given
              (does_among p m none_added (frame_id_of p n ∷ [])
              (part_id_in p index ∷ frame_id_of p n ∷ []) (λ j apart. apart.1)
              (took_does took once below))
              (does_among m q given (part_id_in p index ∷ [])
              (part_id_in p index ∷ frame_id_of p n ∷ []) (λ j apart. (apart.0, tt)) gives);
          lacks = lacks_part still;
          count = (let a = took.count in let b = gave.count in omega (arith, a, b));
        }
