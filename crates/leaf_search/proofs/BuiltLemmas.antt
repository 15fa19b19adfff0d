-- A partition was taken, a leaf was built on it, both are known, and the partition is given back.
use Rattle.std.proofs.Common.{◌≡◌, ◌≢◌, inl, inr, ℕ, ◌<◌, ◌≤◌, ◌+◌, List, [], ◌∷◌, length, sym, ap, subst, ◌∙◌, arith, Some, None}
use lib.ListN.{get_elem?}
use Rattle.atomic_table.proofs.Lists.{set_here}
use Rattle.list_facts.proofs.Places.{inside}
use Rattle.latch_law.specs.declared.knows.Holding.{Holding}
use Rattle.latch_law.specs.declared.knows.Reference.{Reference}
use Rattle.latch_law.specs.Rule.{Holds}
use Rattle.latch_law.specs.Views.{holding}
use Rattle.latch_law.specs.Whole.{reference}
use Rattle.latch_space.specs.Has.{Has, IsKnown, DidSettle}
use Rattle.latch_space.specs.Passes.{view, values, known_values, count, Shows}
use Rattle.learning.specs.declared.event.BlockFigures.{BlockFigures}
use Rattle.hash_partition.specs.Part.{Part}
use Rattle.hash_law.specs.Blocks.{HasLeafOf, IsTidy, part_for}
use Rattle.hash_upkeep.specs.declared.built.Build.{Build}
use Rattle.hash_upkeep.specs.declared.hashing.Hashing.{Hashing}
use Rattle.hash_upkeep.specs.Build.{BuildsAnew}
use Rattle.hash_upkeep.specs.Hashing.{row_entries}
use Rattle.index_law.specs.Shape.{Shape}
use Rattle.tree_law.specs.Pages.{IsOrderly}
use Rattle.forest_law.specs.declared.objects.Frame.{Frame}
use Rattle.forest_law.specs.declared.objects.Object.{Object}
use Rattle.forest_law.specs.declared.objects.Object.TheVariants as object
use Rattle.forest_law.specs.Hashed.{hash_block, IsExactFor}
use Rattle.forest_law.specs.HashStays.{IsRehashed, StaysHashed}
use Rattle.forest_law.specs.Law.{Follows}
use Rattle.forest_law.specs.Numbers.{part_id, frame_id, frames_of}
use Rattle.forest_law.specs.Objects.{Becomes}
use Rattle.forest_world.proofs.HandLemmas.{becomes_of}
use Rattle.key_tuple.specs.declared.mode.Params.{Params}
use Rattle.forest_law.specs.State.{fields_for, page_within}
use Rattle.forest_law.specs.Steps.{FrameRests, Rests}
use Rattle.forest_world.specs.Held.{TreePass, shape_of_pass, HasPart}
use Rattle.forest_world.specs.HashHands.{HandKeepsHash, IsHashedIn}
use Rattle.hash_maintain.specs.Hands.{UpkeepKeepsTheHash}
use Rattle.hash_maintain.specs.Leaves.{frame_built}
use Rattle.hash_maintain.specs.Parting.{TakesPartition, GivesPart}
use Rattle.hash_maintain.specs.Upkeep.{CountsLeaf, hashing_as}
use Rattle.hash_maintain.proofs.PassLemmas.{knows_forest}
use Rattle.call_law.specs.Hands.{HoldsNoPart, KnowsFrame, KnowsPart}
use Rattle.call_law.specs.Trace.{Added}
use Rattle.call_law.proofs.TraceLemmas.{both_added}
use Rattle.buffer_pool.specs.Calls.{Does}
use Rattle.buffer_pool.specs.Forests.{TreeView, IsFittedTree}
use Rattle.buffer_pool.specs.Parts.{HoldsPartToo, GivesPartBack}
use Rattle.buffer_pool.specs.Tries.{tries_alone, tries_and_given}
use Rattle.buffer_pool.proofs.AddedLemmas.{none_added, frame_still}
use Rattle.buffer_pool.proofs.CallLemmas.{does_both, does_among, does_again}
use Rattle.buffer_pool.proofs.FrameLemmas.{one_held}
use Rattle.buffer_pool.proofs.HashRestLemmas.{known_tidy}
use Rattle.buffer_pool.proofs.PartLemmas.{took_part, gave_part}
use Rattle.buffer_pool.proofs.SpaceLemmas.{known_below}
use Rattle.buffer_pool.proofs.VictimLemmas.{tries_shape}
use Rattle.leaf_search.specs.Builds.{HoldsToTeach, HoldsToBuild, IsCountedLeaf, BuiltInHand, EndsBuild}
use Rattle.leaf_search.specs.Lessons.{with_figures}
use Rattle.leaf_search.proofs.AdviceLemmas.{suited_tidy}
use Rattle.leaf_search.proofs.BuiltFrameLemmas.{built_anew, built_index, built_rests, built_tidy, tidy_index}
use Rattle.leaf_search.proofs.ChangedLemmas.{IsAtRest, known_else, changed_whole, changed_follows, changed_known, changed_shape, changed_does, changed_frame, changed_other, changed_count}

-- what was added, where nothing was said
added_is : (a : Added) (qs : List (Reference Object)) → a.said ≡ [] → a.references ≡ qs
    → a ≡ tries_and_given a.refused qs
added_is a qs said given = λ j. record {
  said = said j;
  refused = a.refused;
  references = given j;
}

-- an object that was taken is held as it is known
pub taken_as_known : (p q : TreePass) (k : ℕ) → k < (shape_of_pass p).parts
    → (took : TakesPartition p k q)
    → Holds (view q) (part_id (shape_of_pass p) k)
    (holding (object.Part took.part) (object.Part took.part))
taken_as_known p q k below took = let n = part_id (shape_of_pass p) k in
    let c = took.comes in
    ap (λ (v : TreeView). get_elem? v.held n) c.view
    ∙ set_here (view p).held n (Some (holding (object.Part took.part) (object.Part took.part)))
    (inside (view p).held n None c.lacked)

-- the partition of the index was taken for a leaf that is to be hashed otherwise
pub record ReadyToBuild (p0 p1 : TreePass) (b i k : ℕ) (figures : BlockFigures) : Type 0 where
  pub fitted : IsFittedTree (view p0)
  pub known : IsKnown p0
  pub none : HoldsNoPart (view p0)
  pub k_is : k ≡ part_for (shape_of_pass p0).parts i
  pub below : k < (shape_of_pass p0).parts
  pub took : TakesPartition p0 k p1
  pub teach : HoldsToTeach (view p0) b i figures
  pub differs : figures.built ≢ Some figures.advice

module _ {p0 p1 : TreePass} {b i k : ℕ} {figures : BlockFigures}
    (ready : ReadyToBuild p0 p1 b i k figures) where
  abbrev h : HoldsToTeach (view p0) b i figures
  h = ready.teach

  abbrev took : TakesPartition p0 k p1
  took = ready.took

  abbrev f : Frame
  f = h.leaf.frame

  abbrev own : ℕ
  own = frame_id (shape_of_pass p0) b

  abbrev n : ℕ
  n = part_id (shape_of_pass p0) k

  abbrev holds : HoldsPartToo p0 k p1
  holds = took_part p0 p1 k ready.below ready.known took

  pub shape1 : shape_of_pass p1 ≡ shape_of_pass p0
  shape1 = tries_shape p0 p1 (n ∷ []) holds.tries

  apart : own ≢ n
  apart e = let below = ready.below in omega (arith, e, below)

  pub knows1 : KnowsFrame (view p1) b f
  knows1 = frame_still (view p0) (view p1) (n ∷ []) holds.tries.does.adds.numbers
      holds.tries.does.rest b (apart, tt) f h.leaf.knows

  pub k1_is : part_for (shape_of_pass p1).parts i ≡ k
  k1_is = ap (λ (s : Shape). part_for s.parts i) shape1 ∙ sym ready.k_is

  pub taken_known : IsKnown p1
  taken_known = holds.tries.does.known

  pub taken_room : count p0 + 2 ≤ 16 → count p1 < 16
  taken_room room = let counted = holds.count in omega (arith, counted, room)

  -- what the build asks for
  abbrev pub to_build : HoldsToBuild p1 b i figures
  to_build = record {
    teach = record {
      leaf = record {
        frame = f;
        knows = knows1;
        is = h.leaf.is;
        order = subst (λ (s : Shape). IsOrderly (fields_for s)
            (page_within h.leaf.is.page f.low f.high)) (sym shape1) h.leaf.order;
      };
      suits = h.suits;
    };
    differs = ready.differs;
    part = took.part;
    knows = subst (λ m. KnowsPart (view p1) m took.part) (sym k1_is) took.has.held;
    exact = subst (λ m. IsExactFor (shape_of_pass p1) m b took.part f) (sym k1_is)
        (subst (λ (s : Shape). IsExactFor s k b took.part f) (sym shape1)
        (took.comes.exact b f h.leaf.knows));
  }

  -- the leaf was counted before
  pub taken_counted : (g : Frame) → g ≡ f → (need : ℕ) → CountsLeaf p0 b figures.advice g need
      → IsCountedLeaf p1 b figures.advice need
  taken_counted g is need counts = record {
    frame = f;
    knows = knows1;
    counts = λ page paged. subst (λ (s : Shape). need ≡ length (row_entries (record {
      index = page.head.index;
      block = b;
      params = figures.advice;
      bits = s.fold_bits;
    }) page.rows)) (sym shape1) (counts page (ap (λ (z : Frame). z.page) is ∙ paged));
  }

  module _ {p2 : TreePass} {answer : Build}
      (built : BuiltInHand p1 b i figures f h.leaf.is.page took.part answer p2) where
    abbrev k1 : ℕ
    k1 = part_for (shape_of_pass p1).parts i

    abbrev n1 : ℕ
    n1 = part_id (shape_of_pass p1) k1

    abbrev how : Hashing
    how = hashing_as p1 b i figures.advice

    abbrev g : Frame
    g = frame_built answer how (with_figures f figures)

    n1_is : n1 ≡ n
    n1_is = ap (part_id (shape_of_pass p1)) k1_is ∙ ap (λ (s : Shape). part_id s k) shape1

    own_is : frame_id (shape_of_pass p1) b ≡ own
    own_is = ap (λ (s : Shape). frame_id s b) shape1

    frame1 : Holds (view p1) (frame_id (shape_of_pass p1) b)
        (holding h.leaf.knows.0 (object.Frame f))
    frame1 = ap (get_elem? (view p1).held) own_is
        ∙ (holds.tries.does.rest own (apart, tt) ∙ h.leaf.knows.1)

    shape2 : shape_of_pass p2 ≡ shape_of_pass p1
    shape2 = ap (λ (v : TreeView). v.terms.shape) built.view

    abbrev k2 : ℕ
    k2 = part_for (shape_of_pass p2).parts i

    k2_is : k1 ≡ k2
    k2_is = ap (λ (s : Shape). part_for s.parts i) (sym shape2)

    rests : FrameRests f g
    rests = built_rests answer how f figures

    part1 : HasPart p2 k1 took.part built.now
    part1 = built.part

    n2_is : part_id (shape_of_pass p2) k1 ≡ n1
    n2_is = ap (λ (s : Shape). part_id s k1) shape2

    part_shows : Shows p2 n1 (object.Part built.now)
    part_shows = subst (λ m. Shows p2 m (object.Part built.now)) n2_is part1.value

    at_part : IsAtRest p2 n1
    at_part o held = (
      object.Part built.now,
      part_shows,
      subst (λ (z : Holding Object). Rests z.known (object.Part built.now))
          (one_held p2 n1 (holding part1.held.0 (object.Part took.part)) o
          (subst (λ m. Holds (view p2) m (holding part1.held.0 (object.Part took.part))) n2_is
          part1.held.1) held) tt,
    )

    pub built_whole : (j : ℕ) (o : Holding Object) → Holds (view p2) j o
        → (z : Object) × Shows p2 j z
    built_whole = changed_whole p1 p2 b n1 f g taken_known built.view built.frame rests at_part
        built.beside

    tidy : IsTidy (hash_block f)
    tidy = known_tidy (view p0) ready.fitted b f h.leaf.knows

    leaf : HasLeafOf (hash_block (with_figures f figures)) i
    leaf = record {
      page = h.leaf.is.page;
      page_is = h.leaf.is.paged;
      leaf = h.leaf.is.at_level;
      index_is = h.leaf.is.index;
    }

    hashed_in : (x : Frame) → ((index : ℕ) → x.hashed ≡ Some index → index ≡ i)
        → IsHashedIn (shape_of_pass p2) k2 x
    hashed_in x only index e = ap (part_for (shape_of_pass p2).parts) (only index e)

    -- where the leaf was hashed, it is hashed anew, or there was no room for that
    rehashed : (params : Params)
        → IsRehashed (shape_of_pass p1) (known_values p2) (values p2) b i params f g
    rehashed params = record {
      old = took.part;
      new = built.now;
      becomes = subst
          (λ m. Becomes (known_values p2) (values p2) m (object.Part took.part)
          (object.Part built.now)) n2_is
          (becomes_of p2 (part_id (shape_of_pass p2) k1) (object.Part took.part)
          (object.Part built.now) part1);
      cause = inr (inr (built_anew (shape_of_pass p1) answer b i f figures h.leaf.is.page
          built.now.spare h.leaf.is.paged built.room));
    }

    stays : StaysHashed (shape_of_pass p2) (known_values p2) (values p2) b f g
    stays = subst (λ (s : Shape). StaysHashed s (known_values p2) (values p2) b f g) (sym shape2)
        (λ index params was leaf. inr (inl (subst
        (λ j. IsRehashed (shape_of_pass p1) (known_values p2) (values p2) b j params f g)
        (sym (tidy_index f i index tidy h.leaf.is was.hashed)) (rehashed params))))

    keeps : UpkeepKeepsTheHash → HandKeepsHash p2
    keeps law = law.keeps p2 k2 b (record {
      known = took.part;
      now = built.now;
      old = f;
      new = g;
      part = subst (λ m. HasPart p2 m took.part built.now) k2_is part1;
      frame = built.frame;
      below = subst (λ (s : Shape). b < frames_of s) (sym (shape2 ∙ shape1))
          (known_below p0 b h.leaf.knows.0 (object.Frame f) h.leaf.knows.1
          (knows_forest p0 ready.fitted).objects);
      was_in = hashed_in f (λ index e. tidy_index f i index tidy h.leaf.is e);
      is_in = hashed_in g (λ index e. built_index answer how (with_figures f figures) index e);
      tidy = λ t. built_tidy answer how (with_figures f figures) leaf h.suits.advice
          (suited_tidy f figures h.suits t);
      exact = subst (λ (s : Shape). IsExactFor s (part_for s.parts i) b built.now g) (sym shape2)
          built.exact;
      others = built.others;
      shape = built.shape;
      stays = stays;
      beyond = λ j o away held. known_else p1 p2 b n1 f g taken_known built.view built.frame rests
          at_part built.beside j o
          (λ e. away.1.0 (e ∙ ap (λ (s : Shape). frame_id s b) (sym shape2)))
          (λ e. away.0 (e ∙ ap (λ (s : Shape). part_id s (part_for s.parts i)) (sym shape2))) held;
    })

    pub built_follows : UpkeepKeepsTheHash
        → Follows (shape_of_pass p2) (known_values p2) (values p2) None
    built_follows law = changed_follows p1 p2 b n1 f g taken_known built.view built.frame rests
        at_part built.beside (keeps law)

    -- once both are known
    module _ (p3 : TreePass) (told : DidSettle p2 p3) where
      known3 : IsKnown p3
      known3 = changed_known p1 p2 b n1 f g taken_known built.view built.frame rests at_part
          built.beside p3 told

      shape3 : shape_of_pass p3 ≡ shape_of_pass p0
      shape3 = changed_shape p1 p2 b n1 f g taken_known built.view built.frame rests at_part
          built.beside p3 told ∙ shape1

      part3 : HasPart p3 k built.now built.now
      part3 = subst (λ m. Has p3 m (object.Part built.now) (object.Part built.now))
          (n2_is ∙ (n1_is ∙ ap (λ (s : Shape). part_id s k) (sym shape3)))
          (told.learnt.has (part_id (shape_of_pass p2) k1) (object.Part took.part)
          (object.Part built.now) part1)

      pub built_part : (x : Part) × HasPart p3 k x x
      built_part = (built.now, part3)

      frame3 : Holds (view p3) own (holding h.leaf.knows.0 (object.Frame g))
      frame3 = subst (λ m. Holds (view p3) m (holding h.leaf.knows.0 (object.Frame g))) own_is
          (changed_frame p1 p2 b n1 f g taken_known built.view built.frame rests at_part
          built.beside p3 told h.leaf.knows.0 frame1)

      part_held : Holds (view p3) n (holding (object.Part took.part) (object.Part built.now))
      part_held = subst (λ m. Holds (view p3) m
          (holding (object.Part took.part) (object.Part built.now))) n1_is
          (changed_other p1 p2 b n1 f g taken_known built.view built.frame rests at_part
          built.beside p3 told (object.Part took.part) (object.Part took.part)
          (object.Part built.now)
          (subst (λ m. Holds (view p1) m
          (holding (object.Part took.part) (object.Part took.part))) (sym n1_is)
          (taken_as_known p0 p1 k ready.below took)) part_shows)

      does3 : Does p1 p3 (n ∷ own ∷ []) none_added
      does3 = subst (λ m. Does p1 p3 (m ∷ own ∷ []) none_added) n1_is
          (subst (λ m. Does p1 p3 (n1 ∷ m ∷ []) none_added) own_is
          (changed_does p1 p2 b n1 f g taken_known built.view built.frame rests at_part
          built.beside p3 told))

      -- and the partition is given back
      module _ (p4 : TreePass) (given : GivesPart p3 k p4) where
        abbrev gave : GivesPartBack p3 k p4
        gave = gave_part p3 p4 k known3 given

        abbrev c : Added
        c = gave.silently.added

        n3_is : part_id (shape_of_pass p3) k ≡ n
        n3_is = ap (λ (s : Shape). part_id s k) shape3

        gave_does : Does p3 p4 (n ∷ []) c
        gave_does = subst (λ m. Does p3 p4 (m ∷ []) c) n3_is gave.silently.does

        same_holding : holding gave.taken (object.Part gave.part)
            ≡ holding (object.Part took.part) (object.Part built.now)
        same_holding = one_held p3 n (holding gave.taken (object.Part gave.part))
            (holding (object.Part took.part) (object.Part built.now))
            (subst (λ m. Holds (view p3) m (holding gave.taken (object.Part gave.part))) n3_is
            gave.knew) part_held

        given_is : c.references
            ≡ reference n (object.Part took.part) (object.Part built.now) ∷ []
        given_is = gave.one
            ∙ (λ j. reference (n3_is j) (same_holding j).taken (same_holding j).known ∷ [])

        abbrev a : Added
        a = both_added (both_added (tries_alone holds.tries.refused) none_added) c

        all_does : Does p0 p4 (own ∷ []) a
        all_does = does_again p0 p4 a n (own ∷ [])
            (does_both p0 p3 p4 (n ∷ own ∷ [])
            (both_added (tries_alone holds.tries.refused) none_added) c
            (does_both p0 p1 p3 (n ∷ own ∷ []) (tries_alone holds.tries.refused) none_added
            (does_among p0 p1 (tries_alone holds.tries.refused) (n ∷ []) (n ∷ own ∷ [])
            (λ j off. (off.0, tt)) holds.tries.does) does3)
            (does_among p3 p4 c (n ∷ []) (n ∷ own ∷ []) (λ j off. (off.0, tt)) gave_does))
            (ap (λ m. get_elem? (view p4).held m) (sym n3_is)
            ∙ (gave.lacks ∙ sym (ready.none k ready.below)))

        abbrev references : List (Reference Object)
        references = reference n (object.Part took.part) (object.Part built.now) ∷ []

        pub ends_build : EndsBuild p0 i b f h.leaf.is.page figures answer p4
        ends_build = record {
          given = references;
          becomes = record {
            taken = h.leaf.knows.0;
            was = h.leaf.knows.1;
            is = gave_does.rest own (apart, tt) ∙ frame3;
            refused = a.refused;
            does = subst (Does p0 p4 (own ∷ [])) (added_is a references gave.silently.silent
                given_is) all_does;
            count = (let x = holds.count in let y = gave.count in
                let z = changed_count p1 p2 b n1 f g taken_known built.view built.frame rests at_part
                built.beside p3 told built.count in omega (arith, x, y, z));
          };
          builds = record {
            differs = ready.differs;
            was = took.part;
            now = built.now;
            told = subst (λ (s : Shape). BuildsAnew (record {
              index = i;
              block = b;
              params = figures.advice;
              bits = s.fold_bits;
            }) h.leaf.is.page.rows took.part built.now answer) shape1 built.told;
            given = ap (λ m. reference (part_id (shape_of_pass p0) m) (object.Part took.part)
                (object.Part built.now) ∷ []) ready.k_is;
          };
        }
