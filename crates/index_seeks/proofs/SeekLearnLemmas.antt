-- The leaves of a seek, once their first one was learnt from.
use Rattle.std.proofs.Common.{◌≡◌, ◌≢◌, ◌≤◌, inl, inr, true, ℕ, List, [], ◌∷◌, ◌++◌, append-nil, length, sym, ap, subst, ◌∙◌, refl, arith, Option, Some, None, IsSome, ◌⊎◌}
use Rattle.std.specs.List.{AllByRecursion}
use Rattle.std.proofs.lemmas.Bool.{cases_eq}
use lib.ListN.{get_elem?}
use Rattle.list_facts.proofs.Places.{inside, not_both}
use Rattle.key_tuple.specs.Order.{FieldList, byte_count}
use Rattle.key_tuple.specs.declared.TheConstants.{MAX_KEY_BYTES}
use Rattle.key_tuple.specs.declared.mode.Mode.{Mode}
use Rattle.latch_law.specs.declared.knows.Holding.{Holding}
use Rattle.latch_law.specs.declared.knows.Reference.{Reference}
use Rattle.latch_law.specs.declared.knows.Terms.{Terms}
use Rattle.latch_law.specs.Rule.{Holds}
use Rattle.latch_law.specs.Views.{holding}
use Rattle.latch_law.specs.Whole.{reference}
use Rattle.latch_space.specs.Passes.{view, count}
use Rattle.latch_space.proofs.Pointwise.{lacks_each, none_known}
use Rattle.learning.specs.Bounds.{AreFiguresOf}
use Rattle.learning.specs.declared.event.Figures.{Figures}
use Rattle.map_history.specs.Columns.{may_stand, may_teach}
use Rattle.map_history.specs.Words.{note_word}
use Rattle.map_history.specs.declared.columns.Note.{Note}
use Rattle.search_info.specs.declared.knows.Knows.{Knows}
use Rattle.index_page.specs.declared.spot.Spot.{Spot}
use Rattle.index_law.specs.Shape.{Shape}
use Rattle.tree_law.specs.Pages.{IsOrderly, low_place, high_place}
use Rattle.forest_law.specs.declared.objects.Frame.{Frame}
use Rattle.forest_law.specs.declared.objects.Object.{Object}
use Rattle.forest_law.specs.declared.objects.Object.TheVariants as object
use Rattle.forest_law.specs.Numbers.{pool_id, part_id, frame_id, frames_of}
use Rattle.forest_law.specs.State.{bound, fields_for, page_within}
use Rattle.forest_world.specs.Held.{TreePass, shape_of_pass}
use Rattle.call_law.specs.Hands.{KnowsFrame}
use Rattle.call_law.specs.Trace.{Added, Adds, SparesTrees, frame_references}
use Rattle.call_law.proofs.TraceLemmas.{both_added, adds_both}
use Rattle.buffer_pool.specs.AsTaken.{AreAsTaken, Exception, IsAsTaken, NoException}
use Rattle.buffer_pool.specs.Pages.{HasNumber}
use Rattle.buffer_pool.specs.Tries.{tries_and_given}
use Rattle.buffer_pool.proofs.AddedLemmas.{frame_still, spares_both}
use Rattle.buffer_pool.proofs.AsTakenLemmas.{both_as_taken, held_in, none_as_taken}
use Rattle.buffer_pool.proofs.FrameLemmas.{one_held}
use Rattle.buffer_pool.proofs.GivingLemmas.{parts_no_frames}
use Rattle.hash_guess.specs.declared.cause.Cause.{Cause}
use Rattle.tree_descent.specs.declared.descending.Leaf.{Leaf}
use Rattle.tree_descent.specs.Descents.{AddsPath}
use Rattle.tree_descent.specs.Leaves.{cut_in, IsLeafFor}
use Rattle.tree_descent.specs.Ways.{HoldsPage}
use Rattle.tree_neighbours.specs.declared.pairs.LeafPair.{LeafPair}
use Rattle.tree_neighbours.specs.declared.side.Side.{Side}
use Rattle.tree_neighbours.specs.declared.side.Side.TheVariants.{Left, Right}
use Rattle.tree_neighbours.specs.Neighbours.{IsLeafBeside}
use Rattle.tree_neighbours.specs.Pairs.{DescendsPair, HoldsOther, frames_at}
use Rattle.tree_neighbours.specs.Sides.{Meets, side_of, row_on, page_on}
use Rattle.leaf_search.specs.Downs.{figures_at}
use Rattle.leaf_search.specs.Lessons.{Teaches, HasSamePage}
use Rattle.leaf_search.proofs.DownLemmas.{taught_leaf, taught_shape}
use Rattle.leaf_search.specs.Hows.{how_of}
use Rattle.leaf_search.proofs.FigureLemmas.{figures_bounded}
use Rattle.leaf_search.proofs.SearchLemmas.{cause_is_down, lesson_tells}
use Rattle.index_seeks.specs.SeekHands.{HoldsLast, HoldsBothLeaves, HoldsLeafPair, blocks_at, blocks_of_pair}
use Rattle.tree_neighbours.specs.LeafHands.{HoldsLeavesAlone}
use Rattle.engine_law.proofs.FrameTraceLemmas.{frames_both}
use Rattle.engine_law.proofs.KnownLemmas.{part_no_frame}
use Rattle.engine_law.proofs.KnownLemmas.{one_frame, page_number}
use Rattle.tree_neighbours.proofs.HandLemmas.{only_then, frames_apart}
use Rattle.index_seeks.proofs.StandLemmas.{went_last, went_both}

-- the leaf of another frame with the same page in the same bounds
module _ (shape : Shape) (f g : Frame) (same : HasSamePage f g) (i : ℕ) (mode : Mode)
    (tuple : FieldList) (spot : Spot) (leaf : IsLeafFor shape f i mode tuple spot) where
  abbrev pub leaf_then : IsLeafFor shape g i mode tuple spot
  leaf_then = let is = leaf.page.is in record {
    page = record {
      is = record {
        page = is.page;
        paged = same.page ∙ is.paged;
        tree = is.tree;
        index = is.index;
        at_level = is.at_level;
      };
      order = subst (IsOrderly (fields_for shape))
          (λ j. page_within is.page (sym same.low j) (sym same.high j)) leaf.page.order;
      within = record {
        low = ap (λ b. cut_in shape i mode tuple (low_place (bound b))) same.low
            ∙ leaf.page.within.low;
        high = ap (λ b. cut_in shape i mode tuple (high_place (bound b))) same.high
            ∙ leaf.page.within.high;
      };
    };
    finds = leaf.finds;
  }

-- what meets a frame meets another one with the same bounds
meets_then : (side : Side) (f g h : Frame) → HasSamePage f g → Meets side f h → Meets side g h
meets_then Left f g h same meets = meets ∙ ap (λ b. low_place (bound b)) (sym same.low)
meets_then Right f g h same meets = meets ∙ ap (λ b. high_place (bound b)) (sym same.high)

-- a leaf and whether it is the last on its side
abbrev LastLeaf : Shape → Frame → ℕ → Mode → FieldList → Spot → Type 0
LastLeaf shape f i mode tuple spot = (is : IsLeafFor shape f i mode tuple spot)
    × (IsSome (row_on (side_of mode) spot) ⊎ (page_on (side_of mode) is.page.is.page ≡ None))

module _ (q r : TreePass) (l m : Knows) (i b : ℕ) (figures : Figures) (told : Note)
    (taught : Teaches q l i b figures told r m) where
  -- what is held besides is held still
  pub learnt_only : (cs : List ℕ) → HoldsLeavesAlone q (b ∷ cs) → HoldsLeavesAlone r (b ∷ cs)
  learnt_only cs only = only_then q r (b ∷ cs) (b ∷ cs) (frame_id (shape_of_pass q) b ∷ []) only
      (record {
        added = tries_and_given taught.becomes.refused taught.given;
        does = taught.becomes.does;
        silent = refl;
      })
      (λ c apart. (apart, (frames_apart (shape_of_pass q) b c apart.0, tt)))
      ((λ e. omega (arith, e)), tt)
      (λ k below. (part_no_frame (shape_of_pass q) k b below, tt))
      (taught.becomes.count ∙ only.count)

  shapes : shape_of_pass q ≡ shape_of_pass r
  shapes = sym (taught_shape q r l m i b figures told taught)

  pub knows_new : KnowsFrame (view r) b taught.new
  knows_new = (taught_leaf q r l m i b figures told taught).knows

  pub same_as : (f : Frame) → KnowsFrame (view q) b f → HasSamePage f taught.new
  same_as f knows = subst (λ z. HasSamePage z taught.new)
      (one_frame (view q) b taught.leaf.frame f taught.leaf.knows knows) taught.same

module _ (q r : TreePass) (l m : Knows) (i : ℕ) (leaf : Leaf) (figures : Figures) (told : Note)
    (taught : Teaches q l i leaf.block figures told r m) (mode : Mode) (tuple : FieldList) where
  abbrev b : ℕ
  b = leaf.block

  learnt_last : HoldsLast q i mode tuple leaf → HoldsLast r i mode tuple leaf
  learnt_last held =
      let same = same_as q r l m i b figures told taught held.frame held.knows in
      let last : LastLeaf (shape_of_pass r) taught.new i mode tuple leaf.spot =
      subst (λ s. LastLeaf s taught.new i mode tuple leaf.spot)
      (shapes q r l m i b figures told taught)
      (leaf_then (shape_of_pass q) held.frame taught.new same i mode tuple leaf.spot held.is, held.last) in
      record {
        only = learnt_only q r l m i b figures told taught [] held.only;
        frame = taught.new;
        knows = knows_new q r l m i b figures told taught;
        is = last.0;
        last = last.1;
      }

  learnt_both : (c : ℕ) → HoldsBothLeaves q i mode tuple leaf c
      → HoldsBothLeaves r i mode tuple leaf c
  learnt_both c held =
      let same = same_as q r l m i b figures told taught held.frame held.knows in
      let shape = shapes q r l m i b figures told taught in record {
        only = learnt_only q r l m i b figures told taught (c ∷ []) held.only;
        frame = taught.new;
        knows = knows_new q r l m i b figures told taught;
        is = subst (λ s. IsLeafFor s taught.new i mode tuple leaf.spot) shape
            (leaf_then (shape_of_pass q) held.frame taught.new same i mode tuple leaf.spot held.is);
        none = held.none;
        next = held.next;
        knows_next = frame_still (view q) (view r) (frame_id (shape_of_pass q) b ∷ [])
            taught.becomes.does.adds.numbers taught.becomes.does.rest c
            (frames_apart (shape_of_pass q) b c held.beside.other, tt) held.next held.knows_next;
        beside = subst (λ s. IsLeafBeside s (side_of mode) b i taught.new c held.next) shape
            (record {
              is = held.beside.is;
              order = held.beside.order;
              other = held.beside.other;
              meets = meets_then (side_of mode) held.frame taught.new held.next same
                  held.beside.meets;
            });
      }

-- a way led to leaves that are held
pub held_pair : (p q : TreePass) (i : ℕ) (mode : Mode) (tuple : FieldList) (pair : LeafPair)
    → DescendsPair p i mode tuple pair q → HoldsLeavesAlone q (blocks_of_pair pair)
    → HoldsLeafPair q i mode tuple pair.leaf pair.other
held_pair p q i mode tuple pair went only = go pair.other refl
  where
    go : (o : Option ℕ) → pair.other ≡ o → HoldsLeafPair q i mode tuple pair.leaf o
    go None e = went_last p q i mode tuple pair went only e
    go (Some c) e = went_both p q i mode tuple pair went c only e

-- and they are held still once they were learnt from
pub learnt_pair : (q r : TreePass) (l m : Knows) (i : ℕ) (pair : LeafPair) (figures : Figures)
    (told : Note) → Teaches q l i pair.leaf.block figures told r m → (mode : Mode)
    (tuple : FieldList) → HoldsLeafPair q i mode tuple pair.leaf pair.other
    → HoldsLeafPair r i mode tuple pair.leaf pair.other
learnt_pair q r l m i pair figures told taught mode tuple held = go pair.other held
  where
    go : (o : Option ℕ) → HoldsLeafPair q i mode tuple pair.leaf o
        → HoldsLeafPair r i mode tuple pair.leaf o
    go None last = learnt_last q r l m i pair.leaf figures told taught mode tuple last
    go (Some c) both = learnt_both q r l m i pair.leaf figures told taught mode tuple c both

-- a way led to the leaf in the block, which is known, and nothing was said; each frame that kept its
-- page was given back, or is held, as it was taken, but for exceptions in hand
pub record ComesToLeaves (but : Exception) (p : TreePass) (i : ℕ) (mode : Mode) (tuple : FieldList) (b : ℕ)
    (q : TreePass) : Type 0 where
  pub added : Added
  pub adds : Adds (view p) (view q) added
  pub silent : added.said ≡ []
  pub spares : SparesTrees (shape_of_pass p) added
  pub as_taken : AreAsTaken added.references
  pub hand : (q' : Reference Object) → held_in (view q) q'
      → IsAsTaken q'.taken q'.released ⊎ but q'
  pub frame : Frame
  pub knows : KnowsFrame (view q) b frame
  pub number : ℕ
  pub has : HasNumber frame number
  pub path : AddsPath p (cut_in (shape_of_pass p) i mode tuple) i 0 number added

-- who holds nothing holds no object
pub none_held_of : (p : TreePass) → count p ≡ 0 → (k : ℕ) (h : Holding Object) → Holds (view p) k h → ⊥
none_held_of p none k h held = let all = p.all in let below = inside (view p).held k (Some h) held in
    not_both (view p).held k h (lacks_each p k none (omega (arith, below, all.0))) held

-- the reference of the leaf's frame that the lesson left
abbrev pub taught_leaf_given : (q r : TreePass) (l m : Knows) (i b : ℕ) (figures : Figures)
    (told : Note) → Teaches q l i b figures told r m → Reference Object
taught_leaf_given q r l m i b figures told taught =
    reference (frame_id (shape_of_pass q) b) taught.becomes.taken (object.Frame taught.new)

-- after a lesson that frame alone isn't as it was taken
pub taught_hand : (q r : TreePass) (l m : Knows) (i b : ℕ) (figures : Figures) (told : Note)
    → (taught : Teaches q l i b figures told r m)
    → ((k : ℕ) (h : Holding Object) → Holds (view q) k h → IsAsTaken h.taken h.known)
    → (q' : Reference Object) → held_in (view r) q' → IsAsTaken q'.taken q'.released
    ⊎ (q' ≡ taught_leaf_given q r l m i b figures told taught)
taught_hand q r l m i b figures told taught before q' held =
    let own = frame_id (shape_of_pass q) b in elim (cases_eq q'.object own) [
      | inl e ↦ (let is : holding q'.taken q'.released
          ≡ holding taught.becomes.taken (object.Frame taught.new) =
          one_held r own (holding q'.taken q'.released)
          (holding taught.becomes.taken (object.Frame taught.new))
          (ap (get_elem? (view r).held) (sym e) ∙ held) taught.becomes.is in
          inr (λ j. record { object = e j; taken = (is j).taken; released = (is j).known }))
      | inr ne ↦ inl (before q'.object (holding q'.taken q'.released)
          (sym (taught.becomes.does.rest q'.object (ne, tt)) ∙ held))
    ]

module _ (p q : TreePass) (i : ℕ) (mode : Mode) (tuple : FieldList) (pair : LeafPair)
    (went : DescendsPair p i mode tuple pair q) where
  abbrev way : Added
  way = went.silently.added

  -- the leaf beside, where one is held, is as it was taken
  other_as_taken : (o : Option ℕ) → HoldsOther p q pair.leaf.block i (side_of mode) went.frame
      went.is.page.is.page pair.leaf.spot o → (k : ℕ) (h : Holding Object) → Holds (view q) k h
      → (AllByRecursion (λ (j : ℕ). k ≢ j) (frames_at (shape_of_pass p) o) → ⊥)
      → IsAsTaken h.taken h.known
  other_as_taken None other k h held among = absurd (among tt)
  other_as_taken (Some m) other k h held among = elim (cases_eq k (frame_id (shape_of_pass p) m)) [
    | inl e ↦ other.1.held_as_taken h (ap (get_elem? (view q).held)
        (ap (λ (t : Terms Shape). frame_id t.shape m) went.silently.does.adds.numbers.terms ∙ sym e)
        ∙ held)
    | inr ne ↦ absurd (among (ne, tt))
  ]

  -- and nothing else is held, where nothing was
  pub pair_as_taken : count p ≡ 0 → (k : ℕ) (h : Holding Object) → Holds (view q) k h
      → IsAsTaken h.taken h.known
  pair_as_taken none k h held = let own = frame_id (shape_of_pass p) pair.leaf.block in
      elim (cases_eq k own) [
        | inl e ↦ went.held_as_taken h (ap (get_elem? (view q).held)
            (ap (λ (t : Terms Shape). frame_id t.shape pair.leaf.block)
            went.silently.does.adds.numbers.terms ∙ sym e) ∙ held)
        | inr ne ↦ other_as_taken pair.other went.other k h held
            (λ apart. none_held_of p none k h
            (sym (went.silently.does.rest k (ne, apart)) ∙ held))
      ]

  pub pair_comes : count p ≡ 0 → ComesToLeaves NoException p i mode tuple pair.leaf.block q
  pair_comes none = record {
    added = way;
    adds = went.silently.does.adds;
    silent = went.silently.silent;
    spares = went.silently.does.spares;
    as_taken = went.as_taken;
    hand = λ q' held. inl
        (pair_as_taken none q'.object (holding q'.taken q'.released) held);
    frame = went.frame;
    knows = went.knows;
    number = went.is.page.is.page.head.number;
    has = page_number went.frame i 0 went.is.page.is;
    path = went.path;
  }

  -- so it is where the leaf was learnt from then
  pub taught_comes : count p ≡ 0 → (r : TreePass) (l m : Knows) (figures : Figures) (told : Note)
      → (taught : Teaches q l i pair.leaf.block figures told r m)
      → ComesToLeaves (λ (q' : Reference Object).
      q' ≡ taught_leaf_given q r l m i pair.leaf.block figures told taught) p i mode tuple
      pair.leaf.block r
  taught_comes none r l m figures told taught =
      let b = pair.leaf.block in
      let more = tries_and_given taught.becomes.refused taught.given in
      let same = same_as q r l m i b figures told taught went.frame went.knows in record {
        added = both_added way more;
        adds = adds_both (view p) (view q) (view r) way more went.silently.does.adds
            taught.becomes.does.adds;
        silent = λ j. went.silently.silent j ++ [];
        spares = spares_both (shape_of_pass p) way more went.silently.does.spares
            (subst (λ (t : Terms Shape). SparesTrees t.shape more)
            went.silently.does.adds.numbers.terms taught.becomes.does.spares);
        as_taken = both_as_taken way.references taught.given went.as_taken
            (none_as_taken taught.given (parts_no_frames taught.given taught.parts));
        hand = λ q' held. taught_hand q r l m i b figures told taught (pair_as_taken none)
            q' held;
        frame = taught.new;
        knows = knows_new q r l m i b figures told taught;
        number = went.is.page.is.page.head.number;
        has = record {
          page = went.is.page.is.page;
          paged = same.page ∙ went.is.page.is.paged;
          number = refl;
        };
        path = record {
          vain = went.path.vain;
          path = went.path.path;
          references = frames_both way.references taught.given
              ∙ (ap (λ z. frame_references way.references ++ z)
              (parts_no_frames taught.given taught.parts)
              ∙ (append-nil (frame_references way.references) ∙ went.path.references));
          leads = went.path.leads;
        };
      }

-- who holds nothing holds no leaves and nothing else
pub none_held : (p : TreePass)
    → (view p).terms.objects ≡ frame_id (shape_of_pass p) (frames_of (shape_of_pass p))
    → count p ≡ 0 → HoldsLeavesAlone p []
none_held p objects none = record {
  known = none_known p none;
  frames = λ b below apart. lacks_each p (frame_id (shape_of_pass p) b) none
      (omega (arith, objects, below));
  tables = record {
    pool = lacks_each p pool_id none (omega (arith, objects));
    parts = λ k below. lacks_each p (part_id (shape_of_pass p) k) none
        (omega (arith, objects, below));
  };
  count = none;
}

-- no more than two leaves are held
pub few_held : (pair : LeafPair) → length (blocks_of_pair pair) ≤ 2
few_held pair = go pair.other
  where
    go : (o : Option ℕ) → length (pair.leaf.block ∷ blocks_at o) ≤ 2
    go None = omega arith
    go (Some c) = omega arith

module _ (p q : TreePass) (i : ℕ) (mode : Mode) (tuple : FieldList) (pair : LeafPair)
    (went : DescendsPair p i mode tuple pair q) where
  -- the first leaf is held
  pub pair_leaf : HoldsPage (view q) pair.leaf.block i 0
  pair_leaf = record {
    frame = went.frame;
    knows = went.knows;
    is = went.is.page.is;
    order = subst (λ (t : Terms Shape). IsOrderly (fields_for t.shape)
        (page_within went.is.page.is.page went.frame.low went.frame.high))
        (sym went.silently.does.adds.numbers.terms) went.is.page.order;
  }

  -- and how far the tuple agrees with its rows is bounded
  pub pair_figures : (fields : ℕ) → byte_count tuple ≤ MAX_KEY_BYTES → length tuple ≤ fields
      → AreFiguresOf fields (figures_at pair.leaf.spot)
  pair_figures fields short few =
      let f = figures_bounded mode tuple went.is.page.is.page.rows pair.leaf.spot (length tuple) short
      refl went.is.finds in
      let low = f.low_fields in let up = f.up_fields in record {
        low_fields = omega (arith, low, few);
        up_fields = omega (arith, up, few);
        low_bytes = f.low_bytes;
        up_bytes = f.up_bytes;
      }

-- what is so of a mode and a tuple of an index is so of the same
pub about_seek : (P : ℕ → Mode → FieldList → Type 0) (i j : ℕ) (m n : Mode) (s t : FieldList)
    → i ≡ j → m ≡ n → s ≡ t → P i m s → P j n t
about_seek P i j m n s t index mode tuple so =
    subst (λ z. P j n z) tuple (subst (λ z. P j z s) mode (subst (λ z. P z m s) index so))

-- the columns of a seek that learnt from a way down
pub way_stands : (q r : TreePass) (l m : Knows) (i b : ℕ) (figures : Figures) (told : Note)
    → Teaches q l i b figures told r m → (cause : Cause)
    → may_stand (record { how = how_of cause; note = told }) ≡ true
way_stands q r l m i b figures told taught cause =
    ap (λ s. may_teach s (note_word told).lesson) (cause_is_down cause)
    ∙ lesson_tells q i b taught.leaf.frame taught.leaf.is.page taught.block taught.learn told
    taught.new taught.given taught.ends
