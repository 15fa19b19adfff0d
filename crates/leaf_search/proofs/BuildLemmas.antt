-- A leaf is built while its frame is out of its place, on the partition in hand.
use Rattle.std.proofs.Common.{◌≡◌, ◌≢◌, inl, inr, ℕ, ◌<◌, length, sym, ap, subst, ◌∙◌, refl, arith}
use Rattle.std.proofs.lemmas.Nat.{mod_below}
use Rattle.list_facts.proofs.Places.{none_is_not}
use Rattle.latch_law.specs.declared.knows.Holding.{Holding}
use Rattle.latch_law.specs.declared.knows.Terms.{Terms}
use Rattle.latch_law.specs.Views.{holding}
use Rattle.latch_space.specs.Has.{IsKnown}
use Rattle.latch_space.specs.Passes.{view, count}
use Rattle.learning.specs.declared.event.BlockFigures.{BlockFigures}
use Rattle.chain_arena.specs.Bag.{SameOutsideBlock}
use Rattle.hash_partition.specs.Part.{Part, KeepsShape}
use Rattle.hash_law.specs.Blocks.{AskFew, HasLeafOf, IsTidy, part_for}
use Rattle.hash_law.specs.Entries.{NodesAt}
use Rattle.hash_upkeep.specs.declared.built.Build.{Build}
use Rattle.hash_upkeep.specs.Build.{BuildsAnew, LacksIfFull}
use Rattle.hash_upkeep.specs.Hashing.{row_entries}
use Rattle.index_law.specs.Shape.{Shape}
use Rattle.forest_law.specs.declared.objects.Frame.{Frame}
use Rattle.forest_law.specs.declared.objects.Object.{Object}
use Rattle.forest_law.specs.declared.objects.Object.TheVariants as object
use Rattle.forest_law.specs.Hashed.{hash_block, IsExactFor}
use Rattle.forest_law.specs.HashSteps.{AsksSame}
use Rattle.forest_law.specs.Numbers.{part_id, frame_id}
use Rattle.forest_law.proofs.HashLawLemmas.{same_asks}
use Rattle.forest_law.proofs.ObjectLemmas.{same_part}
use Rattle.forest_world.specs.Held.{TreePass, shape_of_pass, HasFrame, HasPart}
use Rattle.hash_maintain.specs.Leaves.{frame_built}
use Rattle.hash_maintain.specs.Upkeep.{AreInPlace, BuildsInHand, CountsLeaf, IsExactIn, IsLeafExactIn, KeepsUpInHand, hashing_as}
use Rattle.hash_maintain.proofs.PassLemmas.{knows_forest}
use Rattle.call_law.specs.Hands.{KnowsFrame}
use Rattle.buffer_pool.specs.Forests.{TreeView, IsFittedTree}
use Rattle.buffer_pool.specs.Frames.{TakesOut, PutsBack}
use Rattle.buffer_pool.specs.Hands.{HasOut}
use Rattle.buffer_pool.specs.Pages.{HasTreePage}
use Rattle.buffer_pool.proofs.FrameLemmas.{one_held, one_shown}
use Rattle.buffer_pool.proofs.HashRestLemmas.{known_tidy}
use Rattle.buffer_pool.proofs.KeepLemmas.{out_kept}
use Rattle.buffer_pool.proofs.PartLemmas.{part_has, part_kept}
use Rattle.buffer_pool.proofs.UnhashLemmas.{in_place, taken_is, taken_out}
use Rattle.leaf_search.specs.Builds.{SuitsLeaf, HoldsToBuild, IsCountedLeaf, BuiltInHand}
use Rattle.leaf_search.specs.Lessons.{with_figures}
use Rattle.leaf_search.proofs.AdviceLemmas.{suited_tidy}

-- a partition that is exact of a frame is so of one that asks for the same
pub exact_so : (s : Shape) (k b : ℕ) (x : Part) (f g : Frame) → AsksSame s k b f g
    → IsExactFor s k b x f → IsExactFor s k b x g
exact_so s k b x f g asks exact =
    record { nodes = subst (NodesAt b x.nodes) (sym (asks x x)) exact.nodes }

-- a leaf with figures that suit it asks for what it asked for
pub suited_asks : (s : Shape) (k b : ℕ) (f : Frame) (figures : BlockFigures) → SuitsLeaf f figures
    → AsksSame s k b f (with_figures f figures)
suited_asks s k b f figures suits =
    same_asks s k b f (with_figures f figures) refl refl suits.built

-- a partition's number is no frame's
part_no_frame : (s : Shape) (k b : ℕ) → k < s.parts → part_id s k ≢ frame_id s b
part_no_frame s k b below e = omega (arith, e, below)

-- the leaf of a frame
pub leaf_of_index : (f : Frame) (i : ℕ) (figures : BlockFigures) → HasTreePage f i 0
    → HasLeafOf (hash_block (with_figures f figures)) i
leaf_of_index f i figures is =
    record { page = is.page; page_is = is.paged; leaf = is.at_level; index_is = is.index }

-- a leaf that was counted has as many entries while its frame is out, and with other figures
pub out_counted : (p q : TreePass) (b need : ℕ) (figures : BlockFigures) (frame : Frame)
    → IsKnown p → TakesOut p b frame q → IsCountedLeaf p b figures.advice need
    → CountsLeaf q b figures.advice (with_figures frame figures) need
out_counted p q b need figures frame known out counted = λ page paged.
    subst (λ (s : Shape). need ≡ length (row_entries (record {
      index = page.head.index;
      block = b;
      params = figures.advice;
      bits = s.fold_bits;
    }) page.rows)) (sym (ap (λ (v : TreeView). v.terms.shape) out.view))
    (counted.counts page (ap (λ (z : Frame). z.page)
    (sym (taken_is p q b frame counted.frame known counted.knows out)) ∙ paged))

module _ (p q : TreePass) (b i : ℕ) (figures : BlockFigures) (h : HoldsToBuild p b i figures)
    (known : IsKnown p) (fitted : IsFittedTree (view p)) (frame : Frame)
    (out : TakesOut p b frame q) where
  abbrev f : Frame
  f = h.teach.leaf.frame

  abbrev knows : KnowsFrame (view p) b f
  knows = h.teach.leaf.knows

  abbrev x : Frame
  x = with_figures f figures

  frame_is : frame ≡ f
  frame_is = taken_is p q b frame f known knows out

  with_is : with_figures frame figures ≡ x
  with_is = ap (λ (z : Frame). with_figures z figures) frame_is

  abbrev k : ℕ
  k = part_for (shape_of_pass p).parts i

  shape_q : shape_of_pass q ≡ shape_of_pass p
  shape_q = ap (λ (v : TreeView). v.terms.shape) out.view

  abbrev kq : ℕ
  kq = part_for (shape_of_pass q).parts i

  same_k : kq ≡ k
  same_k = ap (λ (s : Shape). part_for s.parts i) shape_q

  pub part_is_below : k < (shape_of_pass p).parts
  part_is_below = mod_below i (shape_of_pass p).parts (knows_forest p fitted).hash.parts

  below_q : kq < (shape_of_pass q).parts
  below_q = subst (λ (s : Shape). part_for s.parts i < s.parts) (sym shape_q) part_is_below

  -- what the build asks for
  pub out_tidy : IsTidy (hash_block (with_figures frame figures))
  out_tidy = subst (λ z. IsTidy (hash_block z)) (sym with_is)
      (suited_tidy f figures h.teach.suits (known_tidy (view p) fitted b f knows))

  has_part : HasPart q k h.part h.part
  has_part = part_kept p q (frame_id (shape_of_pass p) b) k out.hand.terms out.hand.others
      (part_no_frame (shape_of_pass p) k b part_is_below) h.part h.part
      (part_has p k h.part known h.knows)

  part_q : HasPart q kq h.part h.part
  part_q = subst (λ n. HasPart q n h.part h.part) (sym same_k) has_part

  exact_q : IsExactFor (shape_of_pass q) kq b h.part x
  exact_q = subst (λ (s : Shape). IsExactFor s (part_for s.parts i) b h.part x) (sym shape_q)
      (exact_so (shape_of_pass p) k b h.part f x
      (suited_asks (shape_of_pass p) k b f figures h.teach.suits) h.exact)

  exact_in : IsExactIn q kq b x
  exact_in = record {
    held = λ r s has. subst (λ (z : Part). IsExactFor (shape_of_pass q) kq b z x)
        (same_part h.part s (one_shown q (part_id (shape_of_pass q) kq) (object.Part h.part)
        (object.Part s) part_q.value has.value)) exact_q;
    free = λ lacks. absurd (none_is_not (holding part_q.held.0 (object.Part h.part))
        (sym lacks ∙ part_q.held.1));
  }

  pub out_leaf : IsLeafExactIn q b (with_figures frame figures)
  out_leaf = subst (IsLeafExactIn q b) (sym with_is) (record {
    index = i;
    leaf = leaf_of_index f i figures h.teach.leaf.is;
    exact = exact_in;
  })

  pub out_few : AskFew frame.page figures.advice
  out_few = subst (λ (z : Frame). AskFew z.page figures.advice) (sym frame_is)
      h.teach.suits.advice

  pub out_in_place : AreInPlace q
  out_in_place = in_place p q b frame f known knows out fitted

  pub out_room : count p < 16 → count q < 16
  out_room room = let same = out.count in omega (arith, same, room)

  pub out_has_leaf : HasLeafOf (hash_block (with_figures frame figures)) i
  out_has_leaf = subst (λ z. HasLeafOf (hash_block z) i) (sym with_is)
      (leaf_of_index f i figures h.teach.leaf.is)

  -- once it is built
  module _ (r : TreePass) (answer : Build) (y : Frame)
      (becomes : y ≡ frame_built answer (hashing_as q b i figures.advice)
      (with_figures frame figures))
      (builds : BuildsInHand q b i figures.advice (with_figures frame figures) y answer r) where
    abbrev g : Frame
    g = frame_built answer (hashing_as p b i figures.advice) x

    y_is : y ≡ g
    y_is = becomes ∙ ap (frame_built answer (hashing_as q b i figures.advice)) with_is

    abbrev keeps : KeepsUpInHand q kq b y r
    keeps = builds.keeps

    -- the partition was found as it is known
    found_so : (view r ≡ view q) × (count r ≡ count q) × (keeps.was ≡ h.part)
        × (keeps.known ≡ h.part)
    found_so = elim keeps.before [
      | inl found ↦ (
        found.view,
        found.count,
        same_part keeps.was h.part (one_shown q (part_id (shape_of_pass q) kq)
            (object.Part keeps.was) (object.Part h.part) found.has.value part_q.value),
        same_part keeps.known h.part (ap (λ (o : Holding Object). o.known)
            (one_held q (part_id (shape_of_pass q) kq)
            (holding found.has.held.0 (object.Part keeps.known))
            (holding part_q.held.0 (object.Part h.part)) found.has.held.1 part_q.held.1)),
      )
      | inr taken ↦ absurd (none_is_not (holding part_q.held.0 (object.Part h.part))
          (sym taken.0.lacked ∙ part_q.held.1))
    ]

    shape_r : shape_of_pass r ≡ shape_of_pass q
    shape_r = ap (λ (t : Terms Shape). t.shape) keeps.terms

    -- the frame may be put back
    out_r : HasOut r b f
    out_r = out_kept q r (part_id (shape_of_pass q) kq) keeps.terms keeps.beside b f
        (λ e. part_no_frame (shape_of_pass q) kq b below_q (sym e))
        (taken_out p q b frame f known knows out)

    pub built_goes_back : (z : Frame) × HasOut r b z
    built_goes_back = (f, out_r)

    -- and then it was
    module _ (s : TreePass) (back : PutsBack r b y s) where
      below_r : kq < (shape_of_pass r).parts
      below_r = subst (λ (z : Shape). kq < z.parts) (sym shape_r) below_q

      part_r : HasPart r kq keeps.known keeps.now
      part_r = keeps.has

      part_s : HasPart s kq keeps.known keeps.now
      part_s = part_kept r s (frame_id (shape_of_pass r) b) kq back.hand.terms back.hand.others
          (part_no_frame (shape_of_pass r) kq b below_r) keeps.known keeps.now part_r

      part_then : HasPart s k h.part keeps.now
      part_then = subst (λ (z : Part). HasPart s k z keeps.now) found_so.3
          (subst (λ n. HasPart s n keeps.known keeps.now) same_k part_s)

      exact_then : IsExactFor (shape_of_pass p) k b keeps.now g
      exact_then = subst (λ (z : Shape). IsExactFor z (part_for z.parts i) b keeps.now g) shape_q
          (subst (IsExactFor (shape_of_pass q) kq b keeps.now) y_is keeps.exact)

      told_then : BuildsAnew (hashing_as p b i figures.advice) h.teach.leaf.is.page.rows h.part
          keeps.now answer
      told_then = subst (λ (z : Part). BuildsAnew (hashing_as p b i figures.advice)
          h.teach.leaf.is.page.rows z keeps.now answer) found_so.2
          (subst (λ (z : Shape). BuildsAnew (record {
            index = i;
            block = b;
            params = figures.advice;
            bits = z.fold_bits;
          }) h.teach.leaf.is.page.rows keeps.was keeps.now answer) shape_q
          (builds.told h.teach.leaf.is.page
          (ap (λ (z : Frame). z.page) frame_is ∙ h.teach.leaf.is.paged)))

      room_then : LacksIfFull answer keeps.now.spare
          (length (row_entries (hashing_as p b i figures.advice) h.teach.leaf.is.page.rows))
      room_then = subst (λ (z : Shape). LacksIfFull answer keeps.now.spare
          (length (row_entries (record {
            index = i;
            block = b;
            params = figures.advice;
            bits = z.fold_bits;
          }) h.teach.leaf.is.page.rows))) shape_q
          (builds.room h.teach.leaf.is.page
          (ap (λ (z : Frame). z.page) frame_is ∙ h.teach.leaf.is.paged))

      frame_apart : (j : ℕ) (z : Shape) → z ≡ shape_of_pass p
          → j ≢ frame_id (shape_of_pass p) b → j ≢ frame_id z b
      frame_apart j z same differs e = differs (e ∙ ap (λ (u : Shape). frame_id u b) same)

      part_apart : (j : ℕ) → j ≢ part_id (shape_of_pass p) k → j ≢ part_id (shape_of_pass q) kq
      part_apart j differs e = differs
          (e ∙ ap (λ (u : Shape). part_id u (part_for u.parts i)) shape_q)

      pub built_in_hand : BuiltInHand p b i figures f h.teach.leaf.is.page h.part answer s
      built_in_hand = record {
        view = back.view ∙ (found_so.0 ∙ out.view);
        count = back.count ∙ (found_so.1 ∙ out.count);
        frame = subst (HasFrame s b f) y_is (back.has f out_r);
        now = keeps.now;
        part = part_then;
        exact = exact_then;
        others = subst (λ (z : Part). SameOutsideBlock keeps.now.nodes z.nodes b) found_so.2
            keeps.others;
        shape = subst (λ (z : Part). KeepsShape z keeps.now) found_so.2 keeps.shape;
        told = told_then;
        room = room_then;
        beside = λ j differs apart.
            (back.hand.others j (frame_apart j (shape_of_pass r) (shape_r ∙ shape_q) differs)).1
            ∙ ((keeps.beside j (part_apart j apart)).1 ∙ (out.hand.others j differs).1);
      }
