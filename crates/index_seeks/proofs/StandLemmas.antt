-- How a seek stands on the leaves in its hand.
use Rattle.std.proofs.Common.{◌≡◌, ◌⊎◌, inl, inr, ℕ, ◌+◌, Bool, true, false, [], ◌∷◌, length, cond, sym, ap, subst, arith, refl, Option, Some, None, IsSome}
use Rattle.key_tuple.specs.Order.{FieldList}
use Rattle.key_tuple.specs.declared.mode.Mode.{Mode}
use Rattle.latch_law.specs.declared.knows.Terms.{Terms}
use Rattle.latch_space.specs.Passes.{view, count}
use Rattle.map_history.specs.declared.reply.Reply.TheVariants as words
use Rattle.map_history.specs.Map.{Pair}
use Rattle.index_page.specs.declared.spot.Spot.{Spot}
use Rattle.index_law.specs.Shape.{Shape}
use Rattle.forest_law.specs.declared.objects.Frame.{Frame}
use Rattle.forest_law.specs.Numbers.{frame_id}
use Rattle.forest_world.specs.Held.{TreePass, shape_of_pass}
use Rattle.buffer_pool.specs.Calls.{DoesSilently}
use Rattle.tree_descent.specs.declared.descending.Leaf.{Leaf}
use Rattle.tree_descent.specs.Leaves.{IsLeafFor}
use Rattle.tree_descent.specs.Ways.{HoldsPage}
use Rattle.tree_neighbours.specs.declared.pairs.LeafPair.{LeafPair}
use Rattle.tree_neighbours.specs.Neighbours.{IsLeafBeside}
use Rattle.tree_neighbours.specs.Pairs.{HoldsOther, frames_at, DescendsPair}
use Rattle.tree_neighbours.specs.Sides.{side_of, row_on, page_on}
use Rattle.index_seeks.specs.Seeks.{TellsRow, CanTell, PassesNothing, SawNothing, far_of}
use Rattle.index_seeks.specs.SeekHands.{blocks_at, blocks_of_pair, HoldsLast, HoldsBothLeaves, StandsOn, SawPast}
use Rattle.tree_neighbours.specs.LeafHands.{HoldsLeavesAlone}
use Rattle.engine_law.proofs.KnownLemmas.{part_no_frame}
use Rattle.index_seeks.proofs.PassingLemmas.{begins, goes_on, finds, ends, passes_over}
use Rattle.index_seeks.proofs.SawLemmas.{saw_passes}
use Rattle.engine_law.proofs.KnownLemmas.{one_frame}
use Rattle.tree_neighbours.proofs.HandLemmas.{only_then, frames_apart}
use Rattle.index_seeks.proofs.SpotLemmas.{none_on}

-- where both leaves are held, nothing comes before the second one
pub both_stands : (p : TreePass) (i : ℕ) (mode : Mode) (tuple : FieldList) (leaf : Leaf) (m : ℕ)
    → HoldsBothLeaves p i mode tuple leaf m → StandsOn p m i mode tuple None
both_stands p i mode tuple leaf m both = let is = both.is.page.is in
    let rows = is.page.rows in
    record {
      known = both.only.known;
      holds = record {
        frame = both.next;
        knows = both.knows_next;
        is = both.beside.is;
        order = both.beside.order;
      };
      none = passes_over (view p) i mode tuple None both.frame both.next both.beside.meets
          (goes_on (view p) i mode tuple leaf.block both.frame both.knows is None
          (begins (view p) i mode tuple leaf.block both.frame both.knows is None
          both.is.page.within)
          (none_on mode tuple rows leaf.spot both.is.finds (side_of mode) both.none));
    }

-- a leaf that has the row, or is the last, tells the reply
pub last_tells : (p : TreePass) (i : ℕ) (mode : Mode) (tuple : FieldList) (leaf : Leaf)
    (last : HoldsLast p i mode tuple leaf) (found : Bool) (row : Pair)
    → TellsRow mode tuple last.is.page.is.page.rows found row
    → (found ≡ false → row_on (side_of mode) leaf.spot ≡ None)
    → CanTell (view p) i mode tuple None (cond found words.Found words.Absent) row
last_tells p i mode tuple leaf last true row takes none = let is = last.is.page.is in
    finds (view p) i mode tuple leaf.block last.frame last.knows is None
    (begins (view p) i mode tuple leaf.block last.frame last.knows is None last.is.page.within)
    row takes
last_tells p i mode tuple leaf last false row takes none = let is = last.is.page.is in
    let empty = none refl in
    ends (view p) i mode tuple leaf.block last.frame last.knows is None
    (goes_on (view p) i mode tuple leaf.block last.frame last.knows is None
    (begins (view p) i mode tuple leaf.block last.frame last.knows is None last.is.page.within)
    takes)
    (elim last.last [ inl some ↦ absurd (clash _ empty some) | inr end ↦ end ]) row
  where
    clash : (o : Option ℕ) → o ≡ None → IsSome o → ⊥
    clash None e some = absurd (cc)
    clash (Some n) e some = cc

-- the row of a leaf on the way may be told
pub stands_tells : (p : TreePass) (b i : ℕ) (mode : Mode) (tuple : FieldList) (bound : Option ℕ)
    (stands : StandsOn p b i mode tuple bound) (row : Pair)
    → TellsRow mode tuple stands.holds.is.page.rows true row
    → CanTell (view p) i mode tuple bound words.Found row
stands_tells p b i mode tuple bound stands row takes =
    finds (view p) i mode tuple b stands.holds.frame stands.holds.knows stands.holds.is bound
    stands.none row takes

-- and where it has none, nothing comes before its end
pub stands_past : (p : TreePass) (b i : ℕ) (mode : Mode) (tuple : FieldList) (bound : Option ℕ)
    (stands : StandsOn p b i mode tuple bound) (row : Pair)
    → TellsRow mode tuple stands.holds.is.page.rows false row
    → PassesNothing (view p) i mode tuple bound (far_of (side_of mode) stands.holds.frame)
stands_past p b i mode tuple bound stands row takes =
    goes_on (view p) i mode tuple b stands.holds.frame stands.holds.knows stands.holds.is bound
    stands.none takes

-- by what was seen nothing comes before the end of the leaf
pub past_passes : (p : TreePass) (b i n : ℕ) (mode : Mode) (tuple : FieldList) (f : Frame)
    → SawPast (view p) b i n mode tuple → (holds : HoldsPage (view p) b i 0)
    → PassesNothing (view p) i mode tuple (Some n) (far_of (side_of mode) holds.frame)
past_passes p b i n mode tuple f past holds = saw_passes i n mode tuple
    (far_of (side_of mode) holds.frame) (view p)
    (subst (λ g. SawNothing (view p) i n mode tuple (far_of (side_of mode) g))
    (one_frame (view p) b past.frame holds.frame past.knows holds.knows) past.saw)

-- the leaf without another one, and what it is
abbrev LastLeaf : Shape → Frame → ℕ → Mode → FieldList → Spot → Type 0
LastLeaf shape f i mode tuple spot = (is : IsLeafFor shape f i mode tuple spot)
    × (IsSome (row_on (side_of mode) spot) ⊎ (page_on (side_of mode) is.page.is.page ≡ None))

module _ (p q : TreePass) (i : ℕ) (mode : Mode) (tuple : FieldList) (pair : LeafPair)
    (went : DescendsPair p i mode tuple pair q) where
  same_shape : shape_of_pass p ≡ shape_of_pass q
  same_shape = ap (λ (t : Terms Shape). t.shape) (sym went.silently.does.adds.numbers.terms)

  -- a way down holds the leaves that it says
  pub went_only : HoldsLeavesAlone p [] → HoldsLeavesAlone q (blocks_of_pair pair)
  went_only only = by_other pair.other went.silently went.count
    where
      by_other : (o : Option ℕ)
          → DoesSilently p q (frame_id (shape_of_pass p) pair.leaf.block
          ∷ frames_at (shape_of_pass p) o)
          → count q ≡ count p + 1 + length (frames_at (shape_of_pass p) o)
          → HoldsLeavesAlone q (pair.leaf.block ∷ blocks_at o)
      by_other None silently counted =
          only_then p q [] (pair.leaf.block ∷ [])
          (frame_id (shape_of_pass p) pair.leaf.block ∷ []) only silently
          (λ c apart. (tt, (frames_apart (shape_of_pass p) pair.leaf.block c apart.0, tt)))
          ((λ e. omega (arith, e)), tt)
          (λ k below. (part_no_frame (shape_of_pass p) k pair.leaf.block below, tt))
          (let none = only.count in omega (arith, counted, none))
      by_other (Some m) silently counted =
          only_then p q [] (pair.leaf.block ∷ m ∷ [])
          (frame_id (shape_of_pass p) pair.leaf.block ∷ frame_id (shape_of_pass p) m ∷ []) only
          silently
          (λ c apart. (
            tt,
            (
              frames_apart (shape_of_pass p) pair.leaf.block c apart.0,
              (frames_apart (shape_of_pass p) m c apart.1.0, tt),
            ),
          ))
          ((λ e. omega (arith, e)), ((λ e. omega (arith, e)), tt))
          (λ k below. (
            part_no_frame (shape_of_pass p) k pair.leaf.block below,
            (part_no_frame (shape_of_pass p) k m below, tt),
          ))
          (let none = only.count in omega (arith, counted, none))

  -- where it holds no other, the leaf has the row or is the last
  pub went_last : HoldsLeavesAlone q (blocks_of_pair pair) → pair.other ≡ None
      → HoldsLast q i mode tuple pair.leaf
  went_last only none = let leaf = subst
      (λ s. LastLeaf s went.frame i mode tuple pair.leaf.spot) same_shape (
        went.is,
        subst (λ o. HoldsOther p q pair.leaf.block i (side_of mode) went.frame
            went.is.page.is.page pair.leaf.spot o) none went.other,
      ) in
      record {
        only = subst (λ o. HoldsLeavesAlone q (pair.leaf.block ∷ blocks_at o)) none only;
        frame = went.frame;
        knows = went.knows;
        is = leaf.0;
        last = leaf.1;
      }

  -- where it holds another, that stands beside
  pub went_both : (m : ℕ) → HoldsLeavesAlone q (blocks_of_pair pair) → pair.other ≡ Some m
      → HoldsBothLeaves q i mode tuple pair.leaf m
  went_both m only some = let other : HoldsOther p q pair.leaf.block i (side_of mode) went.frame
      went.is.page.is.page pair.leaf.spot (Some m) =
      subst (λ o. HoldsOther p q pair.leaf.block i (side_of mode) went.frame
      went.is.page.is.page pair.leaf.spot o) some went.other in
      record {
        only = subst (λ o. HoldsLeavesAlone q (pair.leaf.block ∷ blocks_at o)) some only;
        frame = went.frame;
        knows = went.knows;
        is = subst (λ s. IsLeafFor s went.frame i mode tuple pair.leaf.spot)
            same_shape went.is;
        none = other.0;
        next = other.1.frame;
        knows_next = other.1.knows;
        beside = subst
            (λ s. IsLeafBeside s (side_of mode) pair.leaf.block i went.frame m other.1.frame)
            same_shape other.1.beside;
      }
