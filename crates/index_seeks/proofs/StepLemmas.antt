-- How a walk goes from a leaf to the next.
use Rattle.std.proofs.Common.{◌≡◌, ◌≢◌, ℕ, [], ◌∷◌, sym, ap, subst, ◌∙◌, arith, refl, Option, Some, None}
use lib.ListN.{get_elem?}
use Rattle.key_tuple.specs.Order.{FieldList}
use Rattle.key_tuple.specs.declared.mode.Mode.{Mode}
use Rattle.latch_law.specs.declared.knows.Terms.{Terms}
use Rattle.latch_space.specs.Has.{SameHands}
use Rattle.latch_space.specs.Passes.{view}
use Rattle.map_history.specs.declared.reply.Reply.TheVariants as words
use Rattle.map_history.specs.declared.reply.Told.{Told}
use Rattle.map_history.specs.Map.{Pair}
use Rattle.map_history.specs.Operation.{Seek}
use Rattle.tree_law.specs.Pages.{IsOrderly}
use Rattle.index_law.specs.Shape.{Shape}
use Rattle.forest_law.specs.declared.objects.Frame.{Frame}
use Rattle.forest_law.specs.Numbers.{frame_id}
use Rattle.forest_law.specs.State.{page_within, fields_for}
use Rattle.forest_world.specs.Held.{TreePass, shape_of_pass}
use Rattle.call_law.specs.Hands.{KnowsFrame}
use Rattle.call_law.specs.Spoken.{View}
use Rattle.buffer_pool.specs.AsTaken.{KeepsAsHeld}
use Rattle.buffer_pool.specs.Frames.{GivesFrame}
use Rattle.buffer_pool.proofs.AddedLemmas.{sees_same}
use Rattle.buffer_pool.proofs.AsTakenLemmas.{keeps_rest, keeps_took}
use Rattle.tree_descent.specs.Ways.{HoldsPage}
use Rattle.tree_neighbours.specs.Neighbours.{TakesBeside, IsLastOn, IsBusyOn}
use Rattle.tree_neighbours.specs.Sides.{side_of}
use Rattle.index_seeks.specs.declared.seek_call.Stand.{Stand}
use Rattle.index_seeks.specs.declared.seek_call.Stand.TheVariants.{On, Ends}
use Rattle.index_seeks.specs.declared.seek_call.Walk.{Walk}
use Rattle.engine_law.specs.Says.{OnlyLooks}
use Rattle.index_seeks.specs.Seeks.{CanTell, SawNothing, far_of}
use Rattle.index_seeks.specs.SeekHands.{StandsOn, SawPast, WalksAt}
use Rattle.tree_neighbours.specs.LeafHands.{HoldsLeavesAlone}
use Rattle.index_seeks.specs.SeekSteps.{SaysIf, PassesLeaves, EndsSeek, WalksThen}
use Rattle.index_seeks.proofs.PassingLemmas.{ends, passes_over}
use Rattle.index_seeks.proofs.SawLemmas.{saw_more, saw_passes}
use Rattle.engine_law.proofs.KnownLemmas.{part_no_frame}
use Rattle.engine_law.proofs.KnownLemmas.{one_frame}
use Rattle.tree_neighbours.proofs.HandLemmas.{gave_page, only_then, only_gave, only_same, knows_gave, page_same, page_gave, beside_shape, beside_only, beside_knows, beside_page}
use Rattle.index_seeks.proofs.SeekTraceLemmas.{looks_pass, takes_pass, passes_both, passes_then, passes_end, gave_passes, said_then_gave}

-- a walk stands on the block's leaf
pub walks_at : (q : TreePass) (i : ℕ) (mode : Mode) (tuple : FieldList) (walk : Walk) (b : ℕ)
    → walk.block ≡ b → HoldsLeavesAlone q (b ∷ []) → HoldsPage (view q) b i 0
    → SawPast (view q) b i walk.point mode tuple → WalksAt q i mode tuple walk
walks_at q i mode tuple walk b is only holds past = record {
  only = subst (λ m. HoldsLeavesAlone q (m ∷ [])) (sym is) only;
  holds = subst (λ m. HoldsPage (view q) m i 0) (sym is) holds;
  past = subst (λ m. SawPast (view q) m i walk.point mode tuple) (sym is) past;
}

-- a leaf in hand was looked at and has nothing: the walk goes on from it
pub stands_walk : (p q : TreePass) (b i : ℕ) (mode : Mode) (tuple : FieldList) (walk : Walk)
    → SameHands p q → (view q).terms ≡ (view p).terms → HoldsLeavesAlone p (b ∷ [])
    → HoldsPage (view p) b i 0
    → (walk.block ≡ b) × OnlyLooks (view p) (view q) i
    × SawPast (view q) b i walk.point mode tuple
    → PassesLeaves (shape_of_pass p) (view p) (view q) i × WalksAt q i mode tuple walk
stands_walk p q b i mode tuple walk same terms only holds stands = (
  looks_pass (shape_of_pass p) i (view p) (view q) stands.1 same.held,
  walks_at q i mode tuple walk b stands.0 (only_same p q (b ∷ []) only same terms)
      (page_same p q i b same terms holds) stands.2,
)

-- what was seen past a leaf is so where another one is given back
pub past_gave : (p q : TreePass) (b c i n : ℕ) (mode : Mode) (tuple : FieldList) → c ≢ b
    → GivesFrame p b q → SawPast (view p) c i n mode tuple → SawPast (view q) c i n mode tuple
past_gave p q b c i n mode tuple ne gave past = record {
  frame = past.frame;
  knows = knows_gave p q b c past.frame ne gave past.knows;
  saw = saw_more i n mode tuple (far_of (side_of mode) past.frame) (view p) (view q)
      (sees_same (view p) (view q) (ap (λ (z : View). z.seen) gave.view)) past.saw;
}

-- a step behind others
pub walks_then : (p q r : TreePass) (i : ℕ) (mode : Mode) (tuple : FieldList) (stand : Stand)
    (row : Pair) → shape_of_pass q ≡ shape_of_pass p
    → PassesLeaves (shape_of_pass p) (view p) (view q) i → WalksThen q r i mode tuple stand row
    → WalksThen p r i mode tuple stand row
walks_then p q r i mode tuple (On walk) row same passes then = (
  passes_both (shape_of_pass p) i (view p) (view q) (view r) passes
      (subst (λ s. PassesLeaves s (view q) (view r) i) same then.0),
  then.1,
)
walks_then p q r i mode tuple (Ends told) row same passes then = (
  then.0,
  passes_then (shape_of_pass p) i mode tuple (view p) (view q) (view r) told row passes
      (subst (λ s. EndsSeek s (view q) (view r) i mode tuple told row) same then.1),
)

module _ (p : TreePass) (i : ℕ) (mode : Mode) (tuple : FieldList) (walk : Walk)
    (walks : WalksAt p i mode tuple walk) where
  abbrev b : ℕ
  b = walk.block

  -- what was seen past the leaf, by its frame
  saw_past : (f : Frame) → KnowsFrame (view p) b f
      → SawNothing (view p) i walk.point mode tuple (far_of (side_of mode) f)
  saw_past f knows = subst
      (λ g. SawNothing (view p) i walk.point mode tuple (far_of (side_of mode) g))
      (one_frame (view p) b walks.past.frame f walks.past.knows knows) walks.past.saw

  -- it is the last leaf
  module _ (q : TreePass) (last : IsLastOn p b i (side_of mode) q) where
    pub last_here : (row : Pair)
        → CanTell (view q) i mode tuple (Some walk.point) words.Absent row
    last_here row = let holds = last.holds in
        subst
        (λ (z : TreePass). CanTell (view z) i mode tuple (Some walk.point) words.Absent row)
        (sym last.same)
        (ends (view p) i mode tuple b holds.frame holds.knows holds.is (Some walk.point)
        (saw_passes i walk.point mode tuple (far_of (side_of mode) holds.frame) (view p)
        (saw_past holds.frame holds.knows)) last.last row)

    pub last_only : HoldsLeavesAlone q (b ∷ [])
    last_only = subst (λ (z : TreePass). HoldsLeavesAlone z (b ∷ [])) (sym last.same) walks.only

    pub last_page : HoldsPage (view q) b i 0
    last_page = subst (λ (z : TreePass). HoldsPage (view z) b i 0) (sym last.same) last.holds

    -- it is given back behind the answer
    pub last_ends : (r s : TreePass) (told : Option Told) (row : Pair)
        → SaysIf (view q) (view r) i (Seek mode tuple) told row → (view r).held ≡ (view q).held
        → shape_of_pass r ≡ shape_of_pass p → (gave : GivesFrame r b s)
        → HoldsPage (view r) b i 0
        → EndsSeek (shape_of_pass p) (view p) (view s) i mode tuple told row
    last_ends r s told row says hand same gave holds = said_then_gave (shape_of_pass p) i r s b
        same gave mode tuple told row (view p)
        (subst (λ (z : TreePass). SaysIf (view z) (view r) i (Seek mode tuple) told row)
        last.same says)
        (subst (λ (z : TreePass). (view r).held ≡ (view z).held) last.same hand) (gave_page r s b i holds.frame holds.knows holds.is gave)

  -- another pass holds the next one
  module _ (q : TreePass) (busy : IsBusyOn p b i (side_of mode) q) where
    pub busy_only : HoldsLeavesAlone q (b ∷ [])
    busy_only = only_then p q (b ∷ []) (b ∷ []) [] walks.only busy.refused.got.silently
        (λ c apart. (apart, tt)) tt (λ k below. tt) (busy.refused.got.count ∙ walks.only.count)

    pub busy_knows : KnowsFrame (view q) b walks.holds.frame
    busy_knows = let same = busy.refused.got.silently.does.adds.numbers.terms in (
      walks.holds.knows.0,
      ap (λ (t : Terms Shape). get_elem? (view q).held (frame_id t.shape b)) same
          ∙ (busy.refused.got.silently.does.rest (frame_id (shape_of_pass p) b) tt
          ∙ walks.holds.knows.1),
    )

    busy_keeps : KeepsAsHeld (view p) (view q)
        busy.refused.got.silently.added.references
    busy_keeps = keeps_rest (view p) (view q) busy.refused.got.silently.does.rest
        busy.refused.got.silently.added.references busy.refused.none

    pub busy_ends : (r : TreePass) (row : Pair) → GivesFrame q b r
        → EndsSeek (shape_of_pass p) (view p) (view r) i mode tuple None row
    busy_ends r row gave = passes_end (shape_of_pass p) i mode tuple (view p) (view r) row
        (passes_both (shape_of_pass p) i (view p) (view q) (view r)
        (takes_pass (shape_of_pass p) i p q [] refl busy.refused.got.silently busy.refused.none
        busy_keeps)
        (gave_passes (shape_of_pass p) i q r b
        (ap (λ (t : Terms Shape). t.shape) busy.refused.got.silently.does.adds.numbers.terms) gave
        (gave_page q r b i walks.holds.frame busy_knows walks.holds.is gave)))

  -- the next one is held
  module _ (m : ℕ) (q : TreePass) (took : TakesBeside p b i (side_of mode) m q) where
    took_shape : shape_of_pass q ≡ shape_of_pass p
    took_shape = beside_shape p b i (side_of mode) m q took

    pub took_only : HoldsLeavesAlone q (b ∷ m ∷ [])
    took_only = beside_only p b i (side_of mode) m q took walks.only

    pub took_knows : KnowsFrame (view q) b took.holds.frame
    took_knows = beside_knows p b i (side_of mode) m q took took.holds.frame took.holds.knows

    module _ (r : TreePass) (gave : GivesFrame q b r) where
      pub next_only : HoldsLeavesAlone r (m ∷ [])
      next_only = only_gave q r b (m ∷ []) took_only gave

      -- leaves were passed so far
      pub next_passes : PassesLeaves (shape_of_pass p) (view p) (view r) i
      next_passes = passes_both (shape_of_pass p) i (view p) (view q) (view r)
          (takes_pass (shape_of_pass p) i p q (frame_id (shape_of_pass p) m ∷ []) refl
          took.silently took.none
          (keeps_took (view p) (view q) m took.silently.does.adds.numbers took.silently.does.rest
          took.held_as_taken took.silently.added.references took.none))
          (gave_passes (shape_of_pass p) i q r b took_shape gave
          (gave_page q r b i took.holds.frame took_knows took.holds.is gave))

      -- and nothing comes before the next one
      pub next_stands : StandsOn r m i mode tuple (Some walk.point)
      unfolding page_gave beside_page
      next_stands = record {
        known = next_only.known;
        holds = page_gave q r i b m took.beside.other gave (beside_page p b i (side_of mode) m q took);
        none = passes_over (view r) i mode tuple (Some walk.point) took.holds.frame took.frame
            took.beside.meets
            (saw_passes i walk.point mode tuple (far_of (side_of mode) took.holds.frame) (view r)
            (saw_more i walk.point mode tuple (far_of (side_of mode) took.holds.frame) (view q)
            (view r) (sees_same (view q) (view r) (ap (λ (z : View). z.seen) gave.view))
            (saw_more i walk.point mode tuple (far_of (side_of mode) took.holds.frame) (view p)
            (view q) took.silently.does.adds.seen (saw_past took.holds.frame took.holds.knows))));
      }
