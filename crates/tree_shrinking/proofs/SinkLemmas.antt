-- What is in hand once a root took the rows of its only child.
use Rattle.std.proofs.Common.{◌≡◌, ◌≢◌, ℕ, suc, ◌<◌, ◌^◌, ◌-◌, false, true, List, ◌∷◌, sym, ap, subst, ◌∙◌, refl, arith, Option, Some, None}
use Rattle.std.specs.Prelude.{is_some}
use Rattle.latch_law.specs.Views.{holding}
use Rattle.latch_space.specs.Has.{IsKnown}
use Rattle.latch_space.specs.Passes.{view}
use Rattle.key_tuple.specs.KeyPlace.{Start}
use Rattle.key_tuple.specs.declared.mode.Params.{Params}
use Rattle.index_page.specs.Page.{PageRows}
use Rattle.hash_law.specs.Blocks.{IsTidy}
use Rattle.hash_maintain.specs.Moves.{first_hashed}
use Rattle.tree_law.specs.Pages.{from_place}
use Rattle.tree_law.specs.ShapeLaws.{IsWholeTree, RootsAreWhole}
use Rattle.tree_law.proofs.WholeLemmas.{roots_are_whole}
use Rattle.index_law.specs.Shape.{Shape}
use Rattle.forest_law.specs.declared.objects.Frame.{Frame}
use Rattle.forest_law.specs.declared.objects.Tree.{Tree}
use Rattle.forest_law.specs.declared.objects.Object.TheVariants as object
use Rattle.forest_law.specs.FramePages.{TellsPage}
use Rattle.forest_law.specs.Law.{IsLawful}
use Rattle.forest_law.specs.Hashed.{hash_block}
use Rattle.forest_law.specs.Numbers.{tree_id, frame_id}
use Rattle.forest_law.specs.State.{ForestState, page_within, pages_of, heights_of, height_of, maps_of, fields_for}
use Rattle.forest_world.specs.Held.{TreePass, shape_of_pass, HasFrame}
use Rattle.tree_restructure.specs.Raises.{HasOnePointer, IsRootIn}
use Rattle.tree_merging.specs.Lifts.{IsOnlyChild, LiftsFrame}
use Rattle.call_law.specs.Hands.{HoldsNoOutside}
use Rattle.buffer_pool.specs.Forests.{FitsTrees, IsFittedTree}
use Rattle.buffer_pool.specs.Parts.{part_of_index, part_ids}
use Rattle.buffer_pool.proofs.CallLemmas.{frame_has}
use Rattle.tree_smo.specs.Remakes.{Remakes}
use Rattle.tree_smo.specs.Keeping.{HasMovedRows, KeepsMovedRows, moved_ids}
use Rattle.tree_smo.specs.PartHeld.{LawsOfMoves}
use Rattle.tree_smo.specs.Storeys.{storeys_ids}
use Rattle.tree_smo.proofs.HashRestLemmas.{inner_unhashed}
use Rattle.tree_smo.proofs.KeepingLemmas.{frame_no_part}
use Rattle.tree_smo.proofs.LawfulLemmas.{levels_apart, known_tells, that_page, page_number}
use Rattle.tree_smo.proofs.PartHeldLemmas.{known_tidy}
use Rattle.tree_smo.proofs.RemakeLemmas.{remakes_weaker, remakes_both}
use Rattle.tree_smo.proofs.RisingLemmas.{no_bound}
use Rattle.tree_shrinking.specs.Hashing.{HoldsTheirPart}
use Rattle.tree_shrinking.specs.LiftHands.{SuitsSinking, LiftsStoreys, SinksStoreys}
use Rattle.tree_shrinking.specs.Lifting.{CanLift}
use Rattle.tree_shrinking.proofs.KeptPairLemmas.{MovesPair, rows_kept}
use Rattle.tree_shrinking.proofs.MovedPairLemmas.{MovedPair}
use Rattle.tree_shrinking.proofs.MovedRowLemmas.{lift_moves, rehashed_lift}

-- a tree that gets one lower
pub one_lower : (t s : Tree) → s ≡ t → 0 < t.height → t ≡ record s { height = suc (s.height - 1) }
one_lower t s e some =
    let high : 0 < s.height = subst (λ (z : Tree). 0 < z.height) (sym e) some in
    let back : suc (s.height - 1) ≡ s.height = omega (arith, high) in
    sym e ∙ (λ i. record s { height = (sym back) i })

-- the numbers of both frames and of the partition of this index, if there is one
abbrev pub both_ids : Shape → (b child : ℕ) → Option ℕ → List ℕ
both_ids shape b child o =
    frame_id shape b ∷ frame_id shape child ∷ part_ids shape (part_of_index shape o)

none_true : false ≡ true → ⊥
none_true e = absurd cc

-- a tidy frame that isn't hashed is built with no parameters
unbuilt : (f : Frame) → IsTidy (hash_block f) → f.hashed ≡ None → f.figures.built ≡ None
unbuilt f tidy none = go f.figures.built refl
  where
    go : (z : Option Params) → f.figures.built ≡ z → f.figures.built ≡ None
    go None e = e
    go (Some x) e = absurd (none_true (sym (ap is_some none) ∙ (tidy.both ∙ ap is_some e)))

-- what is known when a lift is made in hand
pub record SinkCall (p : TreePass) (i b child : ℕ) : Type 0 where
  pub known : IsKnown p
  pub fitted : IsFittedTree (view p)
  pub below : i < (shape_of_pass p).indexes
  pub held : CanLift (view p) i b child
  pub inside : HoldsNoOutside (view p)
  pub hash : HoldsTheirPart (view p) child b
  pub few : (shape_of_pass p).pages < 2 ^ 32
  pub laws : LawsOfMoves

module _ {p : TreePass} {i b child : ℕ} (c : SinkCall p i b child) where
  abbrev w : ForestState
  w = c.fitted.whole

  abbrev law : IsLawful w
  law = c.fitted.is_lawful

  abbrev fits : FitsTrees w (view p)
  fits = c.fitted.fits

  abbrev h : CanLift (view p) i b child
  h = c.held

  abbrev known : IsKnown p
  known = c.known

  apart : child ≢ b
  apart = levels_apart (view p) child b i i h.level (suc h.level) h.low h.root h.knows_low
      h.knows_root h.below h.above (λ e. omega (arith, e))

  has_top : HasFrame p b h.root h.root
  has_top = frame_has p known b h.root h.knows_root

  has_low : HasFrame p child h.low h.low
  has_low = frame_has p known child h.low h.knows_low

  tells : TellsPage w h.root h.above.page
  tells = known_tells w law (view p) fits b h.root h.above.page h.knows_root h.above.paged

  tells_low : TellsPage w h.low h.below.page
  tells_low = known_tells w law (view p) fits child h.low h.below.page h.knows_low h.below.paged

  below_it : i < w.shape.indexes
  below_it = subst (λ (s : Shape). i < s.indexes) (sym fits.shape) c.below

  roots : RootsAreWhole w.shape.indexes (heights_of w.objects) (pages_of w.shape w.objects)
  roots = roots_are_whole w.shape.indexes (fields_for w.shape) (heights_of w.objects)
      (maps_of w.lists) (pages_of w.shape w.objects) law.objects.pages

  root_is : pages_of w.shape w.objects i ≡ Some (page_within h.above.page h.root.low h.root.high)
  root_is = ap (pages_of w.shape w.objects) (sym h.number) ∙ tells.is

  -- the root has no neighbours and no bounds, and its level is the tree's height
  whole_root : IsWholeTree i (heights_of w.objects i)
      (page_within h.above.page h.root.low h.root.high)
  whole_root = roots.root i (page_within h.above.page h.root.low h.root.high) below_it root_is

  -- nor has its only child
  whole_child : (h.above.page.head.level ≡ suc h.below.page.head.level)
      × (from_place h.only.pointer.key ≡ Start)
      × IsWholeTree i h.below.page.head.level (page_within h.below.page h.low.low h.low.high)
  whole_child = roots.child i (page_within h.above.page h.root.low h.root.high) h.only.pointer
      h.below.page.head.number (page_within h.below.page h.low.low h.low.high) below_it
      (root_is ∙ ap
      (λ xs. Some (let top = page_within h.above.page h.root.low h.root.high in
      record top { rows = xs })) h.only.is) h.only.child tells_low.is

  height_is : heights_of w.objects i ≡ h.tree.height
  height_is = ap height_of (fits.known (tree_id i)
      (holding h.knows_tree.0 (object.Tree h.tree)) h.knows_tree.1)

  -- so the tree is higher than its leaves
  pub some_height : 0 < h.tree.height
  some_height = let level = whole_root.level in let one = whole_child.0 in
      omega (arith, level, one, height_is)

  pub root_in : IsRootIn h.above.page h.root
  root_in = record {
    index = whole_root.index ∙ sym h.number;
    prev = whole_root.prev;
    next = whole_root.next;
    low = no_bound h.root.low whole_root.low;
    high = no_bound h.root.high whole_root.high;
  }

  pub one : HasOnePointer h.above.page h.below.page.head.number
  one = record {
    pointer = h.only.pointer;
    is = h.only.is;
    child_is = h.only.child;
    first = whole_child.1;
  }

  pub only_child : IsOnlyChild h.above.page h.below.page h.low
  only_child = let w' = whole_child.2 in record {
    index = w'.index ∙ sym h.number;
    fields = tells_low.order.fields ∙ (ap (fields_for w.shape) (w'.index ∙ sym whole_root.index)
        ∙ sym tells.order.fields);
    level = whole_child.0;
    prev = w'.prev;
    next = w'.next;
    low = no_bound h.low.low w'.low;
    high = no_bound h.low.high w'.high;
  }

  -- the frames can be lifted
  pub suits_sinking : SuitsSinking p b child
  suits_sinking = record {
    apart = apart;
    top = h.root;
    low = h.low;
    has_top = has_top;
    has_low = has_low;
    suits = record {
      page = h.above.page;
      under = h.below.page;
      has = h.above.paged;
      has_under = h.below.paged;
      suits = record {
        fields = only_child.fields;
        fits = h.fits;
        number = page_number w law (view p) fits child h.low h.below.page h.knows_low h.below.paged
            c.few;
      };
    };
  }

  pub page_is : (x : PageRows) → h.root.page ≡ Some x → h.above.page ≡ x
  page_is x has = that_page h.root h.above.page x h.above.paged has

  pub under_is : (x : PageRows) → h.low.page ≡ Some x → h.below.page ≡ x
  under_is x has = that_page h.low h.below.page x h.below.paged has

  root_tidy : IsTidy (hash_block h.root)
  root_tidy = known_tidy p c.fitted b h.root h.knows_root

  -- the root isn't hashed, since it is no leaf
  root_unhashed : h.root.hashed ≡ None
  root_unhashed = inner_unhashed h.root h.above.page h.level h.above.paged h.above.at_level root_tidy

  -- the index that the child is hashed for, if it is
  abbrev pub their_index : Option ℕ
  their_index = first_hashed h.low h.root

  module _ (m : TreePass) (sinks : SinksStoreys p b child m) where
    pub storeys : LiftsStoreys p b child h.root h.low m
    storeys = sinks h.root h.low has_top has_low

    -- rows moved from the child to the root
    pub rows_moved : MovesPair p m child b h.low storeys.low h.root storeys.top
    rows_moved = record {
      known = known;
      fitted = c.fitted;
      hash = c.hash;
      apart = apart;
      gives = h.knows_low;
      takes = h.knows_root;
      ids = storeys_ids (shape_of_pass p) b child;
      remakes = storeys.remakes;
      no_part = λ k below. (
        λ e. frame_no_part (shape_of_pass p) b k below (sym e),
        (λ e. frame_no_part (shape_of_pass p) child k below (sym e), tt),
      );
      gave = storeys.has_low;
      took = storeys.has_top;
      index = storeys.lifts.page.head.index;
      fields = storeys.lifts.page.head.fields;
      moves = (let that = page_is storeys.lifts.page storeys.lifts.had in
          let under = under_is storeys.lifts.under storeys.lifts.had_under in
          lift_moves storeys.lifts storeys.low_hash storeys.top_hash root_unhashed
          (unbuilt h.root root_tidy root_unhashed)
          (ap (λ (x : PageRows). x.head.index) (sym under)
          ∙ ((only_child.index ∙ sym root_in.index) ∙ ap (λ (x : PageRows). x.head.index) that))
          (ap (λ (x : PageRows). x.head.fields) (sym under)
          ∙ (only_child.fields ∙ ap (λ (x : PageRows). x.head.fields) that)));
    }

-- all that is in hand, once the partition kept up with the rows that moved
pub record SinkInHand (p : TreePass) (i b child : ℕ) (m : TreePass) : Type 0 where
  pub call : SinkCall p i b child
  pub top : Frame
  pub low : Frame
  pub pair : MovedPair m (their_index call) child b call.held.low low call.held.root top
  pub lifts : LiftsFrame call.held.root top call.held.low low
  pub remakes : Remakes p m (both_ids (shape_of_pass p) b child (their_index call))

pub sink_kept : {p : TreePass} {i b child : ℕ} → SinkCall p i b child → (m q : TreePass)
    → SinksStoreys p b child m
    → ((h : HasMovedRows m child b) → KeepsMovedRows m child b h q) → SinkInHand p i b child q
sink_kept {p} {i} {b} {child} c m q sinks keeps =
    let s = storeys c m sinks in
    let k = rows_kept (rows_moved c m sinks) c.laws q keeps in
    let o = their_index c in
    record {
      call = c;
      top = k.took_now;
      low = k.gave_now;
      pair = k.pair;
      lifts = rehashed_lift s.lifts k.took_rest k.gave_rest;
      remakes = remakes_both p m q (λ (z : Shape). both_ids z b child o)
          (remakes_weaker p m (storeys_ids (shape_of_pass p) b child)
          (both_ids (shape_of_pass p) b child o) (λ j a. (a.0, (a.1.0, tt))) s.remakes)
          (remakes_weaker m q (moved_ids (shape_of_pass m) child b o)
          (both_ids (shape_of_pass m) b child o) (λ j a. (a.1.0, (a.0, a.1.1))) k.remakes);
    }
