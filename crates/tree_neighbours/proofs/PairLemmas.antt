-- A leaf in hand after a descent, with the leaf beside it or without, and ways in vain before it.
use Rattle.std.proofs.Common.{◌≡◌, ◌≢◌, ℕ, ◌+◌, ◌<◌, ◌⊎◌, inr, Option, Some, None, [], ◌∷◌, ◌++◌, length, sym, ap, subst, ◌∙◌, arith, append-nil, append_assoc}
use Rattle.std.specs.Prelude.{IsSome}
use mathlib.Core.Option.{some}
use lib.ListN.{get_elem?}
use Rattle.key_tuple.specs.Order.{FieldList}
use Rattle.key_tuple.specs.declared.mode.Mode.{Mode}
use Rattle.latch_law.specs.declared.knows.Terms.{Terms}
use Rattle.latch_space.specs.Passes.{view, count}
use Rattle.index_page.specs.declared.spot.Spot.{Spot}
use Rattle.index_page.specs.Page.{PageRows}
use Rattle.tree_law.specs.Pages.{IsOrderly}
use Rattle.index_law.specs.Shape.{Shape}
use Rattle.forest_law.specs.declared.objects.Frame.{Frame}
use Rattle.forest_law.specs.declared.objects.Object.TheVariants as object
use Rattle.forest_law.specs.Numbers.{frame_id, frames_of}
use Rattle.forest_law.specs.State.{page_within, fields_for}
use Rattle.forest_world.specs.Held.{TreePass, shape_of_pass}
use Rattle.call_law.specs.Hands.{HoldsNoFrameBut, HoldsNoTable}
use Rattle.call_law.specs.Trace.{Added, frame_references}
use Rattle.call_law.proofs.TableLemmas.{table_no_frame, tables_lacked}
use Rattle.call_law.proofs.TraceLemmas.{both_added}
use Rattle.buffer_pool.specs.AsTaken.{HoldsAsTaken, GaveAsTaken}
use Rattle.buffer_pool.specs.Calls.{Does}
use Rattle.buffer_pool.specs.Frames.{GivesFrame}
use Rattle.buffer_pool.specs.Hands.{LacksFrame, MayGiveBack}
use Rattle.buffer_pool.proofs.AddedLemmas.{only_given, frame_still}
use Rattle.buffer_pool.proofs.AsTakenLemmas.{none_as_taken, both_as_taken, rest_as_taken, gave_as_taken}
use Rattle.buffer_pool.proofs.CallLemmas.{does_both, does_none, does_more, does_among, does_again, gave_frame}
use Rattle.tree_descent.specs.declared.descending.Leaf.{Leaf}
use Rattle.tree_descent.specs.Descents.{Descends}
use Rattle.tree_descent.specs.Leaves.{HasCutWithin, cut_in}
use Rattle.tree_descent.specs.Paths.{LeadFromRoot}
use Rattle.tree_descent.specs.Ways.{HoldsPage}
use Rattle.tree_descent.proofs.DescentLemmas.{vain_shape}
use Rattle.tree_descent.proofs.InnerLemmas.{one_known}
use Rattle.tree_descent.proofs.PageLemmas.{may_give_back, same_page}
use Rattle.tree_descent.proofs.WayLemmas.{frames_both}
use Rattle.tree_neighbours.specs.declared.pairs.LeafPair.{LeafPair}
use Rattle.tree_neighbours.specs.declared.side.Side.{Side}
use Rattle.tree_neighbours.specs.Neighbours.{IsLastOn, TakesBeside, IsBusyOn}
use Rattle.tree_neighbours.specs.Pairs.{frames_at, HoldsOther, DescendsPair}
use Rattle.tree_neighbours.specs.Sides.{side_of, row_on, page_on, Meets}

module _ (p q : TreePass) (i : ℕ) (mode : Mode) (tuple : FieldList) (leaf : Leaf)
    (down : Descends p i mode tuple leaf q) where
  abbrev k : ℕ
  k = frame_id (shape_of_pass p) leaf.block

  leaf_shape : shape_of_pass q ≡ shape_of_pass p
  leaf_shape = ap (λ (t : Terms Shape). t.shape) down.silently.does.adds.numbers.terms

  -- the leaf is a page in hand
  abbrev pub leaf_page : HoldsPage (view q) leaf.block i 0
  leaf_page = record {
    frame = down.frame;
    knows = down.knows;
    is = down.is.page.is;
    order = subst
        (λ (s : Shape). IsOrderly (fields_for s)
        (page_within down.is.page.is.page down.frame.low down.frame.high))
        (sym (ap (λ (t : Terms Shape). t.shape) down.silently.does.adds.numbers.terms))
        down.is.page.order;
  }

  -- without another leaf it is all that was asked for
  pub leaf_alone : IsSome (row_on (side_of mode) leaf.spot)
      ⊎ (page_on (side_of mode) down.is.page.is.page ≡ None)
      → DescendsPair p i mode tuple (record { leaf = leaf; other = None }) q
  leaf_alone alone = record {
    silently = down.silently;
    as_taken = down.as_taken;
    path = down.path;
    lacked = down.lacked;
    frame = down.frame;
    knows = down.knows;
    held_as_taken = down.held_as_taken;
    is = down.is;
    other = alone;
    count = (let one = down.count in omega (arith, one));
  }

  -- a page that is known in the leaf's block is the leaf
  one_leaf : (held : HoldsPage (view q) leaf.block i 0) → held.is.page ≡ down.is.page.is.page
  one_leaf held = same_page down.frame held.frame down.is.page.is.page held.is.page
      (one_known (view q) leaf.block held.frame down.frame held.knows down.knows)
      down.is.page.is.paged held.is.paged

  -- the last leaf on the mode's side is alone
  pub leaf_at_end : (r : TreePass) → IsLastOn q leaf.block i (side_of mode) r
      → DescendsPair p i mode tuple (record { leaf = leaf; other = None }) r
  leaf_at_end r last = subst
      (λ (z : TreePass). DescendsPair p i mode tuple (record { leaf = leaf; other = None }) z)
      (sym last.same)
      (leaf_alone (inr (ap (page_on (side_of mode)) (sym (one_leaf last.holds)) ∙ last.last)))

  -- no other frame is held, and no table
  pub leaf_frames : HoldsNoFrameBut (view p) [] → HoldsNoFrameBut (view q) (leaf.block ∷ [])
  leaf_frames none c below apart = let does = down.silently.does in
      ap (λ (t : Terms Shape). get_elem? (view q).held (frame_id t.shape c)) does.adds.numbers.terms
      ∙ (does.rest (frame_id (shape_of_pass p) c) (λ e. apart.0 (omega (arith, e)), tt)
      ∙ none c (subst (λ (t : Terms Shape). c < frames_of t.shape) does.adds.numbers.terms below) tt)

  pub leaf_tables : HoldsNoTable (view p) → HoldsNoTable (view q)
  leaf_tables = tables_lacked (view p) (view q) leaf_shape
      (λ k table lacks. down.silently.does.rest k
      (table_no_frame (shape_of_pass p) k leaf.block table, tt) ∙ lacks)

  module _ (m : ℕ) (r : TreePass) (took : TakesBeside q leaf.block i (side_of mode) m r) where
    abbrev j : ℕ
    j = frame_id (shape_of_pass p) m

    apart : m ≢ leaf.block
    apart = took.beside.other

    took_does : Does q r (j ∷ []) took.silently.added
    took_does = subst (λ (s : Shape). Does q r (frame_id s m ∷ []) took.silently.added) leaf_shape
        took.silently.does

    -- the leaf and the one beside it are held
    pub leaf_with_other : row_on (side_of mode) leaf.spot ≡ None
        → DescendsPair p i mode tuple (record { leaf = leaf; other = Some m }) r
    leaf_with_other none = record {
      silently = record {
        added = both_added down.silently.added took.silently.added;
        does = does_both p q r (k ∷ j ∷ []) down.silently.added took.silently.added
            (does_among p q down.silently.added (k ∷ []) (k ∷ j ∷ [])
            (λ n differs. (differs.0, tt)) down.silently.does)
            (does_more q r took.silently.added k (j ∷ []) took_does);
        silent = λ n. down.silently.silent n ++ took.silently.silent n;
      };
      as_taken = both_as_taken down.silently.added.references took.silently.added.references
          down.as_taken (none_as_taken took.silently.added.references took.none);
      path = record {
        vain = down.path.vain;
        path = down.path.path;
        references = frames_both down.silently.added.references took.silently.added.references
            ∙ (ap (λ qs. frame_references down.silently.added.references ++ qs) took.none
            ∙ (append-nil (frame_references down.silently.added.references)
            ∙ down.path.references));
        leads = down.path.leads;
      };
      lacked = down.lacked;
      frame = down.frame;
      knows = frame_still (view q) (view r) (frame_id (shape_of_pass q) m ∷ [])
          took.silently.does.adds.numbers took.silently.does.rest leaf.block
          (λ e. apart (omega (arith, e)), tt) down.frame down.knows;
      held_as_taken = rest_as_taken (view q) (view r) (frame_id (shape_of_pass q) m ∷ [])
          took.silently.does.adds.numbers took.silently.does.rest leaf.block
          (λ e. apart (omega (arith, e)), tt) down.held_as_taken;
      is = down.is;
      other = (
        none,
        record {
          lacked = sym (down.silently.does.rest j (λ e. apart (omega (arith, e)), tt))
              ∙ subst (λ (s : Shape). get_elem? (view q).held (frame_id s m) ≡ some None)
              leaf_shape took.lacked;
          frame = took.frame;
          knows = took.knows;
          held_as_taken = took.held_as_taken;
          beside = record {
            is = took.beside.is;
            order = subst
                (λ (s : Shape). IsOrderly (fields_for s)
                (page_within took.beside.is.page took.frame.low took.frame.high)) leaf_shape
                took.beside.order;
            other = took.beside.other;
            meets = subst (λ (f : Frame). Meets (side_of mode) f took.frame)
                (one_known (view q) leaf.block took.holds.frame down.frame took.holds.knows
                down.knows) took.beside.meets;
          };
          leads = ap (page_on (side_of mode)) (sym (one_leaf took.holds)) ∙ took.leads;
        },
      );
      count = (let one = down.count in let two = took.count in omega (arith, one, two));
    }

  -- where that one is another pass's, the leaf is given back as it was taken
  module _ (r : TreePass) (busy : IsBusyOn q leaf.block i (side_of mode) r) where
    busy_shape : shape_of_pass r ≡ shape_of_pass p
    busy_shape = ap (λ (t : Terms Shape). t.shape) busy.refused.got.silently.does.adds.numbers.terms
        ∙ leaf_shape

    pub leaf_may_go : MayGiveBack r leaf.block
    leaf_may_go = let does = busy.refused.got.silently.does in
        may_give_back r does.known leaf.block i 0 down.frame
        (frame_still (view q) (view r) [] does.adds.numbers does.rest leaf.block tt down.frame
        down.knows) down.is.page.is

    leaf_as_taken : HoldsAsTaken (view r) leaf.block
    leaf_as_taken = let does = busy.refused.got.silently.does in
        rest_as_taken (view q) (view r) [] does.adds.numbers does.rest leaf.block tt
        down.held_as_taken

    module _ (s : TreePass) (gave : GivesFrame r leaf.block s) where
      abbrev given : Added
      given = only_given k gave.taken (object.Frame gave.frame)

      gave_does : Does r s (k ∷ []) given
      gave_does = subst
          (λ (z : Shape). Does r s (frame_id z leaf.block ∷ [])
          (only_given (frame_id z leaf.block) gave.taken (object.Frame gave.frame))) busy_shape
          (gave_frame r s busy.refused.got.silently.does.known leaf.block gave)

      -- then nothing is held besides
      pub leaf_given_back : GaveAsTaken p s
      leaf_given_back =
          let a = down.silently.added in
          let b = busy.refused.got.silently.added in
          record {
            got = record {
              silently = record {
                added = both_added (both_added a b) given;
                does = does_again p s (both_added (both_added a b) given) k []
                    (does_both p r s (k ∷ []) (both_added a b) given
                    (does_both p q r (k ∷ []) a b down.silently.does
                    (does_none q r b (k ∷ []) busy.refused.got.silently.does)) gave_does)
                    (subst
                    (λ (z : Shape). get_elem? (view s).held (frame_id z leaf.block) ≡ some None)
                    (ap (λ (t : Terms Shape). t.shape) gave.hand.terms ∙ busy_shape) gave.lacks
                    ∙ sym down.lacked);
                silent = λ n.
                    (down.silently.silent n ++ busy.refused.got.silently.silent n) ++ [];
              };
              count = (let one = down.count in let two = busy.refused.got.count in
                  let three = gave.count in omega (arith, one, two, three));
            };
            as_taken = both_as_taken (a.references ++ b.references) given.references
                (both_as_taken a.references b.references down.as_taken
                (none_as_taken b.references busy.refused.none))
                (gave_as_taken r s leaf.block gave leaf_as_taken, tt);
          }

module _ (p q : TreePass) (vain : GaveAsTaken p q) where
  lacked_back : (b : ℕ) → LacksFrame q b → LacksFrame p b
  lacked_back b lacks = sym (vain.got.silently.does.rest (frame_id (shape_of_pass p) b) tt)
      ∙ subst (λ (s : Shape). get_elem? (view q).held (frame_id s b) ≡ some None)
      (vain_shape p q vain.got) lacks

  other_back : (r : TreePass) (b i : ℕ) (side : Side) (f : Frame) (page : PageRows) (spot : Spot)
      → (o : Option ℕ) → HoldsOther q r b i side f page spot o
      → HoldsOther p r b i side f page spot o
  other_back r b i side f page spot None other = other
  other_back r b i side f page spot (Some m) other = (
    other.0,
    record {
      lacked = lacked_back m other.1.lacked;
      frame = other.1.frame;
      knows = other.1.knows;
      held_as_taken = other.1.held_as_taken;
      beside = record {
        is = other.1.beside.is;
        order = subst
            (λ (s : Shape). IsOrderly (fields_for s)
            (page_within other.1.beside.is.page other.1.frame.low other.1.frame.high))
            (vain_shape p q vain.got) other.1.beside.order;
        other = other.1.beside.other;
        meets = other.1.beside.meets;
      };
      leads = other.1.leads;
    },
  )

  -- what was taken after ways in vain was taken
  pub pair_after : (r : TreePass) (i : ℕ) (mode : Mode) (tuple : FieldList) (pair : LeafPair)
      → DescendsPair q i mode tuple pair r → DescendsPair p i mode tuple pair r
  pair_after r i mode tuple pair went =
      let b = pair.leaf.block in
      let a = vain.got.silently.added in
      let same = vain_shape p q vain.got in
      let ks = frame_id (shape_of_pass p) b ∷ frames_at (shape_of_pass p) pair.other in
      record {
        silently = record {
          added = both_added a went.silently.added;
          does = does_both p q r ks a went.silently.added (does_none p q a ks vain.got.silently.does)
              (subst
              (λ (s : Shape). Does q r (frame_id s b ∷ frames_at s pair.other)
              went.silently.added) same went.silently.does);
          silent = λ n. vain.got.silently.silent n ++ went.silently.silent n;
        };
        as_taken = both_as_taken a.references went.silently.added.references vain.as_taken
            went.as_taken;
        path = record {
          vain = frame_references a.references ++ went.path.vain;
          path = went.path.path;
          references = frames_both a.references went.silently.added.references
              ∙ (ap (λ qs. frame_references a.references ++ qs) went.path.references
              ∙ sym (append_assoc (frame_references a.references) went.path.vain went.path.path));
          leads = subst
              (λ (s : Shape). LeadFromRoot s (cut_in s i mode tuple) i 0
              went.is.page.is.page.head.number went.path.path) same went.path.leads;
        };
        lacked = lacked_back b went.lacked;
        frame = went.frame;
        knows = went.knows;
        held_as_taken = went.held_as_taken;
        is = record {
          page = record {
            is = went.is.page.is;
            order = subst
                (λ (s : Shape). IsOrderly (fields_for s)
                (page_within went.is.page.is.page went.frame.low went.frame.high)) same
                went.is.page.order;
            within = subst (λ (s : Shape). HasCutWithin went.frame (cut_in s i mode tuple)) same
                went.is.page.within;
          };
          finds = went.is.finds;
        };
        other = other_back r b i (side_of mode) went.frame went.is.page.is.page pair.leaf.spot
            pair.other went.other;
        count = went.count
            ∙ (ap (λ (s : Shape). count q + 1 + length (frames_at s pair.other)) same
            ∙ ap (λ n. n + 1 + length (frames_at (shape_of_pass p) pair.other)) vain.got.count);
      }
