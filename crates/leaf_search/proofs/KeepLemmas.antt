-- A leaf's frame gets figures, and nothing else in hand has changed.
use Rattle.std.proofs.Common.{◌≡◌, ◌≢◌, ℕ, [], ◌∷◌, sym, ap, subst, ◌∙◌, refl, arith, None}
use lib.ListN.{get_elem?}
use Rattle.latch_law.specs.declared.knows.Holding.{Holding}
use Rattle.latch_law.specs.Rule.{Holds}
use Rattle.latch_space.specs.Has.{IsKnown, DidSettle}
use Rattle.latch_space.specs.Passes.{view, values, known_values, Shows}
use Rattle.learning.specs.declared.event.BlockFigures.{BlockFigures}
use Rattle.index_law.specs.Shape.{Shape}
use Rattle.forest_law.specs.declared.objects.Frame.{Frame}
use Rattle.forest_law.specs.declared.objects.Object.{Object}
use Rattle.forest_law.specs.Law.{Follows}
use Rattle.forest_law.specs.Numbers.{frame_id}
use Rattle.forest_law.specs.Steps.{FrameRests}
use Rattle.forest_world.specs.Held.{TreePass, shape_of_pass, HasFrame}
use Rattle.forest_world.specs.HashHands.{HandKeepsHash, HandsKeepTheHash}
use Rattle.call_law.specs.Hands.{KnowsFrame}
use Rattle.buffer_pool.specs.Forests.{TreeView}
use Rattle.buffer_pool.specs.Frames.{TakesOut, PutsBack}
use Rattle.buffer_pool.specs.Hands.{HasOut}
use Rattle.buffer_pool.proofs.AddedLemmas.{none_added}
use Rattle.buffer_pool.proofs.CallLemmas.{does_among}
use Rattle.buffer_pool.proofs.HashRestLemmas.{frame_rests}
use Rattle.buffer_pool.proofs.UnhashLemmas.{taken_is, taken_out}
use Rattle.leaf_search.specs.Builds.{HoldsToTeach}
use Rattle.leaf_search.specs.Lessons.{FrameBecomes, with_figures}
use Rattle.leaf_search.proofs.AdviceLemmas.{suited_tidy}
use Rattle.leaf_search.proofs.BuildLemmas.{suited_asks}
use Rattle.leaf_search.proofs.ChangedLemmas.{IsAtRest, frame_at_rest, known_else, changed_whole, changed_follows, changed_does, changed_frame, changed_count}

-- other figures change nothing of the page
pub figures_rest : (f : Frame) (figures : BlockFigures) → FrameRests f (with_figures f figures)
figures_rest f figures =
    record { page = refl; low = refl; high = refl; clock = omega arith }

module _ (p q r : TreePass) (b index : ℕ) (figures : BlockFigures)
    (h : HoldsToTeach (view p) b index figures) (known : IsKnown p) (frame : Frame)
    (out : TakesOut p b frame q) where
  abbrev f : Frame
  f = h.leaf.frame

  abbrev knows : KnowsFrame (view p) b f
  knows = h.leaf.knows

  abbrev x : Frame
  x = with_figures f figures

  -- the frame may be put back
  pub figures_go_back : (z : Frame) × HasOut q b z
  figures_go_back = (f, taken_out p q b frame f known knows out)

  -- and then it was
  module _ (back : PutsBack q b (with_figures frame figures) r) where
    same : view r ≡ view p
    same = back.view ∙ out.view

    has : HasFrame r b f x
    has = subst (λ (z : Frame). HasFrame r b f (with_figures z figures))
        (taken_is p q b frame f known knows out)
        (back.has f (taken_out p q b frame f known knows out))

    shape_q : shape_of_pass q ≡ shape_of_pass p
    shape_q = ap (λ (v : TreeView). v.terms.shape) out.view

    shape_r : shape_of_pass r ≡ shape_of_pass p
    shape_r = ap (λ (v : TreeView). v.terms.shape) same

    abbrev own : ℕ
    own = frame_id (shape_of_pass p) b

    beside : (j : ℕ) → j ≢ own → j ≢ own → get_elem? (values r) j ≡ get_elem? (values p) j
    beside j differs apart =
        (back.hand.others j (λ e. differs (e ∙ ap (λ (s : Shape). frame_id s b) shape_q))).1
        ∙ (out.hand.others j differs).1

    at_own : IsAtRest r own
    at_own = subst (λ (s : Shape). IsAtRest r (frame_id s b)) shape_r
        (frame_at_rest r b f x has (figures_rest f figures))

    pub figures_whole : (k : ℕ) (o : Holding Object) → Holds (view r) k o
        → (z : Object) × Shows r k z
    figures_whole = changed_whole p r b own f x known same has (figures_rest f figures) at_own beside

    keeps : HandsKeepTheHash → HandKeepsHash r
    keeps law = law.rests r (frame_rests r b f x has
        (record {
          tidy = suited_tidy f figures h.suits;
          asks = λ k. suited_asks (shape_of_pass r) k b f figures h.suits;
          alike = λ index params was. record {
            hashed = was.hashed;
            built = h.suits.built ∙ was.built;
          };
        })
        (λ j o apart holds. known_else p r b own f x known same has (figures_rest f figures) at_own
        beside j o (not_own j apart.1.0) (not_own j apart.1.0) holds))
      where
        not_own : (j : ℕ) → j ≢ frame_id (shape_of_pass r) b → j ≢ own
        not_own j differs e = differs (e ∙ ap (λ (s : Shape). frame_id s b) (sym shape_r))

    pub figures_follow : HandsKeepTheHash
        → Follows (shape_of_pass r) (known_values r) (values r) None
    figures_follow law = changed_follows p r b own f x known same has (figures_rest f figures) at_own
        beside (keeps law)

    -- and the frame is known so
    pub figures_become : (s : TreePass) → DidSettle r s → FrameBecomes p b f x [] s
    figures_become s told = record {
      taken = knows.0;
      was = knows.1;
      is = changed_frame p r b own f x known same has (figures_rest f figures) at_own beside s told
          knows.0 knows.1;
      refused = [];
      does = does_among p s none_added (own ∷ own ∷ []) (own ∷ []) (λ j apart. (apart.0, apart))
          (changed_does p r b own f x known same has (figures_rest f figures) at_own beside s told);
      count = changed_count p r b own f x known same has (figures_rest f figures) at_own beside s
          told (back.count ∙ out.count);
    }
