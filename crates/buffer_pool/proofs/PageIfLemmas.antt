-- A page that was held and isn't the one that was looked for is given back.
use Rattle.std.proofs.Common.{◌≡◌, ℕ, List, [], ◌∷◌, ◌++◌, inl, inr, sym, ap, subst, ◌∙◌, refl, arith}
use lib.ListN.{get_elem?}
use Rattle.list_facts.proofs.Each.{each_append}
use Rattle.latch_law.specs.declared.knows.Holding.{Holding}
use Rattle.latch_law.specs.declared.knows.Reference.{Reference}
use Rattle.latch_law.specs.declared.knows.Terms.{Terms}
use Rattle.latch_law.specs.Views.{holding}
use Rattle.latch_law.specs.Whole.{reference}
use Rattle.latch_space.specs.Passes.{view}
use Rattle.index_law.specs.Shape.{Shape}
use Rattle.forest_law.specs.declared.objects.Frame.{Frame}
use Rattle.forest_law.specs.declared.objects.Object.{Object}
use Rattle.forest_law.specs.declared.objects.Object.TheVariants as object
use Rattle.forest_law.specs.Numbers.{pool_id, frame_id}
use Rattle.forest_law.proofs.ObjectLemmas.{same_frame}
use Rattle.forest_world.specs.Held.{TreePass, shape_of_pass, HasFrame}
use Rattle.call_law.specs.Trace.{Added}
use Rattle.call_law.proofs.TraceLemmas.{both_added}
use Rattle.buffer_pool.specs.Calls.{Does}
use Rattle.buffer_pool.specs.Causes.{ChangesPoolSo, PagesBy}
use Rattle.buffer_pool.specs.Frames.{GivesFrame}
use Rattle.buffer_pool.specs.Looking.{FindsNone}
use Rattle.buffer_pool.specs.Pages.{HasNumber, PagesIn, HasTreePage, FindsNoPage}
use Rattle.buffer_pool.proofs.AddedLemmas.{only_given}
use Rattle.buffer_pool.proofs.AsTakenLemmas.{none_as_taken, both_as_taken, gave_as_taken}
use Rattle.buffer_pool.proofs.CallLemmas.{does_both, does_again, frame_has, gave_frame}
use Rattle.buffer_pool.proofs.ClearLemmas.{comes_before_too}
use Rattle.buffer_pool.proofs.FrameLemmas.{one_held}
use Rattle.buffer_pool.proofs.TurnLemmas.{frame_not_pool}
use Rattle.buffer_pool.proofs.VictimLemmas.{in_left, in_right, tried_left}

-- where the number has no page, there is none of this index and level
pub none_found : (p q : TreePass) (n i level : ℕ) → FindsNone p n q → FindsNoPage p n i level q
none_found p q n i level finds = record {
  got = finds.gives.got;
  as_taken = none_as_taken finds.gives.got.silently.added.references finds.gives.none;
  why = inl finds.gave;
}

module _ (p q : TreePass) (n b : ℕ) (pages : PagesIn p n b q) where
  -- the frame is in hand as it is known
  pub paged_has : HasFrame q b pages.frame pages.frame
  paged_has = frame_has q pages.silently.does.known b pages.frame pages.knows

  same_shape : shape_of_pass q ≡ shape_of_pass p
  same_shape = ap (λ (t : Terms Shape). t.shape) pages.silently.does.adds.numbers.terms

  -- and once it was given back
  module _ (r : TreePass) (gave : GivesFrame q b r) (i level : ℕ)
      (not : HasTreePage pages.frame i level → ⊥) where
    abbrev k : ℕ
    k = frame_id (shape_of_pass p) b

    gave_is : holding gave.taken (object.Frame gave.frame)
        ≡ holding pages.knows.0 (object.Frame pages.frame)
    gave_is = one_held q (frame_id (shape_of_pass q) b)
        (holding gave.taken (object.Frame gave.frame))
        (holding pages.knows.0 (object.Frame pages.frame)) gave.held pages.knows.1

    frame_same : gave.frame ≡ pages.frame
    frame_same = same_frame gave.frame pages.frame (ap (λ (h : Holding Object). h.known) gave_is)

    second : Does q r (k ∷ []) (only_given k gave.taken (object.Frame gave.frame))
    second = subst
        (λ (s : Shape). Does q r (frame_id s b ∷ [])
        (only_given (frame_id s b) gave.taken (object.Frame gave.frame))) same_shape
        (gave_frame q r pages.silently.does.known b gave)

    abbrev all : Added
    all = both_added pages.silently.added (only_given k gave.taken (object.Frame gave.frame))

    lacks_then : get_elem? (view r).held k ≡ get_elem? (view p).held k
    lacks_then = ap (λ (s : Shape). get_elem? (view r).held (frame_id s b))
        (sym (ap (λ (t : Terms Shape). t.shape) gave.hand.terms ∙ same_shape))
        ∙ (gave.lacks ∙ sym pages.lacked)

    abbrev cause : PagesBy p n b pages.silently.added
    cause = pages.cause

    abbrev given : List (Reference Object)
    given = reference k gave.taken (object.Frame gave.frame) ∷ []

    -- there is no page of this index and level
    pub other_found : FindsNoPage p n i level r
    other_found = record {
      got = record {
        silently = record {
          added = all;
          does = does_again p r all k []
              (does_both p q r (k ∷ []) pages.silently.added
              (only_given k gave.taken (object.Frame gave.frame)) pages.silently.does second)
              lacks_then;
          silent = λ j. pages.silently.silent j ++ [];
        };
        count = (let a = pages.count in let c = gave.count in omega (arith, a, c));
      };
      as_taken = both_as_taken pages.silently.added.references given
          (none_as_taken pages.silently.added.references pages.none)
          (gave_as_taken q r b gave pages.held_as_taken, tt);
      why = inr (record {
        block = b;
        taken = gave.taken;
        frame = gave.frame;
        among = in_right (reference k gave.taken (object.Frame gave.frame))
            pages.silently.added.references
            given (inl refl);
        cause = record {
          pool = cause.pool;
          held = record {
            now = cause.held.now;
            among = in_left
                (reference pool_id (object.Pool cause.pool) (object.Pool cause.held.now))
                pages.silently.added.references given cause.held.among;
          };
          once = each_append (ChangesPoolSo cause.pool cause.held.now)
              pages.silently.added.references given cause.once
              ((λ is. absurd (frame_not_pool (shape_of_pass p) b is)), tt);
          aged = cause.aged;
          how = comes_before_too p p refl (λ c lacks. lacks) pages.silently.added.refused
              all.refused (λ j. tried_left j pages.silently.added.refused []) cause.pool n b
              cause.held.now cause.how;
        };
        has = subst (λ (f : Frame). HasNumber f n) (sym frame_same) pages.has;
        not = λ is. not (subst (λ (f : Frame). HasTreePage f i level) frame_same is);
      });
    }
