-- What the tries of a seek add, and what a try in vain leaves.
use Rattle.std.proofs.Common.{◌≡◌, inl, inr, ℕ, ◌++◌, append_assoc, sym, ap, subst, ◌∙◌, refl, Option, Some, None}
use Rattle.key_tuple.specs.Order.{FieldList}
use Rattle.key_tuple.specs.declared.mode.Mode.{Mode}
use Rattle.latch_law.specs.declared.knows.Terms.{Terms}
use Rattle.latch_space.specs.Passes.{view}
use Rattle.map_history.specs.declared.reply.Told.{Told}
use Rattle.map_history.specs.Map.{Pair}
use Rattle.map_history.specs.Operation.{Seek}
use Rattle.index_law.specs.Shape.{Shape}
use Rattle.forest_world.specs.Held.{TreePass, shape_of_pass}
use Rattle.call_law.specs.Spoken.{View}
use Rattle.call_law.specs.Trace.{Added, SparesTrees, frame_references}
use Rattle.call_law.proofs.TraceLemmas.{both_added, quiet_of, quiet_both, quiet_then_once}
use Rattle.buffer_pool.specs.AsTaken.{AreAsTaken, AreAsTakenBut, Exception, NoException}
use Rattle.buffer_pool.specs.Calls.{GetsNothing}
use Rattle.buffer_pool.specs.Pages.{HasNumber}
use Rattle.buffer_pool.proofs.AddedLemmas.{none_added, held_adds, none_spares, spares_both}
use Rattle.buffer_pool.proofs.AsTakenLemmas.{as_taken_but, both_but, held_in, other_but}
use Rattle.index_seeks.specs.SeekSteps.{EndsFromLeaf, SeeksFrom, TellsByWay, TriesSeek, TriesInVain}
use Rattle.index_seeks.specs.SeekTraces.{BeginOnLeaf, EndsOnLeaves}
use Rattle.engine_law.proofs.FrameTraceLemmas.{frames_both}
use Rattle.engine_law.proofs.KnownLemmas.{one_frame, one_number}
use Rattle.index_seeks.proofs.SeekLearnLemmas.{ComesToLeaves}
use Rattle.index_seeks.proofs.SeekTraceLemmas.{quiet_answered}

-- a way led to the leaves
pub tries_pair : (but : Exception) (p q : TreePass) (v' : View) (i : ℕ) (mode : Mode)
    (tuple : FieldList) (b : ℕ) (o : Option Told) (row : Pair)
    → ComesToLeaves but p i mode tuple b q
    → EndsFromLeaf (shape_of_pass p) (view q) v' b i mode tuple o row
    → TriesSeek but (view p) v' i mode tuple o row
unfolding quiet_of
tries_pair but p q v' i mode tuple b o row went ends = let way = went.added in
    let quiet = quiet_of (view p) (view q) i way went.adds went.silent in
    let same = one_frame (view q) b ends.frame went.frame ends.knows went.knows in
    let number = one_number went.frame ends.number went.number
    (subst (λ f. HasNumber f ends.number) same ends.has) went.has in
    record {
      added = both_added way ends.added;
      answered = quiet_answered i (Seek mode tuple) row (view p) (view q) v' quiet o ends.added
          ends.answered;
      ends = record {
        vain = went.path.vain;
        path = went.path.path;
        leaves = frame_references ends.added.references;
        number = went.number;
        is = frames_both way.references ends.added.references
            ∙ ap (λ z. z ++ frame_references ends.added.references) went.path.references;
        leads = went.path.leads;
        begin = subst (λ n. BeginOnLeaf (shape_of_pass p) i n
            (frame_references ends.added.references)) number ends.begin;
      };
      as_taken = both_but but way.references ends.added.references
          (as_taken_but but way.references went.as_taken)
          (other_but (held_in (view q)) but went.hand ends.added.references ends.keeps.gave);
      spares = spares_both (shape_of_pass p) way ends.added went.spares ends.spares;
    }

module _ (but : Exception) where
  -- a try that wasn't answered was in vain
  pub tries_vain : (v v' : View) (i : ℕ) (mode : Mode) (tuple : FieldList) (row : Pair)
      → TriesSeek but v v' i mode tuple None row → TriesInVain but v v' i
  tries_vain v v' i mode tuple row tries = record {
    quiet = tries.answered.0;
    as_taken = subst (λ (a : Added). AreAsTakenBut but a.references) (sym tries.answered.1)
        tries.as_taken;
    spares = subst (SparesTrees v.terms.shape) (sym tries.answered.1) tries.spares;
  }

  -- before the first try
  pub vain_none : (v : View) (i : ℕ) → TriesInVain but v v i
  unfolding quiet_of
  vain_none v i = record {
    quiet = quiet_of v v i none_added (held_adds v v v.held refl) refl;
    as_taken = tt;
    spares = none_spares v.terms.shape;
  }

  module _ (v v0 v1 : View) (i : ℕ) (vain : TriesInVain but v v0 i) where
    -- the terms are those of the first
    terms_are : v0.terms ≡ v.terms
    terms_are = vain.quiet.adds.numbers.terms

    pub vain_both : TriesInVain but v0 v1 i → TriesInVain but v v1 i
    unfolding quiet_both
    vain_both next = record {
      quiet = quiet_both v v0 v1 i vain.quiet next.quiet;
      as_taken = both_but but vain.quiet.added.references next.quiet.added.references
          vain.as_taken next.as_taken;
      spares = spares_both v.terms.shape vain.quiet.added next.quiet.added vain.spares
          (subst (λ (t : Terms Shape). SparesTrees t.shape next.quiet.added) terms_are
          next.spares);
    }

    -- the tries before were in vain, and then it was answered
    pub vain_then_way : (mode : Mode) (tuple : FieldList) (told : Told) (row : Pair)
        → TellsByWay but v0 v1 i mode tuple told row → TellsByWay but v v1 i mode tuple told row
    unfolding quiet_then_once
    vain_then_way mode tuple told row tells = let once = tells.tells.once in
        let ends =
        subst (λ (t : Terms Shape). EndsOnLeaves t.shape i mode tuple once.added.references)
        terms_are tells.ends in
        let fore = frame_references vain.quiet.added.references in record {
          tells = record {
            answer = tells.tells.answer;
            is_told = tells.tells.is_told;
            once = quiet_then_once i (Seek mode tuple) tells.tells.answer v v0 v1 vain.quiet once;
          };
          ends = record {
            vain = fore ++ ends.vain;
            path = ends.path;
            leaves = ends.leaves;
            number = ends.number;
            is = frames_both vain.quiet.added.references once.added.references
                ∙ (ap (λ z. fore ++ z) ends.is
                ∙ (sym (append_assoc fore (ends.vain ++ ends.path) ends.leaves)
                ∙ ap (λ z. z ++ ends.leaves) (sym (append_assoc fore ends.vain ends.path))));
            leads = ends.leads;
            begin = ends.begin;
          };
          as_taken = both_but but vain.quiet.added.references once.added.references vain.as_taken
              tells.as_taken;
          spares = spares_both v.terms.shape vain.quiet.added once.added vain.spares
              (subst (λ (t : Terms Shape). SparesTrees t.shape once.added) terms_are
              tells.spares);
        }

  -- a try that was answered was so by leaves to which a way led
  pub tries_way : (v v' : View) (i : ℕ) (mode : Mode) (tuple : FieldList) (told : Told)
      (row : Pair) → TriesSeek but v v' i mode tuple (Some told) row
      → TellsByWay but v v' i mode tuple told row
  tries_way v v' i mode tuple told row tries = record {
    tells = tries.answered.0;
    ends = subst (λ (a : Added). EndsOnLeaves v.terms.shape i mode tuple a.references)
        (sym tries.answered.1) tries.ends;
    as_taken = subst (λ (a : Added). AreAsTakenBut but a.references) (sym tries.answered.1)
        tries.as_taken;
    spares = subst (SparesTrees v.terms.shape) (sym tries.answered.1) tries.spares;
  }

  -- where nothing is an exception, other things may be
  way_weaker : (v v' : View) (i : ℕ) (mode : Mode) (tuple : FieldList) (told : Told) (row : Pair)
      → TellsByWay NoException v v' i mode tuple told row
      → TellsByWay but v v' i mode tuple told row
  way_weaker v v' i mode tuple told row way = record {
    tells = way.tells;
    ends = way.ends;
    as_taken = other_but NoException but (λ q never. absurd never)
        way.tells.once.added.references way.as_taken;
    spares = way.spares;
  }

  -- nothing was found without a way, and then a way led to leaves, from which it was answered
  module _ (p q r : TreePass) (v' : View) (i : ℕ) (mode : Mode) (tuple : FieldList) (b : ℕ)
      (nothing : GetsNothing p q) (gave : AreAsTaken nothing.silently.added.references)
      (went : ComesToLeaves but q i mode tuple b r) (told : Told) (row : Pair) where
    vain_first : TriesInVain but (view p) (view q) i
    unfolding quiet_of
    vain_first = record {
      quiet = quiet_of (view p) (view q) i nothing.silently.added nothing.silently.does.adds
          nothing.silently.silent;
      as_taken = as_taken_but but nothing.silently.added.references gave;
      spares = nothing.silently.does.spares;
    }

    shapes : shape_of_pass r ≡ shape_of_pass q
    shapes = ap (λ (t : Terms Shape). t.shape) went.adds.numbers.terms

    pub way_seeks : SeeksFrom (shape_of_pass r) (view r) v' b i mode tuple told row
        → TellsByWay but (view p) v' i mode tuple told row
    way_seeks (inl ends) = vain_then_way (view p) (view q) v' i vain_first mode tuple told row
        (tries_way (view q) v' i mode tuple told row
        (tries_pair but q r v' i mode tuple b (Some told) row went
        (subst (λ s. EndsFromLeaf s (view r) v' b i mode tuple (Some told) row) shapes ends)))
    way_seeks (inr later) = vain_then_way (view p) later.between v' i
        (vain_both (view p) (view q) later.between i vain_first
        (tries_vain (view q) later.between i mode tuple later.out
        (tries_pair but q r later.between i mode tuple b None later.out went
        (subst (λ s. EndsFromLeaf s (view r) later.between b i mode tuple None later.out) shapes
        later.first)))) mode tuple told row
        (way_weaker later.between v' i mode tuple told row later.again)
