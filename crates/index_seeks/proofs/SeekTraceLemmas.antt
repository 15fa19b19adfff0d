-- What the parts of a seek add, one behind the other.
use Rattle.std.proofs.Common.{◌≡◌, ℕ, List, [], ◌∷◌, ◌++◌, sym, ap, subst, ◌∙◌, refl, Option, Some, None}
use Rattle.std.specs.List.{AllByRecursion}
use Rattle.list_facts.proofs.Each.{each_append}
use Rattle.key_tuple.specs.Order.{FieldList}
use Rattle.key_tuple.specs.declared.mode.Mode.{Mode}
use Rattle.latch_law.specs.declared.knows.Reference.{Reference}
use Rattle.latch_law.specs.Views.{holding}
use Rattle.latch_law.specs.Whole.{reference}
use Rattle.latch_space.specs.Passes.{view}
use Rattle.map_history.specs.declared.reply.Told.{Told}
use Rattle.map_history.specs.Map.{Pair}
use Rattle.map_history.specs.Operation.{Ask, Seek}
use Rattle.index_law.specs.Shape.{Shape}
use Rattle.forest_law.specs.declared.objects.Frame.{Frame}
use Rattle.forest_law.specs.declared.objects.Object.{Object}
use Rattle.forest_law.specs.declared.objects.Object.TheVariants as object
use Rattle.forest_law.specs.Numbers.{frame_id}
use Rattle.forest_world.specs.Held.{TreePass, shape_of_pass}
use Rattle.call_law.specs.Once.{IsQuiet}
use Rattle.call_law.specs.Spoken.{View}
use Rattle.call_law.specs.Hands.{KnowsFrame}
use Rattle.call_law.specs.Trace.{Added, Adds, IsOnlySaid, IsNoTree, SparesTrees, frame_references}
use Rattle.call_law.proofs.TraceLemmas.{both_added, quiet_of, quiet_both, quiet_then_once, once_then_silent}
use Rattle.buffer_pool.specs.AsTaken.{KeepsAsHeld}
use Rattle.buffer_pool.specs.Calls.{DoesSilently}
use Rattle.buffer_pool.specs.Frames.{GivesFrame}
use Rattle.buffer_pool.specs.Pages.{HasNumber, HasTreePage}
use Rattle.buffer_pool.proofs.AsTakenLemmas.{keeps_both, keeps_gave, keeps_same}
use Rattle.buffer_pool.proofs.AddedLemmas.{none_added, only_given, held_adds, gave_adds, frame_no_tree, given_spares, none_spares, spares_both}
use Rattle.engine_law.specs.Says.{OnlyLooks}
use Rattle.index_seeks.specs.SeekSteps.{SaysIf, Answered, PassesLeaves, EndsSeek, EndsFromLeaf}
use Rattle.tree_neighbours.specs.LeafHands.{IsLeafReference}
use Rattle.engine_law.proofs.FrameTraceLemmas.{frames_both, said_frames}
use Rattle.engine_law.proofs.KnownLemmas.{gave_known}
use Rattle.engine_law.proofs.FrameTraceLemmas.{said_spares}

module _ (i : ℕ) (ask : Ask) (row : Pair) where
  -- what was answered was added
  answered_adds : (v v' : View) (o : Option Told) (a : Added) → Answered v v' i ask o row a
      → Adds v v' a
  answered_adds v v' None a (quiet, is) = subst (Adds v v') is quiet.adds
  answered_adds v v' (Some told) a (tells, is) = subst (Adds v v') is tells.once.adds

  -- nothing was answered, and then as is told
  pub quiet_answered : (v v0 v1 : View) (quiet : IsQuiet v v0 i) (o : Option Told) (b : Added)
      → Answered v0 v1 i ask o row b → Answered v v1 i ask o row (both_added quiet.added b)
  unfolding quiet_both quiet_then_once
  quiet_answered v v0 v1 quiet None b (next, is) =
      (quiet_both v v0 v1 i quiet next, ap (both_added quiet.added) is)
  quiet_answered v v0 v1 quiet (Some told) b (tells, is) = (
    record {
      answer = tells.answer;
      is_told = tells.is_told;
      once = quiet_then_once i ask tells.answer v v0 v1 quiet tells.once;
    },
    ap (both_added quiet.added) is,
  )

  -- it was answered as is told, and then nothing was said or seen
  answered_silent : (v v0 v1 : View) (o : Option Told) (a b : Added) → Answered v v0 i ask o row a
      → Adds v0 v1 b → b.said ≡ [] → v1.seen ≡ v0.seen
      → Answered v v1 i ask o row (both_added a b)
  unfolding quiet_of quiet_both once_then_silent
  answered_silent v v0 v1 None a b (quiet, is) adds silent seen = (
    quiet_both v v0 v1 i quiet (quiet_of v0 v1 i b adds silent),
    ap (λ z. both_added z b) is,
  )
  answered_silent v v0 v1 (Some told) a b (tells, is) adds silent seen = (
    record {
      answer = tells.answer;
      is_told = tells.is_told;
      once = once_then_silent i ask tells.answer v v0 v1 b tells.once adds silent seen;
    },
    ap (λ z. both_added z b) is,
  )

  -- what was said alone, as is told
  said_added : (v v' : View) (o : Option Told) → SaysIf v v' i ask o row
      → (a : Added) × Answered v v' i ask o row a × IsOnlySaid a
  said_added v v' None looks = (looks.quiet.added, (looks.quiet, refl), looks.only)
  said_added v v' (Some told) says = (
    says.once.added,
    (record { answer = says.answer; is_told = says.is_told; once = says.once }, refl),
    says.only,
  )

module _ (shape : Shape) (i : ℕ) where
  abbrev AreLeaves : List (Reference Object) → Type 0
  AreLeaves qs = AllByRecursion (IsLeafReference shape i) qs

  leaves_both : (qs rs : List (Reference Object)) → AreLeaves (frame_references qs)
      → AreLeaves (frame_references rs) → AreLeaves (frame_references (qs ++ rs))
  leaves_both qs rs first second = subst AreLeaves (sym (frames_both qs rs))
      (each_append (IsLeafReference shape i) (frame_references qs) (frame_references rs) first
      second)

  no_leaves : (qs : List (Reference Object)) → frame_references qs ≡ []
      → AreLeaves (frame_references qs)
  no_leaves qs none = subst AreLeaves (sym none) tt

  -- a look, and what was taken, pass no leaf
  pub looks_pass : (v v' : View) → OnlyLooks v v' i → v'.held ≡ v.held → PassesLeaves shape v v' i
  looks_pass v v' looks same = record {
    quiet = looks.quiet;
    leaves = no_leaves looks.quiet.added.references (said_frames looks.quiet.added looks.only);
    keeps = keeps_same v v' same looks.quiet.added.references
        (said_frames looks.quiet.added looks.only);
    spares = said_spares shape looks.quiet.added looks.only;
  }

  pub takes_pass : (p q : TreePass) (ks : List ℕ) → shape_of_pass p ≡ shape
      → (silently : DoesSilently p q ks) → frame_references silently.added.references ≡ []
      → KeepsAsHeld (view p) (view q) silently.added.references
      → PassesLeaves shape (view p) (view q) i
  unfolding quiet_of
  takes_pass p q ks is silently none keeps = record {
    quiet = quiet_of (view p) (view q) i silently.added silently.does.adds silently.silent;
    leaves = no_leaves silently.added.references none;
    keeps = keeps;
    spares = subst (λ s. SparesTrees s silently.added) is silently.does.spares;
  }

  -- nothing was done
  pub none_pass : (v : View) → PassesLeaves shape v v i
  unfolding quiet_of
  none_pass v = record {
    quiet = quiet_of v v i none_added (held_adds v v v.held refl) refl;
    leaves = tt;
    keeps = keeps_same v v refl [] refl;
    spares = none_spares shape;
  }

  pub passes_both : (v v0 v1 : View) → PassesLeaves shape v v0 i → PassesLeaves shape v0 v1 i
      → PassesLeaves shape v v1 i
  unfolding quiet_both
  passes_both v v0 v1 first second = record {
    quiet = quiet_both v v0 v1 i first.quiet second.quiet;
    leaves = leaves_both first.quiet.added.references second.quiet.added.references first.leaves
        second.leaves;
    keeps = keeps_both v v0 v1 first.quiet.added.references second.quiet.added.references
        first.keeps second.keeps;
    spares = spares_both shape first.quiet.added second.quiet.added first.spares second.spares;
  }

  module _ (mode : Mode) (tuple : FieldList) where
    -- leaves were passed, and then more until the seek ended
    pub passes_then : (v v0 v1 : View) (o : Option Told) (row : Pair)
        → PassesLeaves shape v v0 i → EndsSeek shape v0 v1 i mode tuple o row
        → EndsSeek shape v v1 i mode tuple o row
    passes_then v v0 v1 o row passes ends = record {
      added = both_added passes.quiet.added ends.added;
      answered = quiet_answered i (Seek mode tuple) row v v0 v1 passes.quiet o ends.added
          ends.answered;
      leaves = leaves_both passes.quiet.added.references ends.added.references passes.leaves
          ends.leaves;
      keeps = keeps_both v v0 v1 passes.quiet.added.references ends.added.references passes.keeps
          ends.keeps;
      spares = spares_both shape passes.quiet.added ends.added passes.spares ends.spares;
    }

    -- it ended without an answer
    pub passes_end : (v v' : View) (row : Pair) → PassesLeaves shape v v' i
        → EndsSeek shape v v' i mode tuple None row
    passes_end v v' row passes = record {
      added = passes.quiet.added;
      answered = (passes.quiet, refl);
      leaves = passes.leaves;
      keeps = passes.keeps;
      spares = passes.spares;
    }

  -- a frame was given back
  module _ (p q : TreePass) (b : ℕ) (same : shape_of_pass p ≡ shape) (gave : GivesFrame p b q) where
    abbrev back : Added
    back = only_given (frame_id (shape_of_pass p) b) gave.taken (object.Frame gave.frame)

    back_adds : Adds (view p) (view q) back
    back_adds = gave_adds (view p) (view q) (frame_id (shape_of_pass p) b)
        (holding gave.taken (object.Frame gave.frame)) gave.view

    back_spares : SparesTrees shape back
    back_spares = given_spares shape (frame_id (shape_of_pass p) b) gave.taken
        (object.Frame gave.frame)
        (subst (λ s. IsNoTree s (frame_id (shape_of_pass p) b)) same
        (frame_no_tree (shape_of_pass p) b))

    back_seen : (view q).seen ≡ (view p).seen
    back_seen = ap (λ (z : View). z.seen) gave.view

    back_is : back.references
        ≡ reference (frame_id shape b) gave.taken (object.Frame gave.frame) ∷ []
    back_is = ap (λ s. reference (frame_id s b) gave.taken (object.Frame gave.frame) ∷ []) same

    -- it is the one frame behind what was only said
    said_then_back : (a : Added) → IsOnlySaid a
        → frame_references (a.references ++ back.references)
        ≡ reference (frame_id shape b) gave.taken (object.Frame gave.frame) ∷ []
    said_then_back a only = frames_both a.references back.references
        ∙ (ap (λ z. z ++ back.references) (said_frames a only) ∙ back_is)

    -- it was held so before that
    said_keeps : (v : View) → (view p).held ≡ v.held → (a : Added) → IsOnlySaid a
        → KeepsAsHeld v (view q) (a.references ++ back.references)
    said_keeps v same a only = keeps_both v (view p) (view q) a.references back.references
        (keeps_same v (view p) same a.references (said_frames a only)) (keeps_gave p q b gave)

    back_leaf : HasTreePage gave.frame i 0 → AreLeaves (frame_references back.references)
    back_leaf page = subst AreLeaves (sym back_is)
        (record { block = b; taken = gave.taken; frame = gave.frame; is = refl; page = page }, tt)

    -- that passed a leaf
    pub gave_passes : HasTreePage gave.frame i 0 → PassesLeaves shape (view p) (view q) i
    unfolding quiet_of
    gave_passes page = record {
      quiet = quiet_of (view p) (view q) i back back_adds refl;
      leaves = back_leaf page;
      keeps = keeps_gave p q b gave;
      spares = back_spares;
    }

    module _ (mode : Mode) (tuple : FieldList) (o : Option Told) (row : Pair) where
      -- it was answered as is told before
      pub said_then_gave : (v : View) → SaysIf v (view p) i (Seek mode tuple) o row
          → (view p).held ≡ v.held → HasTreePage gave.frame i 0
          → EndsSeek shape v (view q) i mode tuple o row
      said_then_gave v says same page =
          let added = said_added i (Seek mode tuple) row v (view p) o says in record {
            added = both_added added.0 back;
            answered = answered_silent i (Seek mode tuple) row v (view p) (view q) o added.0 back
                added.1 back_adds refl back_seen;
            leaves = leaves_both added.0.references back.references
                (no_leaves added.0.references (said_frames added.0 added.2)) (back_leaf page);
            keeps = said_keeps v same added.0 added.2;
            spares = spares_both shape added.0 back (said_spares shape added.0 added.2)
                back_spares;
          }

      -- and this was the first leaf, which was known so before
      pub said_then_first : (v : View) → SaysIf v (view p) i (Seek mode tuple) o row
          → (view p).held ≡ v.held → (f : Frame) (n : ℕ) → HasNumber f n → KnowsFrame v b f → KnowsFrame (view p) b f
          → EndsFromLeaf shape v (view q) b i mode tuple o row
      said_then_first v says same f n has before knows =
          let added = said_added i (Seek mode tuple) row v (view p) o says in record {
            added = both_added added.0 back;
            answered = answered_silent i (Seek mode tuple) row v (view p) (view q) o added.0 back
                added.1 back_adds refl back_seen;
            number = n;
            frame = f;
            knows = before;
            has = has;
            begin = record {
              block = b;
              taken = gave.taken;
              leaf = gave.frame;
              beside = [];
              is = said_then_back added.0 added.2;
              has = subst (λ z. HasNumber z n) (gave_known p q b f knows gave) has;
              each = tt;
            };
            keeps = said_keeps v same added.0 added.2;
            spares = spares_both shape added.0 back (said_spares shape added.0 added.2)
                back_spares;
          }

      -- a leaf beside the first one was given back last
      pub first_then_gave : (v : View) (c : ℕ) → EndsFromLeaf shape v (view p) c i mode tuple o row
          → HasTreePage gave.frame i 0 → EndsFromLeaf shape v (view q) c i mode tuple o row
      first_then_gave v c ends page = record {
        added = both_added ends.added back;
        answered = answered_silent i (Seek mode tuple) row v (view p) (view q) o ends.added back
            ends.answered back_adds refl back_seen;
        number = ends.number;
        frame = ends.frame;
        knows = ends.knows;
        has = ends.has;
        begin = record {
          block = ends.begin.block;
          taken = ends.begin.taken;
          leaf = ends.begin.leaf;
          beside = ends.begin.beside ++ back.references;
          is = frames_both ends.added.references back.references
              ∙ ap (λ z. z ++ back.references) ends.begin.is;
          has = ends.begin.has;
          each = each_append (IsLeafReference shape i) ends.begin.beside back.references
              ends.begin.each (back_leaf page);
        };
        keeps = keeps_both v (view p) (view q) ends.added.references back.references ends.keeps
            (keeps_gave p q b gave);
        spares = spares_both shape ends.added back ends.spares back_spares;
      }

      -- the first leaf was given back after a look, and then the seek went on
      pub first_then_on : (v v' : View) → OnlyLooks v (view p) i → (view p).held ≡ v.held
          → EndsSeek shape (view q) v' i mode tuple o row
          → (f : Frame) (n : ℕ) → HasNumber f n → KnowsFrame v b f → KnowsFrame (view p) b f
          → EndsFromLeaf shape v v' b i mode tuple o row
      unfolding quiet_of quiet_both
      first_then_on v v' looks same ends f n has before knows =
          let quiet = quiet_both v (view p) (view q) i looks.quiet
          (quiet_of (view p) (view q) i back back_adds refl) in
          record {
            added = both_added (both_added looks.quiet.added back) ends.added;
            answered = quiet_answered i (Seek mode tuple) row v (view q) v' quiet o ends.added
                ends.answered;
            number = n;
            frame = f;
            knows = before;
            has = has;
            begin = record {
              block = b;
              taken = gave.taken;
              leaf = gave.frame;
              beside = frame_references ends.added.references;
              is = frames_both (looks.quiet.added.references ++ back.references)
                  ends.added.references
                  ∙ ap (λ z. z ++ frame_references ends.added.references)
                  (said_then_back looks.quiet.added looks.only);
              has = subst (λ z. HasNumber z n) (gave_known p q b f knows gave) has;
              each = ends.leaves;
            };
            keeps = keeps_both v (view q) v' (looks.quiet.added.references ++ back.references)
                ends.added.references (said_keeps v same looks.quiet.added looks.only) ends.keeps;
            spares = spares_both shape (both_added looks.quiet.added back) ends.added
                (spares_both shape looks.quiet.added back
                (said_spares shape looks.quiet.added looks.only) back_spares) ends.spares;
          }
