-- What a write leaves behind: its first try, and what comes after.
use Rattle.std.proofs.Common.{◌≡◌, inl, inr, ℕ, [], ◌∷◌, ◌++◌, append_assoc, append-nil, List, sym, ap, subst, ◌∙◌, refl, Option, Some, None, Result, Ok, Err, IfOk, OnErr}
use Rattle.key_tuple.specs.Order.{FieldList}
use Rattle.key_tuple.specs.declared.error.NoMemory.{NoMemory}
use Rattle.latch_law.specs.declared.knows.Reference.{Reference}
use Rattle.latch_law.specs.declared.knows.Terms.{Terms}
use Rattle.latch_law.specs.Whole.{reference}
use Rattle.latch_space.specs.Passes.{view}
use Rattle.map_history.specs.declared.columns.How.{How}
use Rattle.map_history.specs.declared.reply.Told.{Told}
use Rattle.map_history.specs.Operation.{Ask}
use Rattle.search_info.specs.declared.knows.Knows.{Knows}
use Rattle.index_law.specs.Meanings.{lent_row}
use Rattle.index_law.specs.Shape.{Shape}
use Rattle.forest_law.specs.declared.objects.Frame.{Frame}
use Rattle.forest_law.specs.declared.objects.Object.{Object}
use Rattle.forest_law.specs.declared.objects.Object.TheVariants as object
use Rattle.forest_law.specs.Numbers.{frame_id}
use Rattle.forest_world.specs.Held.{TreePass, shape_of_pass}
use Rattle.call_law.specs.Once.{IsQuiet}
use Rattle.call_law.specs.Spoken.{View}
use Rattle.call_law.specs.Trace.{frame_references}
use Rattle.call_law.proofs.TraceLemmas.{quiet_both, quiet_then_once, quiet_of}
use Rattle.buffer_pool.proofs.AddedLemmas.{none_added, held_adds}
use Rattle.tree_descent.specs.declared.descending.Leaf.{Leaf}
use Rattle.search_info.specs.Tries.{TriesAfter}
use Rattle.leaf_changes.specs.Says.{AnswersAndLeaves}
use Rattle.index_engine.specs.Leaving.{ComesToLeaf, LooksAndLeaves, LeavesFull}
use Rattle.index_engine.specs.Traces.{Finding, AreWayTo, IsFoundBy, EndsOnLeaf, IsFullLeaf, TellsOfWrite, GivesUp}
use Rattle.index_engine.specs.Writes.{LacksPage, TellsGrowth, TellsAgain, AnswersAgain, AnswersWrite, MakesRoomThen, TriesWrite, LeavesUnanswered}
use Rattle.engine_law.proofs.FrameTraceLemmas.{frames_both}
use Rattle.index_engine.proofs.FoundLemmas.{tells_found}
use Rattle.index_engine.proofs.WayLemmas.{looks_found, ends_told}

-- nothing was answered yet
pub quiet_yet : (v : View) (i : ℕ) → IsQuiet v v i
quiet_yet v i = quiet_of v v i none_added (held_adds v v v.held refl) refl

-- a write that found no page for its row was answered
pub lacks_again : (v v' : View) (i : ℕ) (key : FieldList) (ask : Ask) (told : Told)
    → LacksPage v v' i ask told → TellsAgain v v' i key ask told
lacks_again v v' i key ask told lacks =
    record { tells = lacks.tells; ends = λ placed. absurd (placed lacks.full) }

-- what ends on a leaf to which a way led does so with more before it
ends_behind : (shape : Shape) (i : ℕ) (key : FieldList) (rs qs : List (Reference Object))
    → EndsOnLeaf shape (AreWayTo shape i key) qs → EndsOnLeaf shape (AreWayTo shape i key) (rs ++ qs)
ends_behind shape i key rs qs e =
    let last = reference (frame_id shape e.block) e.taken (object.Frame e.leaf) ∷ [] in
    let fore = frame_references rs in record {
      before = fore ++ e.before;
      block = e.block;
      taken = e.taken;
      leaf = e.leaf;
      is = frames_both rs qs
          ∙ (ap (λ z. fore ++ z) e.is ∙ sym (append_assoc fore e.before last));
      number = e.number;
      has = e.has;
      came = record {
        vain = fore ++ e.came.vain;
        path = e.came.path;
        is = ap (λ z. fore ++ z) e.came.is ∙ sym (append_assoc fore e.came.vain e.came.path);
        leads = e.came.leads;
      };
    }

module _ (v v0 v1 : View) (i : ℕ) (key : FieldList) (ask : Ask) (told : Told)
    (quiet : IsQuiet v v0 i) where
  -- nothing was answered, and then the write was
  pub quiet_then_again : TellsAgain v0 v1 i key ask told → TellsAgain v v1 i key ask told
  unfolding quiet_then_once
  quiet_then_again next = let once = next.tells.once in record {
    tells = record {
      answer = next.tells.answer;
      is_told = next.tells.is_told;
      once = quiet_then_once i ask next.tells.answer v v0 v1 quiet once;
    };
    ends = λ placed. ends_behind v.terms.shape i key quiet.added.references once.added.references
        (subst (λ (t : Terms Shape). EndsOnLeaf t.shape (AreWayTo t.shape i key)
        once.added.references) quiet.adds.numbers.terms (next.ends placed));
  }

-- a try with a leaf in hand, to which a way led
module _ (p p0 q : TreePass) (i : ℕ) (key : FieldList) (value : List ℕ) (ask : Ask) (leaf : Leaf)
    (went : ComesToLeaf (AreWayTo (shape_of_pass p) i key) p i key leaf p0) where
  abbrev found : Finding
  found = AreWayTo (shape_of_pass p) i key

  quiet_to : (between : TreePass) → LooksAndLeaves p0 leaf.block i between
      → IsQuiet (view p) (view between) i
  quiet_to between left = (looks_found found p p0 between i key leaf went left).quiet

  -- it was answered
  pub way_tells : (told : Told) → AnswersWrite p0 leaf.block i key value ask told q
      → TellsAgain (view p) (view q) i key ask told
  way_tells told (inl answers) =
      let tells = tells_found found p p0 q i key leaf went ask told (lent_row None) answers in
      record { tells = tells.tells; ends = λ placed. tells.ends }
  way_tells told (inr later) = quiet_then_again (view p) (view later.between) (view q) i key ask told
      (quiet_to later.between later.left.left) later.again

  -- or is to be tried again
  pub way_quiet : MakesRoomThen p0 leaf.block i key value q → IsQuiet (view p) (view q) i
  way_quiet made = quiet_both (view p) (view made.between) (view q) i
      (quiet_to made.between made.left.left) made.quiet

  -- or was given up
  pub way_unanswered : LeavesUnanswered p0 leaf.block i key value q → IsQuiet (view p) (view q) i
  way_unanswered left = elim left.after [
    | inl same ↦ subst (λ (z : TreePass). IsQuiet (view p) (view z) i) (sym same)
        (quiet_to left.between left.left)
    | inr later ↦ quiet_both (view p) (view left.between) (view q) i
        (quiet_to left.between left.left) later.1
  ]

-- the leaf in hand had no room for the row, and room was made, or there was no page for it
module _ (p0 p2 q : TreePass) (b i : ℕ) (key : FieldList) (value : List ℕ) (ask : Ask)
    (full : LeavesFull p0 b i key value p2) where
  pub grown_ok : (result : Result (Option Told) NoMemory)
      → IfOk result (λ told. TellsGrowth (view p2) (view q) i ask told)
      → IfOk result (λ told. TriesWrite p0 b i key value ask told q)
  grown_ok (Ok None) grows = record { between = p2; left = full; quiet = grows }
  grown_ok (Ok (Some told)) grows = inr (record {
    between = p2;
    left = full;
    again = lacks_again (view p2) (view q) i key ask told grows;
  })
  grown_ok (Err e) grows = tt

  pub grown_err : (result : Result (Option Told) NoMemory)
      → OnErr result (IsQuiet (view p2) (view q) i)
      → OnErr result (LeavesUnanswered p0 b i key value q)
  grown_err (Ok told) quiet = tt
  grown_err (Err e) quiet =
      record { between = p2; left = full.left; after = inr (full.full, quiet) }

-- the first try made room, and then the write was answered, or given up
module _ (p0 q0 q : TreePass) (b i : ℕ) (key : FieldList) (value : List ℕ) (ask : Ask)
    (made : MakesRoomThen p0 b i key value q0) where
  pub again_ok : (result : Result Told NoMemory)
      → IfOk result (λ told. TellsAgain (view q0) (view q) i key ask told)
      → IfOk result (λ told. AnswersWrite p0 b i key value ask told q)
  again_ok (Ok told) again = inr (record {
    between = made.between;
    left = made.left;
    again = quiet_then_again (view made.between) (view q0) (view q) i key ask told made.quiet again;
  })
  again_ok (Err e) again = tt

  pub again_err : (result : Result Told NoMemory) → OnErr result (IsQuiet (view q0) (view q) i)
      → OnErr result (LeavesUnanswered p0 b i key value q)
  again_err (Ok told) quiet = tt
  again_err (Err e) quiet = record {
    between = made.between;
    left = made.left.left;
    after = inr (
      made.left.full,
      quiet_both (view made.between) (view q0) (view q) i made.quiet quiet,
    );
  }

-- a whole write, of which the first leaf was found by a search
module _ (p p0 q : TreePass) (i : ℕ) (key : FieldList) (value : List ℕ) (leaf : Leaf) (how : How)
    (went : ComesToLeaf (IsFoundBy (shape_of_pass p) i key how) p i key leaf p0) where
  abbrev searched : Finding
  searched = IsFoundBy (shape_of_pass p) i key how

  full_at : (f g : Frame) → f ≡ g → (p1 : TreePass) → (view p1).terms ≡ (view p).terms
      → IsFullLeaf (shape_of_pass p1) i key value f → IsFullLeaf (shape_of_pass p) i key value g
  full_at f g same p1 terms full = subst (IsFullLeaf (shape_of_pass p) i key value) same
      (subst (λ (t : Terms Shape). IsFullLeaf t.shape i key value f) terms full)

  -- it was answered by that leaf
  pub search_answers : (ask : Ask) (told : Told) → told.how ≡ how
      → AnswersAndLeaves p0 leaf.block i ask told (lent_row None) q
      → TellsOfWrite (view p) (view q) i key value ask told (lent_row None)
  search_answers ask told by answers =
      let tells = tells_found searched p p0 q i key leaf went ask told (lent_row None) answers in
      record {
        tells = tells.tells;
        way = tells.tells.once.added.references;
        later = [];
        added = sym (append-nil tells.tells.once.added.references);
        ends = (ends_told (shape_of_pass p) i key told.how how by tells.tells.once.added.references
            tells.ends).0;
        after = inl (refl, tells.placed, tells.spares);
      }

  -- or later, since that had no room
  pub search_answers_later : (ask : Ask) (told : Told) → (by : told.how ≡ how)
      → AnswersAgain p0 leaf.block i key value ask told q
      → TellsOfWrite (view p) (view q) i key value ask told (lent_row None)
  unfolding quiet_then_once
  search_answers_later ask told by later =
      let looks = looks_found searched p p0 later.between i key leaf went later.left.left in
      let once = later.again.tells.once in
      let terms = looks.quiet.adds.numbers.terms in
      let full = full_at later.left.left.gave.frame looks.ends.leaf looks.leaf_is p0
      went.silently.does.adds.numbers.terms later.left.full in
      let ends = ends_told (shape_of_pass p) i key told.how how by looks.quiet.added.references
      looks.ends in
      record {
        tells = record {
          answer = later.again.tells.answer;
          is_told = later.again.tells.is_told;
          once = quiet_then_once i ask later.again.tells.answer (view p) (view later.between)
              (view q) looks.quiet once;
        };
        way = looks.quiet.added.references;
        later = once.added.references;
        added = refl;
        ends = ends.0;
        after = inr (
          subst (IsFullLeaf (shape_of_pass p) i key value) ends.1 full,
          λ placed. subst (λ (t : Terms Shape). EndsOnLeaf t.shape (AreWayTo t.shape i key)
              once.added.references) terms (later.again.ends placed),
        );
      }

  pub search_then_write : (ask : Ask) (result : Result Told NoMemory)
      → IfOk result (λ told. told.how ≡ how)
      → IfOk result (λ told. AnswersWrite p0 leaf.block i key value ask told q)
      → IfOk result (λ told. TellsOfWrite (view p) (view q) i key value ask told (lent_row None))
  search_then_write ask (Ok told) by (inl answers) = search_answers ask told by answers
  search_then_write ask (Ok told) by (inr later) = search_answers_later ask told by later
  search_then_write ask (Err e) by answers = tt

  -- it was given up, and that was all
  gives_up_here : (l m : Knows) → TriesAfter l i how m → (between : TreePass)
      → LooksAndLeaves p0 leaf.block i between → GivesUp (view p) (view between) l m i key value
  gives_up_here l m tried between left =
      let looks = looks_found searched p p0 between i key leaf went left in record {
        quiet = looks.quiet;
        how = how;
        tried = tried;
        way = looks.quiet.added.references;
        later = [];
        added = sym (append-nil looks.quiet.added.references);
        ends = looks.ends;
        after = inl (refl, looks.spares);
      }

  -- or once room was tried to be made
  gives_up_later : (l m : Knows) → TriesAfter l i how m → (between : TreePass)
      → (left : LooksAndLeaves p0 leaf.block i between)
      → IsFullLeaf (shape_of_pass p0) i key value left.gave.frame
      → IsQuiet (view between) (view q) i → GivesUp (view p) (view q) l m i key value
  unfolding quiet_both
  gives_up_later l m tried between left full quiet =
      let looks = looks_found searched p p0 between i key leaf went left in record {
        quiet = quiet_both (view p) (view between) (view q) i looks.quiet quiet;
        how = how;
        tried = tried;
        way = looks.quiet.added.references;
        later = quiet.added.references;
        added = refl;
        ends = looks.ends;
        after = inr (full_at left.gave.frame looks.ends.leaf looks.leaf_is p0
            went.silently.does.adds.numbers.terms full);
      }

  pub search_then_gives_up : (l m : Knows) → TriesAfter l i how m
      → (result : Result Told NoMemory)
      → OnErr result (LeavesUnanswered p0 leaf.block i key value q)
      → OnErr result (GivesUp (view p) (view q) l m i key value)
  search_then_gives_up l m tried (Ok told) left = tt
  search_then_gives_up l m tried (Err e) left = elim left.after [
    | inl same ↦ subst (λ (z : TreePass). GivesUp (view p) (view z) l m i key value) (sym same)
        (gives_up_here l m tried left.between left.left)
    | inr later ↦ gives_up_later l m tried left.between left.left later.0 later.1
  ]
