-- What a whole call leaves behind: a leaf was found, something was said, and it was given back.
use Rattle.std.proofs.Common.{◌≡◌, ◌≢◌, ℕ, List, [], ◌∷◌, ◌++◌, append-nil, ap, subst, ◌∙◌, refl}
use Rattle.key_tuple.specs.Order.{FieldList}
use Rattle.latch_law.specs.declared.knows.Reference.{Reference}
use Rattle.latch_law.specs.declared.knows.Terms.{Terms}
use Rattle.latch_law.specs.Views.{holding}
use Rattle.latch_law.specs.Whole.{reference}
use Rattle.latch_space.specs.Passes.{view}
use Rattle.map_history.specs.declared.reply.Reply.TheVariants as words
use Rattle.map_history.specs.declared.reply.Told.{Told}
use Rattle.map_history.specs.Map.{Pair}
use Rattle.map_history.specs.Operation.{Ask}
use Rattle.index_law.specs.Shape.{Shape}
use Rattle.forest_law.specs.declared.objects.Frame.{Frame}
use Rattle.forest_law.specs.declared.objects.Object.{Object}
use Rattle.forest_law.specs.declared.objects.Object.TheVariants as object
use Rattle.forest_law.specs.Numbers.{frame_id}
use Rattle.forest_world.specs.Held.{TreePass, shape_of_pass}
use Rattle.call_law.specs.Spoken.{View}
use Rattle.call_law.specs.Trace.{Added, Adds, SparesTrees, frame_references}
use Rattle.call_law.proofs.TraceLemmas.{both_added, quiet_of, quiet_then_once, once_then_silent}
use Rattle.buffer_pool.specs.AsTaken.{AreAsTaken}
use Rattle.buffer_pool.specs.Frames.{GivesFrame}
use Rattle.buffer_pool.specs.Pages.{HasNumber}
use Rattle.buffer_pool.proofs.AddedLemmas.{only_given, gave_adds, frame_no_tree, given_spares, spares_both}
use Rattle.buffer_pool.proofs.AsTakenLemmas.{frames_as_taken}
use Rattle.tree_descent.specs.declared.descending.Leaf.{Leaf}
use Rattle.leaf_changes.specs.Holds.{KeepsNumber}
use Rattle.leaf_changes.specs.Says.{AnswersAndLeaves}
use Rattle.index_engine.specs.Leaving.{ComesToLeaf}
use Rattle.leaf_changes.specs.Says.{SparesPages}
use Rattle.engine_law.specs.Tells.{TellsOnce}
use Rattle.index_engine.specs.Traces.{Finding, EndsOnLeaf}
use Rattle.engine_law.proofs.FrameTraceLemmas.{frames_both}
use Rattle.engine_law.proofs.KnownLemmas.{page_number}

module _ (found : Finding) (p p0 p1 p2 : TreePass) (i : ℕ) (key : FieldList) (leaf : Leaf)
    (went : ComesToLeaf found p i key leaf p0) (gave : GivesFrame p1 leaf.block p2) where
  abbrev pub shape : Shape
  shape = shape_of_pass p

  -- the number of the leaf's page, as it was found
  abbrev pub leaf_number : ℕ
  leaf_number = went.is.page.is.page.head.number

  -- it is so still where that was kept
  pub number_kept : KeepsNumber (view p0) leaf.block gave.frame → HasNumber gave.frame leaf_number
  number_kept keeps =
      keeps went.frame leaf_number went.knows (page_number went.frame i 0 went.is.page.is)

  -- what the search added, and the reference to the leaf
  abbrev pub way : Added
  way = went.silently.added

  abbrev pub back : Added
  back = only_given (frame_id (shape_of_pass p1) leaf.block) gave.taken (object.Frame gave.frame)

  pub back_adds : Adds (view p1) (view p2) back
  back_adds = gave_adds (view p1) (view p2) (frame_id (shape_of_pass p1) leaf.block)
      (holding gave.taken (object.Frame gave.frame)) gave.view

  module _ (s : Added) (beside : SparesPages (shape_of_pass p) s)
      (terms : (view p1).terms ≡ (view p).terms) where
    -- with what was said while the leaf was held
    abbrev pub all_added : Added
    all_added = both_added (both_added way s) back

    pub spares_all : SparesTrees shape all_added
    spares_all = spares_both shape (both_added way s) back
        (spares_both shape way s went.silently.does.spares beside.trees)
        (subst (λ (t : Terms Shape). SparesTrees t.shape back) terms
        (given_spares (shape_of_pass p1) (frame_id (shape_of_pass p1) leaf.block) gave.taken
        (object.Frame gave.frame) (frame_no_tree (shape_of_pass p1) leaf.block)))

    -- the references are those of the search, those beside, and the leaf's
    pub references_are : all_added.references
        ≡ (way.references ++ s.references)
        ++ reference (frame_id shape leaf.block) gave.taken (object.Frame gave.frame) ∷ []
    references_are = ap (λ (t : Terms Shape). (way.references ++ s.references)
        ++ reference (frame_id t.shape leaf.block) gave.taken (object.Frame gave.frame) ∷ []) terms

    -- and so are those of frames, by the search's
    pub frames_are : frame_references all_added.references
        ≡ frame_references way.references
        ++ reference (frame_id shape leaf.block) gave.taken (object.Frame gave.frame) ∷ []
    frames_are =
        let last = reference (frame_id shape leaf.block) gave.taken (object.Frame gave.frame)
        ∷ [] in
        ap (λ (z : List (Reference Object)). frame_references z) references_are
        ∙ (frames_both (way.references ++ s.references) last
        ∙ ap (λ z. z ++ last) (frames_both way.references s.references
        ∙ ((λ k. frame_references way.references ++ beside.frames k)
        ∙ append-nil (frame_references way.references))))

    unfoldable pub ends_all : KeepsNumber (view p0) leaf.block gave.frame
        → EndsOnLeaf shape found all_added.references
    ends_all keeps = record {
      before = frame_references way.references;
      block = leaf.block;
      taken = gave.taken;
      leaf = gave.frame;
      is = frames_are;
      number = leaf_number;
      has = number_kept keeps;
      came = went.came;
    }

-- what is told by a leaf that was found so, and which references the leaf's ends
pub record TellsFound (found : Finding) (v v' : View) (i : ℕ) (ask : Ask) (told : Told) (row : Pair)
    (taken : Object) (leaf : Frame) : Type 0 where
  pub tells : TellsOnce v v' i ask told row
  pub ends : EndsOnLeaf v.terms.shape found tells.once.added.references
  pub taken_is : taken ≡ ends.taken
  pub leaf_is : leaf ≡ ends.leaf
  pub as_taken : AreAsTaken ends.before
  pub spares : SparesTrees v.terms.shape tells.once.added
  pub placed : told.reply ≢ words.SpaceFull

-- the answer was told by the leaf in hand
unfoldable pub tells_found : (found : Finding) (p p0 p2 : TreePass) (i : ℕ) (key : FieldList)
    (leaf : Leaf) → ComesToLeaf found p i key leaf p0 → (ask : Ask) (told : Told) (row : Pair)
    → (answers : AnswersAndLeaves p0 leaf.block i ask told row p2)
    → TellsFound found (view p) (view p2) i ask told row answers.gave.taken answers.gave.frame
unfolding quiet_of quiet_then_once once_then_silent ends_all
tells_found found p p0 p2 i key leaf went ask told row answers =
    let p1 = answers.between in let gave = answers.gave in let says = answers.says in
    let terms = says.once.adds.numbers.terms ∙ went.silently.does.adds.numbers.terms in
    let added = went.silently.added in
    let quiet = quiet_of (view p) (view p0) i added went.silently.does.adds went.silently.silent in
    let once = quiet_then_once i ask says.answer (view p) (view p0) (view p1) quiet says.once in
    let beside = subst (λ (t : Terms Shape). SparesPages t.shape says.once.added)
    went.silently.does.adds.numbers.terms says.beside in
    record {
      tells = record {
        answer = says.answer;
        is_told = says.is_told;
        once = once_then_silent i ask says.answer (view p) (view p1) (view p2)
            (back found p p0 p1 p2 i key leaf went gave) once
            (back_adds found p p0 p1 p2 i key leaf went gave) refl
            (ap (λ (z : View). z.seen) gave.view);
      };
      ends = ends_all found p p0 p1 p2 i key leaf went gave says.once.added beside terms
          answers.number;
      taken_is = refl;
      leaf_is = refl;
      as_taken = frames_as_taken added.references went.as_taken;
      spares = spares_all found p p0 p1 p2 i key leaf went gave says.once.added beside terms;
      placed = says.placed;
    }
