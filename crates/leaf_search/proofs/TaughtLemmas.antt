-- What a lesson leaves of the frame of its leaf.
use Rattle.std.proofs.Common.{◌≡◌, ℕ, true, false, List, sym, ap, subst, ◌∙◌}
use Rattle.latch_law.specs.declared.knows.Holding.{Holding}
use Rattle.latch_law.specs.declared.knows.Reference.{Reference}
use Rattle.latch_law.specs.declared.knows.Terms.{Terms}
use Rattle.latch_law.specs.Rule.{Holds}
use Rattle.latch_law.specs.Views.{holding}
use Rattle.latch_space.specs.Passes.{view}
use Rattle.learning.specs.declared.event.BlockFigures.{BlockFigures}
use Rattle.learning.specs.declared.event.Figures.{Figures}
use Rattle.map_history.specs.declared.columns.Note.{Note}
use Rattle.search_info.specs.declared.knows.Knows.{Knows}
use Rattle.search_info.specs.declared.outcome.Learn.{Learn}
use Rattle.search_info.specs.declared.outcome.Learn.TheVariants.{Learnt, Raced, Worn}
use Rattle.index_page.specs.Page.{PageRows}
use Rattle.index_law.specs.Shape.{Shape}
use Rattle.forest_law.specs.declared.objects.Frame.{Frame}
use Rattle.forest_law.specs.declared.objects.Object.{Object}
use Rattle.forest_law.specs.declared.objects.Object.TheVariants as object
use Rattle.forest_law.specs.Numbers.{frame_id}
use Rattle.forest_law.proofs.ObjectLemmas.{same_frame}
use Rattle.forest_world.specs.Held.{TreePass, shape_of_pass}
use Rattle.buffer_pool.specs.AsTaken.{HoldsAsTaken, KeptPage}
use Rattle.buffer_pool.proofs.FrameLemmas.{one_held}
use Rattle.leaf_search.specs.Lessons.{EndsLesson, Teaches}
use Rattle.leaf_search.specs.Taught.{IsAsTaught, IsTaught, helps_left}

-- the helps after a lesson, and the advice
lesson_figures : (p : TreePass) (i b : ℕ) (f : Frame) (page : PageRows) (block : BlockFigures)
    (learn : Learn) (told : Note) (g : Frame) (given : List (Reference Object))
    → EndsLesson p i b f page block learn told g given
    → (g.figures.helps ≡ helps_left learn block) × (g.figures.advice ≡ block.advice)
lesson_figures p i b f page block (Learnt before after true) told g given ends = (
  ap (λ (z : Frame). z.figures.helps) ends.becomes,
  ap (λ (z : Frame). z.figures.advice) ends.becomes,
)
lesson_figures p i b f page block (Learnt before after false) told g given ends = (
  ap (λ (z : Frame). z.figures.helps) ends.1.becomes,
  ap (λ (z : Frame). z.figures.advice) ends.1.becomes,
)
lesson_figures p i b f page block (Raced read found) told g given ends = (
  ap (λ (z : Frame). z.figures.helps) ends.1.becomes,
  ap (λ (z : Frame). z.figures.advice) ends.1.becomes,
)
lesson_figures p i b f page block Worn told g given ends = (
  ap (λ (z : Frame). z.figures.helps) ends.1.becomes,
  ap (λ (z : Frame). z.figures.advice) ends.1.becomes,
)

module _ (q r : TreePass) (l m : Knows) (i b : ℕ) (figures : Figures) (told : Note)
    (taught : Teaches q l i b figures told r m) where
  -- the leaf's frame is as the lesson left it
  pub leaf_is_taught : IsTaught (shape_of_pass q) i m taught.leaf.frame taught.new
  leaf_is_taught = let so = lesson_figures q i b taught.leaf.frame taught.leaf.is.page
      taught.block taught.learn told taught.new taught.given taught.ends in
      record {
        page = taught.leaf.is.page;
        paged = taught.leaf.is.paged;
        same = taught.same;
        read = l;
        figures = figures;
        learn = taught.learn;
        block = taught.block;
        counts = taught.counts;
        helps = so.0;
        advice = so.1;
      }

  same_shape : shape_of_pass r ≡ shape_of_pass q
  same_shape = ap (λ (t : Terms Shape). t.shape) taught.becomes.does.adds.numbers.terms

  -- one that kept its page since it was taken, and was as it was taken before the lesson
  pub new_is_taught : HoldsAsTaken (view q) b
      → IsAsTaught (shape_of_pass q) i m taught.becomes.taken (object.Frame taught.new)
  new_is_taught before f g was now kept =
      let is : taught.new ≡ g = same_frame taught.new g now in
      let kept_then : KeptPage f taught.leaf.frame = record {
        was = kept.was;
        had = kept.had;
        is = kept.is;
        has = sym taught.same.page ∙ (ap (λ (z : Frame). z.page) is ∙ kept.has);
        number = kept.number;
      } in
      let same : taught.leaf.frame ≡ f =
      before (holding taught.becomes.taken (object.Frame taught.leaf.frame)) taught.becomes.was f
      taught.leaf.frame was (λ j. object.Frame taught.leaf.frame) kept_then in
      subst (λ (z : Frame). IsTaught (shape_of_pass q) i m f z) is
      (subst (λ (z : Frame). IsTaught (shape_of_pass q) i m z taught.new) same leaf_is_taught)

  -- so it is with the frame as it is held then
  pub holds_as_taught : HoldsAsTaken (view q) b → (h : Holding Object)
      → Holds (view r) (frame_id (shape_of_pass r) b) h
      → IsAsTaught (shape_of_pass q) i m h.taken h.known
  holds_as_taught before h held = subst
      (λ (z : Holding Object). IsAsTaught (shape_of_pass q) i m z.taken z.known)
      (one_held r (frame_id (shape_of_pass r) b)
      (holding taught.becomes.taken (object.Frame taught.new)) h
      (subst (λ (s : Shape). Holds (view r) (frame_id s b)
      (holding taught.becomes.taken (object.Frame taught.new))) (sym same_shape)
      taught.becomes.is) held) (new_is_taught before)
