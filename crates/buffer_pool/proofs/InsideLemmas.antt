-- Frames and images that have no page outside the trees.
use Rattle.std.proofs.Common.{◌≡◌, ◌≢◌, ℕ, [], ◌∷◌, inl, inr, sym, ap, subst, ◌∙◌, arith, false, Some, None}
use Rattle.std.proofs.lemmas.Bool.{cases_eq}
use mathlib.Core.Option.{some}
use lib.ListN.{get_elem?}
use Rattle.list_facts.proofs.Places.{same_some}
use Rattle.latch_law.specs.declared.knows.Holding.{Holding}
use Rattle.latch_law.specs.Rule.{Holds}
use Rattle.latch_law.specs.Views.{holding, knowns}
use Rattle.latch_law.proofs.Lists.{known_at, known_back}
use Rattle.latch_space.specs.Passes.{view}
use Rattle.index_page.specs.Page.{PageRows}
use Rattle.index_law.specs.Shape.{Shape}
use Rattle.tree_law.specs.Pages.{is_own}
use Rattle.forest_law.specs.declared.objects.Frame.{Frame}
use Rattle.forest_law.specs.declared.objects.Stored.{Stored}
use Rattle.forest_law.specs.declared.objects.Object.{Object}
use Rattle.forest_law.specs.declared.objects.Object.TheVariants as object
use Rattle.forest_law.specs.Law.{IsLawful}
use Rattle.forest_law.specs.Numbers.{pool_id, frame_id}
use Rattle.forest_law.specs.Outside.{HasNoOutside}
use Rattle.forest_law.specs.State.{ForestState, image_at, images}
use Rattle.forest_law.proofs.HolderLemmas.{outside_is_held}
use Rattle.forest_law.proofs.ObjectLemmas.{same_frame}
use Rattle.forest_world.specs.Held.{TreePass, shape_of_pass}
use Rattle.call_law.specs.Hands.{KnowsFrame, HoldsTheRest, HoldsNoOutside}
use Rattle.buffer_pool.specs.Forests.{TreeView, WasFrame}
use Rattle.buffer_pool.proofs.FrameLemmas.{one_held}

-- a frame that was taken has none
pub taken_inside : (v : TreeView) (b : ℕ) (f : Frame) → WasFrame v b f → HasNoOutside f
taken_inside v b f was = outside_is_held.frames was.whole was.is_lawful b f was.at was.free

-- and an image is of none
pub image_inside : (w : ForestState) → IsLawful w → (n : ℕ) (s : Stored)
    → image_at (images w.objects) n ≡ Some s → is_own n s.page.head.prev ≡ false
image_inside w law n s at = outside_is_held.images w law n s at

none_is_some : (page : PageRows) → None ≡ Some page → ⊥
none_is_some page e = absurd cc

-- a frame without a page has none
pub empty_inside : (f : Frame) → f.page ≡ None → HasNoOutside f
empty_inside f empty page paged = absurd (none_is_some page (sym empty ∙ paged))

-- and neither has one with such a page
pub page_inside : (f : Frame) (page : PageRows) → f.page ≡ Some page
    → is_own page.head.number page.head.prev ≡ false → HasNoOutside f
page_inside f page paged tree other at = subst
    (λ (r : PageRows). is_own r.head.number r.head.prev ≡ false)
    (same_some page other (sym paged ∙ at)) tree

-- no frame in hand has one, where none had and one came that has no page
module _ (p q : TreePass) (b : ℕ) (f : Frame) (knows : KnowsFrame (view q) b f)
    (empty : f.page ≡ None) (same : shape_of_pass q ≡ shape_of_pass p)
    (rest : HoldsTheRest (view p) (view q) (pool_id ∷ frame_id (shape_of_pass p) b ∷ [])) where
  -- the block's frame has no page
  not_here : (g : Frame) (page : PageRows) → g.page ≡ Some page → (h : Holding Object)
      → Holds (view q) (frame_id (shape_of_pass q) b) h → h.known ≡ object.Frame g → ⊥
  not_here g page paged h held is =
      let one = one_held q (frame_id (shape_of_pass q) b) h
      (holding knows.0 (object.Frame f)) held knows.1 in
      let frame : g ≡ f = same_frame g f (sym is ∙ ap (λ (z : Holding Object). z.known) one) in
      none_is_some page (sym empty ∙ (ap (λ (z : Frame). z.page) (sym frame) ∙ paged))

  -- and another was in hand before
  was_there : (c : ℕ) (g : Frame) → c ≢ b → (h : Holding Object)
      → Holds (view q) (frame_id (shape_of_pass q) c) h → h.known ≡ object.Frame g
      → get_elem? (knowns (view p).held) (frame_id (shape_of_pass p) c)
      ≡ some (Some (object.Frame g))
  was_there c g differs h held is = let k = frame_id (shape_of_pass p) c in
      known_at (view p).held k h
      (sym (rest k ((λ e. omega (arith, e)), ((λ e. differs (omega (arith, e))), tt)))
      ∙ (ap (λ (s : Shape). get_elem? (view q).held (frame_id s c)) (sym same) ∙ held))
      ∙ ap (λ z. some (Some z)) is

  pub inside_still : HoldsNoOutside (view p) → HoldsNoOutside (view q)
  inside_still inside n out =
      let back = known_back (view q).held (frame_id (shape_of_pass q) out.block)
      (object.Frame out.hand.frame) out.hand.at in
      elim (cases_eq out.block b) [
        | inl e ↦ not_here out.hand.frame out.hand.has.rows out.hand.has.paged back.0
            (subst (λ c. Holds (view q) (frame_id (shape_of_pass q) c) back.0) e back.1) back.2
        | inr ne ↦ inside n (record {
          block = out.block;
          page = out.page;
          hand = record {
            frame = out.hand.frame;
            at = was_there out.block out.hand.frame ne back.0 back.1 back.2;
            has = out.hand.has;
          };
          own = out.own;
        })
      ]
