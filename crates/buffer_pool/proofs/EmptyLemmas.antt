-- The victim's frame, and the room that there is once its page is gone.
use Rattle.std.proofs.Common.{◌≡◌, ℕ, [], ◌∷◌, sym, subst, ◌∙◌, refl, arith, true, false, Option, Some, None, is_some}
use Rattle.latch_law.specs.Rule.{Holds}
use Rattle.latch_law.specs.Views.{holding}
use Rattle.latch_space.specs.Passes.{view}
use Rattle.index_page.specs.Page.{PageRows}
use Rattle.index_law.specs.Shape.{Shape}
use Rattle.forest_law.specs.declared.objects.Frame.{Frame}
use Rattle.forest_law.specs.declared.objects.Pool.{Pool}
use Rattle.forest_law.specs.declared.objects.Object.{Object}
use Rattle.forest_law.specs.declared.objects.Object.TheVariants as object
use Rattle.forest_law.specs.Numbers.{pool_id, frame_id}
use Rattle.forest_world.specs.Held.{TreePass, shape_of_pass}
use Rattle.call_law.specs.Hands.{HoldsNoPart}
use Rattle.buffer_pool.specs.Calls.{Does}
use Rattle.buffer_pool.specs.Forests.{IsFittedTree}
use Rattle.buffer_pool.specs.Pages.{HasNumber}
use Rattle.buffer_pool.specs.Tries.{tries_and_given, KnowsPool, HoldsPoolAndFrame}
use Rattle.buffer_pool.specs.Turning.{EmptiesFrame}
use Rattle.buffer_pool.specs.Victims.{HoldsVictim, HoldsRoom}
use Rattle.buffer_pool.proofs.AsTakenLemmas.{still_taken}
use Rattle.buffer_pool.proofs.KnownLemmas.{named_number, frame_named}
use Rattle.buffer_pool.proofs.AddedLemmas.{parts_still}
use Rattle.buffer_pool.proofs.GivingLemmas.{giving_none, giving_both}
use Rattle.buffer_pool.proofs.VictimLemmas.{tries_none, tries_among, tries_shape, tried_left}

-- a frame has a page, or none
pub page_of_some : (o : Option PageRows) → is_some o ≡ true → (page : PageRows) × (o ≡ Some page)
page_of_some (Some page) is = (page, refl)
page_of_some None is = absurd (no is)
  where
    no : false ≡ true → ⊥
    no e = absurd cc

pub page_of_none : (o : Option PageRows) → is_some o ≡ false → o ≡ None
page_of_none None is = refl
page_of_none (Some page) is = absurd (no is)
  where
    no : true ≡ false → ⊥
    no e = absurd cc

-- a frame without a page is as it is to be
pub empties_itself : (p : TreePass) (b : ℕ) (t : Object) (x : Pool) (f : Frame)
    → HoldsPoolAndFrame p b t x f → IsFittedTree (view p) → f.page ≡ None
    → EmptiesFrame p b t x p
empties_itself p b t x f both fitted empty = record {
  pool = x;
  frame = f;
  tries = giving_none p p (pool_id ∷ frame_id (shape_of_pass p) b ∷ [])
      (tries_among p p [] (pool_id ∷ frame_id (shape_of_pass p) b ∷ []) (λ j apart. tt)
      (tries_none p both.known));
  both = both;
  taken = still_taken p b f both.frame;
  count = refl;
  empty = empty;
  clears = record {
    gone = λ m named. absurd (none_is_some
        (named_number fitted.whole fitted.is_lawful (view p) fitted.fits t x both.pool b f
        both.frame m named) empty);
    keeps = λ m other. refl;
    ages = refl;
    tick = refl;
  };
}
  where
    none_is_some : {m : ℕ} → HasNumber f m → f.page ≡ None → ⊥
    none_is_some has none = absurd (never has.page (sym none ∙ has.paged))
      where
        never : (page : PageRows) → None ≡ Some page → ⊥
        never page e = absurd cc

-- the victim's frame and the pool are held
module _ (p q : TreePass) (x : Pool) (b : ℕ) (victim : HoldsVictim p x b q) (t : Object)
    (held : KnowsPool (view p) t x) where
  pub victim_both : HoldsPoolAndFrame q b t x victim.holds.frame
  victim_both = assumption (victim.holds.tries.does.rest pool_id ((λ e. omega (arith, e)), tt) ∙ held)

  victim_shape : shape_of_pass q ≡ shape_of_pass p
  victim_shape = tries_shape p q (frame_id (shape_of_pass p) b ∷ []) victim.holds.tries

  -- and no partition, as before
  pub victim_parts : HoldsNoPart (view p) → HoldsNoPart (view q)
  victim_parts = parts_still (view p) (view q) (frame_id (shape_of_pass p) b ∷ [])
      victim.holds.tries.does.adds.numbers victim.holds.tries.does.rest
      (λ k below. ((λ e. omega (arith, e, below)), tt))

  -- and there is room once its page is gone
  pub holds_room : IsFittedTree (view q) → (r : TreePass) → EmptiesFrame q b t x r
      → HoldsRoom p b t x r
  holds_room fitted r emptied =
      let ks = pool_id ∷ frame_id (shape_of_pass p) b ∷ [] in
      record {
        tries = giving_both p q r ks
            (giving_none p q ks
            (tries_among p q (frame_id (shape_of_pass p) b ∷ []) ks
            (λ j apart. (apart.1.0, tt)) victim.holds.tries))
            (record {
              refused = emptied.tries.refused;
              references = emptied.tries.references;
              parts = emptied.tries.parts;
              does = subst
                  (λ (s : Shape). Does q r (pool_id ∷ frame_id s b ∷ [])
                  (tries_and_given emptied.tries.refused emptied.tries.references)) victim_shape
                  emptied.tries.does;
            });
        took = λ c below before lacks. tried_left (frame_id (shape_of_pass p) c)
            victim.holds.tries.refused emptied.tries.refused
            (victim.took c below before lacks);
        lacked = victim.holds.lacked;
        pool = emptied.pool;
        knew = emptied.both.pool;
        clears = emptied.clears;
        frame = emptied.frame;
        knows = emptied.both.frame;
        was = victim.holds.frame;
        taken = subst
            (λ (s : Shape). Holds (view r) (frame_id s b)
            (holding (object.Frame victim.holds.frame) (object.Frame emptied.frame)))
            victim_shape
            (emptied.taken
            (holding (object.Frame victim.holds.frame) (object.Frame victim.holds.frame))
            (subst
            (λ (s : Shape). Holds (view q) (frame_id s b)
            (holding (object.Frame victim.holds.frame) (object.Frame victim.holds.frame)))
            (sym victim_shape) victim.holds.taken));
        named = λ page paged.
            frame_named fitted.whole fitted.is_lawful (view q) fitted.fits t x victim_both.pool b
            victim.holds.frame victim.holds.knows page paged;
        empty = emptied.empty;
        count = (let a = emptied.count in let e = victim.holds.count in omega (arith, a, e));
      }
