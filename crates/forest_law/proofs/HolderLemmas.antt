-- Pages outside the trees where objects are taken and given back, and what a lawful state tells.
use Rattle.std.proofs.Common.{◌≡◌, ◌≢◌, ℕ, ◌+◌, Bool, true, false, sym, ap, subst, ◌∙◌, arith, refl, Option, Some}
use mathlib.Core.Option.{some, some-injective}
use lib.ListN.{get_elem?}
use Rattle.atomic_table.proofs.Lists.{set_else}
use Rattle.list_facts.proofs.Places.{same_some}
use Rattle.latch_law.specs.Whole.{IsFree, IsHeldBy, latched}
use Rattle.tree_law.specs.Pages.{Page, is_own}
use Rattle.forest_law.specs.declared.objects.Frame.{Frame}
use Rattle.forest_law.specs.declared.objects.Stored.{Stored}
use Rattle.forest_law.specs.declared.objects.Where.TheVariants.{InFrame, Image}
use Rattle.forest_law.specs.declared.objects.Object.{Object}
use Rattle.forest_law.specs.declared.objects.Object.TheVariants as object
use Rattle.forest_law.specs.Numbers.{frame_id}
use Rattle.forest_law.specs.State.{ForestState, page_within, page_if, where_at, places, pages_of, image_at, images}
use Rattle.forest_law.specs.Objects.{IsFrameOf}
use Rattle.forest_law.specs.Law.{IsLawful}
use Rattle.forest_law.specs.Outside.{IsHeldOutside, AreOutsideHeld, HasNoOutside, MayGoBack}
use Rattle.forest_law.specs.OutsideLaws.{OutsideIsHeld}
use Rattle.forest_law.proofs.ObjectLemmas.{same_block}
use Rattle.forest_law.proofs.FramePageLemmas.{frame_tells}
use Rattle.forest_law.proofs.ImageLemmas.{image_tells}
use Rattle.forest_law.proofs.OneOutsideLemmas.{not_outside}
use Rattle.forest_law.proofs.OutsideLemmas.{framed_page}

-- where no page is outside the trees, none has to be held
pub none_outside : (w : ForestState)
    → ((n : ℕ) (page : Page) → pages_of w.shape w.objects n ≡ Some page
    → is_own n page.prev ≡ false) → AreOutsideHeld w
none_outside w none = record {
  held = λ n page is own. not_outside n page.prev (none n page is) own;
  one = λ n m name o p. not_outside n o.page.prev (none n o.page o.is) o.own;
}

-- what is free nobody holds
free_not_held : (w : ForestState) (k name : ℕ) → IsFree w k → IsHeldBy w k name → ⊥
free_not_held w k name free held =
    let same : 0 ≡ name + 1 = some-injective 0 (name + 1) (sym free ∙ held) in omega (arith, same)

-- no frame of this number has a page outside the trees
abbrev OutsideIsElsewhere : ForestState → ℕ → Type 0
OutsideIsElsewhere w k = (n b : ℕ) (page : Page) → where_at (places w.objects) n ≡ InFrame b
    → pages_of w.shape w.objects n ≡ Some page → is_own n page.prev ≡ true → frame_id w.shape b ≢ k

module _ (w : ForestState) (k v : ℕ) (outside : AreOutsideHeld w)
    (away : OutsideIsElsewhere w k) where
  -- another latch is that of no frame with a page outside the trees, so the holders stay
  pub latched_outside : AreOutsideHeld (latched w k v)
  latched_outside = record {
    held = λ n page is own. (let o = outside.held n page is own in (o.0, o.1, still n o.0 o.2));
    one = λ n m name o p. outside.one n m name (was n name o) (was m name p);
  }
    where
      still : (n name : ℕ) → IsHeldOutside w n name → IsHeldOutside (latched w k v) n name
      still n name o = record {
        block = o.block;
        page = o.page;
        place = o.place;
        is = o.is;
        own = o.own;
        holder = set_else w.latches k (frame_id w.shape o.block) v
            (away n o.block o.page o.place o.is o.own) ∙ o.holder;
      }

      was : (n name : ℕ) → IsHeldOutside (latched w k v) n name → IsHeldOutside w n name
      was n name o = record {
        block = o.block;
        page = o.page;
        place = o.place;
        is = o.is;
        own = o.own;
        holder = sym (set_else w.latches k (frame_id w.shape o.block) v
            (away n o.block o.page o.place o.is o.own)) ∙ o.holder;
      }

-- what is free has no page outside the trees
pub free_away : (w : ForestState) (k : ℕ) → AreOutsideHeld w → IsFree w k → OutsideIsElsewhere w k
free_away w k outside free n b page place is own e = let o = outside.held n page is own in
    let same : frame_id w.shape o.2.block ≡ k =
    ap (frame_id w.shape) (same_block o.2.block b (sym o.2.place ∙ place)) ∙ e in
    free_not_held w k o.0 free (subst (λ j. IsHeldBy w j o.0) same o.2.holder)

-- nor has what may be given back
pub back_away : (w : ForestState) (k : ℕ) (x : Object) → IsLawful w
    → get_elem? w.objects k ≡ some x → MayGoBack x → OutsideIsElsewhere w k
back_away w k x law at may n b page place is own e =
    let i = law.objects.placed.there n b place in
    let same : x ≡ object.Frame i.frame = some-injective x (object.Frame i.frame)
    (sym at ∙ (ap (get_elem? w.objects) (sym e) ∙ i.at)) in
    let none : HasNoOutside i.frame = subst MayGoBack same may in
    let rows : page_within i.page i.frame.low i.frame.high ≡ page =
    same_some (page_within i.page i.frame.low i.frame.high) page
    (sym (ap (λ p. page_if p i.frame.low i.frame.high) i.paged)
    ∙ framed_page w.shape w.objects n b page place is i) in
    not_outside n page.prev ((λ j. is_own (sym i.number j) (sym rows j).prev)
    ∙ none i.page i.paged) own

-- a page is outside the trees or of them
own_or_tree : (n : ℕ) (prev : Option ℕ) → (is_own n prev ≡ true → ⊥) → is_own n prev ≡ false
own_or_tree n prev isnt = pick (is_own n prev) refl
  where
    pick : (b : Bool) → is_own n prev ≡ b → is_own n prev ≡ false
    pick false e = e
    pick true e = absurd (isnt e)

module _ (w : ForestState) (law : IsLawful w) where
  free_frames : (b : ℕ) (f : Frame) → IsFrameOf w.shape w.objects b f
      → IsFree w (frame_id w.shape b) → HasNoOutside f
  free_frames b f at free rows paged = own_or_tree rows.head.number rows.head.prev
      (λ own. free_away w (frame_id w.shape b) law.outside free rows.head.number b
      (page_within rows f.low f.high) (law.objects.placed.named b f rows at paged)
      (frame_tells w law b f rows at paged).is own refl)

  tree_images : (n : ℕ) (s : Stored) → image_at (images w.objects) n ≡ Some s
      → is_own n s.page.head.prev ≡ false
  tree_images n s at = own_or_tree n s.page.head.prev (λ own.
      (let tells = image_tells w law n s at in
      let o = law.outside.held n (page_within s.page s.low s.high) tells.is own in
      image_in_frame o.2.block (sym tells.place ∙ o.2.place)))
    where
      image_in_frame : (b : ℕ) → Image ≡ InFrame b → ⊥
      image_in_frame b e = absurd cc

pub outside_is_held : OutsideIsHeld
outside_is_held = record { frames = free_frames; images = tree_images }
