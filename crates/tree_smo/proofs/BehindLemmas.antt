-- The page behind two halves takes part in the step, where there is such a page.
use Rattle.std.proofs.Common.{◌≡◌, ◌≢◌, ℕ, false, sym, ap, subst, ◌∙◌, refl, Option, Some, None}
use Rattle.std.specs.List.{AllByRecursion}
use Rattle.latch_space.specs.Has.{DidSettle}
use Rattle.latch_space.specs.Passes.{view, values, known_values, Shows}
use Rattle.index_page.specs.Page.{PageRows}
use Rattle.forest_law.specs.declared.objects.Frame.{Frame}
use Rattle.forest_law.specs.declared.objects.Object.{Object}
use Rattle.forest_law.specs.declared.objects.Object.TheVariants as object
use Rattle.forest_law.specs.Law.{IsLawful}
use Rattle.forest_law.specs.State.{ForestState}
use Rattle.forest_law.specs.Steps.{InHand}
use Rattle.forest_world.specs.Held.{TreePass, shape_of_pass, HasFrame}
use Rattle.tree_restructure.specs.Links.{Relinks, RelinksNext}
use Rattle.tree_restructure.specs.Parts.{frame_ids}
use Rattle.tree_restructure.specs.Splits.{NextTakesPart, next_hands}
use Rattle.buffer_pool.specs.Forests.{FitsTrees}
use Rattle.buffer_pool.specs.Pages.{HasTreePage}
use Rattle.tree_smo.specs.Plans.{next_ids, KnowsNext}
use Rattle.tree_smo.proofs.InsideLemmas.{relinked_inside}
use Rattle.tree_smo.proofs.LawfulLemmas.{that_page}
use Rattle.tree_smo.proofs.PartLemmas.{part_of}
use Rattle.tree_smo.proofs.SettledLemmas.{settled_frame}

-- the page behind, which has this number, in hand: it has another left neighbour; or there is no
-- such page
abbrev pub HasRelinked : TreePass → (i level : ℕ) → (block number : Option ℕ) → (right : ℕ) → Type 0
HasRelinked m i level None number right = number ≡ None
HasRelinked m i level (Some b) number right = (f : Frame) × (g : Frame) × HasFrame m b f g
    × (t : HasTreePage f i level) × (number ≡ Some t.page.head.number) × Relinks right f g

-- it takes part in the step
pub record Behind (m : TreePass) (block number : Option ℕ) (right : ℕ) : Type 0 where
  pub hand : InHand
  pub links : RelinksNext right number hand.old hand.new
  pub part : NextTakesPart (shape_of_pass m) (known_values m) (values m) number hand
  pub ids : (k : ℕ)
      → AllByRecursion (λ (j : ℕ). k ≢ j) (frame_ids (shape_of_pass m) (next_hands number hand))
      → AllByRecursion (λ (j : ℕ). k ≢ j) (next_ids (shape_of_pass m) block)

pub behind : (m : TreePass) (w : ForestState) → IsLawful w → FitsTrees w (view m) → Frame
    → (i level : ℕ) (block number : Option ℕ) (right : ℕ)
    → HasRelinked m i level block number right → Behind m block number right
behind m w law fits d i level None number right none =
    subst (λ o. Behind m None o right) (sym none) (record {
      hand = record { block = 0; old = d; new = d };
      links = refl;
      part = tt;
      ids = λ k apart. apart;
    })
behind m w law fits d i level (Some b) number right has =
    let f = has.0 in
    let t = has.3 in
    let r = has.5 in
    let same = that_page f r.page t.page r.had t.paged in
    let n = t.page.head.number in
    subst (λ o. Behind m (Some b) o right) (sym has.4) (record {
      hand = record { block = b; old = f; new = has.1 };
      links = (r, ap (λ (x : PageRows). x.head.number) same);
      part = part_of m w law fits b f has.1 has.2 t.page t.paged n false t.tree;
      ids = λ k apart. apart;
    })

-- what shows of the page behind
pub shows_next : (m : TreePass) (i level : ℕ) (block number : Option ℕ) (right : ℕ)
    → HasRelinked m i level block number right
    → AllByRecursion (λ (k : ℕ). (x : Object) × Shows m k x) (next_ids (shape_of_pass m) block)
shows_next m i level None number right has = tt
shows_next m i level (Some b) number right has = ((object.Frame has.1, has.2.value), tt)

-- and what is known of it once it is settled, where it is another page than its new neighbour
pub knows_next : (m q : TreePass) → DidSettle m q → (i level : ℕ) (block number : Option ℕ)
    (right : ℕ) → number ≢ Some right → HasRelinked m i level block number right
    → KnowsNext (view q) block
knows_next m q did i level None number right apart has = tt
knows_next m q did i level (Some b) number right apart has =
    let f = has.0 in
    let t = has.3 in
    let r = has.5 in
    let same = that_page f t.page r.page t.paged r.had in (
      has.1,
      settled_frame m q did b f has.1 has.2,
      relinked_inside right f has.1 r (λ e. apart (has.4
          ∙ ap (λ (x : PageRows). Some x.head.number) same ∙ ap Some (sym e))),
    )
