-- Pages in hand are other ones than a page that is to be taken.
use Rattle.std.proofs.Common.{◌≡◌, ◌≢◌, ℕ, List, [], ◌∷◌, inl, inr, Some, sym, ap, subst, ◌∙◌}
use Rattle.std.proofs.lemmas.Bool.{cases_eq}
use Rattle.std.specs.List.{AllByRecursion}
use Rattle.list_facts.proofs.Each.{each_weaker}
use Rattle.list_facts.proofs.Places.{none_is_not, same_some}
use Rattle.key_tuple.specs.Order.{FieldList}
use Rattle.latch_law.specs.Views.{holding}
use Rattle.latch_space.specs.Passes.{view}
use Rattle.index_page.specs.Page.{PageRows}
use Rattle.forest_law.specs.declared.objects.Frame.{Frame}
use Rattle.forest_law.specs.declared.objects.Object.TheVariants as object
use Rattle.forest_law.specs.Numbers.{frame_id, frames_of}
use Rattle.forest_world.specs.Held.{TreePass, shape_of_pass}
use Rattle.call_law.specs.Hands.{KnowsFrame, HoldsNoFrameBut}
use Rattle.call_law.specs.Spoken.{View}
use Rattle.buffer_pool.specs.Pages.{HoldsOtherPages}
use Rattle.buffer_pool.proofs.AddedLemmas.{frame_no_tree}
use Rattle.buffer_pool.proofs.SpaceLemmas.{known_below}
use Rattle.tree_growth.specs.Ways.{IsGoingDown}
use Rattle.tree_growth.proofs.HandLemmas.{frames_apart}
use Rattle.tree_descent.proofs.InnerLemmas.{one_known}

-- each frame that is known is one of these blocks
abbrev pub KnowsOnly : View → List ℕ → Type 0
KnowsOnly v bs = (c : ℕ) (f : Frame) → KnowsFrame v c f → AllByRecursion (λ (b : ℕ). c ≢ b) bs → ⊥

-- so it is on a way
pub way_knows : (p : TreePass) (i : ℕ) (key : FieldList) (bs : List ℕ) → IsGoingDown p i key bs
    → KnowsOnly (view p) bs
way_knows p i key bs way c f knows apart =
    way.only (frame_id (shape_of_pass p) c) (holding knows.0 (object.Frame f)) knows.1
    (frame_no_tree (shape_of_pass p) c i way.index)
    (each_weaker (λ (b : ℕ). c ≢ b)
    (λ (b : ℕ). frame_id (shape_of_pass p) c ≢ frame_id (shape_of_pass p) b)
    (λ b ne. frames_apart (shape_of_pass p) c b ne) bs apart)

-- and where no other frame is held
pub held_knows : (p : TreePass) (bs : List ℕ)
    → (view p).terms.objects ≡ frame_id (shape_of_pass p) (frames_of (shape_of_pass p))
    → HoldsNoFrameBut (view p) bs → KnowsOnly (view p) bs
held_knows p bs objects only c f knows apart = none_is_not (holding knows.0 (object.Frame f))
    (sym (only c (known_below p c knows.0 (object.Frame f) knows.1 objects) apart) ∙ knows.1)

-- the block's frame, as it is known, has no page of this number
abbrev pub HasOther : View → (n b : ℕ) → Type 0
HasOther v n b = (f : Frame) (page : PageRows) → KnowsFrame v b f → f.page ≡ Some page
    → page.head.number ≢ n

pub has_other : (v : View) (n b : ℕ) (f : Frame) (page : PageRows) → KnowsFrame v b f
    → f.page ≡ Some page → page.head.number ≢ n → HasOther v n b
has_other v n b f page knows paged ne g other that has =
    subst (λ (r : PageRows). r.head.number ≢ n)
    (same_some page other
    (sym paged ∙ (ap (λ (z : Frame). z.page) (one_known v b f g knows that) ∙ has))) ne

-- none has where none of these has
pub holds_others : (v : View) (n : ℕ) (bs : List ℕ) → KnowsOnly v bs
    → AllByRecursion (HasOther v n) bs → HoldsOtherPages v n
holds_others v n bs only each c f page knows paged = go bs (only c f knows) each
  where
    go : (ds : List ℕ) → (AllByRecursion (λ (b : ℕ). c ≢ b) ds → ⊥)
        → AllByRecursion (HasOther v n) ds → page.head.number ≢ n
    go [] never each = absurd (never tt)
    go (b ∷ ds) never each = elim (cases_eq c b) [
      | inl e ↦ each.0 f page (subst (λ z. KnowsFrame v z f) e knows) paged
      | inr ne ↦ go ds (λ rest. never (ne, rest)) each.1
    ]
