-- A leaf that is taken out of the hand, changed and put back is held still, and is what it became.
use Rattle.std.proofs.Common.{◌≡◌, ◌⊎◌, inl, inr, ℕ, ◌+◌, ◌<◌, List, sym, ap, subst, ◌∙◌, arith, Option, Some, None, Result, Ok, Err, IfOk, IfErr, OnErr}
use mathlib.Core.Option.{some, none}
use mathlib.Core.Option as maybe
use lib.ListN.{get_elem?}
use Rattle.key_tuple.specs.Order.{FieldList}
use Rattle.list_facts.proofs.Places.{same_some}
use Rattle.latch_space.specs.Has.{SameBut}
use Rattle.latch_space.specs.Passes.{view, values}
use Rattle.index_page.specs.declared.error.PageError.{PageError}
use Rattle.index_page.specs.declared.error.PageError.TheVariants as refused
use Rattle.index_page.specs.declared.spot.Spot.{Spot}
use Rattle.index_page.specs.declared.TheConstants.{PAGE_ROOM}
use Rattle.index_page.specs.Loads.{charge_of, load_of}
use Rattle.index_page.specs.Page.{PageRows}
use Rattle.index_page.specs.Rows.{Bytes}
use Rattle.forest_law.specs.declared.objects.Frame.{Frame}
use Rattle.forest_law.specs.declared.objects.Object.{Object}
use Rattle.forest_law.specs.declared.objects.Object.TheVariants as object
use Rattle.forest_law.specs.HashSteps.{KeepsHashing}
use Rattle.forest_law.specs.Numbers.{frame_id}
use Rattle.forest_law.specs.Opening.{first_frame}
use Rattle.forest_world.specs.Held.{TreePass, shape_of_pass, HasFrame}
use Rattle.call_law.specs.Spoken.{View}
use Rattle.buffer_pool.specs.Frames.{TakesOut, PutsBack}
use Rattle.leaf_rows.specs.Changing.{PutsRow, WasPut, HasSomeRow, IsFullFor, LacksRow, frame_without, hashed_as}
use Rattle.leaf_changes.specs.Changes.{HoldsInserted, HoldsRefusing, KnowsSame, HoldsPutRow, TookBack, HoldsRowAt, TookOut}
use Rattle.leaf_changes.specs.Holds.{IsLeafOf, HoldsLeaf}

-- the frame that stands in a hand, if one does
abbrev frame_at : maybe.Option (Option Object) → Frame
frame_at (some (Some (object.Frame f))) = f
frame_at (some (Some (object.Part x))) = first_frame 0
frame_at (some (Some (object.Pool x))) = first_frame 0
frame_at (some (Some (object.Tree t))) = first_frame 0
frame_at (some None) = first_frame 0
frame_at none = first_frame 0

-- the block's frame in hand as it now is
abbrev pub frame_in : TreePass → ℕ → Frame
frame_in p b = frame_at (get_elem? (values p) (frame_id (shape_of_pass p) b))

pub frame_in_is : (p : TreePass) (b : ℕ) (f g : Frame) → HasFrame p b f g → frame_in p b ≡ g
frame_in_is p b f g has = ap frame_at has.value

module _ (p p1 : TreePass) (b : ℕ) (frame : Frame) (out : TakesOut p b frame p1) where
  -- the frame was taken out as it was
  pub taken_is : (f g : Frame) → HasFrame p b f g → frame ≡ g
  taken_is f g has = (out.out f g has).1

  -- so it has what it had
  pub was_put : (place : ℕ) → HoldsPutRow p b place → WasPut frame place
  was_put place held =
      subst (λ z. WasPut z place) (sym (taken_is held.known held.now held.has)) held.put

  pub stands_there : (place : ℕ) → HoldsRowAt p b place → HasSomeRow frame place
  stands_there place held =
      subst (λ z. HasSomeRow z place) (sym (taken_is held.known held.now held.has)) held.stands

  pub lacks_there : (key : FieldList) (spot : Spot) (f : Frame) → HasFrame p b f f
      → LacksRow f key spot → LacksRow frame key spot
  lacks_there key spot f has lacks =
      subst (λ z. LacksRow z key spot) (sym (taken_is f f has)) lacks

module _ (p p1 p2 : TreePass) (b : ℕ) (frame now : Frame) (out : TakesOut p b frame p1)
    (back : PutsBack p1 b now p2) where
  -- it is what was put back
  pub swapped_has : (f g : Frame) → HasFrame p b f g → HasFrame p2 b f now
  swapped_has f g has = back.has f (out.out f g has).0

  same_view : view p2 ≡ view p
  same_view = back.view ∙ out.view

  -- and all else is as before
  swapped_others : SameBut p p2 (frame_id (shape_of_pass p) b)
  swapped_others j differs = let first = out.hand.others j differs in
      let second = back.hand.others j
      (λ e. differs (e ∙ ap (λ (v : View). frame_id v.terms.shape b) out.view)) in
      (second.0 ∙ first.0, second.1 ∙ first.1)

  pub knows_same : KnowsSame p p2 b
  knows_same = record {
    view = same_view;
    count = back.count ∙ out.count;
    others = swapped_others;
  }

  pub swapped_leaf : (i : ℕ) (key : FieldList) (f g h : Frame) → now ≡ h
      → HoldsLeaf p b i key f g → HoldsLeaf p2 b i key f h
  swapped_leaf i key f g h is holds = record {
    has = subst (HasFrame p2 b f) is (swapped_has f g holds.has);
    leaf = subst (λ (v : View). IsLeafOf v.terms.shape i key f) (sym same_view) holds.leaf;
  }

  module _ (i : ℕ) (key : FieldList) (value : List ℕ) where
    -- a row was put in
    pub inserted_ok : (held : Frame) → HoldsLeaf p b i key held held → (result : Result ℕ PageError)
        → IfOk result (λ place. PutsRow frame now place key value) → KeepsHashing frame now
        → IfOk result (λ place. HoldsInserted p2 b i place key value)
    inserted_ok held holds (Ok place) puts hash = record {
      known = held;
      made = now;
      holds = swapped_leaf i key held held now (λ _. now) holds;
      puts = subst (λ z. PutsRow z now place key value)
          (taken_is p p1 b frame out held held holds.has) puts;
      hash = subst (λ z. KeepsHashing z now) (taken_is p p1 b frame out held held holds.has) hash;
    }
    inserted_ok held holds (Err e) puts hash = tt

    -- where there is too little free, the load and the charge are more than the room
    too_full : (held : Frame) (page : PageRows) (e : PageError) → held.page ≡ Some page
        → frame ≡ held → IsFullFor frame key value e
        → PAGE_ROOM < load_of page.rows + charge_of key (Bytes value)
    too_full held page e paged is full = let same : full.page ≡ page =
        same_some full.page page (sym full.paged ∙ (ap (λ (f : Frame). f.page) is ∙ paged)) in
        let more = full.more in
        let load = ap (λ (r : PageRows). load_of r.rows) same in omega (arith, more, load)

    pub inserted_err : (held : Frame) → HoldsLeaf p b i key held held
        → (result : Result ℕ PageError)
        → IfErr result (λ e. (e ≡ refused.NoMemory) ⊎ IsFullFor frame key value e)
        → OnErr result (now ≡ frame) → IfErr result (λ e. HoldsRefusing p2 b i key value e)
    inserted_err held holds (Ok place) why same = tt
    inserted_err held holds (Err e) why same =
        let is = taken_is p p1 b frame out held held holds.has in
        let still = swapped_leaf i key held held held (same ∙ is) holds in record {
          frame = held;
          holds = still;
          why = elim why [
            | inl memory ↦ inl memory
            | inr full ↦ inr (too_full held still.leaf.page.is.page e still.leaf.page.is.paged is
                full)
          ];
        }

  -- a row that was put in was taken back
  pub took_back : (place : ℕ)
      → ((f : Frame) (k : FieldList) (v : List ℕ) → PutsRow f frame place k v
      → now ≡ hashed_as frame f) → TookBack p p2 b place
  took_back place back_is key value f g has puts =
      let taken = taken_is p p1 b frame out f g has in
      subst (HasFrame p2 b f)
      (back_is f key value (subst (λ z. PutsRow f z place key value) (sym taken) puts)
      ∙ ap (λ z. hashed_as z f) taken) (swapped_has f g has)

  -- a row was deleted
  pub took_out : (place : ℕ) → now ≡ frame_without place frame → TookOut p p2 b place
  took_out place is f g has =
      subst (HasFrame p2 b f) (is ∙ ap (frame_without place) (taken_is p p1 b frame out f g has))
      (swapped_has f g has)
