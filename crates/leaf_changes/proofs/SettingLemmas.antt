-- A leaf whose row gets another value is held still, and is what it became.
use Rattle.std.proofs.Common.{◌≡◌, ◌⊎◌, ℕ, ◌==◌, List, [], length, option_and_then, sym, ap, subst, ◌∙◌, Result, Ok, Err, Option, Some, None, IfOk, IfErr, OnErr, IsSome}
use Rattle.key_tuple.specs.Order.{FieldList}
use Rattle.index_page.specs.declared.error.PageError.{PageError}
use Rattle.index_page.specs.declared.error.PageError.TheVariants as refused
use Rattle.index_page.specs.Page.{PageRows}
use Rattle.index_page.specs.Rows.{Bytes, Child, Row, RowBody, find_row}
use Rattle.forest_law.specs.declared.objects.Frame.{Frame}
use Rattle.forest_law.specs.HashSteps.{KeepsHashing}
use Rattle.forest_world.specs.Held.{TreePass, HasFrame}
use Rattle.buffer_pool.specs.Frames.{TakesOut, PutsBack}
use Rattle.leaf_rows.specs.declared.setting.GrownRow.{GrownRow}
use Rattle.leaf_rows.specs.Changing.{HasRowOf, HasSomeRow}
use Rattle.leaf_rows.specs.Setting.{frame_with, IsNoLonger, IsLongerValue, SetsValue, MovesRowTo, value_refusal, PageBefore, frame_before}
use Rattle.leaf_changes.specs.Changes.{HoldsRowAsLong, RowIsSet}
use Rattle.leaf_changes.specs.Lengthening.{HoldsRowToGrow, GrowsRow, StaysUngrown, HoldsSomePage, IsRestored}
use Rattle.leaf_changes.proofs.ChangeLemmas.{taken_is, swapped_has}

-- the value of a row, if it has one
abbrev value_in : RowBody → List ℕ
value_in (Bytes value) = value
value_in (Child number) = []

abbrev value_held : Option Row → List ℕ
value_held None = []
value_held (Some row) = value_in row.body

-- the value of the row at a place of a frame's leaf, if one stands there
abbrev pub value_there : ℕ → Frame → List ℕ
value_there place f =
    value_held (option_and_then (λ (page : PageRows). find_row place page.rows) f.page)

pub value_is : (f : Frame) (place : ℕ) (key : FieldList) → (has : HasRowOf f place key)
    → value_there place f ≡ has.has.value
value_is f place key has =
    ap (λ o. value_held (option_and_then (λ (page : PageRows). find_row place page.rows) o))
    has.paged
    ∙ (ap value_held has.has.there ∙ ap value_in has.has.body)

module _ (p p1 : TreePass) (b : ℕ) (frame : Frame) (out : TakesOut p b frame p1) where
  -- the frame that was taken out has the row that was in hand, and the value is no longer
  pub stands_to_set : (place : ℕ) (value : List ℕ) → HoldsRowAsLong p b place value
      → HasSomeRow frame place
  stands_to_set place value held = subst (λ z. HasSomeRow z place)
      (sym (taken_is p p1 b frame out held.known held.now held.has)) held.stands

  pub no_longer_then : (place : ℕ) (value : List ℕ) → HoldsRowAsLong p b place value
      → IsNoLonger frame place value
  no_longer_then place value held = subst (λ z. IsNoLonger z place value)
      (sym (taken_is p p1 b frame out held.known held.now held.has)) held.no_longer

  -- or it is longer
  pub stands_to_grow : (place : ℕ) (value : List ℕ) → HoldsRowToGrow p b place value
      → HasSomeRow frame place
  stands_to_grow place value held = subst (λ z. HasSomeRow z place)
      (sym (taken_is p p1 b frame out held.known held.now held.has)) held.stands

  pub longer_then : (place : ℕ) (value : List ℕ) → HoldsRowToGrow p b place value
      → IsLongerValue frame place value
  longer_then place value held = subst (λ z. IsLongerValue z place value)
      (sym (taken_is p p1 b frame out held.known held.now held.has)) held.longer

  pub paged_then : HoldsSomePage p b → IsSome frame.page
  paged_then held = subst (λ (z : Frame). IsSome z.page)
      (sym (taken_is p p1 b frame out held.known held.now held.has)) held.paged

module _ (p p1 p2 : TreePass) (b : ℕ) (frame now : Frame) (out : TakesOut p b frame p1)
    (back : PutsBack p1 b now p2) where
  -- the row got a value that is no longer
  pub row_is_set : (place : ℕ) (value : List ℕ)
      → ((key : FieldList) → (has : HasRowOf frame place key)
      → now ≡ frame_with place value (length value == length has.has.value) frame)
      → RowIsSet p p2 b place value
  row_is_set place value is f g key has held =
      let at = subst (λ (z : Frame). (row : HasRowOf z place key)
      → now ≡ frame_with place value (length value == length row.has.value) z)
      (taken_is p p1 b frame out f g held) (is key) in
      subst (HasFrame p2 b f) (at has) (swapped_has p p1 p2 b frame now out back f g held)

  module _ (place : ℕ) (value : List ℕ) where
    -- it got a longer one
    pub lengthened_ok : (result : Result GrownRow PageError)
        → IfOk result (λ grown. (k : FieldList) → HasRowOf frame place k
        → SetsValue frame now k value)
        → IfOk result (λ grown. MovesRowTo frame now place grown.place)
        → IfOk result (λ grown. frame_before grown.before now ≡ frame)
        → IfOk result (λ grown. IsSome grown.before.page) → KeepsHashing frame now
        → IfOk result (λ grown. GrowsRow p p2 b place value grown)
    lengthened_ok (Ok grown) sets moves was paged hash = λ key f g row has.
        (let taken = taken_is p p1 b frame out f g has in record {
          made = now;
          has = swapped_has p p1 p2 b frame now out back f g has;
          sets = subst (λ (z : Frame). SetsValue z now key value) taken
              (sets key (subst (λ (z : Frame). HasRowOf z place key) (sym taken) row));
          moves = subst (λ (z : Frame). MovesRowTo z now place grown.place) taken moves;
          paged = paged;
          was = was ∙ taken;
          hash = subst (λ (z : Frame). KeepsHashing z now) taken hash;
        })
    lengthened_ok (Err e) sets moves was paged hash = tt

    pub lengthened_err : (result : Result GrownRow PageError)
        → IfErr result (λ e. (e ≡ refused.NoMemory) ⊎ (value_refusal frame place value ≡ Some e))
        → OnErr result (now ≡ frame)
        → IfErr result (λ e. StaysUngrown p p2 b place value e)
    lengthened_err (Ok grown) why same = tt
    lengthened_err (Err e) why same = λ f g has.
        (let taken = taken_is p p1 b frame out f g has in (
          subst (HasFrame p2 b f) (same ∙ taken) (swapped_has p p1 p2 b frame now out back f g has),
          subst (λ (z : Frame). (e ≡ refused.NoMemory) ⊎ (value_refusal z place value ≡ Some e))
              taken why,
        ))

  -- the leaf is what it was before
  pub is_restored : (before : PageBefore) → now ≡ frame_before before frame
      → IsRestored p p2 b before
  is_restored before is f g has = subst (HasFrame p2 b f)
      (is ∙ ap (frame_before before) (taken_is p p1 b frame out f g has))
      (swapped_has p p1 p2 b frame now out back f g has)
