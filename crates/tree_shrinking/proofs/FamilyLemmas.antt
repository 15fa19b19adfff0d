-- A child of a page, and those beside it.
use Rattle.std.proofs.Common.{◌≡◌, ◌≢◌, ℕ, Option, Some, None, IsSome, is_some, Bool, true, false, if◌then◌else◌, inl, inr, List, [], ◌∷◌, ◌++◌, sym, ap, subst, ◌∙◌, refl, arith, append_assoc, length}
use Rattle.std.specs.Option.{option_or}
use Rattle.list_facts.proofs.Places.{same_some}
use Rattle.key_tuple.specs.KeyPlace.{KeyPlace}
use Rattle.key_tuple.specs.Order.{FieldList}
use Rattle.key_tuple.specs.declared.mode.Mode.TheVariants as mode
use Rattle.latch_space.specs.Has.{IsKnown}
use Rattle.latch_space.specs.Passes.{view}
use Rattle.index_page.specs.Changes.{IsBeside}
use Rattle.index_page.specs.Page.{PageRows, PlacesDiffer}
use Rattle.index_page.specs.Picks.{IsPicked}
use Rattle.index_page.specs.Rows.{Row, Child, find_row, first_of_rows, last_of_rows, last_row_after, IsAt}
use Rattle.index_page.proofs.RowLemmas.{find_among}
use Rattle.forest_law.specs.declared.objects.Frame.{Frame}
use Rattle.forest_law.specs.State.{fields_for}
use Rattle.forest_world.specs.Held.{TreePass, HasFrame}
use Rattle.call_law.specs.Hands.{KnowsFrame}
use Rattle.call_law.specs.Spoken.{View}
use Rattle.buffer_pool.specs.Forests.{IsFittedTree}
use Rattle.buffer_pool.proofs.CallLemmas.{frame_has}
use Rattle.tree_descent.specs.Descents.{HoldsInner}
use Rattle.tree_descent.specs.Paths.{PicksChild}
use Rattle.tree_descent.proofs.InnerLemmas.{above_has_rows, inner_page}
use Rattle.tree_shrinking.specs.declared.families.Family.{Family}
use Rattle.tree_shrinking.specs.declared.pairs.Siblings.{Siblings}
use Rattle.tree_shrinking.specs.Families.{PointsTo, IsChildAt, TellsFamily, siblings_before, siblings_after}
use Rattle.tree_shrinking.specs.Merging.{PointsAtPair}

-- a place that is that of a row has one
pub at_there : (rows : List Row) (place : Option ℕ) (o : Option Row) → IsAt rows place o → (n : ℕ)
    → place ≡ Some n → IsSome (find_row n rows)
at_there rows place None at n e = absurd cc
at_there rows place (Some row) at n e =
    let same : n ≡ row.place = same_some n row.place (sym e ∙ at.0) in
    subst (λ k. IsSome (find_row k rows)) (sym same) (ap is_some at.1)

-- and what it points to is what the row does
pub points_at : (rows : List Row) (place : Option ℕ) (o : Option Row) (n : Option ℕ)
    → IsAt rows place o → IsChildAt rows place n → PointsTo o n
points_at rows place None n at is = subst (λ (q : Option ℕ). IsChildAt rows q n) at is
points_at rows place (Some row) n at is = subst (λ (q : Option Row). PointsTo q n) at.1
    (subst (λ (q : Option ℕ). IsChildAt rows q n) at.0 is)

-- the row between others is the one at its place
pub row_there : (rows : List Row) (place : ℕ) (prev next : Option ℕ) (row : Row)
    → PlacesDiffer rows → (b : IsBeside rows place prev next) → find_row place rows ≡ Some row
    → b.row ≡ row
row_there rows place prev next row differ b there = same_some b.row row
    (sym (find_among b.left b.row b.right (subst PlacesDiffer b.split differ))
    ∙ (ap (find_row b.row.place) (sym b.split)
    ∙ (ap (λ (n : ℕ). find_row n rows) b.place_is ∙ there)))

-- some rows end with their last
ends_with : (x : Row) (xs : List Row) → (fore : List Row)
    × (x ∷ xs ≡ fore ++ last_row_after x xs ∷ [])
ends_with x [] = ([], refl)
ends_with x (y ∷ xs) = let r = ends_with y xs in (x ∷ r.0, ap (λ z. x ∷ z) r.1)

-- the page points to the child and to the one before it, or after it, if there is one
pub points_before : (rows : List Row) (family : Family) → TellsFamily rows family → (s : Siblings)
    → siblings_before family ≡ Some s → PointsAtPair rows s.left s.right
points_before rows family t s is = go t.fore refl
  where
    go : (fore : List Row) → t.fore ≡ fore → PointsAtPair rows s.left s.right
    go [] f = let none = subst (λ (xs : List Row). PointsTo (last_of_rows xs) family.left) f t.left in
        absurd (cc (ap (λ o. siblings_before (record family { left = o })) none, is))
    go (x ∷ xs) f =
        let last = subst (λ (ys : List Row). PointsTo (last_of_rows ys) family.left) f t.left in
        let end = ends_with x xs in
        let found : Siblings =
        record { left = last.0; right = family.child; right_asks = true } in
        subst (λ (z : Siblings). PointsAtPair rows z.left z.right)
        (same_some found s
        (sym (ap (λ o. siblings_before (record family { left = o })) last.1) ∙ is)) (record {
          fore = end.0;
          this = last_row_after x xs;
          pointer = t.this;
          aft = t.aft;
          was = t.was ∙ (ap (λ zs. zs ++ t.this ∷ t.aft) (f ∙ end.1)
              ∙ append_assoc end.0 (last_row_after x xs ∷ []) (t.this ∷ t.aft));
          this_is = last.2;
          pointer_is = t.child;
        })

pub points_after : (rows : List Row) (family : Family) → TellsFamily rows family → (s : Siblings)
    → siblings_after family ≡ Some s → PointsAtPair rows s.left s.right
points_after rows family t s is = go t.aft refl
  where
    go : (aft : List Row) → t.aft ≡ aft → PointsAtPair rows s.left s.right
    go [] f = let none = subst (λ (xs : List Row). PointsTo (first_of_rows xs) family.right) f t.right
        in absurd (cc (ap (λ o. siblings_after (record family { right = o })) none, is))
    go (x ∷ xs) f =
        let first = subst (λ (ys : List Row). PointsTo (first_of_rows ys) family.right) f t.right in
        let found : Siblings =
        record { left = family.child; right = first.0; right_asks = false } in
        subst (λ (z : Siblings). PointsAtPair rows z.left z.right)
        (same_some found s
        (sym (ap (λ o. siblings_after (record family { right = o })) first.1) ∙ is)) (record {
          fore = t.fore;
          this = t.this;
          pointer = x;
          aft = xs;
          was = t.was ∙ ap (λ zs. t.fore ++ t.this ∷ zs) f;
          this_is = t.child;
          pointer_is = first.2;
        })

-- a row that is picked points to the child where the row at its place does
pub picks_at : (cut : KeyPlace → Bool) (rows : List Row) (place child : ℕ) → IsPicked cut rows place
    → ((row : Row) → find_row place rows ≡ Some row → row.body ≡ Child child)
    → PicksChild cut rows child
picks_at cut rows place child picked at = elim picked [
  | inl l ↦ record {
    row = l.row;
    place = place;
    there = l.there;
    picked = inl l;
    child = at l.row l.there;
  }
  | inr f ↦ record {
    row = f.row;
    place = place;
    there = f.there;
    picked = inr f;
    child = at f.row f.there;
  }
]

-- the place before the spot or, where there is none, the one after it
pub either_place : (before after : Option ℕ)
    → option_or before after ≡ (if is_some before then before else after)
either_place None after = refl
either_place (Some n) after = refl

-- the page that is read in a frame is the one that it is known to have
pub read_page : (p : TreePass) → IsKnown p → (b : ℕ) (f g : Frame) → KnowsFrame (view p) b f
    → ((x y : Frame) → HasFrame p b x y → g ≡ y) → (page : PageRows) → f.page ≡ Some page
    → g.page ≡ Some page
read_page p known b f g knows read page is =
    ap (λ (h : Frame). h.page) (read f f (frame_has p known b f knows)) ∙ is

-- what a page in hand above the leaves has
module _ {v : View} {b i : ℕ} {key : FieldList} (held : HoldsInner v b i mode.Ge key) where
  pub held_inner : held.page.is.page.head.level ≢ 0
  held_inner e = let level = held.page.is.at_level in absurd (omega (arith, level, e))

  pub held_some : IsFittedTree v → held.page.is.page.rows ≢ []
  held_some fitted = above_has_rows v fitted b i held.level (inner_page v b i mode.Ge key held)

  pub held_cut : held.page.is.page.head.fields ≡ fields_for v.terms.shape i
  held_cut = held.page.order.fields ∙ ap (fields_for v.terms.shape) held.page.is.index

  pub held_fields : length key ≡ fields_for v.terms.shape i
      → length key ≡ held.page.is.page.head.fields
  held_fields e = e ∙ (ap (fields_for v.terms.shape) (sym held.page.is.index)
      ∙ sym held.page.order.fields)
