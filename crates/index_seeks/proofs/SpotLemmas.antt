-- The row of a mode by the spot of its search.
use Rattle.std.proofs.Common.{◌≡◌, ℕ, Bool, false, List, [], ◌∷◌, ◌++◌, append_assoc, append-nil, sym, ap, subst, ◌∙◌, refl, Option, Some, None}
use Rattle.std.specs.List.{AllByRecursion}
use Rattle.key_tuple.specs.KeyPlace.{At, cut_of}
use Rattle.key_tuple.specs.Order.{FieldList}
use Rattle.key_tuple.specs.declared.mode.Mode.{Mode}
use Rattle.list_facts.proofs.Places.{same_some}
use Rattle.map_history.specs.Map.{Pair}
use Rattle.index_page.specs.declared.spot.Spot.{Spot}
use Rattle.index_page.specs.Rows.{Row, Bytes, find_row, first_of_rows, last_row_after, last_of_rows, IsAt}
use Rattle.index_page.specs.Search.{AllOut, AllIn, Finds}
use Rattle.tree_neighbours.specs.declared.side.Side.{Side}
use Rattle.tree_neighbours.specs.declared.side.Side.TheVariants.{Left, Right}
use Rattle.tree_neighbours.specs.Sides.{row_on}
use Rattle.index_seeks.specs.Seeks.{NoneBeyond, HasNextBeyond}

-- some rows end with their last
record EndsWith (rows : List Row) (row : Row) : Type 0 where
  fore : List Row
  is : rows ≡ fore ++ row ∷ []

ends_with : (x : Row) (xs : List Row) → EndsWith (x ∷ xs) (last_row_after x xs)
ends_with x [] = record { fore = []; is = refl }
ends_with x (y ∷ ys) = let more = ends_with y ys in
    record { fore = x ∷ more.fore; is = ap (λ z. x ∷ z) more.is }

-- the last of the rows that a cut leaves out is one
last_out : (p : Row → Bool) (fore : List Row) (row : Row)
    → AllByRecursion (λ (x : Row). p x ≡ false) (fore ++ row ∷ []) → p row ≡ false
last_out p [] row out = out.0
last_out p (x ∷ fore) row out = last_out p fore row out.1

module _ (mode : Mode) (tuple : FieldList) (rows : List Row) (spot : Spot)
    (finds : Finds mode tuple rows spot) where
  -- a spot without a row on a side has no row beyond the cut there
  left_none : (left : List Row) → rows ≡ left ++ finds.right
      → IsAt rows spot.before (last_of_rows left) → spot.before ≡ None
      → AllIn (cut_of mode tuple) rows
  left_none [] split at none = subst (AllIn (cut_of mode tuple)) (sym split) finds.past
  left_none (x ∷ xs) split at none = absurd (let there = at.0 in cc)

  right_none : (right : List Row) → rows ≡ finds.left ++ right
      → IsAt rows spot.after (first_of_rows right) → spot.after ≡ None
      → AllOut (cut_of mode tuple) rows
  right_none [] split at none =
      subst (AllOut (cut_of mode tuple)) (sym (split ∙ append-nil finds.left)) finds.out
  right_none (x ∷ xs) split at none = absurd (let there = at.0 in cc)

  pub none_on : (side : Side) → row_on side spot ≡ None
      → NoneBeyond side (cut_of mode tuple) rows
  none_on Left none = left_none finds.left finds.split finds.before_at none
  none_on Right none = right_none finds.right finds.split finds.after_at none

  module _ (place : ℕ) (row : Row) (there : find_row place rows ≡ Some row) (pair : Pair)
      (key : row.key ≡ pair.key) (body : row.body ≡ Bytes pair.value) where
    -- the row that stands at a spot's place
    same_row : (x : Row) → Some place ≡ Some x.place → find_row x.place rows ≡ Some x → x ≡ row
    same_row x at found = same_some x row
        (sym found ∙ (ap (λ n. find_row n rows) (sym (same_some place x.place at)) ∙ there))

    left_some : (left : List Row) → AllOut (cut_of mode tuple) left
        → rows ≡ left ++ finds.right → IsAt rows (Some place) (last_of_rows left)
        → HasNextBeyond Left (cut_of mode tuple) rows pair
    left_some [] out split at = absurd cc
    left_some (x ∷ xs) out split at = let ends = ends_with x xs in
        let same = same_row (last_row_after x xs) at.0 at.1 in
        let is : x ∷ xs ≡ ends.fore ++ row ∷ [] =
        subst (λ z. x ∷ xs ≡ ends.fore ++ z ∷ []) same ends.is in
        record {
          xs = ends.fore;
          row = row;
          ys = finds.right;
          split = split ∙ (ap (λ z. z ++ finds.right) is
              ∙ append_assoc ends.fore (row ∷ []) finds.right);
          beyond = (
            last_out (λ y. cut_of mode tuple (At y.key)) ends.fore row
                (subst (AllOut (cut_of mode tuple)) is out),
            finds.past,
          );
          key = key;
          body = body;
        }

    right_some : (right : List Row) → AllIn (cut_of mode tuple) right
        → rows ≡ finds.left ++ right → IsAt rows (Some place) (first_of_rows right)
        → HasNextBeyond Right (cut_of mode tuple) rows pair
    right_some [] past split at = absurd cc
    right_some (x ∷ xs) past split at = let same = same_row x at.0 at.1 in record {
      xs = finds.left;
      row = row;
      ys = xs;
      split = split ∙ ap (λ z. finds.left ++ z ∷ xs) same;
      beyond = (
        finds.out,
        ap (λ z. cut_of mode tuple (At z.key)) (sym same) ∙ past.0,
      );
      key = key;
      body = body;
    }

    -- the row at the spot's place on a side is the next beyond the cut
    pub next_on : (side : Side) → row_on side spot ≡ Some place
        → HasNextBeyond side (cut_of mode tuple) rows pair
    next_on Left is = left_some finds.left finds.out finds.split
        (subst (λ o. IsAt rows o (last_of_rows finds.left)) is finds.before_at)
    next_on Right is = right_some finds.right finds.past finds.split
        (subst (λ o. IsAt rows o (first_of_rows finds.right)) is finds.after_at)

  -- a row stands at the spot's place
  stands_at : (place : ℕ) (o : Option Row) → IsAt rows (Some place) o
      → (row : Row) × (find_row place rows ≡ Some row)
  stands_at place None at = absurd cc
  stands_at place (Some row) at =
      (row, ap (λ n. find_row n rows) (same_some place row.place at.0) ∙ at.1)

  pub stands_on : (side : Side) (place : ℕ) → row_on side spot ≡ Some place
      → (row : Row) × (find_row place rows ≡ Some row)
  stands_on Left place is = stands_at place (last_of_rows finds.left)
      (subst (λ o. IsAt rows o (last_of_rows finds.left)) is finds.before_at)
  stands_on Right place is = stands_at place (first_of_rows finds.right)
      (subst (λ o. IsAt rows o (first_of_rows finds.right)) is finds.after_at)
