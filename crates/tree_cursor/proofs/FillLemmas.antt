-- Rows of a leaf were taken, and the cursor stands behind them.
use Rattle.std.proofs.Common.{◌≡◌, ℕ, ◌==◌, Bool, true, false, cond, Option, Some, None, List, [], ◌∷◌, ◌++◌, inl, inr, refl, sym, ap, subst, ◌∙◌, append-nil, IsSome}
use Rattle.key_tuple.specs.Order.{FieldList}
use Rattle.map_history.specs.Map.{Map}
use Rattle.index_page.specs.Page.{PageRows, IsPageInOrder}
use Rattle.index_page.specs.Rows.{Row, find_row, first_of_rows, last_of_rows, last_row_after, IsAt}
use Rattle.tree_law.specs.TreeShape.{In}
use Rattle.clock_law.specs.ModifyClock.{HasKeyAt}
use Rattle.forest_law.specs.declared.objects.Frame.{Frame}
use Rattle.forest_law.specs.State.{bound, page_within}
use Rattle.page_view.specs.declared.taking.Stop.TheVariants.{AtLimit, AtTo, AtPageEnd}
use Rattle.page_view.specs.Taking.{IsPlaceIn, rows_at_or_after, rows_from_place, TakesRows}
use Rattle.page_view.proofs.TakingLemmas.{first_left}
use Rattle.tree_cursor.specs.declared.cursor.Cursor.{Cursor}
use Rattle.tree_cursor.specs.declared.filling.Ending.TheVariants.{Full, Past, Onward}
use Rattle.tree_cursor.specs.Cursors.{StandsAt}
use Rattle.tree_cursor.specs.Fills.{is_past_at, StandsBehind, Moves, Fills, IsLastFrom, IsMovedTo, MovesTo}
use Rattle.tree_cursor.proofs.StoreLemmas.{row_has_key}

-- the last of the rows from a place on is the last of all
last_from_place : (place : ℕ) (rows : List Row) (x : Row) (xs : List Row)
    → rows_at_or_after place rows ≡ x ∷ xs → last_of_rows rows ≡ Some (last_row_after x xs)
last_from_place place [] x xs is = absurd cc
last_from_place place (y ∷ ys) x xs is =
    go (y.place == place) is (λ e. behind ys (last_from_place place ys x xs e))
  where
    go : (b : Bool) → cond b (y ∷ ys) (rows_at_or_after place ys) ≡ x ∷ xs
        → (rows_at_or_after place ys ≡ x ∷ xs
        → Some (last_row_after y ys) ≡ Some (last_row_after x xs))
        → Some (last_row_after y ys) ≡ Some (last_row_after x xs)
    go true e more = λ k. last_of_rows (e k)
    go false e more = more e

    behind : (zs : List Row) → last_of_rows zs ≡ Some (last_row_after x xs)
        → Some (last_row_after y zs) ≡ Some (last_row_after x xs)
    behind [] e = absurd (let none : None ≡ Some (last_row_after x xs) = e in cc)
    behind (z ∷ zs) e = e

-- a row stands at the place, so there are rows from there on
some_from_place : (rows : List Row) (place : ℕ) → IsPlaceIn rows (Some place)
    → (x : Row) × (xs : List Row) × (rows_at_or_after place rows ≡ x ∷ xs)
some_from_place rows place there = go (find_row place rows) refl there
  where
    list : (found : List Row) (x : Row) → first_of_rows found ≡ Some x
        → (x : Row) × (xs : List Row) × (found ≡ x ∷ xs)
    list [] x e = absurd (let none : None ≡ Some x = e in cc)
    list (y ∷ ys) x e = (y, ys, refl)

    go : (o : Option Row) → find_row place rows ≡ o → IsSome o
        → (x : Row) × (xs : List Row) × (rows_at_or_after place rows ≡ x ∷ xs)
    go None is some = absurd cc
    go (Some x) is some = list (rows_at_or_after place rows) x (first_left rows place x is)

module _ (f : Frame) (page : PageRows) where
  -- where the cursor was moved to it stands
  moved_at : (last : Option ℕ) (key : FieldList) (after : Bool)
      → IsMovedTo f page.rows last key after
      → StandsAt (page_within page f.low f.high) last key after
  moved_at None key after (high, before) =
      subst (StandsAt (page_within page f.low f.high) None key) (sym before) high
  moved_at (Some place) key after ((row, found, same), behind) =
      subst (HasKeyAt page.rows place) (sym same) (row_has_key page.rows place row found)

  -- and that is behind the rows from the place on
  moved_behind : (start last : Option ℕ) (c : Cursor) → IsPlaceIn page.rows start
      → IsLastFrom page.rows start last → IsMovedTo f page.rows last c.key.tuple c.after
      → StandsBehind f (rows_from_place start page.rows) c
  moved_behind None last c there is to =
      subst (λ o. IsMovedTo f page.rows o c.key.tuple c.after) is to
  moved_behind (Some place) last c there is to =
      let some = some_from_place page.rows place there in
      subst (λ (xs : List Row). StandsBehind f xs c) (sym some.2)
      (go some.0 some.1 last (last_from_place place page.rows some.0 some.1 some.2) to is)
    where
      go : (x : Row) (xs : List Row) (last : Option ℕ)
          → last_of_rows page.rows ≡ Some (last_row_after x xs)
          → IsMovedTo f page.rows last c.key.tuple c.after
          → IsAt page.rows last (last_of_rows page.rows)
          → (c.key.tuple ≡ (last_row_after x xs).key) × (c.after ≡ true)
      go x xs last ends to is = by_place last to
          (subst (IsAt page.rows last) ends is)
        where
          by_place : (o : Option ℕ) → IsMovedTo f page.rows o c.key.tuple c.after
              → IsAt page.rows o (Some (last_row_after x xs))
              → (c.key.tuple ≡ (last_row_after x xs).key) × (c.after ≡ true)
          by_place None to at = absurd (let none = at.0 in cc)
          by_place (Some p) ((row, found, same), behind) at =
              let here : p ≡ (last_row_after x xs).place = (let e = at.0 in cc) in
              let rows_same : Some row ≡ Some (last_row_after x xs) =
              sym found ∙ (ap (λ n. find_row n page.rows) here ∙ at.1) in
              let is : row ≡ last_row_after x xs = cc in
              (same ∙ ap (λ (z : Row). z.key) is, behind)

  pub moves_behind : (b : ℕ) (start last : Option ℕ) (c c' : Cursor) → IsPlaceIn page.rows start
      → IsLastFrom page.rows start last → MovesTo f page b last c c'
      → Moves f page b (rows_from_place start page.rows) c c'
  moves_behind b start last c c' there is moves = record {
    block = moves.block;
    clock = sym moves.clock;
    number = sym moves.number;
    behind = moved_behind start last c' there is moves.to;
    at = subst (λ o. StandsAt (page_within page f.low f.high) o c'.key.tuple c'.after)
        (sym moves.place) (moved_at last c'.key.tuple c'.after moves.to);
    fields = moves.fields;
    room = moves.room;
  }

in_right : (xs : List Row) (x : Row) (ys : List Row) → In x ys → In x (xs ++ ys)
in_right [] x ys among = among
in_right (z ∷ xs) x ys among = inr (in_right xs x ys among)

first_in : (rest : List Row) (x : Row) → first_of_rows rest ≡ Some x → In x rest
first_in [] x e = absurd (let none : None ≡ Some x = e in cc)
first_in (y ∷ rest) x e = inl (let same : Some y ≡ Some x = e in cc)

-- how the taking ends
module _ (f : Frame) (page : PageRows) (b : ℕ) (start : Option ℕ) (to : Option FieldList)
    (left : ℕ) (old new : Map) (c : Cursor) (order : IsPageInOrder page) where
  abbrev rows : List Row
  rows = rows_from_place start page.rows

  pub fills_full : TakesRows rows to left old new AtLimit
      → Fills f page b start to left old new Full c c
  fills_full took = record { order = order; stop = AtLimit; took = took; ends = (took.why, refl) }

  pub fills_to : TakesRows rows to left old new AtTo
      → Fills f page b start to left old new Past c c
  fills_to took = record {
    order = order;
    stop = AtTo;
    took = took;
    ends = (
      took.why.0,
      inl (record {
        row = took.why.1.0;
        among = subst (In took.why.1.0) (sym took.split)
            (in_right took.taken took.why.1.0 took.rest
            (first_in took.rest took.why.1.0 took.why.1.1));
        past = took.why.1.2;
      }),
      refl,
    );
  }

  pub fills_past : TakesRows rows to left old new AtPageEnd → is_past_at to (bound f.high) ≡ true
      → Fills f page b start to left old new Past c c
  fills_past took past = record {
    order = order;
    stop = AtPageEnd;
    took = took;
    ends = (took.why.0, inr past, refl);
  }

  pub fills_onward : (last : Option ℕ) (c' : Cursor) → TakesRows rows to left old new AtPageEnd
      → is_past_at to (bound f.high) ≡ false → IsPlaceIn page.rows start
      → IsLastFrom page.rows start last → MovesTo f page b last c c'
      → Fills f page b start to left old new Onward c c'
  fills_onward last c' took below there is moves = record {
    order = order;
    stop = AtPageEnd;
    took = took;
    ends = (
      took.why.0,
      sym (took.split ∙ (ap (λ zs. took.taken ++ zs) took.why.1 ∙ append-nil took.taken)),
      below,
      moves_behind f page b start last c c' there is moves,
    );
  }
